-- The items that no field takes.
use Rattle.std.specs.Prelude.{ℕ, ◌==◌, ◌&&◌, Bool, not, List, [], ◌∷◌, find, Option, Some, None}
use Rattle.std.specs.List.{list_any}
use Rattle.kmip_wire.specs.Parts.{tag_of}
use Rattle.kmip_rows.specs.declared.rows.Place.{Place}
use Rattle.kmip_rows.specs.declared.rows.Place.TheVariants.{Tag, Object}
use Rattle.kmip_rows.specs.Rows.{Field, Structure, Row, structure_in}
use Rattle.kmip_rows.specs.Structures.{structures, objects}
use Rattle.kmip_payloads.specs.Items.{Item}

-- whether the items of a place stand under the tag
abbrev pub is_under : ℕ → Place → Bool
is_under tag (Tag own) = own == tag
is_under tag Object = list_any (λ own. own == tag) objects

abbrev pub has_field : List Field → ℕ → Bool
has_field fields tag = list_any (λ field. is_under tag field.place) fields

-- the fields of the structure under a tag
abbrev pub fields_of : Option Structure → List Field
fields_of None = []
fields_of (Some row) = row.fields

-- whether a field takes the item: one under its tag, in the structures of its path
abbrev pub has_place : List Field → List ℕ → ℕ → Bool
has_place fields [] tag = has_field fields tag
has_place fields (outer ∷ path) tag =
    has_field fields outer && has_place (fields_of (structure_in structures outer)) path tag

abbrev pub is_taken : Row → Item → Bool
is_taken row item = has_place row.request item.path (tag_of item.tree)

-- the first item that no field takes
abbrev pub first_stray : Row → List Item → Option Item
first_stray row items = find (λ item. not (is_taken row item)) items
