-- What the laws say.
use Rattle.std.specs.Prelude.{◌≡◌, ℕ, zero, suc, ◌==◌, Bool, true, ◌||◌, not, List, [], ◌∷◌, flat_map, Contains, Option, Some, None}
use Rattle.std.specs.List.{filter, list_all}
use Rattle.kmip_wire.specs.Tree.{Tree, structure, trees_of}
use Rattle.kmip_wire.specs.Parts.{tag_of}
use Rattle.kmip_rows.specs.declared.rows.Place.{Place}
use Rattle.kmip_rows.specs.declared.rows.Place.TheVariants.{Tag, Object}
use Rattle.kmip_rows.specs.Rows.{Field, Row, structure_in}
use Rattle.kmip_rows.specs.Structures.{structures, objects}
use Rattle.kmip_payloads.specs.Items.{Item}
use Rattle.kmip_payloads.specs.Payload.{are_none, is_needed, LEVELS}
use Rattle.kmip_payloads.specs.Strays.{fields_of}

-- the tags that the items of a place stand under
abbrev pub tags_of : Place → List ℕ
tags_of (Tag tag) = tag ∷ []
tags_of Object = objects

-- whether the structures of fields have at most so many levels
unfoldable pub has_levels : ℕ → List Field → Bool
has_levels zero fields = are_none fields
has_levels (suc level) fields =
    list_all (λ field. list_all
    (λ tag. has_levels level (fields_of (structure_in structures tag))) (tags_of field.place))
    fields

-- whether the walk goes through all levels of an operation's payload
abbrev pub are_all_levels : Option Row → Bool
are_all_levels None = true
are_all_levels (Some row) = has_levels LEVELS row.request

-- a tree stands among trees in the structures of the path
abbrev pub StandsAt : List ℕ → Tree → List Tree → Type 0
StandsAt [] tree trees = Contains trees tree
StandsAt (outer ∷ path) tree trees =
    (inner : List Tree) × Contains trees (structure outer (trees_of inner))
    × StandsAt path tree inner

-- where an item stands: all of it but its value
pub record Spot : Type 0 where
  pub path : List ℕ
  pub tag : ℕ

abbrev pub spot_of : Item → Spot
spot_of item = record { path = item.path; tag = tag_of item.tree }

-- the trees of a field among trees
abbrev pub under : List Tree → ℕ → List Tree
under trees tag = filter (λ tree. tag_of tree == tag) trees

abbrev pub of_field : List Tree → Field → List Tree
of_field trees field = flat_map (under trees) (tags_of field.place)

-- trees that stand in the order of fields, each under a tag of its field
abbrev pub IsInOrder : List Field → List Tree → Type 0
IsInOrder fields trees = flat_map (of_field trees) fields ≡ trees

-- whether each field that is needed has a tree
abbrev pub has_needed : List Field → List Tree → Bool
has_needed fields trees = list_all
    (λ field. not (is_needed field.mark) || not (are_none (of_field trees field))) fields
