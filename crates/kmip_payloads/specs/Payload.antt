-- The payload of items: a walk over the fields of its operation, in their order (KMIP 1.0,
-- 9.1.1.4).
use Rattle.std.specs.Prelude.{ℕ, zero, suc, ◌==◌, ◌&&◌, ◌||◌, Bool, true, false, not, List, [], ◌∷◌, ◌++◌, flat_map, Option, Some, None, if◌then◌else◌}
use Rattle.kmip_tags.specs.Tags as tags
use Rattle.kmip_wire.specs.Tree.{Tree, structure, trees_of}
use Rattle.kmip_wire.specs.Parts.{tag_of}
use Rattle.kmip_rows.specs.declared.rows.Mark.{Mark}
use Rattle.kmip_rows.specs.declared.rows.Mark.TheVariants.{One, AtMostOne, AnyNumber, AtLeastOne}
use Rattle.kmip_rows.specs.declared.rows.Place.{Place}
use Rattle.kmip_rows.specs.declared.rows.Place.TheVariants.{Tag, Object}
use Rattle.kmip_rows.specs.Rows.{Field, Structure, Row, structure_in}
use Rattle.kmip_rows.specs.Structures.{structures, objects}
use Rattle.kmip_payloads.specs.Items.{Item, item_at}

abbrev pub kept : {A : Type 0} → Bool → A → List A
kept true x = x ∷ []
kept false x = []

-- the item, where it stands here under the tag
abbrev pub here_of : ℕ → Item → List Tree
here_of tag item = elim item.path [
  | [] ↦ kept (tag_of item.tree == tag) item.tree
  | outer ∷ path ↦ []
]

-- the item as it stands in the structure with this tag, where it is below that
abbrev pub below_of : ℕ → Item → List Item
below_of tag item = elim item.path [
  | [] ↦ []
  | outer ∷ path ↦ kept (outer == tag) (item_at path item.tree)
]

abbrev pub here : ℕ → List Item → List Tree
here tag items = flat_map (here_of tag) items

abbrev pub below : ℕ → List Item → List Item
below tag items = flat_map (below_of tag) items

abbrev pub are_none : {A : Type 0} → List A → Bool
are_none [] = true
are_none (first ∷ rest) = false

abbrev pub is_needed : Mark → Bool
is_needed One = true
is_needed AtLeastOne = true
is_needed AtMostOne = false
is_needed AnyNumber = false

-- whether a structure stands under the tag: round the items below it; and where it is needed and no
-- item here is it, though none is below it, as the Derivation Parameters of a key that is derived
-- without one (KMIP 1.0, 4.5)
abbrev pub stands : Bool → ℕ → List Item → Bool
stands needed tag items =
    not (are_none (below tag items)) || (needed && are_none (here tag items))

-- what a walk over fields makes of items
abbrev pub Walk : Type 0 → Type 0
Walk A = List Field → List Item → List A

-- the structure under a tag, where it has one; `inside` is the walk over its fields
abbrev pub structure_of : Walk Tree → List Item → Option Structure → List Tree
structure_of inside items None = []
structure_of inside items (Some row) = structure row.tag (trees_of (inside row.fields items)) ∷ []

-- what items give under a tag: themselves, and the structure round those below
abbrev pub tag_trees : Walk Tree → Bool → List Item → ℕ → List Tree
tag_trees inside needed items tag =
    here tag items ++ (if stands needed tag items
    then structure_of inside (below tag items) (structure_in structures tag) else [])

-- what items give of a field. Which structure an object is (KMIP 1.0, 2.2), its items say
abbrev pub place_trees : Walk Tree → Bool → List Item → Place → List Tree
place_trees inside needed items (Tag tag) = tag_trees inside needed items tag
place_trees inside needed items Object = flat_map (tag_trees inside false items) objects

abbrev pub field_trees : Walk Tree → List Item → Field → List Tree
field_trees inside items field = place_trees inside (is_needed field.mark) items field.place

-- what items give of fields, in the order of the fields, through so many levels of structures
unfoldable pub build : ℕ → Walk Tree
build zero fields items = []
build (suc level) fields items = flat_map (field_trees (build level) items) fields

-- the fields of a payload, and in turn those of Private Key, Key Block (KMIP 1.0, 2.1.3), Key
-- Wrapping Data, Encryption Key Information (2.1.5) and Cryptographic Parameters (3.6): no
-- operation has more levels
abbrev pub LEVELS : ℕ
LEVELS = 6

abbrev pub payload : Row → List Item → Tree
payload row items = structure tags.REQUEST_PAYLOAD (trees_of (build LEVELS row.request items))
