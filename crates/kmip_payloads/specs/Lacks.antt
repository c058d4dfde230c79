-- The fields that a payload needs and that no item gives.
use Rattle.std.specs.Prelude.{ℕ, zero, suc, ◌&&◌, Bool, false, List, [], ◌∷◌, flat_map, Option, Some, None, if◌then◌else◌}
use Rattle.std.specs.List.{list_all}
use Rattle.kmip_rows.specs.declared.rows.Place.{Place}
use Rattle.kmip_rows.specs.declared.rows.Place.TheVariants.{Tag, Object}
use Rattle.kmip_rows.specs.Rows.{Field, Structure, Row, structure_in}
use Rattle.kmip_rows.specs.Structures.{structures, objects}
use Rattle.kmip_payloads.specs.Items.{Item}
use Rattle.kmip_payloads.specs.Payload.{Walk, kept, here, below, are_none, is_needed, stands, LEVELS}

-- of a tag with no structure: itself, where it is needed; of one with a structure: what that lacks,
-- where it stands. `inside` is the walk over the structure's fields
abbrev pub structure_lacks :
    Walk Place → Bool → List Item → ℕ → Option Structure → List Place
structure_lacks inside needed items tag None =
    kept (needed && are_none (here tag items)) (Tag tag)
structure_lacks inside needed items tag (Some row) =
    if stands needed tag items then inside row.fields (below tag items) else []

abbrev pub tag_lacks : Walk Place → Bool → List Item → ℕ → List Place
tag_lacks inside needed items tag =
    structure_lacks inside needed items tag (structure_in structures tag)

-- whether no item gives anything under a tag, and none an object
abbrev pub is_free : List Item → ℕ → Bool
is_free items tag = are_none (here tag items) && are_none (below tag items)

abbrev pub no_object : List Item → Bool
no_object items = list_all (is_free items) objects

-- what items lack of a field
abbrev pub place_lacks : Walk Place → Bool → List Item → Place → List Place
place_lacks inside needed items (Tag tag) = tag_lacks inside needed items tag
place_lacks inside needed items Object =
    if needed && no_object items then Object ∷ []
    else flat_map (tag_lacks inside false items) objects

abbrev pub field_lacks : Walk Place → List Item → Field → List Place
field_lacks inside items field = place_lacks inside (is_needed field.mark) items field.place

-- what items lack of fields, in the order of the fields, through so many levels of structures
unfoldable pub all_lacks : ℕ → Walk Place
all_lacks zero fields items = []
all_lacks (suc level) fields items = flat_map (field_lacks (all_lacks level) items) fields

abbrev pub lacks : Row → List Item → List Place
lacks row items = all_lacks LEVELS row.request items
