-- Why items are no payload of an operation, and the text that says so: of an item that has where it
-- stands, and nothing of its value.
use Rattle.std.specs.Prelude.{ℕ, List, ◌++◌, Option, Some, None, option_map, slice_get, codes}
use Rattle.std.specs.List.{last_or}
use Rattle.std.specs.Option.{unwrap_or}
use Rattle.kmip_wire.specs.Parts.{tag_of}
use Rattle.kmip_tags.specs.Names.{name_of}
use Rattle.kmip_rows.specs.declared.rows.Place.{Place}
use Rattle.kmip_rows.specs.declared.rows.Place.TheVariants.{Tag, Object}
use Rattle.kmip_rows.specs.Rows.{Row}
use Rattle.kmip_payloads.specs.Items.{Item}
use Rattle.kmip_payloads.specs.Lacks.{lacks}
use Rattle.kmip_payloads.specs.Strays.{first_stray}
use Rattle.kmip_payloads.specs.declared.refusal.Refusal.{Refusal}
use Rattle.kmip_payloads.specs.declared.refusal.Refusal.TheVariants.{Stray, Lacks}

-- an item that no field takes: the structure round it, and its tag
abbrev pub stray : Item → Refusal
stray item = Stray (last_or None item.path) (tag_of item.tree)

-- an item that no field takes comes before a field that no item gives
abbrev pub refusal_of : Row → List Item → Option Refusal
refusal_of row items = elim (option_map stray (first_stray row items)) [
  | Some why ↦ Some why
  | None ↦ option_map (λ place. Lacks place) (slice_get (lacks row items) 0)
]

-- ---- the text

abbrev pub tag_words : ℕ → List ℕ
tag_words tag = unwrap_or (name_of tag) (codes "an unknown tag")

abbrev pub place_words : Place → List ℕ
place_words (Tag tag) = tag_words tag
place_words Object = codes "an object"

abbrev pub within_words : Option ℕ → List ℕ
within_words None = codes "the payload"
within_words (Some outer) = tag_words outer

-- `Data has no place in Key Wrapping Specification`
abbrev pub stray_text : Option ℕ → ℕ → List ℕ
stray_text within tag = tag_words tag ++ (codes " has no place in " ++ within_words within)

-- `Derivation Method is missing`
abbrev pub lack_text : Place → List ℕ
lack_text place = place_words place ++ codes " is missing"

abbrev pub refusal_text : Refusal → List ℕ
refusal_text (Stray within tag) = stray_text within tag
refusal_text (Lacks place) = lack_text place
