-- The numbers in plain JSON are numbers of JSON.
use Rattle.std.proofs.Common.{◌≡◌, ℕ, ◌==◌, Bool, true, false, cond, List, [], ◌∷◌, map}
use Rattle.std.specs.Prelude.{filter, ⊤}
use Rattle.json.specs.Json.{Json}
use Rattle.json.specs.Tree.{HasNumbers, ItemsHaveNumbers, MembersHaveNumbers}
use Rattle.json.specs.Value.{items_of}
use Rattle.kmip_tags.specs.Tags.{ATTRIBUTE_VALUE}
use Rattle.kmip_wire.specs.Bytes.{HasRanges, HaveRanges}
use Rattle.kmip_wire.specs.Parts.{tag_of}
use Rattle.kmip_wire.specs.Tree.{Tree, Trees, Scalar, scalar, structure, none, more, integer, long_integer, big_integer, enumeration, boolean, text_string, byte_string, date_time, interval}
use Rattle.kmip_encodings.specs.Context.{place, named_after}
use Rattle.kmip_encodings.proofs.Law.{numbers}
use Rattle.kmip_plain.specs.Plain.{Entry, each_once, under, one_or_array, members_for, plain_value, plain_at, entries_of, plain_json}
use Rattle.kmip_plain.specs.Payload.{payload_json}
use Rattle.kmip_plain.specs.declared.payload.PayloadForm.{PayloadForm}
use Rattle.kmip_plain.specs.declared.payload.PayloadForm.TheVariants.{Tree as AsTree, Plain as AsPlain}

abbrev AllHaveNumbers : List Json → Type 0
AllHaveNumbers [] = ⊤
AllHaveNumbers (value ∷ values) = HasNumbers value × AllHaveNumbers values

abbrev EntriesHaveNumbers : List Entry → Type 0
EntriesHaveNumbers entries = AllHaveNumbers (map (λ entry. entry.1) entries)

value_numbers : (named tag : ℕ) (value : Scalar) → HasRanges (scalar tag value)
    → HasNumbers (plain_value (place named tag) value)
value_numbers named tag (integer z) h = (numbers (scalar tag (integer z)) named h).1.1.0
value_numbers named tag (long_integer z) h = (numbers (scalar tag (long_integer z)) named h).1.1.0
value_numbers named tag (big_integer bytes) h = tt
value_numbers named tag (enumeration n) h = tt
value_numbers named tag (boolean b) h = tt
value_numbers named tag (text_string bytes) h = tt
value_numbers named tag (byte_string bytes) h = tt
value_numbers named tag (date_time n) h = tt
value_numbers named tag (interval n) h = (numbers (scalar tag (interval n)) named h).1.1.0

under_one : (is : Bool) (tag : ℕ) (value : Json) (rest : List Entry) → HasNumbers value
    → EntriesHaveNumbers rest → EntriesHaveNumbers (cond is ((tag, value) ∷ rest) rest)
under_one true tag value rest h k = (h, k)
under_one false tag value rest h k = k

under_numbers : (tag : ℕ) (entries : List Entry) → EntriesHaveNumbers entries → AllHaveNumbers (under tag entries)
under_numbers tag [] h = tt
under_numbers tag (entry ∷ entries) h =
    under_one (entry.0 == tag) entry.0 entry.1 (filter (λ entry. entry.0 == tag) entries) h.0
    (under_numbers tag entries h.1)

items_numbers : (values : List Json) → AllHaveNumbers values → ItemsHaveNumbers (items_of values)
items_numbers [] h = tt
items_numbers (value ∷ values) h = (h.0, items_numbers values h.1)

one_numbers : (values : List Json) → AllHaveNumbers values → HasNumbers (one_or_array values)
one_numbers [] h = tt
one_numbers (value ∷ []) h = h.0
one_numbers (value ∷ (other ∷ values)) h = items_numbers (value ∷ (other ∷ values)) h

members_numbers : (tags : List ℕ) (entries : List Entry) → EntriesHaveNumbers entries
    → MembersHaveNumbers (members_for tags entries)
members_numbers [] entries h = tt
members_numbers (tag ∷ tags) entries h =
    (one_numbers (under tag entries) (under_numbers tag entries h), members_numbers tags entries h)

mutual
  plain_numbers : (tree : Tree) (named : ℕ) → HasRanges tree → HasNumbers (plain_at named tree)
  plain_numbers (scalar tag value) named h = value_numbers named tag value h
  plain_numbers (structure tag items) named h =
      let entries : List Entry = entries_of ATTRIBUTE_VALUE items in
      members_numbers (each_once (map (λ entry. entry.0) entries)) entries
      (entries_numbers items ATTRIBUTE_VALUE h.1)

  entries_numbers : (items : Trees) (named : ℕ) → HaveRanges items → EntriesHaveNumbers (entries_of named items)
  entries_numbers none named h = tt
  entries_numbers (more item items) named h =
      (plain_numbers item named h.0, entries_numbers items (named_after named item) h.1)

pub payload_is_numbers : (form : PayloadForm) (tree : Tree) → HasRanges tree → HasNumbers (payload_json form tree)
payload_is_numbers AsTree tree h = numbers tree ATTRIBUTE_VALUE h
payload_is_numbers AsPlain tree h = plain_numbers tree ATTRIBUTE_VALUE h
