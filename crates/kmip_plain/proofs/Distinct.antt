-- No two tags have one name in plain JSON, so that no object has a name twice.
use Rattle.std.proofs.Common.{◌≡◌, ◌≢◌, ℕ, ◌+◌, ◌-◌, ◌^◌, ◌<◌, ◌≤◌, ◌==◌, not, Bool, true, false, cond, List, [], ◌∷◌, drop, get_or, map, Option, Some, None, option_map, refl, sym, ap, ◌∙◌, slice_get, arith}
use Rattle.std.specs.Prelude.{filter, All, AllPairs, ⊤}
use Rattle.std.specs.Int.{w32, to_be_bytes}
use Rattle.std.specs.Option.{unwrap_or}
use Rattle.std.proofs.lemmas.Bool.Decides.{Decides-eqb}
use Rattle.std.proofs.lemmas.List.Elements.{All-nil, All-cons}
use Rattle.std.proofs.lemmas.List.Kept.{AllPairs-cons}
use Rattle.std.proofs.lemmas.Option.{slice_get-map}
use Rattle.json.specs.Json.{Json}
use Rattle.json.specs.Strict.{HasUniqueKeys, ItemsHaveUniqueKeys, MembersHaveUniqueKeys, keys, AreDistinct}
use Rattle.json.specs.Value.{items_of}
use Rattle.kmip_tags.specs.Table.{first_tag, names}
use Rattle.kmip_tags.specs.Tags.{ATTRIBUTE_VALUE}
use Rattle.kmip_wire.specs.Bytes.{HasRanges, HaveRanges}
use Rattle.kmip_wire.specs.Parts.{tag_of}
use Rattle.kmip_wire.specs.Tree.{Tree, Trees, Scalar, scalar, structure, none, more, integer, long_integer, big_integer, enumeration, boolean, text_string, byte_string, date_time, interval}
use Rattle.kmip_encodings.specs.Context.{place, named_after}
use Rattle.kmip_encodings.specs.Reading.{tag_of_text}
use Rattle.kmip_encodings.specs.Texts.{hex_text, tag_text}
use Rattle.kmip_encodings.specs.Words.{words, tag_word, named_from}
use Rattle.kmip_encodings.proofs.Back.{are_good, word_found, word_plain, word_at, number_back}
use Rattle.kmip_encodings.proofs.Law.{value_unique, unique}
use Rattle.kmip_plain.specs.Names.{snake_case, plain_names, plain_name}
use Rattle.kmip_plain.specs.Plain.{Entry, each_once, under, one_or_array, members_for, plain_value, plain_at, entries_of, plain_json}
use Rattle.kmip_plain.specs.Payload.{payload_json}
use Rattle.kmip_plain.specs.declared.payload.PayloadForm.{PayloadForm}
use Rattle.kmip_plain.specs.declared.payload.PayloadForm.TheVariants.{Tree as AsTree, Plain as AsPlain}

-- ---- the names

names_good : are_good plain_names ≡ true
unfolding plain_names words names
names_good = refl

name_at : (tag : ℕ) (word : List ℕ) → tag_word tag ≡ Some word
    → slice_get plain_names (tag - first_tag) ≡ Some (snake_case word)
unfolding plain_names
name_at tag word is =
    slice_get-map snake_case words (tag - first_tag) ∙ ap (option_map snake_case) (word_at tag word is).1

name_found : (tag : ℕ) (word : List ℕ) → tag_word tag ≡ Some word
    → named_from first_tag plain_names (snake_case word) ≡ Some tag
name_found tag word is =
    let back : first_tag + (tag - first_tag) ≡ tag = omega (arith, (word_at tag word is).0) in
    word_found plain_names first_tag (tag - first_tag) (snake_case word) names_good (name_at tag word is)
    ∙ ap Some back

name_plain : (tag : ℕ) (word : List ℕ) → tag_word tag ≡ Some word → (get_or (snake_case word) 0 0 == 48) ≡ false
name_plain tag word is = word_plain plain_names (tag - first_tag) (snake_case word) names_good (name_at tag word is)

abbrev digits_of : ℕ → List ℕ
digits_of tag = hex_text (drop 1 (to_be_bytes w32 tag))

zero_clash : {G : Type 0} (tag other : ℕ) (word : List ℕ) → tag_word tag ≡ Some word
    → snake_case word ≡ digits_of other → G
zero_clash tag other word is same =
    let not_zero : (get_or (digits_of other) 0 0 == 48) ≡ false =
    ap (λ (l : List ℕ). get_or l 0 0 == 48) (sym same) ∙ name_plain tag word is in
    absurd (cc)

-- the name, by the tag's word where it has one
abbrev name_by : ℕ → Option (List ℕ) → List ℕ
name_by tag word = unwrap_or (option_map snake_case word) (unwrap_or word (digits_of tag))

same_by : (a b : ℕ) (word other : Option (List ℕ)) → a < 2 ^ 24 → b < 2 ^ 24 → tag_word a ≡ word → tag_word b ≡ other
    → name_by a word ≡ name_by b other → a ≡ b
same_by a b (Some word) (Some other) small low is are same =
    let first = name_found a word is in
    let second = name_found b other are in
    let both : Some a ≡ Some b =
    sym first ∙ ap (named_from first_tag plain_names) same ∙ second in cc
same_by a b (Some word) None small low is are same = zero_clash a b word is same
same_by a b None (Some other) small low is are same = zero_clash b a other are (sym same)
same_by a b None None small low is are same =
    let both : Some a ≡ Some b =
    sym (number_back a small) ∙ ap tag_of_text same ∙ number_back b low in cc

pub same_name : (a b : ℕ) → a < 2 ^ 24 → b < 2 ^ 24 → plain_name a ≡ plain_name b → a ≡ b
same_name a b small low same = same_by a b (tag_word a) (tag_word b) small low refl refl same

-- ---- the tags of an object

abbrev AreTags : List ℕ → Type 0
AreTags [] = ⊤
AreTags (tag ∷ tags) = (tag < 2 ^ 24) × AreTags tags

-- each is another than this one
abbrev AreOthers : ℕ → List ℕ → Type 0
AreOthers tag [] = ⊤
AreOthers tag (other ∷ others) = ((tag == other) ≡ false) × AreOthers tag others

abbrev Differ : List ℕ → Type 0
Differ [] = ⊤
Differ (tag ∷ tags) = AreOthers tag tags × Differ tags

kept_tags : (keeps : ℕ → Bool) (tags : List ℕ) → AreTags tags → AreTags (filter keeps tags)
kept_tags keeps [] h = tt
kept_tags keeps (tag ∷ tags) h =
    elim (keeps tag) as (λ b. AreTags (cond b (tag ∷ filter keeps tags) (filter keeps tags))) [
      | true ↦ (h.0, kept_tags keeps tags h.1)
      | false ↦ kept_tags keeps tags h.1
    ]

kept_others : (keeps : ℕ → Bool) (tag : ℕ) (tags : List ℕ) → AreOthers tag tags → AreOthers tag (filter keeps tags)
kept_others keeps tag [] h = tt
kept_others keeps tag (other ∷ tags) h =
    elim (keeps other) as (λ b. AreOthers tag (cond b (other ∷ filter keeps tags) (filter keeps tags))) [
      | true ↦ (h.0, kept_others keeps tag tags h.1)
      | false ↦ kept_others keeps tag tags h.1
    ]

kept_differ : (keeps : ℕ → Bool) (tags : List ℕ) → Differ tags → Differ (filter keeps tags)
kept_differ keeps [] h = tt
kept_differ keeps (tag ∷ tags) h =
    elim (keeps tag) as (λ b. Differ (cond b (tag ∷ filter keeps tags) (filter keeps tags))) [
      | true ↦ (kept_others keeps tag tags h.0, kept_differ keeps tags h.1)
      | false ↦ kept_differ keeps tags h.1
    ]

without : (tag : ℕ) (tags : List ℕ) → AreOthers tag (filter (λ other. not (tag == other)) tags)
without tag [] = tt
without tag (other ∷ tags) =
    elim (tag == other) as (λ b. (tag == other) ≡ b → AreOthers tag
    (cond (not b) (other ∷ filter (λ other. not (tag == other)) tags) (filter (λ other. not (tag == other)) tags))) [
      | true ↦ λ e. without tag tags
      | false ↦ λ e. (e, without tag tags)
    ] refl

once_tags : (tags : List ℕ) → AreTags tags → AreTags (each_once tags)
once_tags [] h = tt
once_tags (tag ∷ tags) h = (h.0, kept_tags (λ other. not (tag == other)) (each_once tags) (once_tags tags h.1))

once_differ : (tags : List ℕ) → Differ (each_once tags)
once_differ [] = tt
once_differ (tag ∷ tags) =
    (without tag (each_once tags), kept_differ (λ other. not (tag == other)) (each_once tags) (once_differ tags))

other_names : (tag : ℕ) (tags : List ℕ) → tag < 2 ^ 24 → AreTags tags → AreOthers tag tags
    → All (λ name. plain_name tag ≢ name) (map plain_name tags)
other_names tag [] small h others = All-nil (λ name. plain_name tag ≢ name)
other_names tag (other ∷ tags) small h others =
    All-cons (λ name. plain_name tag ≢ name) (plain_name other) (map plain_name tags)
    (λ same. let is : (tag == other) ≡ true =
    (Decides-eqb tag other).1 (same_name tag other small h.0 same) in
    let not : (tag == other) ≡ false = others.0 in absurd (cc))
    (other_names tag tags small h.1 others.1)

none_paired : AllPairs (λ (x y : List ℕ). x ≢ y) []
none_paired i j d a b = absurd (omega arith)

distinct : (tags : List ℕ) → AreTags tags → Differ tags → AreDistinct (map plain_name tags)
distinct [] h differ = none_paired
distinct (tag ∷ tags) h differ =
    AllPairs-cons (λ (x y : List ℕ). x ≢ y) (plain_name tag) (map plain_name tags)
    (other_names tag tags h.0 h.1 differ.0) (distinct tags h.1 differ.1)

keys_are : (tags : List ℕ) (entries : List Entry) → keys (members_for tags entries) ≡ map plain_name tags
keys_are [] entries = refl
keys_are (tag ∷ tags) entries = ap (λ (l : List (List ℕ)). plain_name tag ∷ l) (keys_are tags entries)

-- ---- the values

abbrev AllUnique : List Json → Type 0
AllUnique [] = ⊤
AllUnique (value ∷ values) = HasUniqueKeys value × AllUnique values

abbrev EntriesUnique : List Entry → Type 0
EntriesUnique entries = AllUnique (map (λ entry. entry.1) entries)

scalar_unique : (tag : ℕ) (value : Scalar) → HasUniqueKeys (plain_value tag value)
scalar_unique tag (integer z) = value_unique tag (integer z)
scalar_unique tag (long_integer z) = value_unique tag (long_integer z)
scalar_unique tag (big_integer bytes) = tt
scalar_unique tag (enumeration n) = tt
scalar_unique tag (boolean b) = tt
scalar_unique tag (text_string bytes) = tt
scalar_unique tag (byte_string bytes) = tt
scalar_unique tag (date_time n) = tt
scalar_unique tag (interval n) = tt

under_unique : (tag : ℕ) (entries : List Entry) → EntriesUnique entries → AllUnique (under tag entries)
under_unique tag [] h = tt
under_unique tag (entry ∷ entries) h =
    let rest : List Entry = filter (λ entry. entry.0 == tag) entries in
    elim (entry.0 == tag) as (λ b. EntriesUnique (cond b (entry ∷ rest) rest)) [
      | true ↦ (h.0, under_unique tag entries h.1)
      | false ↦ under_unique tag entries h.1
    ]

items_unique : (values : List Json) → AllUnique values → ItemsHaveUniqueKeys (items_of values)
items_unique [] h = tt
items_unique (value ∷ values) h = (h.0, items_unique values h.1)

one_unique : (values : List Json) → AllUnique values → HasUniqueKeys (one_or_array values)
one_unique [] h = tt
one_unique (value ∷ []) h = h.0
one_unique (value ∷ (other ∷ values)) h = items_unique (value ∷ (other ∷ values)) h

members_unique : (tags : List ℕ) (entries : List Entry) → EntriesUnique entries
    → MembersHaveUniqueKeys (members_for tags entries)
members_unique [] entries h = tt
members_unique (tag ∷ tags) entries h =
    (one_unique (under tag entries) (under_unique tag entries h), members_unique tags entries h)

tag_small : (tree : Tree) → HasRanges tree → tag_of tree < 2 ^ 24
tag_small (scalar tag value) h = h.0
tag_small (structure tag items) h = h.0

entry_tags : (items : Trees) (named : ℕ) → HaveRanges items → AreTags (map (λ entry. entry.0) (entries_of named items))
entry_tags none named h = tt
entry_tags (more item items) named h = (tag_small item h.0, entry_tags items (named_after named item) h.1)

keys_distinct : (tags : List ℕ) (entries : List Entry) → AreTags tags → AreDistinct (keys (members_for (each_once tags) entries))
keys_distinct tags entries h =
    rw (keys_are (each_once tags) entries) (distinct (each_once tags) (once_tags tags h) (once_differ tags))

mutual
  plain_unique : (tree : Tree) (named : ℕ) → HasRanges tree → HasUniqueKeys (plain_at named tree)
  plain_unique (scalar tag value) named h = scalar_unique (place named tag) value
  plain_unique (structure tag items) named h =
      let entries : List Entry = entries_of ATTRIBUTE_VALUE items in
      let tags : List ℕ = map (λ entry. entry.0) entries in (
        keys_distinct tags entries (entry_tags items ATTRIBUTE_VALUE h.1),
        members_unique (each_once tags) entries (entries_unique items ATTRIBUTE_VALUE h.1),
      )

  entries_unique : (items : Trees) (named : ℕ) → HaveRanges items → EntriesUnique (entries_of named items)
  entries_unique none named h = tt
  entries_unique (more item items) named h =
      (plain_unique item named h.0, entries_unique items (named_after named item) h.1)

pub payload_unique : (form : PayloadForm) (tree : Tree) → HasRanges tree → HasUniqueKeys (payload_json form tree)
payload_unique AsTree tree h = unique tree
payload_unique AsPlain tree h = plain_unique tree ATTRIBUTE_VALUE h
