-- The tags of a structure's items, and the items that have a tag.
use Rattle.std.proofs.Common.{◌≡◌, ℕ, ◌==◌, ◌&&◌, ◌||◌, not, Bool, true, false, cond, List, [], ◌∷◌, ◌++◌, map, refl, sym, ap, ◌∙◌, append_assoc}
use Rattle.std.specs.Prelude.{filter, fold, flat_map}
use Rattle.std.specs.List.{list_any}
use Rattle.std.proofs.lemmas.Bool.{or_parts}
use Rattle.std.proofs.lemmas.List.{map-append}
use Rattle.std.proofs.lemmas.List.Elements.{filter-append}
use Rattle.std.proofs.lemmas.List.Folds.{list_any-append}
use Rattle.std.proofs.lemmas.Bool.Decides.{Decides-eqb}
use Rattle.json.specs.Json.{Json, array}
use Rattle.json.specs.Token as token
use Rattle.json.specs.Token.{Token}
use Rattle.json.specs.Tree.{json_tokens, items_tokens}
use Rattle.json.specs.Value.{items_of}
use Rattle.kmip_wire.specs.Parts.{tag_of}
use Rattle.kmip_wire.specs.Tree.{Tree, trees_of}
use Rattle.kmip_encodings.specs.Context.{named_after}
use Rattle.kmip_plain.specs.Plain.{Entry, each_once, under, one_or_array, plain_at, entries_of}
use Rattle.kmip_plain.specs.Writing.{has_tag}

-- ---- the tags that none of the items before has

abbrev pub unseen : List Tree → List ℕ → List ℕ
unseen before tags = filter (λ tag. not (has_tag tag before)) tags

pub none_seen : (tags : List ℕ) → unseen [] tags ≡ tags
none_seen [] = refl
none_seen (tag ∷ tags) = ap (λ (l : List ℕ). tag ∷ l) (none_seen tags)

fused_one : (before : List Tree) (tag : ℕ) (was is : Bool) → has_tag tag before ≡ was
    → (left all : List ℕ) → unseen before left ≡ all
    → unseen before (cond (not is) (tag ∷ left) left)
    ≡ cond (not (was || (is || false))) (tag ∷ all) all
fused_one before tag true true h left all e = e
fused_one before tag true false h left all e =
    ap (λ b. cond (not b) (tag ∷ unseen before left) (unseen before left)) h ∙ e
fused_one before tag false true h left all e = e
fused_one before tag false false h left all e =
    ap (λ b. cond (not b) (tag ∷ unseen before left) (unseen before left)) h
    ∙ ap (λ (l : List ℕ). tag ∷ l) e

fused : (before : List Tree) (item : Tree) (tags : List ℕ)
    → unseen before (filter (λ other. not (tag_of item == other)) tags)
    ≡ unseen (before ++ item ∷ []) tags
fused before item [] = refl
fused before item (tag ∷ tags) =
    fused_one before tag (has_tag tag before) (tag_of item == tag) refl
    (filter (λ other. not (tag_of item == other)) tags) (unseen (before ++ item ∷ []) tags)
    (fused before item tags)
    ∙ ap (λ b. cond (not b) (tag ∷ unseen (before ++ item ∷ []) tags) (unseen (before ++ item ∷ []) tags))
    (sym (list_any-append (λ other. tag_of other == tag) before (item ∷ [])))

-- the tag of the next item was seen, or is the next that was not
pub seen_more : (before : List Tree) (item : Tree) (tags : List ℕ) → has_tag (tag_of item) before ≡ true
    → unseen before (each_once (tag_of item ∷ tags)) ≡ unseen (before ++ item ∷ []) (each_once tags)
seen_more before item tags seen =
    let rest : List ℕ = filter (λ other. not (tag_of item == other)) (each_once tags) in
    ap (λ b. cond (not b) (tag_of item ∷ unseen before rest) (unseen before rest)) seen
    ∙ fused before item (each_once tags)

pub unseen_more : (before : List Tree) (item : Tree) (tags : List ℕ) → has_tag (tag_of item) before ≡ false
    → unseen before (each_once (tag_of item ∷ tags))
    ≡ tag_of item ∷ unseen (before ++ item ∷ []) (each_once tags)
unseen_more before item tags new =
    let rest : List ℕ = filter (λ other. not (tag_of item == other)) (each_once tags) in
    ap (λ b. cond (not b) (tag_of item ∷ unseen before rest) (unseen before rest)) new
    ∙ ap (λ (l : List ℕ). tag_of item ∷ l) (fused before item (each_once tags))

-- ---- the entries of items

pub tags_are : (named : ℕ) (items : List Tree)
    → map (λ entry. entry.0) (entries_of named (trees_of items)) ≡ map tag_of items
tags_are named [] = refl
tags_are named (item ∷ items) = ap (λ (l : List ℕ). tag_of item ∷ l) (tags_are (named_after named item) items)

entries_append : (named : ℕ) (items others : List Tree)
    → entries_of named (trees_of (items ++ others))
    ≡ entries_of named (trees_of items) ++ entries_of (fold named_after named items) (trees_of others)
entries_append named [] others = refl
entries_append named (item ∷ items) others =
    ap (λ (l : List Entry). (tag_of item, plain_at named item) ∷ l)
    (entries_append (named_after named item) items others)

under_append : (tag : ℕ) (entries others : List Entry)
    → under tag (entries ++ others) ≡ under tag entries ++ under tag others
under_append tag entries others =
    let test : Entry → Bool = λ entry. entry.0 == tag in
    ap (map (λ (entry : Entry). entry.1)) (filter-append test entries others)
    ∙ map-append (λ (entry : Entry). entry.1) (filter test entries) (filter test others)

pub under_none : (tag named : ℕ) (items : List Tree) → has_tag tag items ≡ false
    → under tag (entries_of named (trees_of items)) ≡ []
under_none tag named [] none = refl
under_none tag named (item ∷ items) none =
    let parts = or_parts (tag_of item == tag) (has_tag tag items) none in
    let rest : List Entry = filter (λ entry. entry.0 == tag) (entries_of (named_after named item) (trees_of items)) in
    ap (λ b. map (λ (entry : Entry). entry.1) (cond b ((tag_of item, plain_at named item) ∷ rest) rest)) parts.0
    ∙ under_none tag (named_after named item) items parts.1

-- an item that has the tag, and one that has another
pub under_more : (tag named : ℕ) (item : Tree) (items : List Tree) → (tag_of item == tag) ≡ true
    → under tag (entries_of named (trees_of (item ∷ items)))
    ≡ plain_at named item ∷ under tag (entries_of (named_after named item) (trees_of items))
under_more tag named item items is =
    let rest : List Entry = filter (λ entry. entry.0 == tag) (entries_of (named_after named item) (trees_of items)) in
    ap (λ b. map (λ (entry : Entry). entry.1) (cond b ((tag_of item, plain_at named item) ∷ rest) rest)) is

pub under_other : (tag named : ℕ) (item : Tree) (items : List Tree) → (tag_of item == tag) ≡ false
    → under tag (entries_of named (trees_of (item ∷ items)))
    ≡ under tag (entries_of (named_after named item) (trees_of items))
under_other tag named item items is =
    let rest : List Entry = filter (λ entry. entry.0 == tag) (entries_of (named_after named item) (trees_of items)) in
    ap (λ b. map (λ (entry : Entry). entry.1) (cond b ((tag_of item, plain_at named item) ∷ rest) rest)) is

same_number : (n : ℕ) → (n == n) ≡ true
same_number n = (Decides-eqb n n).1 refl

-- the first item that has its tag, between those before and after it
pub under_first : (first named : ℕ) (before : List Tree) (item : Tree) (later : List Tree)
    → named ≡ fold named_after first before → has_tag (tag_of item) before ≡ false
    → under (tag_of item) (entries_of first (trees_of (before ++ item ∷ later)))
    ≡ plain_at named item ∷ under (tag_of item) (entries_of (named_after named item) (trees_of later))
under_first first named before item later is none =
    let tag = tag_of item in
    ap (under tag) (entries_append first before (item ∷ later))
    ∙ under_append tag (entries_of first (trees_of before)) (entries_of (fold named_after first before) (trees_of (item ∷ later)))
    ∙ ap (λ l. l ++ under tag (entries_of (fold named_after first before) (trees_of (item ∷ later))))
    (under_none tag first before none)
    ∙ ap (λ n. under tag (entries_of n (trees_of (item ∷ later)))) (sym is)
    ∙ under_more tag named item later (same_number tag)

-- ---- one value or several

several_one : (is later : Bool) (value first : Json) (tag : ℕ) (rest : List Entry) → (is || later) ≡ true
    → (later ≡ true → one_or_array (value ∷ map (λ (entry : Entry). entry.1) rest)
    ≡ array (items_of (value ∷ map (λ (entry : Entry). entry.1) rest)))
    → one_or_array (value ∷ map (λ (entry : Entry). entry.1) (cond is ((tag, first) ∷ rest) rest))
    ≡ array (items_of (value ∷ map (λ (entry : Entry). entry.1) (cond is ((tag, first) ∷ rest) rest)))
several_one true later value first tag rest some others = refl
several_one false later value first tag rest some others = others some

-- where a later item has the tag, the value is an array
pub several : (tag named : ℕ) (value : Json) (later : List Tree) → has_tag tag later ≡ true
    → one_or_array (value ∷ under tag (entries_of named (trees_of later)))
    ≡ array (items_of (value ∷ under tag (entries_of named (trees_of later))))
several tag named value [] some = absurd (cc)
several tag named value (item ∷ later) some =
    several_one (tag_of item == tag) (has_tag tag later) value (plain_at named item) (tag_of item)
    (filter (λ entry. entry.0 == tag) (entries_of (named_after named item) (trees_of later))) some
    (several tag (named_after named item) value later)

pub array_tokens : (values : List Json)
    → items_tokens (items_of values) ≡ flat_map json_tokens values ++ token.end_array ∷ []
array_tokens [] = refl
array_tokens (value ∷ values) =
    ap (λ (l : List Token). json_tokens value ++ l) (array_tokens values)
    ∙ sym (append_assoc (json_tokens value) (flat_map json_tokens values) (token.end_array ∷ []))
