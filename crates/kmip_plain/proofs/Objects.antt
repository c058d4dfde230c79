-- The tokens of an object, written one member after the other.
use Rattle.std.proofs.Common.{◌≡◌, ℕ, zero, suc, ◌+◌, ◌*◌, ◌<◌, ◌≤◌, ◌==◌, Bool, true, false, List, [], ◌∷◌, ◌++◌, length, take, drop, map, get_or, ◌-◌, length-drop, refl, sym, ap, ◌∙◌, arith, append_assoc, append-nil, add-one, drop-cons}
use Rattle.std.specs.Prelude.{fold, flat_map, OnOk, Result, Ok, Err}
use Rattle.std.proofs.lemmas.List.{take-append-drop, take_all, at_drop_all}
use Rattle.std.proofs.lemmas.Grind.{take_at_read, fold-append}
use Rattle.json.specs.Json.{Json}
use Rattle.json.specs.Token as token
use Rattle.json.specs.Token.{Token}
use Rattle.json.specs.Tree.{json_tokens, items_tokens, members_tokens}
use Rattle.kmip_tags.specs.Tags.{ATTRIBUTE_VALUE}
use Rattle.kmip_wire.specs.Parts.{tag_of}
use Rattle.kmip_wire.specs.Sizes.{tree_size, trees_size}
use Rattle.kmip_wire.specs.Tree.{Tree, trees_of}
use Rattle.kmip_encodings.specs.Context.{named_after}
use Rattle.kmip_plain.specs.Names.{plain_name}
use Rattle.kmip_plain.specs.Plain.{Entry, each_once, under, one_or_array, members_for, object_of, plain_at, entries_of}
use Rattle.kmip_plain.specs.Writing.{has_tag}
use Rattle.kmip_plain.proofs.Members.{unseen, none_seen, seen_more, unseen_more, tags_are, under_none, under_more, under_other, under_first, several, array_tokens}

rest_at : (items : List Tree) (i : ℕ) (item : Tree) → i < length items → item ≡ get_or items i item
    → drop i items ≡ item ∷ drop (i + 1) items
rest_at items i item h e = rw (add-one, drop-cons items i item h, ← e) refl

front_at : (items : List Tree) (i : ℕ) (item : Tree) → i < length items → item ≡ get_or items i item
    → take (i + 1) items ≡ take i items ++ item ∷ []
front_at items i item h e =
    (take_at_read items i item h).1 ∙ ap (λ (u : Tree). take i items ++ u ∷ []) (sym e)

parted : (items : List Tree) (i : ℕ) (item : Tree) → i < length items → item ≡ get_or items i item
    → items ≡ take i items ++ item ∷ drop (i + 1) items
parted items i item h e =
    sym (take-append-drop i items) ∙ ap (λ (l : List Tree). take i items ++ l) (rest_at items i item h e)

-- the items after the first i
pub rest_slice : (items : List Tree) (i : ℕ) → take (length items - i) (drop i items) ≡ drop i items
rest_slice items i =
    take_all (length items - i) (drop i items) (omega (arith, length-drop i items))

-- ---- the recursion ends

drop_size : (i : ℕ) (items : List Tree) → trees_size (trees_of (drop i items)) ≤ trees_size (trees_of items)
drop_size zero items = omega arith
drop_size (suc i) [] = omega arith
drop_size (suc i) (item ∷ items) = omega (arith, drop_size i items)

pub sizes_at : (items : List Tree) (i : ℕ) (item : Tree) → i < length items → item ≡ get_or items i item
    → tree_size item + trees_size (trees_of (drop (i + 1) items)) + 1 ≤ trees_size (trees_of items)
sizes_at items i item h e =
    omega (arith, drop_size i items, ap (λ l. trees_size (trees_of l)) (rest_at items i item h e))

-- ---- an object

-- the tags that are left where i items were written
abbrev pub left : ℕ → List Tree → List ℕ
left i items = unseen (take i items) (each_once (map tag_of (drop i items)))

-- the members of these tags, and the closing bracket
abbrev pub left_tokens : List ℕ → List Tree → List Token
left_tokens tags items = members_tokens (members_for tags (entries_of ATTRIBUTE_VALUE (trees_of items)))

left_seen : (items : List Tree) (i : ℕ) (item : Tree) → i < length items → item ≡ get_or items i item
    → has_tag (tag_of item) (take i items) ≡ true → left i items ≡ left (i + 1) items
left_seen items i item h e seen =
    ap (λ (l : List Tree). unseen (take i items) (each_once (map tag_of l))) (rest_at items i item h e)
    ∙ seen_more (take i items) item (map tag_of (drop (i + 1) items)) seen
    ∙ ap (λ (l : List Tree). unseen l (each_once (map tag_of (drop (i + 1) items)))) (sym (front_at items i item h e))

left_new : (items : List Tree) (i : ℕ) (item : Tree) → i < length items → item ≡ get_or items i item
    → has_tag (tag_of item) (take i items) ≡ false → left i items ≡ tag_of item ∷ left (i + 1) items
left_new items i item h e new =
    ap (λ (l : List Tree). unseen (take i items) (each_once (map tag_of l))) (rest_at items i item h e)
    ∙ unseen_more (take i items) item (map tag_of (drop (i + 1) items)) new
    ∙ ap (λ (l : List Tree). tag_of item ∷ unseen l (each_once (map tag_of (drop (i + 1) items))))
    (sym (front_at items i item h e))

pub named_more : (items : List Tree) (i : ℕ) (item : Tree) (first named later : ℕ) → i < length items
    → item ≡ get_or items i item → named ≡ fold named_after first (take i items) → later ≡ named_after named item
    → later ≡ fold named_after first (take (i + 1) items)
named_more items i item first named later h e is next =
    next ∙ ap (λ n. named_after n item) is
    ∙ sym (fold-append named_after first (take i items) (item ∷ []))
    ∙ ap (fold named_after first) (sym (front_at items i item h e))

-- an item whose tag an item before it has
pub skipped : (items : List Tree) (i : ℕ) (item : Tree) (old all : List Token) → i < length items
    → item ≡ get_or items i item → has_tag (tag_of item) (take i items) ≡ true
    → old ++ left_tokens (left i items) items ≡ all → old ++ left_tokens (left (i + 1) items) items ≡ all
skipped items i item old all h e seen is =
    ap (λ (tags : List ℕ). old ++ left_tokens tags items) (sym (left_seen items i item h e seen)) ∙ is

-- the tokens of the member of an item's tag, where these items follow it
abbrev pub member_tokens : ℕ → ℕ → Tree → List Tree → List Token
member_tokens tag named item later =
    token.key (plain_name tag) ∷ json_tokens (one_or_array
    (plain_at named item ∷ under tag (entries_of (named_after named item) (trees_of later))))

-- the first item that has its tag
pub written : (items : List Tree) (i : ℕ) (item : Tree) (later : List Tree) (named : ℕ) (old new all : List Token)
    → i < length items → item ≡ get_or items i item → later ≡ drop (i + 1) items
    → has_tag (tag_of item) (take i items) ≡ false
    → named ≡ fold named_after ATTRIBUTE_VALUE (take i items)
    → new ≡ old ++ member_tokens (tag_of item) named item later
    → old ++ left_tokens (left i items) items ≡ all → new ++ left_tokens (left (i + 1) items) items ≡ all
written items i item later named old new all h e follow first at made before =
    let tag = tag_of item in
    let is : new ≡ old ++ member_tokens tag named item (drop (i + 1) items) =
    made ∙ ap (λ (l : List Tree). old ++ member_tokens tag named item l) follow in
    let value : List Json → List Token = λ values. json_tokens (one_or_array values) in
    let here : under tag (entries_of ATTRIBUTE_VALUE (trees_of items)) ≡ plain_at named item ∷
    under tag (entries_of (named_after named item) (trees_of (drop (i + 1) items))) =
    ap (λ (l : List Tree). under tag (entries_of ATTRIBUTE_VALUE (trees_of l))) (parted items i item h e)
    ∙ under_first ATTRIBUTE_VALUE named (take i items) item (drop (i + 1) items) at first in
    let rest = left_tokens (left (i + 1) items) items in
    ap (λ (l : List Token). l ++ rest) is
    ∙ ap (λ (values : List Json). (old ++ token.key (plain_name tag) ∷ value values) ++ rest) (sym here)
    ∙ append_assoc old (token.key (plain_name tag) ∷ value (under tag (entries_of ATTRIBUTE_VALUE (trees_of items)))) rest
    ∙ ap (λ (tags : List ℕ). old ++ left_tokens tags items) (sym (left_new items i item h e first))
    ∙ before

-- all items
pub object_written : (items : List Tree) (i : ℕ) (old opened last new : List Token) → length items ≤ i
    → opened ≡ old ++ token.begin_object ∷ []
    → last ++ left_tokens (left i items) items ≡ opened ++ left_tokens (left 0 items) items
    → new ≡ last ++ token.end_object ∷ []
    → new ≡ old ++ json_tokens (object_of (entries_of ATTRIBUTE_VALUE (trees_of items)))
object_written items i old opened last new h begun is ended =
    let entries = entries_of ATTRIBUTE_VALUE (trees_of items) in
    let none : left i items ≡ [] =
    at_drop_all (λ (l : List Tree). unseen (take i items) (each_once (map tag_of l))) items i h in
    ended
    ∙ ap (λ (tags : List ℕ). last ++ left_tokens tags items) (sym none)
    ∙ is
    ∙ ap (λ (tags : List ℕ). opened ++ left_tokens tags items)
    (none_seen (each_once (map tag_of items)) ∙ ap each_once (sym (tags_are ATTRIBUTE_VALUE items)))
    ∙ ap (λ (l : List Token). l ++ members_tokens (members_for (each_once (map (λ entry. entry.0) entries)) entries)) begun
    ∙ append_assoc old (token.begin_object ∷ []) (members_tokens (members_for (each_once (map (λ entry. entry.0) entries)) entries))

-- ---- a member

pub ok_then : {A E P Q : Type 0} (r : Result A E) → OnOk r P → (P → Q) → OnOk r Q
ok_then (Ok x) h f = f h
ok_then (Err e) h f = tt

-- of one item
pub one_written : (tag named : ℕ) (item : Tree) (later : List Tree) (old a b : List Token) (name : List ℕ)
    → tag ≡ tag_of item → name ≡ plain_name tag → a ≡ old ++ token.key name ∷ []
    → has_tag tag later ≡ false → b ≡ a ++ json_tokens (plain_at named item)
    → b ≡ old ++ member_tokens (tag_of item) named item later
one_written tag named item later old a b name same is begun none done =
    let value : List Token = json_tokens (plain_at named item) in
    done
    ∙ ap (λ (l : List Token). l ++ value) begun
    ∙ append_assoc old (token.key name ∷ []) value
    ∙ ap (λ (n : List ℕ). old ++ token.key n ∷ value) is
    ∙ ap (λ (values : List Json). old ++ token.key (plain_name tag) ∷ json_tokens (one_or_array (plain_at named item ∷ values)))
    (sym (under_none tag (named_after named item) later none))
    ∙ ap (λ t. old ++ member_tokens t named item later) same

bracketed : (old first others : List Token) (name : Token)
    → ((((old ++ name ∷ []) ++ token.begin_array ∷ []) ++ first) ++ others) ++ token.end_array ∷ []
    ≡ old ++ name ∷ (token.begin_array ∷ (first ++ (others ++ token.end_array ∷ [])))
bracketed old first others name = simp append_assoc

-- of several
pub several_written : (tag named next : ℕ) (item : Tree) (later : List Tree) (old a b c d e : List Token)
    (name : List ℕ) → tag ≡ tag_of item → name ≡ plain_name tag → a ≡ old ++ token.key name ∷ []
    → has_tag tag later ≡ true → b ≡ a ++ token.begin_array ∷ []
    → c ≡ b ++ json_tokens (plain_at named item) → next ≡ named_after named item
    → d ≡ c ++ flat_map json_tokens (under tag (entries_of next (trees_of later)))
    → e ≡ d ++ token.end_array ∷ []
    → e ≡ old ++ member_tokens (tag_of item) named item later
several_written tag named next item later old a b c d e name same is begun some opened first at others closed =
    let values : List Json = under tag (entries_of (named_after named item) (trees_of later)) in
    let value : List Token = json_tokens (plain_at named item) in
    let rest : List Token = flat_map json_tokens values in
    closed
    ∙ ap (λ (l : List Token). l ++ token.end_array ∷ [])
    (others ∙ ap (λ n. c ++ flat_map json_tokens (under tag (entries_of n (trees_of later)))) at
    ∙ ap (λ (l : List Token). l ++ rest)
    (first ∙ ap (λ (l : List Token). l ++ value)
    (opened ∙ ap (λ (l : List Token). l ++ token.begin_array ∷ []) begun)))
    ∙ bracketed old value rest (token.key name)
    ∙ ap (λ (n : List ℕ). old ++ token.key n ∷ (token.begin_array ∷ (value ++ (rest ++ token.end_array ∷ [])))) is
    ∙ ap (λ (l : List Token). old ++ token.key (plain_name tag) ∷ (token.begin_array ∷ (value ++ l)))
    (sym (array_tokens values))
    ∙ ap (λ (j : Json). old ++ token.key (plain_name tag) ∷ json_tokens j)
    (sym (several tag (named_after named item) (plain_at named item) later some))
    ∙ ap (λ t. old ++ member_tokens t named item later) same

-- ---- the items that have a tag

-- the tokens of those that are left where i items were passed
abbrev pub tagged_tokens : ℕ → ℕ → List Tree → List Token
tagged_tokens tag named items = flat_map json_tokens (under tag (entries_of named (trees_of items)))

pub tagged_more : (items : List Tree) (i : ℕ) (item : Tree) (tag named later : ℕ) (old new all : List Token)
    → i < length items → item ≡ get_or items i item → (tag_of item == tag) ≡ true → later ≡ named_after named item
    → new ≡ old ++ json_tokens (plain_at named item) → old ++ tagged_tokens tag named (drop i items) ≡ all
    → new ++ tagged_tokens tag later (drop (i + 1) items) ≡ all
tagged_more items i item tag named later old new all h e same next is before =
    let rest : List Tree = drop (i + 1) items in
    ap (λ n. new ++ tagged_tokens tag n rest) next
    ∙ ap (λ (l : List Token). l ++ tagged_tokens tag (named_after named item) rest) is
    ∙ append_assoc old (json_tokens (plain_at named item)) (tagged_tokens tag (named_after named item) rest)
    ∙ ap (λ (values : List Json). old ++ flat_map json_tokens values) (sym (under_more tag named item rest same))
    ∙ ap (λ (l : List Tree). old ++ tagged_tokens tag named l) (sym (rest_at items i item h e))
    ∙ before

pub tagged_other : (items : List Tree) (i : ℕ) (item : Tree) (tag named later : ℕ) (old all : List Token)
    → i < length items → item ≡ get_or items i item → (tag_of item == tag) ≡ false → later ≡ named_after named item
    → old ++ tagged_tokens tag named (drop i items) ≡ all
    → old ++ tagged_tokens tag later (drop (i + 1) items) ≡ all
tagged_other items i item tag named later old all h e other next before =
    let rest : List Tree = drop (i + 1) items in
    ap (λ n. old ++ tagged_tokens tag n rest) next
    ∙ ap (λ (values : List Json). old ++ flat_map json_tokens values) (sym (under_other tag named item rest other))
    ∙ ap (λ (l : List Tree). old ++ tagged_tokens tag named l) (sym (rest_at items i item h e))
    ∙ before

pub tagged_done : (items : List Tree) (i tag named : ℕ) (old all : List Token) → length items ≤ i
    → old ++ tagged_tokens tag named (drop i items) ≡ all → old ≡ all
tagged_done items i tag named old all h is =
    sym (append-nil old)
    ∙ ap (λ (l : List Token). old ++ l) (sym (at_drop_all (tagged_tokens tag named) items i h)) ∙ is
