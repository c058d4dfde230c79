-- The tokens of an item, written one after the other.
use Rattle.std.proofs.Common.{◌≡◌, ℕ, zero, suc, ◌+◌, ◌*◌, ◌<◌, ◌≤◌, List, [], ◌∷◌, ◌++◌, length, drop, get_or, Some, None, IfSome, ◌^◌, refl, sym, ap, ◌∙◌, arith, append_assoc, add-one, drop-cons}
use Rattle.std.specs.Prelude.{codes}
use Rattle.json.specs.Token.{Token}
use Rattle.json.specs.Token as token
use Rattle.json.specs.Json.{Json}
use Rattle.json.specs.Tree.{json_tokens, items_tokens}
use Rattle.kmip_wire.specs.declared.kind.Kind.{Kind}
use Rattle.kmip_wire.specs.Tree.{Tree, trees_of}
use Rattle.kmip_wire.specs.Sizes.{tree_size, trees_size}
use Rattle.kmip_wire.specs.Names.{kind_name}
use Rattle.kmip_encodings.specs.Texts.{tag_text}
use Rattle.kmip_encodings.specs.Parts.{offset_tokens}
use Rattle.kmip_encodings.specs.Sizes.{size_of, sizes_of}
use Rattle.kmip_encodings.specs.Context.{named_after}
use Rattle.kmip_encodings.specs.Encoding.{Offset, after, item_json, json_at, items_at}

pub item_written : (at : Offset) (tag : ℕ) (kind : Kind) (value : Json)
    (old a b c d e f : List Token)
    → a ≡ old ++ token.begin_object ∷ (offset_tokens at
    ++ token.key (codes "tag") ∷ token.string (tag_text tag) ∷ [])
    → b ≡ a ++ token.key (codes "type") ∷ [] → c ≡ b ++ token.string (kind_name kind) ∷ []
    → d ≡ c ++ token.key (codes "value") ∷ [] → e ≡ d ++ json_tokens value
    → f ≡ e ++ token.end_object ∷ []
    → f ≡ old ++ json_tokens (item_json at tag kind value)
item_written None tag kind value old a b c d e f p q r s t u =
    rw (u, t, s, r, q, p) (simp append_assoc)
item_written (Some at) tag kind value old a b c d e f p q r s t u =
    rw (u, t, s, r, q, p) (simp append_assoc)

rest_at : (items : List Tree) (i : ℕ) (item : Tree) → i < length items → item ≡ get_or items i item
    → drop i items ≡ item ∷ drop (i + 1) items
rest_at items i item h e = rw (add-one, drop-cons items i item h, ← e) refl

pub items_more : (items : List Tree) (i : ℕ) (item : Tree) (at next : Offset) (named later : ℕ)
    (old new all : List Token)
    → i < length items → item ≡ get_or items i item → new ≡ old ++ json_tokens (json_at at named item)
    → next ≡ after (size_of item) at → later ≡ named_after named item
    → old ++ items_tokens (items_at at named (trees_of (drop i items))) ≡ all
    → new ++ items_tokens (items_at next later (trees_of (drop (i + 1) items))) ≡ all
items_more items i item at next named later old new all h e p n l q =
    let rest = trees_of (drop (i + 1) items) in
    ap (λ t. t ++ items_tokens (items_at next later rest)) p
    ∙ ap (λ m. (old ++ json_tokens (json_at at named item)) ++ items_tokens (items_at next m rest)) l
    ∙ ap (λ o. (old ++ json_tokens (json_at at named item))
    ++ items_tokens (items_at o (named_after named item) rest)) n
    ∙ append_assoc old (json_tokens (json_at at named item))
    (items_tokens (items_at (after (size_of item) at) (named_after named item) rest))
    ∙ sym (ap (λ ts. old ++ items_tokens (items_at at named (trees_of ts))) (rest_at items i item h e))
    ∙ q

pub item_smaller : (items : List Tree) (i : ℕ) (item : Tree) → i < length items
    → item ≡ get_or items i item → 2 * tree_size item + 1 < 2 * trees_size (trees_of items)
item_smaller [] i item h e = absurd (omega arith)
item_smaller (t ∷ ts) zero item h e = omega (arith, ap tree_size e)
item_smaller (t ∷ ts) (suc i) item h e = omega (arith, item_smaller ts i item (omega arith) e)

-- ---- where items begin and end

after_after : (at : Offset) (n k : ℕ) → after k (after n at) ≡ after (n + k) at
after_after None n k = refl
after_after (Some a) n k = ap Some (omega arith)

pub ends_more : (items : List Tree) (i : ℕ) (item : Tree) (at next all : Offset)
    → i < length items → item ≡ get_or items i item → next ≡ after (size_of item) at
    → after (sizes_of (trees_of (drop i items))) at ≡ all
    → after (sizes_of (trees_of (drop (i + 1) items))) next ≡ all
ends_more items i item at next all h e n q =
    let later = sizes_of (trees_of (drop (i + 1) items)) in
    ap (after later) n ∙ after_after at (size_of item) later
    ∙ sym (ap (λ ts. after (sizes_of (trees_of ts)) at) (rest_at items i item h e)) ∙ q

-- an item ends where the items around it end, or before
fits : (at all : Offset) (n k whole : ℕ) → IfSome all (λ a. a + whole ≤ 2 ^ 63)
    → after k at ≡ after whole all → n ≤ k → IfSome at (λ a. a + n ≤ 2 ^ 63)
fits None all n k whole room e h = tt
fits (Some a) None n k whole room e h = cc
fits (Some a) (Some b) n k whole room e h =
    let same : a + k ≡ b + whole = cc in omega (arith, same, room)

pub item_fits : (items : List Tree) (i : ℕ) (item : Tree) (at all : Offset)
    → i < length items → item ≡ get_or items i item
    → IfSome all (λ a. a + (8 + sizes_of (trees_of items)) ≤ 2 ^ 63)
    → after (sizes_of (trees_of (drop i items))) at ≡ after (8 + sizes_of (trees_of items)) all
    → IfSome at (λ a. a + size_of item ≤ 2 ^ 63)
item_fits items i item at all h e room q =
    fits at all (size_of item) (sizes_of (trees_of (drop i items)))
    (8 + sizes_of (trees_of items)) room q
    (omega (arith, ap (λ ts. sizes_of (trees_of ts)) (rest_at items i item h e)))
