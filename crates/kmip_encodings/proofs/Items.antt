-- Reading items, one after the other.
use Rattle.std.proofs.Common.{◌≡◌, ℕ, zero, suc, ◌+◌, ◌-◌, ◌<◌, ◌≤◌, Bool, true, false, ◌&&◌, List, [], ◌∷◌, ◌++◌, length, drop, get_or, Option, Some, None, option_map, refl, sym, ap, subst, ◌∙◌, append_assoc, append-nil, add-one, drop-cons, Bor, arith}
use Rattle.std.specs.Prelude.{Result, Ok, Err, IsSomeAnd}
use Rattle.std.proofs.lemmas.List.{at_drop_all}
use Rattle.json.specs.Json.{Json, document}
use Rattle.json.specs.Strict.{HasUniqueKeys}
use Rattle.json.specs.Value.{value_view, items_view, members_view}
use Rattle.json.specs.declared.value.Value.{Value}
use Rattle.kmip_wire.specs.declared.kind.Kind.{Kind}
use Rattle.kmip_wire.specs.Tree.{Tree, Trees, Scalar, scalar, none, more, trees_of, list_of}
use Rattle.kmip_encodings.specs.declared.error.Expected.TheVariants as expected
use Rattle.kmip_encodings.specs.declared.error.EncodingError.{EncodingError}
use Rattle.kmip_encodings.specs.declared.error.EncodingError.TheVariants as errors
use Rattle.kmip_encodings.specs.Context.{named_after}
use Rattle.kmip_encodings.specs.Reading.{tree_of, misfit_of, Reads, ReadsText, Read, wants, within, trees_read, named_from, items_by, scalar_read, read_item, object_read, known_read, known_members, parts_in, is_known, are_known}

-- trees before those that are read
abbrev pub onto : List Tree → Read Trees → Read Trees
onto ts (Ok us) = Ok (trees_of (ts ++ list_of us))
onto ts (Err m) = Err m

trees_of-list_of : (ts : Trees) → trees_of (list_of ts) ≡ ts
trees_of-list_of none = refl
trees_of-list_of (more t ts) = ap (more t) (trees_of-list_of ts)

pub onto_none : (r : Read Trees) → onto [] r ≡ r
onto_none (Ok us) = ap Ok (trees_of-list_of us)
onto_none (Err m) = refl

pub onto_push : (ts : List Tree) (t : Tree) (r : Read Trees) → onto ts (trees_read (Ok t) r) ≡ onto (ts ++ t ∷ []) r
onto_push ts t (Ok us) = ap (λ l. Ok (trees_of l)) (sym (append_assoc ts (t ∷ []) (list_of us)))
onto_push ts t (Err m) = refl

abbrev pub left : {A : Type 0} → (ℕ → Json → Read Tree) → ℕ → List (Value A) → ℕ → Read Trees
left one named items index = items_by one index named (items_view (drop index items))

rest_at : {X : Type 0} (xs : List X) (i : ℕ) (x : X) → i < length xs → x ≡ get_or xs i x
    → drop i xs ≡ x ∷ drop (i + 1) xs
rest_at xs i x h e = rw (add-one, drop-cons xs i x h, ← e) refl

next : {A : Type 0} (one : ℕ → Json → Read Tree) (named : ℕ) (items : List (Value A)) (index : ℕ) (v : Value A)
    → index < length items → v ≡ get_or items index v
    → left one named items index ≡ trees_read (within index (one named (value_view v)))
    (left one (named_from named (one named (value_view v))) items (index + 1))
next one named items index v h e = ap (λ l. items_by one index named (items_view l)) (rest_at items index v h e)

pub items_more : {A : Type 0} (one : ℕ → Json → Read Tree) (named later : ℕ) (items : List (Value A)) (index : ℕ)
    (v : Value A) (ts : List Tree) (t : Tree) (all : Read Trees) → index < length items
    → v ≡ get_or items index v
    → one named (value_view v) ≡ Ok t → later ≡ named_after named t
    → all ≡ onto ts (left one named items index)
    → all ≡ onto (ts ++ t ∷ []) (left one later items (index + 1))
items_more one named later items index v ts t all h e r n p =
    p ∙ ap (onto ts) (next one named items index v h e
    ∙ ap (λ x. trees_read (within index x) (left one (named_from named x) items (index + 1))) r)
    ∙ onto_push ts t (left one (named_after named t) items (index + 1))
    ∙ ap (λ m. onto (ts ++ t ∷ []) (left one m items (index + 1))) (sym n)

pub items_done : {A : Type 0} (one : ℕ → Json → Read Tree) (named : ℕ) (items : List (Value A)) (index : ℕ)
    (ts : List Tree) (all : Read Trees) → length items ≤ index
    → all ≡ onto ts (left one named items index) → all ≡ Ok (trees_of ts)
items_done one named items index ts all h p =
    p ∙ at_drop_all (λ l. onto ts (items_by one index named (items_view l))) items index h
    ∙ ap (λ l. Ok (trees_of l)) (append-nil ts)

-- ---- members

known_rest : {A : Type 0} (ms : List (Bor (List ℕ) × Value A)) (i : ℕ) (m : Bor (List ℕ) × Value A)
    → i < length ms → m ≡ get_or ms i m
    → are_known (members_view (drop i ms)) ≡ (is_known m.0.now && are_known (members_view (drop (i + 1) ms)))
known_rest ms i m h e = ap (λ l. are_known (members_view l)) (rest_at ms i m h e)

pub known_more : {A : Type 0} (ms : List (Bor (List ℕ) × Value A)) (i : ℕ)
    (m : Bor (List ℕ) × Value A) (all : Bool) → i < length ms → m ≡ get_or ms i m
    → is_known m.0.now ≡ true
    → all ≡ are_known (members_view (drop i ms)) → all ≡ are_known (members_view (drop (i + 1) ms))
known_more ms i m all h e k p = p ∙ known_rest ms i m h e ∙ ap (λ b. b && are_known (members_view (drop (i + 1) ms))) k

pub known_not : {A : Type 0} (ms : List (Bor (List ℕ) × Value A)) (i : ℕ)
    (m : Bor (List ℕ) × Value A) (all : Bool) → i < length ms → m ≡ get_or ms i m
    → is_known m.0.now ≡ false
    → all ≡ are_known (members_view (drop i ms)) → all ≡ false
known_not ms i m all h e k p = p ∙ known_rest ms i m h e ∙ ap (λ b. b && are_known (members_view (drop (i + 1) ms))) k

pub known_done : {A : Type 0} (ms : List (Bor (List ℕ) × Value A)) (i : ℕ) (all : Bool)
    → length ms ≤ i → all ≡ are_known (members_view (drop i ms)) → all ≡ true
known_done ms i all h p = p ∙ at_drop_all (λ l. are_known (members_view l)) ms i h

-- ---- an item

pub read_zero : (n named : ℕ) (j : Json) → n ≡ 0 → read_item n named j ≡ wants expected.FewerLevels
unfolding read_item
read_zero n named j e = rw e refl

pub read_more : (n named : ℕ) (j : Json) → (n ≡ 0 → ⊥) → read_item n named j ≡ object_read (read_item (n - 1)) named j
unfolding read_item
read_more zero named j h = absurd (h refl)
read_more (suc n) named j h = let e : suc n - 1 ≡ n = omega arith in rw e refl

pub opened : (n named : ℕ) (j : Json) (known : Option Bool) → (n ≡ 0 → ⊥) → known ≡ known_members j
    → read_item n named j ≡ known_read known (parts_in (read_item (n - 1)) named j)
opened n named j known h e =
    read_more n named j h ∙ ap (λ k. known_read k (parts_in (read_item (n - 1)) named j)) (sym e)

-- what reading the value of a text comes to
pub text_read : (r : Result Tree EncodingError) (text : List ℕ) (j : Json) → document text ≡ Some j
    → HasUniqueKeys j → Reads r (tree_of j) → ReadsText r text
text_read (Ok t) text j d u h = subst
    (λ (o : Option Json). IsSomeAnd o (λ k. HasUniqueKeys k × (tree_of k ≡ Ok t))) (sym d) (u, h)
text_read (Err (errors.NotJson offset)) text j d u h = absurd h
text_read (Err (errors.TooDeep offset)) text j d u h = absurd h
text_read (Err errors.RepeatedName) text j d u h = absurd h
text_read (Err (errors.Misfit fault)) text j d u h =
    subst (λ (o : Option Json). IsSomeAnd o
    (λ k. HasUniqueKeys k × (tree_of k ≡ Err (misfit_of fault)))) (sym d) (u, h)
text_read (Err errors.OutOfMemory) text j d u h = tt

pub scalar_is : (tag : ℕ) (kind : Kind) (t : Tree) (o : Option Scalar)
    → Some t ≡ option_map (scalar tag) o → scalar_read tag kind o ≡ Ok t
scalar_is tag kind t (Some s) e = let same : t ≡ scalar tag s = cc in ap Ok (sym same)
scalar_is tag kind t None e = cc

pub scalar_none : (tag : ℕ) (kind : Kind) (o : Option Scalar) → None ≡ option_map (scalar tag) o
    → scalar_read tag kind o ≡ wants (expected.Value kind)
scalar_none tag kind (Some s) e = cc
scalar_none tag kind None e = refl
