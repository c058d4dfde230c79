-- What words gave so far, before what the rest may give.
use Rattle.std.proofs.Common.{◌≡◌, ℕ, ◌+◌, ◌-◌, ◌<◌, ◌≤◌, List, [], ◌∷◌, ◌++◌, length, drop, get_or, Option, Some, None, refl, ap, sym, ◌∙◌, arith, add-one, drop-cons, append_assoc, append-nil}
use Rattle.std.proofs.lemmas.List.{length-drop}
use Rattle.kmip_request_words.specs.Attributes.{then_more, all_of}

abbrev pub before_those : {B : Type 0} → List B → Option (List B) → Option (List B)
before_those front (Some rest) = Some (front ++ rest)
before_those front None = None

before_push : {B : Type 0} (front : List B) (x : B) (rest : Option (List B))
    → before_those front (then_more (Some x) rest) ≡ before_those (front ++ x ∷ []) rest
before_push front x (Some rest) = ap (λ l. Some l) (sym (append_assoc front (x ∷ []) rest))
before_push front x None = refl

all_at : {B : Type 0} (f : List ℕ → Option B) (words : List (List ℕ)) (i : ℕ) (d : List ℕ)
    → i < length words → all_of f (drop i words)
    ≡ then_more (f (get_or words i d)) (all_of f (drop (i + 1) words))
all_at f words i d h = rw (add-one, drop-cons words i d) refl

-- one more
pub one_more : {B : Type 0} (f : List ℕ → Option B) (front : List B) (x : B) (words : List (List ℕ))
    (i : ℕ) (d : List ℕ) → i < length words → f (get_or words i d) ≡ Some x →
    before_those front (all_of f (drop i words)) ≡ all_of f words
    → before_those (front ++ x ∷ []) (all_of f (drop (i + 1) words)) ≡ all_of f words
one_more f front x words i d h is so_far =
    sym (before_push front x (all_of f (drop (i + 1) words)))
    ∙ ap (λ o. before_those front (then_more o (all_of f (drop (i + 1) words)))) (sym is)
    ∙ ap (before_those front) (sym (all_at f words i d h))
    ∙ so_far

-- a word that gives nothing
pub none_more : {B : Type 0} (f : List ℕ → Option B) (front : List B) (words : List (List ℕ))
    (i : ℕ) (d : List ℕ) → i < length words → f (get_or words i d) ≡ None →
    before_those front (all_of f (drop i words)) ≡ all_of f words → None ≡ all_of f words
none_more f front words i d h is so_far =
    ap (λ o. before_those front (then_more o (all_of f (drop (i + 1) words)))) (sym is)
    ∙ ap (before_those front) (sym (all_at f words i d h))
    ∙ so_far

at_end : {B : Type 0} (f : List ℕ → Option B) (front : List B) (words : List (List ℕ))
    → length words ≡ 0 → before_those front (all_of f words) ≡ Some front
at_end f front [] none = ap (λ l. Some l) (append-nil front)
at_end f front (word ∷ words) none = absurd (omega arith)

-- all of them
pub all_done : {B : Type 0} (f : List ℕ → Option B) (front : List B) (words : List (List ℕ)) (i : ℕ)
    → length words ≤ i →
    before_those front (all_of f (drop i words)) ≡ all_of f words → Some front ≡ all_of f words
all_done f front words i h so_far =
    sym (at_end f front (drop i words) (length-drop i words ∙ omega arith)) ∙ so_far
