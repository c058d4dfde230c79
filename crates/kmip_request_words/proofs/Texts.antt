-- Words, and what was unescaped of one so far.
use Rattle.std.proofs.Common.{◌≡◌, ◌≢◌, ◌<◌, ◌≤◌, drop, slice_index, arith, cond, eqb, true, false, ◌==◌, ℕ, List, [], ◌∷◌, ◌++◌, Option, None, Some, refl, ap, sym, append_assoc, length, map, Bor, ◌||◌}
use Rattle.std.proofs.lemmas.Grind.{common_steps}
use Rattle.std.specs.List.{list_any}
use Rattle.std.proofs.lemmas.Bool.Decides.{Decides-eqb}
use Rattle.kmip_request_words.specs.Words.{has_empty_part}
use Rattle.kmip_request_words.specs.Values.{unescape, then_rest, escaped_byte, upper_digit}

pub list_any_map : (parts : List (Bor (List ℕ)))
    → list_any (λ part. length part.now == 0) parts ≡ has_empty_part (map (λ part. part.now) parts)
list_any_map [] = refl
list_any_map (part ∷ parts) = ap (λ b. (length part.now == 0) || b) (list_any_map parts)

append-none : (xs : List ℕ) → xs ++ [] ≡ xs
append-none xs = grind (arith, common_steps)

-- bytes before those that may come
abbrev pub onto : List ℕ → Option (List ℕ) → Option (List ℕ)
onto front (Some rest) = Some (front ++ rest)
onto front None = None

pub onto_push : (front : List ℕ) (byte : ℕ) (rest : Option (List ℕ))
    → onto front (then_rest (Some byte) rest) ≡ onto (front ++ byte ∷ []) rest
onto_push front byte (Some rest) = ap (λ (l : List ℕ). Some l) (sym (append_assoc front (byte ∷ []) rest))
onto_push front byte None = refl

-- a first byte that is not 37
other : (c : ℕ) {A : Type 0} (x y : A) → c ≢ 37 → cond (eqb c 37) x y ≡ y
other c x y not = elim (eqb c 37) as (λ b. eqb c 37 ≡ b → cond b x y ≡ y) [
  | true ↦ λ e. absurd (not ((Decides-eqb c 37).0 e))
  | false ↦ λ e. refl
] refl

-- a byte that stands for itself
pub at_plain : (word : List ℕ) → 1 ≤ length word → slice_index word 0 ≢ 37
    → unescape word ≡ then_rest (Some (slice_index word 0)) (unescape (drop 1 word))
unfolding unescape
at_plain [] some plain = absurd (omega arith)
at_plain (c ∷ []) some plain = other c None (Some (c ∷ [])) plain
at_plain (c ∷ d ∷ []) some plain = other c None (then_rest (Some c) (unescape (d ∷ []))) plain
at_plain (c ∷ d ∷ e ∷ rest) some plain =
    other c (then_rest (escaped_byte (upper_digit d) (upper_digit e)) (unescape rest))
    (then_rest (Some c) (unescape (d ∷ e ∷ rest))) plain

pub at_escape : (word : List ℕ) → 3 ≤ length word → slice_index word 0 ≡ 37
    → unescape word ≡ then_rest (escaped_byte (upper_digit (slice_index word 1))
    (upper_digit (slice_index word 2))) (unescape (drop 3 word))
unfolding unescape
at_escape [] some escape = absurd (omega arith)
at_escape (c ∷ []) some escape = absurd (omega arith)
at_escape (c ∷ d ∷ []) some escape = absurd (omega arith)
at_escape (c ∷ d ∷ e ∷ rest) some escape = rw escape refl

-- too little after `%`
pub at_short : (word : List ℕ) → 1 ≤ length word → length word < 3 → slice_index word 0 ≡ 37 → unescape word ≡ None
unfolding unescape
at_short [] some short escape = absurd (omega arith)
at_short (c ∷ []) some short escape = rw escape refl
at_short (c ∷ d ∷ []) some short escape = rw escape refl
at_short (c ∷ d ∷ e ∷ rest) some short escape = absurd (omega arith)

-- at the end of a word
pub onto_end : (front word : List ℕ) → length word ≡ 0 → onto front (unescape word) ≡ Some front
unfolding unescape
onto_end front [] none = ap (λ (l : List ℕ). Some l) (append-none front)
onto_end front (c ∷ word) none = absurd (omega arith)
