-- The first line of a script.
use Rattle.std.proofs.Common.{◌≡◌, ℕ, ◌-◌, ◌<◌, ◌≤◌, eqb, ltb, List, [], ◌∷◌, length, take, drop, refl, arith, cond, true, false, Bool, Option, Some, None}
use Rattle.std.proofs.lemmas.Grind.{common_steps}
use Rattle.std.proofs.lemmas.Bool.Decides.{nat_tests}
use Rattle.std.proofs.lemmas.List.{length-drop}
use Rattle.std.proofs.Math.Seq.{take-length}
use Rattle.std.specs.List.{onto_first, position_or_len, before_first, after_first}
use Rattle.kmip_run.specs.Script.{lines_of}

abbrev pub is_feed : ℕ → Bool
is_feed c = eqb c 10

-- the first line ends at the first line feed
pub lines_first : (script : List ℕ) → position_or_len is_feed script < length script
    → lines_of script ≡ before_first is_feed script ∷ lines_of (after_first is_feed script)
lines_first [] within = absurd (omega arith)
lines_first (c ∷ script) within = elim (eqb c 10) as
    (λ b. eqb c 10 ≡ b → cond b ([] ∷ lines_of script) (onto_first c (lines_of script))
    ≡ before_first is_feed (c ∷ script) ∷ lines_of (after_first is_feed (c ∷ script))) [
      | true ↦ λ e. rw e refl
      | false ↦ λ e.
          let inner : position_or_len is_feed script < length script = (let w = rw e at within in omega arith) in
          rw (e, lines_first script inner) (grind (arith, common_steps))
    ] refl

-- a first byte before a line without a line feed
one_more : (c : ℕ) (script : List ℕ) → length script ≤ position_or_len is_feed script
    → onto_first c (lines_of script) ≡ (c ∷ script) ∷ []
one_more c [] none = refl
one_more c (d ∷ script) none = elim (eqb d 10) as
    (λ b. eqb d 10 ≡ b → onto_first c
    (cond b ([] ∷ lines_of script) (onto_first d (lines_of script))) ≡ (c ∷ d ∷ script) ∷ []) [
      | true ↦ λ e. (let w = rw e at none in absurd (omega arith))
      | false ↦ λ e. (let w = rw e at none in rw (one_more d script (omega arith)) refl)
    ] refl

-- without a line feed it is the whole script
pub lines_one : (script : List ℕ) → 0 < length script
    → length script ≤ position_or_len is_feed script → lines_of script ≡ script ∷ []
lines_one [] some none = absurd (omega arith)
lines_one (c ∷ script) some none = elim (eqb c 10) as
    (λ b. eqb c 10 ≡ b → cond b ([] ∷ lines_of script) (onto_first c (lines_of script))
    ≡ (c ∷ script) ∷ []) [
      | true ↦ λ e. (let w = rw e at none in absurd (omega arith))
      | false ↦ λ e. (let w = rw e at none in one_more c script (omega arith))
    ] refl

pub found : (place size : ℕ) (end : ℕ) (r : Option ℕ) → r ≡ cond (ltb place size) (Some place) None
    → r ≡ Some end → (place < size) × (end ≡ place)
found place size end r is some = grind (arith, nat_tests)

pub not_found : (place size : ℕ) (r : Option ℕ) → r ≡ cond (ltb place size) (Some place) None → r ≡ None → size ≤ place
not_found place size r is none = grind (arith, nat_tests)

pub rest_is : {A : Type 0} (n : ℕ) (xs : List A) → take (length xs - n) (drop n xs) ≡ drop n xs
rest_is n xs = rw (← length-drop n xs) (take-length (drop n xs))
