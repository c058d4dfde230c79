-- A field that is skipped is always absent.
use Rattle.std.specs.Prelude.{Option, Some, None, ◌≡◌, refl}

abbrev pub IsSkipped : {T : Type 0} → Option T → Type 0
IsSkipped None = Unit {0}
IsSkipped (Some x) = ⊥

-- all proofs of that are equal
pub IsSkipped-prop : {T : Type 0} (o : Option T) (p q : IsSkipped o) → p ≡ q
IsSkipped-prop None p q = refl
IsSkipped-prop (Some x) p q = absurd p
