-- Tests of equality.
use Rattle.std.specs.Prelude.{Bool, ◌≡◌}
use Rattle.std.specs.Bool.{Decides}

-- the test is true exactly if the values are equal
abbrev pub IsEquality : {A : Type 0} → (A → A → Bool) → Type 0
IsEquality {A} eq = (x y : A) → Decides (eq x y) (x ≡ y)
