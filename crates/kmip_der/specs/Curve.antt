-- A curve as a row of the table.
use Rattle.std.specs.Prelude.{ℕ, ◌==◌, List, Option, find, bytes_eq}
use Rattle.kmip_der.specs.declared.curves.Curve.{Curve as TheCurve}

pub record Curve : Type 0 where
  pub name : List ℕ
  pub number : ℕ
  pub bits : ℕ
  pub octets : ℕ

abbrev pub curve : List ℕ → ℕ → ℕ → ℕ → Curve
curve name number bits octets =
    record { name = name; number = number; bits = bits; octets = octets }

abbrev pub curve_view : TheCurve → Curve
curve_view x = curve x.name.now x.number x.bits x.octets

-- the curve with this name among rows, and the one with this number
abbrev pub curve_in : List Curve → List ℕ → Option Curve
curve_in curves name = find (λ curve. bytes_eq curve.name name) curves

abbrev pub curve_with : List Curve → ℕ → Option Curve
curve_with curves number = find (λ curve. curve.number == number) curves
