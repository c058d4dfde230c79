-- A date's number.
use Rattle.std.proofs.Common.{◌≡◌, ℕ, ◌^◌, ◌<◌, ℤ, pos, negsuc, refl, ap, ◌∙◌, arith, lt-ltb, FitsSigned, w64}
use Rattle.std.specs.Int.{cast_unsigned, cast_signed}
use Rattle.std.proofs.lemmas.Int.{of_z-to_z}
use Rattle.std.proofs.Math.Facts.{sfits_to_z}
use Rattle.kmip_wire.specs.declared.kind.Kind.TheVariants.{DateTime}
use Rattle.kmip_shape.specs.Fits.{kind_fits}
use Rattle.kmip_shape.specs.Val.{Number}
use Rattle.kmip_shape.specs.Dates.{date_number, date_val}

pub dated : (z : ℤ) → FitsSigned w64 z → date_number z ≡ pos (cast_unsigned w64 z)
dated (pos n) h = rw (lt-ltb n (2 ^ 63) h.sfits) refl
dated (negsuc n) h = rw (lt-ltb n (2 ^ 63) h.sfits) refl

pub date_fits : (z : ℤ) → FitsSigned w64 z → kind_fits DateTime (date_val z)
date_fits z h = rw (dated z h) (date_below z h)
  where
    date_below : (z : ℤ) → FitsSigned w64 z → cast_unsigned w64 z < 2 ^ 64
    date_below (pos n) h = let l : n < 2 ^ 63 = h.sfits in omega arith
    date_below (negsuc n) h = let l : n < 2 ^ 63 = h.sfits in omega arith

pub date_read : (n : ℕ) → n < 2 ^ 64 → date_val (cast_signed w64 n) ≡ Number (pos n)
date_read n h = ap Number (dated (cast_signed w64 n)
    (sfits_to_z {w = w64} {n = n} (record { fits = h })) ∙ ap pos (of_z-to_z w64 n h))
