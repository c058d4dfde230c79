use Rattle.std.proofs.Common.{◌≡◌, ◌*◌, ℕ, length, take, flat_map, refl, arith, subst}
use Rattle.std.proofs.lemmas.Str.Ascii.{IsAscii-nil}
use Rattle.std.specs.Str.{IsAscii}
use Rattle.kmip_shape.specs.Shown.{hex_byte}
use Rattle.kmip_shape.proofs.Digits.{digits_step, digits_done, ascii_step}
use Rattle.kmip_shape.proofs.text_writer.write_digits.Goals as goal

pub loop-i-init : goal.loop-i-init
loop-i-init c = record { digits = refl; ascii = IsAscii-nil }

pub loop-i-preserved : goal.loop-i-preserved
loop-i-preserved c = record {
  digits = digits_step c.args.bytes.now c.loop-i.out c.loop-i.i _ _ c.loop-i-test.true
      (omega arith)
      c.hex_digit.ensures.digit c.hex_digit-in-loop-i.ensures.digit c.loop-i.invariant.digits;
  ascii = ascii_step c.loop-i.out c.loop-i.i _ _
      (omega arith)
      c.hex_digit.ensures.ascii c.hex_digit-in-loop-i.ensures.ascii c.loop-i.invariant.ascii;
}

pub returns-clause-digits : goal.returns-clause-digits
returns-clause-digits c =
    let e : c.loop-i.i ≡ length c.args.bytes.now = omega arith in
    subst (λ (n : ℕ). take (2 * n) c.loop-i.out ≡ flat_map hex_byte c.args.bytes.now) e
    (digits_done c.args.bytes.now c.loop-i.out c.loop-i.i c.loop-i-test.false c.loop-i.invariant.digits)

pub returns-clause-ascii : goal.returns-clause-ascii
returns-clause-ascii c =
    subst IsAscii
    (digits_done c.args.bytes.now c.loop-i.out c.loop-i.i c.loop-i-test.false c.loop-i.invariant.digits) c.loop-i.invariant.ascii
