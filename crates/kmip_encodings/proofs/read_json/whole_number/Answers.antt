use Rattle.std.proofs.Common.{◌≡◌, ◌<◌, ◌^◌, ℤ, pos, negsuc, sym, ap, ◌∙◌, w64, to_z, of_z, FitsSigned, arith, true}
use lib.Signed.{mag}
use Rattle.std.specs.Fmt.{signed_decimal}
use Rattle.std.proofs.lemmas.Bool.{true≢false}
use Rattle.std.proofs.lemmas.Bool.Decides.{nat_tests}
use Rattle.kmip_encodings.proofs.read_json.whole_number.Goals.{else-is_exact-via-then-is_exact+else-is_printed, else-is_exact-via-else-is_exact}
use Rattle.std.proofs.lemmas.Fmt.{parse-signed_decimal}
use Rattle.std.proofs.lemmas.Int.{to_z-of_z}
use Rattle.std.proofs.lemmas.Slice.Eq.{bytes_eq-Decides}
use Rattle.kmip_encodings.specs.Reading.{is_exact}
use Rattle.kmip_encodings.proofs.Numbers.{whole_found, whole_none}
use Rattle.kmip_encodings.proofs.read_json.whole_number.Goals as goal

exact_mag : (z : ℤ) → is_exact z ≡ true → mag z < 2 ^ 63
exact_mag (pos n) h = grind (arith, nat_tests)
exact_mag (negsuc n) h = grind (arith, nat_tests)

exact_fits : (z : ℤ) → is_exact z ≡ true → FitsSigned w64 z
exact_fits (pos n) h = grind (arith, nat_tests)
exact_fits (negsuc n) h = grind (arith, nat_tests)

pub returns-in_default : goal.returns-in_default
returns-in_default c =
    sym (whole_none c.args.text.now (λ z exact is.
    c.in_default.not-Ok z (parse-signed_decimal w64 z c.args.text.now c.parse.result
    (exact_fits z exact) (exact_mag z exact) (sym is) c.parse.ensures.value.0)))

pub returns-then-is_printed : goal.returns-then-is_printed
returns-then-is_printed c =
    let z = c.in-Ok.number in
    let parsed = rw c.in-Ok.is at c.parse.ensures.value.0 in
    let fits : FitsSigned w64 z = rw parsed.1 parsed.0.1 in
    let same : to_z w64 (of_z w64 z) ≡ z = to_z-of_z w64 z fits in
    let exact = ap is_exact (sym same) ∙ sym c.is_exact.ensures ∙ c.if-is_exact.true in
    let printed = (bytes_eq-Decides (signed_decimal (to_z w64 (of_z w64 z))) c.args.text.now).0
    (sym c.is_printed.ensures ∙ c.if-is_printed.true) in
    rw same (sym (whole_found c.args.text.now z exact (sym parsed.1) (ap signed_decimal (sym same) ∙ printed)))

pub returns-else-is_exact : goal.returns-else-is_exact
returns-else-is_exact c =
    let z = c.in-Ok.number in
    let parsed = rw c.in-Ok.is at c.parse.ensures.value.0 in
    let fits : FitsSigned w64 z = rw parsed.1 parsed.0.1 in
    let same : to_z w64 (of_z w64 z) ≡ z = to_z-of_z w64 z fits in
    sym (whole_none c.args.text.now (λ y exact is.
    let found = parse-signed_decimal w64 y c.args.text.now c.parse.result (exact_fits y exact)
    (exact_mag y exact) (sym is) c.parse.ensures.value.0 in
    let here : z ≡ y = cc (found, c.in-Ok.is) in
    let printed = (bytes_eq-Decides (signed_decimal (to_z w64 (of_z w64 z))) c.args.text.now).1
    (ap signed_decimal (same ∙ here) ∙ is) in
    let near = ap is_exact (same ∙ here) ∙ exact in
    elim c.else-is_exact.branch [
      | else-is_exact-via-then-is_exact+else-is_printed w ↦ true≢false
          (sym (w.is_printed.ensures ∙ printed) ∙ w.if-is_printed.false)
      | else-is_exact-via-else-is_exact w ↦ true≢false (sym (c.is_exact.ensures ∙ near) ∙ w.if-is_exact.false)
    ]))
