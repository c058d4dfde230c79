use Rattle.std.proofs.Common.{◌≡◌, ◌<◌, ◌^◌, ℤ, sym, ap, ◌∙◌, w64, to_z, of_z, FitsSigned, arith, true}
use Rattle.std.specs.Fmt.{signed_decimal}
use Rattle.std.proofs.lemmas.Bool.{true≢false}
use Rattle.std.proofs.lemmas.Fmt.{parse-signed_decimal}
use Rattle.std.proofs.lemmas.Int.{to_z-of_z}
use Rattle.std.proofs.lemmas.Slice.Eq.{bytes_eq-Decides}
use Rattle.kmip_xml.specs.Scalars.{is_long}
use Rattle.kmip_xml.proofs.Numbers.{long_mag, long_fits, fits_long, long_found, long_none}
use Rattle.kmip_xml.proofs.scalars.long_number.Goals as goal

pub returns-in_default : goal.returns-in_default
returns-in_default c =
    sym (long_none c.args.text.now (λ z long is.
    c.in_default.not-Ok z (parse-signed_decimal w64 z c.args.text.now c.parse.result
    (long_fits z long) (long_mag z long) (sym is) c.parse.ensures.value.0)))

pub returns-then-is_printed : goal.returns-then-is_printed
returns-then-is_printed c =
    let z = c.in-Ok.number in
    let parsed = rw c.in-Ok.is at c.parse.ensures.value.0 in
    let fits : FitsSigned w64 z = rw parsed.1 parsed.0.1 in
    let same : to_z w64 (of_z w64 z) ≡ z = to_z-of_z w64 z fits in
    let printed = (bytes_eq-Decides (signed_decimal (to_z w64 (of_z w64 z))) c.args.text.now).0
    (sym c.is_printed.ensures ∙ c.if-is_printed.true) in
    rw same (sym (long_found c.args.text.now z (fits_long z fits) (sym parsed.1)
    (ap signed_decimal (sym same) ∙ printed)))

pub returns-else-is_printed : goal.returns-else-is_printed
returns-else-is_printed c =
    let z = c.in-Ok.number in
    let parsed = rw c.in-Ok.is at c.parse.ensures.value.0 in
    let fits : FitsSigned w64 z = rw parsed.1 parsed.0.1 in
    let same : to_z w64 (of_z w64 z) ≡ z = to_z-of_z w64 z fits in
    sym (long_none c.args.text.now (λ y long is.
    let found = parse-signed_decimal w64 y c.args.text.now c.parse.result (long_fits y long)
    (long_mag y long) (sym is) c.parse.ensures.value.0 in
    let here : z ≡ y = cc (found, c.in-Ok.is) in
    let printed = (bytes_eq-Decides (signed_decimal (to_z w64 (of_z w64 z))) c.args.text.now).1
    (ap signed_decimal (same ∙ here) ∙ is) in
    true≢false (sym (c.is_printed.ensures ∙ printed) ∙ c.if-is_printed.false)))
