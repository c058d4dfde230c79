use Rattle.std.proofs.Common.{◌≡◌, sym, ap, ◌∙◌, w32, to_z, of_z, FitsSigned}
use Rattle.std.specs.Fmt.{signed_decimal}
use Rattle.std.proofs.lemmas.Fmt.{parse-signed_decimal}
use Rattle.std.proofs.lemmas.Int.{to_z-of_z}
use Rattle.std.proofs.lemmas.Slice.Eq.{bytes_eq-Decides}
use Rattle.kmip_request_words.proofs.Numbers.{int_found, int_none, small_mag}
use Rattle.kmip_request_words.proofs.values.int_of.Goals as goal

pub returns-in_default : goal.returns-in_default
returns-in_default c =
    sym (int_none c.args.word.now (λ z fits is.
    c.in_default.not-Ok z (parse-signed_decimal w32 z c.args.word.now c.parse.result fits
    (small_mag z fits) (sym is) c.parse.ensures.value.0)))

pub returns-then-eq : goal.returns-then-eq
returns-then-eq c =
    let z = c.in-Ok.number in
    let parsed = rw c.in-Ok.is at c.parse.ensures.value.0 in
    let fits : FitsSigned w32 z = rw parsed.1 parsed.0.1 in
    let same : to_z w32 (of_z w32 z) ≡ z = to_z-of_z w32 z fits in
    let printed = (bytes_eq-Decides c.format.result.now c.args.word.now).0 (sym c.if-eq.ensures) in
    rw same (sym (int_found c.args.word.now z fits (sym parsed.1)
    (ap signed_decimal (sym same) ∙ sym c.format.ensures.text ∙ printed)))

pub returns-else-eq : goal.returns-else-eq
returns-else-eq c =
    let z = c.in-Ok.number in
    let parsed = rw c.in-Ok.is at c.parse.ensures.value.0 in
    let fits : FitsSigned w32 z = rw parsed.1 parsed.0.1 in
    let same : to_z w32 (of_z w32 z) ≡ z = to_z-of_z w32 z fits in
    sym (int_none c.args.word.now (λ y small is.
    let found = parse-signed_decimal w32 y c.args.word.now c.parse.result small (small_mag y small)
    (sym is) c.parse.ensures.value.0 in
    let here : z ≡ y = cc (found, c.in-Ok.is) in
    let printed = (bytes_eq-Decides c.format.result.now c.args.word.now).1
    (c.format.ensures.text ∙ ap signed_decimal (same ∙ here) ∙ is) in
    cc (c.if-eq.ensures, printed)))
