use Rattle.std.proofs.Common.{◌++◌, ap, ◌∙◌}
use Rattle.kmip_pem.specs.Written.{body_text}
use Rattle.kmip_pem.proofs.Loops.{joined_text, written_by}
use Rattle.kmip_pem.proofs.writing.write.Goals as goal

pub returns : goal.returns
returns c =
    let digits = c.as_slice.ensures ∙ c.in_ok-digits.ensures in
    let body = c.in_ok-push_lines.ensures ∙ ap (λ ds. c.push_boundary.new.out ++ body_text ds) digits in
    joined_text _ _ _ _ _ _ _ c.in_ok-text.ensures c.in_ok-push_boundary.ensures body c.in_ok-push_boundary-2.ensures
    ∙ written_by c.args.label c.args.bytes.now
