use Rattle.std.proofs.Common.{ℕ, List, ◌++◌, ap, ◌∙◌}
use Rattle.kmip_operations.proofs.AnswerLines.{error_added}
use Rattle.kmip_operations.proofs.answer.push_answer.Goals as goal

pub returns-in_ok-extend_from_slice-in-Err : goal.returns-in_ok-extend_from_slice-in-Err
returns-in_ok-extend_from_slice-in-Err c =
    error_added c.args.form _ c.args.answer c.in-Err.error c.args.first.now
    c.in_ok-ending-in-Err.ending _ c.args.line.now.items c.extend_from_slice.new.self.items c.in-Err.is
    (rw c.new-text.ensures at c.in_ok-ending-in-Err.ensures c.args.form)
    (c.in_ok-extend_from_slice-in-Err.ensures.items ∙ ap (λ (t : List ℕ). c.args.line.now.items ++ t)
    (c.as_bytes.ensures.value ∙ c.as_str.ensures.bytes))
