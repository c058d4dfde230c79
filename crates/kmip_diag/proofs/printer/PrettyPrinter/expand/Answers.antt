use Rattle.std.proofs.Common.{sym, ◌∙◌, arith}
use Rattle.kmip_diag.proofs.Wire.{some_bytes, no_bytes, other_text, same_text}
use Rattle.kmip_diag.proofs.Stacks.{reads_step, reads_no_token, reads_no_depth, reads_unclosed, reads_other, reads_end}
use Rattle.kmip_diag.proofs.Expanding.{expansion_where, none_where}
use Rattle.kmip_diag.proofs.printer.PrettyPrinter.expand.Goals as goal
use Rattle.kmip_diag.proofs.printer.PrettyPrinter.expand.Goals.{then-depth-gt0-via-then-depth-gt0, then-depth-gt0-via-else-depth-gt0+then-ne}

pub returns-in_default : goal.returns-in_default
returns-in_default c = λ e.
    let l = c.loop-rest
    in none_where c.args.self.now c.args.text.now
    (reads_no_token c.args.self.now c.args.text.now l.rest.now l.depth l.again l.lines l.invariant
    (some_bytes l.rest.now c.is_empty.result c.is_empty.ensures c.loop-rest-test.true) c.in_default.ensures.value)

pub returns-in_default-next_depth : goal.returns-in_default-next_depth
returns-in_default-next_depth c = λ e.
    let l = c.loop-rest
    in none_where c.args.self.now c.args.text.now
    (reads_no_depth c.args.self.now c.args.text.now l.rest.now l.depth l.again l.lines l.invariant
    c.in-Some.token c.in-Some.after.now c.in-Some.ensures.value (sym c.next_depth.ensures ∙ c.in_default-next_depth.is))

pub loop-rest-preserved : goal.loop-rest-preserved
loop-rest-preserved c =
    let l = c.loop-rest
    in reads_step c.args.self.now c.args.text.now l.rest.now l.depth l.again l.lines l.invariant
    c.in-Some.token c.in-Some.after.now c.in-Some-next_depth.next c.push_token.new.text c.push_line.new.text c.in-Some.ensures.value c.in-Some.ensures.range (sym c.next_depth.ensures ∙ c.in-Some-next_depth.is)
    c.in-Ok.ensures c.in-Ok-push_line.ensures

pub returns-then-depth-gt0 : goal.returns-then-depth-gt0
returns-then-depth-gt0 c = λ e.
    let l = c.loop-rest
    in let ended = no_bytes l.rest.now c.is_empty.result c.is_empty.ensures c.loop-rest-test.false
    in none_where c.args.self.now c.args.text.now (elim c.then-depth-gt0.branch [
      | then-depth-gt0-via-then-depth-gt0 w ↦ reads_unclosed c.args.self.now c.args.text.now l.rest.now l.depth l.again l.lines l.invariant ended w.if-depth-gt0.true
      | then-depth-gt0-via-else-depth-gt0+then-ne w ↦ reads_other c.args.self.now c.args.text.now l.rest.now l.depth l.again l.lines l.invariant ended (other_text w.as_str.result.now l.again c.args.text.now w.ne.result w.ne.ensures w.as_str.ensures.bytes w.if-ne.true)
    ])

pub returns : goal.returns
returns c =
    let l = c.loop-rest
    in expansion_where c.args.self.now c.args.text.now l.lines
    (reads_end c.args.self.now c.args.text.now l.rest.now l.depth l.again l.lines l.invariant
    (omega (arith, c.if-depth-gt0.false))
    (same_text c.as_str.result.now l.again c.args.text.now c.ne.result c.ne.ensures c.as_str.ensures.bytes c.if-ne.false))
