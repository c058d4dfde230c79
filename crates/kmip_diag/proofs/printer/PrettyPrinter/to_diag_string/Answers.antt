use Rattle.std.proofs.Common.{sym, ◌∙◌, ap, arith, ◌++◌, false}
use Rattle.kmip_wire.specs.Items.{item_tree}
use Rattle.kmip_diag.specs.Diagnostic.{diagnostic, shown_text, shown_within}
use Rattle.kmip_diag.proofs.Wire.{some_bytes, no_bytes}
use Rattle.kmip_diag.proofs.Showing.{diag_start, diag_item, diag_cut_off, diag_stop, diag_end_cut_off, diag_end}
use Rattle.kmip_diag.proofs.printer.PrettyPrinter.to_diag_string.Goals as goal
use Rattle.kmip_diag.proofs.printer.PrettyPrinter.to_diag_string.Goals.{then-is_cut_off+in_ok-push_str-2, else-is_cut_off}

pub loop-rest-init : goal.loop-rest-init
loop-rest-init c = (
  omega arith,
  omega arith,
  diag_start c.args.self.now c.args.bytes.now
      ∙ ap (λ x. x ++ shown_text c.args.self.now false (shown_within 1 c.args.bytes.now))
      (sym c.new-text.ensures),
)

pub loop-rest-preserved-in-Some : goal.loop-rest-preserved-in-Some
loop-rest-preserved-in-Some c =
    let l = c.loop-rest
    in (
      l.invariant.0,
      l.invariant.1,
      diag_item c.args.self.now (diagnostic c.args.self.now c.args.bytes.now)
          l.text l.rest.now l.level l.is_cut_off l.invariant.2
          (item_tree c.in-Some.item) c.print_item.new.text c.in-Some.after.now
          (some_bytes l.rest.now c.is_empty.result c.is_empty.ensures c.loop-rest-test.true)
          c.in-Some.ensures.tree c.in_ok-print_item.ensures c.in-Some.ensures.rest,
    )

pub returns-in_default-opening : goal.returns-in_default-opening
returns-in_default-opening c =
    let l = c.loop-rest
    in diag_stop c.args.self.now (diagnostic c.args.self.now c.args.bytes.now)
    l.text l.rest.now l.level l.is_cut_off l.invariant.2 c.push_str.new.self
    (some_bytes l.rest.now c.is_empty.result c.is_empty.ensures c.loop-rest-test.true)
    c.in_default.ensures.tree c.in_default-opening.ensures.token c.in_ok-push_str.ensures

pub loop-rest-preserved : goal.loop-rest-preserved
loop-rest-preserved c =
    let l = c.loop-rest
    in let step = diag_cut_off c.args.self.now
    (diagnostic c.args.self.now c.args.bytes.now)
    l.text l.rest.now l.level l.is_cut_off l.invariant.2 c.in-Some-opening.token c.push_token.new.text c.in-Some-opening.contents.now
    (some_bytes l.rest.now c.is_empty.result c.is_empty.ensures c.loop-rest-test.true)
    c.in_default.ensures.tree c.in-Some-opening.ensures.token c.in_ok-push_token.ensures c.in-Some-opening.ensures.contents
    in (omega arith, omega (arith, step.0), step.1)

pub returns : goal.returns
returns c =
    let l = c.loop-rest
    in let ended = no_bytes l.rest.now c.is_empty.result c.is_empty.ensures c.loop-rest-test.false
    in elim c.if-is_cut_off.branch [
      | then-is_cut_off+in_ok-push_str-2 w ↦ w.text-is
          ∙ diag_end_cut_off c.args.self.now
          (diagnostic c.args.self.now c.args.bytes.now)
          l.text l.rest.now l.level l.is_cut_off l.invariant.2 w.push_str-then-is_cut_off.new.self ended w.if-is_cut_off.true w.in_ok-push_str-2.ensures
      | else-is_cut_off w ↦ w.text-is ∙ diag_end c.args.self.now
          (diagnostic c.args.self.now c.args.bytes.now)
          l.text l.rest.now l.level l.is_cut_off l.invariant.2 ended w.if-is_cut_off.false
    ]
