use Rattle.kmip_wire.specs.Items.{item_tree}
use Rattle.kmip_diag.proofs.Wire.{some_bytes, no_bytes}
use Rattle.kmip_faults.proofs.Showing.{step_ended, step_item, step_stopped, step_cut_off}
use Rattle.kmip_faults.proofs.steps.step_at.Goals as goal

pub returns-then-is_empty : goal.returns-then-is_empty
returns-then-is_empty c =
    let b = c.args.bytes.now in
    let none = no_bytes b c.is_empty.result c.is_empty.ensures c.if-is_empty.true in
    (none, step_ended c.args.level b none)

pub returns-in-Some : goal.returns-in-Some
returns-in-Some c =
    let b = c.args.bytes.now in
    step_item c.args.level b (some_bytes b c.is_empty.result c.is_empty.ensures c.if-is_empty.false)
    (item_tree c.in-Some.item)
    c.in-Some.after.now c.requires c.in-Some.ensures.tree c.in-Some.ensures.rest

pub returns-in-Some-opening_tag : goal.returns-in-Some-opening_tag
returns-in-Some-opening_tag c =
    let b = c.args.bytes.now in
    step_cut_off c.args.level b
    (some_bytes b c.is_empty.result c.is_empty.ensures c.if-is_empty.false)
    _ c.contents.result.now c.in_default.ensures.tree c.in-Some-opening_tag.ensures.tag c.contents.ensures

pub returns-in-None : goal.returns-in-None
returns-in-None c =
    let b = c.args.bytes.now in
    step_stopped c.args.level b
    (some_bytes b c.is_empty.result c.is_empty.ensures c.if-is_empty.false)
    c.in_default.ensures.tree c.in-None.ensures.tag
