use Rattle.kmip_operations.proofs.AnswerLines.{tree_told, objection_told}
use Rattle.kmip_operations.proofs.answer.push_payload_line.Goals as goal

pub returns-in_ok-push_objection-in-Some : goal.returns-in_ok-push_objection-in-Some
returns-in_ok-push_objection-in-Some c =
    objection_told c.args.form _ c.args.tree.now c.in-Some.why.now c.args.first.now c.args.line.now.items
    c.push_objection.new.line.items c.in-Some.ensures c.in_ok-push_objection-in-Some.ensures.line
    c.in_ok-push_objection-in-Some.ensures.json

pub returns-in_ok-push_tree-in-None : goal.returns-in_ok-push_tree-in-None
returns-in_ok-push_tree-in-None c =
    tree_told c.args.form _ c.args.tree.now c.args.first.now c.args.line.now.items c.push_tree.new.line.items
    c.in-None.ensures c.in_ok-push_tree-in-None.ensures.line
    (c.lines_are_json.ensures.tree c.args.form c.args.tree.now c.args.first.now c.ranges-in-None.ensures)
    c.in_ok-push_tree-in-None.ensures.utf8
