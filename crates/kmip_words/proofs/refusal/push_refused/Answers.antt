use Rattle.std.proofs.Common.{◌++◌, codes}
use Rattle.kmip_shape.specs.Shown.{text_in_style}
use Rattle.kmip_shape.specs.declared.style.Style.TheVariants.{Json}
use Rattle.kmip_words.specs.Refusal.{failure_members}
use Rattle.kmip_words.proofs.Added.{three_added, when_added}
use Rattle.kmip_words.proofs.refusal.push_refused.Goals as goal

pub returns : goal.returns
returns c =
    three_added c.push_str.result c.args.line.now c.push_string_after.new.line c.push_failure_members.new.line c.push_str.new.self
    (c.args.front.now ++ text_in_style c.args.text.now Json)
    (failure_members c.args.response.now) (codes "}\n")
    c.in_ok-push_string_after.ensures c.in_ok-push_failure_members.ensures
    (when_added c.push_str.result c.push_str.new.self
    (c.push_failure_members.new.line ++ codes "}\n") c.push_failure_members.new.line c.push_str.ensures)
