use Rattle.std.proofs.Common.{◌++◌, codes, Some}
use Rattle.kmip_shape.specs.Shown.{text_in_style}
use Rattle.kmip_shape.specs.declared.style.Style.TheVariants.{Json}
use Rattle.kmip_diag.specs.Diagnostic.{diagnostic}
use Rattle.kmip_words.specs.Refusal.{failure_members}
use Rattle.kmip_words.proofs.Added.{two_added}
use Rattle.kmip_words.proofs.refusal.push_refusal.Goals as goal

pub returns : goal.returns
returns c =
    two_added c.push_failure_members.result c.args.line.now c.push_string_after.new.line c.push_failure_members.new.line
    (codes ",\"response\":" ++ text_in_style (diagnostic (Some 0x4200) c.args.response.now) Json)
    (failure_members c.args.response.now)
    (rw (c.as_str.ensures.bytes, c.in_ok-skeleton.ensures) at c.in_ok-push_string_after.ensures)
    c.push_failure_members.ensures
