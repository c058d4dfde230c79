use Rattle.std.proofs.Common.{◌==◌, get_or, ap, ◌∙◌}
use Rattle.kmip_encodings.proofs.TheLines.{tag_in}
use Rattle.kmip_encodings.proofs.names.has_tag.Goals as goal

pub returns : goal.returns
returns c =
    ap (λ n. get_or c.line_tags.result.now c.args.index 0 == n) c.number.ensures.number
    ∙ ap (λ l. get_or l c.args.index 0 == c.args.tag) c.line_tags.ensures.table
    ∙ ap (λ t. t == c.args.tag) (tag_in c.args.index 0 c.requires)
