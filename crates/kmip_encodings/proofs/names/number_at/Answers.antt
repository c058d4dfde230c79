use Rattle.std.proofs.Common.{get_or, ap, ◌∙◌}
use Rattle.kmip_encodings.proofs.TheLines.{number_of}
use Rattle.kmip_encodings.proofs.names.number_at.Goals as goal

pub returns : goal.returns
returns c =
    ap (λ l. get_or l c.args.index 0) c.line_numbers.ensures.table
    ∙ number_of c.args.index 0 c.requires
