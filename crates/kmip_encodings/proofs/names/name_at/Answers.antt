use Rattle.std.proofs.Common.{[], get_or, sym, ap, ◌∙◌, arith}
use Rattle.std.proofs.lemmas.List.{get_or-map}
use Rattle.kmip_encodings.proofs.TheLines.{name_of}
use Rattle.kmip_encodings.proofs.names.name_at.Goals as goal

pub returns : goal.returns
returns c =
    sym (get_or-map (λ n. n.now) c.line_names.result.now c.args.index _ []
    (omega (arith, c.requires, c.line_names.ensures.length)))
    ∙ ap (λ l. get_or l c.args.index []) c.line_names.ensures.table
    ∙ name_of c.args.index [] c.requires
