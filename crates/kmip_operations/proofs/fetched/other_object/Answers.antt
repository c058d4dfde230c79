use Rattle.std.proofs.Common.{ℕ, List, take, Err, ap, ◌∙◌}
use Rattle.kmip_client.specs.declared.error.Error.TheVariants.{InternalError}
use Rattle.kmip_plain.specs.declared.payload.PayloadForm.TheVariants.{Tree as AsTree}
use Rattle.kmip_operations.specs.Answers.{tree_line}
use Rattle.kmip_operations.proofs.fetched.other_object.Goals as goal

pub returns-clause-line : goal.returns-clause-line
returns-clause-line c =
    c.in_ok-line.ensures.added
    ∙ ap (λ (text : List ℕ).
    tree_line AsTree (Err (InternalError text)) (take c.args.taken c.args.response.now))
    c.in_ok-text.ensures
