use Rattle.std.proofs.Common.{sym, ◌∙◌}
use Rattle.kmip_operations.proofs.Asked.{no_payload}
use Rattle.kmip_operations.proofs.call.payload_of.Goals as goal

pub returns-then-has_empty_identifier : goal.returns-then-has_empty_identifier
returns-then-has_empty_identifier c =
    λ t. no_payload c.args.text.now c.in-Some.payload t (rw c.in-Some.is at c.in_ok-payload.ensures)
    (sym c.has_empty_identifier.ensures ∙ c.if-has_empty_identifier.true)
