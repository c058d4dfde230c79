use Rattle.std.proofs.Common.{◌≡◌, ◌%◌, ◌∙◌, List, ℕ, Option, OnOk, Some, length, subst, sym}
use Rattle.kmip_client.specs.Operation.{tree_request}
use Rattle.kmip_client.proofs.Operations.{aligned, sent_is, too_deep}
use Rattle.kmip_client.proofs.operation.OperationRequestCallRequest.write.Goals as goal

pub write_message-requires : goal.write_message-requires
write_message-requires c =
    let P : List ℕ → Type 0 = λ b. length b % 8 ≡ 0 in
    subst P (sym c.as_slice.ensures)
    (aligned c.args.self.now.payload.now c.in_ok-payload.payload c.in_ok-payload.ensures)

pub returns-clause-ok : goal.returns-clause-ok
returns-clause-ok c =
    let P : Option (List ℕ) → Type 0 =
    λ bytes. OnOk c.write_message.result (bytes ≡ Some c.write_message.new.out.bytes) in
    subst P
    (sent_is (tree_request c.args.self.now) c.args.authentication.now c.number-version.result c.in_ok-payload.payload c.as_slice.result.now (sym c.if-not-is_within.false ∙ c.is_within.ensures) c.number-version.ensures c.in_ok-payload.ensures c.as_slice.ensures)
    c.write_message.ensures.ok

pub returns-clause-no_form : goal.returns-clause-no_form
returns-clause-no_form c = λ is.
    sym
    (sent_is (tree_request c.args.self.now) c.args.authentication.now c.number-version.result c.in_ok-payload.payload c.as_slice.result.now (sym c.if-not-is_within.false ∙ c.is_within.ensures) c.number-version.ensures c.in_ok-payload.ensures c.as_slice.ensures)
    ∙ c.write_message.ensures.no_form is

pub returns-then-not-is_within-clause-no_form : goal.returns-then-not-is_within-clause-no_form
returns-then-not-is_within-clause-no_form c = λ is.
    too_deep (tree_request c.args.self.now) _ (sym c.if-not-is_within.true ∙ c.is_within.ensures)
