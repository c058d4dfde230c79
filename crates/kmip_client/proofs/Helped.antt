-- From a request that was to be made to what a helper did.
use Rattle.std.proofs.Common.{◌≡◌, refl, ◌∙◌, ap, subst, Result, Ok, Err, IfOk}
use Rattle.kmip_shape.specs.Val.{Val}
use Rattle.kmip_link.specs.State.{LinkState}
use Rattle.kmip_enums.specs.declared.operation.Operation.{Operation}
use Rattle.kmip_request.specs.Message.{operation_of}
use Rattle.kmip_request.specs.declared.payload.RequestPayload.{RequestPayload}
use Rattle.kmip_response.specs.Values.{response_payload_val}
use Rattle.kmip_response.specs.declared.payload.ResponsePayload.{ResponsePayload}
use Rattle.kmip_client.specs.declared.error.Error.{Error}
use Rattle.kmip_client.specs.Client.{ClientState}
use Rattle.kmip_client.specs.Outcome.{seen_by}
use Rattle.kmip_client.specs.Calls.{IsCall, Helped, called, not_made, Asked, asked, not_asked, part_of}

pub seen_same : {P : Type 0} (f g : P → Val) (answer : Result P Error)
    → ((payload : P) → f payload ≡ g payload) → seen_by f answer ≡ seen_by g answer
seen_same f g (Ok payload) same = ap (λ val. Ok val) (same payload)
seen_same f g (Err error) same = refl

-- the whole payload is a part of itself
pub itself : {P : Type 0} (answer : Result P Error) → answer ≡ part_of (λ payload. payload) answer
itself (Ok payload) = refl
itself (Err error) = refl

pub helped : {T P R E : Type 0} {state : T → LinkState} {before after : ClientState T}
    (request : Result RequestPayload E) (expected : RequestPayload) (val : Operation → P → Val)
    (variant : P → ResponsePayload) (part : P → R)
    (answer : Result P Error) (result : Result R Error) → IfOk request (λ made. made ≡ expected)
    → ((payload : P) → val (operation_of expected) payload
    ≡ response_payload_val (variant payload)) → result ≡ part_of part answer →
    Asked state request val before after answer → Helped state expected variant part before after result
helped {state = state} {before = before}
    {after = after} request expected val variant part answer result makes same is
    (asked payload was call) =
    let made : payload ≡ expected = subst (λ r. IfOk r (λ made. made ≡ expected)) was makes in
    let here : IsCall state expected before after (seen_by (val (operation_of expected)) answer) =
    subst (λ q. IsCall state q before after (seen_by (val (operation_of q)) answer)) made call in
    called answer (subst (λ seen. IsCall state expected before after seen)
    (seen_same (val (operation_of expected))
    (λ payload. response_payload_val (variant payload)) answer same) here) is
helped request expected val variant part answer result makes same is (not_asked was kept) =
    not_made (is ∙ ap (part_of part) was) kept
