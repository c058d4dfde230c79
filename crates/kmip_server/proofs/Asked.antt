-- A helper's call as a call of whichever helper.
use Rattle.std.proofs.Common.{◌≡◌, refl, ◌∙◌, ap, sym, subst, Result, Ok, Err, IfOk}
use Rattle.kmip_link.specs.State.{LinkState}
use Rattle.kmip_response.specs.Values.{response_payload_val}
use Rattle.kmip_response.specs.declared.payload.ResponsePayload.{ResponsePayload}
use Rattle.kmip_client.specs.Calls.{IsCall, part_of, Helped, called, not_made}
use Rattle.kmip_client.specs.Client.{ClientState}
use Rattle.kmip_client.specs.Outcome.{seen_by}
use Rattle.kmip_client.specs.declared.error.Error.{Error}
use Rattle.kmip_store.specs.declared.call.Call.{Call}
use Rattle.kmip_server_core.specs.Requests.{request_of}
use Rattle.kmip_server.specs.Joined.{helper_answer, part_for}
use Rattle.kmip_server.specs.Calls.{HelperRan, IsOfCall, answered_val, answered_seen}
use Rattle.kmip_server.specs.declared.answers.Answered.{Answered}

-- what is made of a helper's result is the helper's part of the payload
seen_part : {P R : Type 0} (call : Call) (variant : P → ResponsePayload) (part : P → R)
    (make : R → Answered) → ((p : P) → answered_val (make (part p))
    ≡ part_for call (response_payload_val (variant p))) →
    (answer : Result P Error) → answered_seen (part_of make (part_of part answer))
    ≡ helper_answer call (seen_by (λ payload. response_payload_val (variant payload)) answer)
seen_part call variant part make same (Ok payload) = ap Ok (same payload)
seen_part call variant part make same (Err error) = refl

-- and of the variant that is its own
own_variant : {P R : Type 0} (call : Call) (part : P → R) (make : R → Answered) →
    ((p : P) → IsOfCall call (make (part p))) → (answer : Result P Error)
    → IfOk (part_of make (part_of part answer)) (IsOfCall call)
own_variant call part make fits (Ok payload) = fits payload
own_variant call part make fits (Err error) = tt

pub asked_of : {T P R : Type 0} {state : T → LinkState} {before after : ClientState T} (call : Call)
    (variant : P → ResponsePayload) (part : P → R) (make : R → Answered) (result : Result R Error) →
    ((p : P) → answered_val (make (part p)) ≡ part_for call (response_payload_val (variant p))) →
    ((p : P) → IsOfCall call (make (part p))) →
    Helped state (request_of call) variant part before after result
    → HelperRan state call before after (part_of make result)
asked_of call variant part make result same fits (called answer is_call is) =
    HelperRan.called (seen_by (λ payload. response_payload_val (variant payload)) answer) is_call
    (ap (λ r. answered_seen (part_of make r)) is ∙ seen_part call variant part make same answer)
    (subst (λ r. IfOk (part_of make r) (IsOfCall call)) (sym is)
    (own_variant call part make fits answer))
asked_of call variant part make result same fits (not_made is stays) = HelperRan.not_made (ap (part_of make) is) stays

-- a call that is made with no memory of its own
pub asked_at_once : {T P : Type 0} {state : T → LinkState} {before after : ClientState T}
    (call : Call) (variant : P → ResponsePayload) (make : P → Answered) (result : Result P Error) →
    ((p : P) → answered_val (make p) ≡ part_for call (response_payload_val (variant p))) →
    ((p : P) → IsOfCall call (make p)) →
    IsCall state (request_of call) before after
    (seen_by (λ payload. response_payload_val (variant payload)) result)
    → HelperRan state call before after (part_of make result)
asked_at_once call variant make (Ok payload) same fits is_call =
    HelperRan.called _ is_call (ap Ok (same payload)) (fits payload)
asked_at_once call variant make (Err error) same fits is_call = HelperRan.called _ is_call refl tt
