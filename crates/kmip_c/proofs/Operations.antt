-- What C is told of a call of any operation.
use Rattle.std.proofs.Common.{◌≡◌, ℕ, ℤ, pos, Bool, List, length, Option, Some, None, Result, Ok, Err, IfOk, MatchOption, ap, subst, ◌∙◌}
use Rattle.kmip_client.specs.Operation.{TreeRequest, operation_bytes}
use Rattle.kmip_words.specs.Exchange.{Settings}
use Rattle.kmip_words.specs.declared.ending.Ending.{Ending}
use Rattle.kmip_operations.specs.Answers.{operation_json_line, operation_ending}
use Rattle.kmip_operations.specs.JsonLines.{IsTextLine}
use Rattle.kmip_c.specs.Calls.{id_of, no_settings, status_of}
use Rattle.kmip_exports.specs.Exports.{IsReported, room_with}
use Rattle.kmip_c.specs.Codes.{no_form}
use Rattle.kmip_c.specs.Operations.{form_of, AsksInBytes, AsksForNone, IsOperationRequested, IsOperationAnswered}
use Rattle.kmip_operations.specs.Calls.{Asks, request_of}
use Rattle.kmip_operations.specs.declared.call.OperationCall.{OperationCall}
use Rattle.kmip_operations.proofs.Asked.{with_id}

-- the ID may be any other

pub asked_of_texts : {E : Type 0} (result : Result (Option OperationCall) E)
    (name version id payload : List ℕ) →
    IfOk result (λ call. MatchOption call
    ((request : TreeRequest) → Asks name version (id_of id) payload request → ⊥)
    (λ call. Asks name version (id_of id) payload (request_of call))) →
    IfOk result (λ call. MatchOption call (AsksForNone name version payload)
    (λ call. Asks name version (id_of id) payload (request_of call)))
asked_of_texts (Ok (Some call)) name version id payload asks = asks
asked_of_texts (Ok None) name version id payload none = λ other request asks.
    none _ (with_id name version payload (id_of other) (id_of id) request asks.asks)
asked_of_texts (Err error) name version id payload given = tt

pub with_any_id : (name version id payload : List ℕ) (r : TreeRequest)
    → AsksInBytes name version id payload r → (other : List ℕ)
    → (request : TreeRequest) × AsksInBytes name version other payload request
with_any_id name version id payload r asks other = (
  record { operation = r.operation; version = r.version; id = id_of other; payload = r.payload },
  record {
    name_utf8 = asks.name_utf8;
    version_utf8 = asks.version_utf8;
    payload_utf8 = asks.payload_utf8;
    asks = with_id name version payload (id_of id) (id_of other) r asks.asks;
  },
)

-- ---- what is told

pub operation_requested : (settings : Option Settings) (s : Settings) (request : TreeRequest)
    (name version id payload before after : List ℕ) (result : ℤ) (bytes : Option (List ℕ)) →
    settings ≡ Some s → AsksInBytes name version id payload request
    → bytes ≡ operation_bytes request s.credential
    → IsReported bytes no_form before result after →
    IsOperationRequested settings name version id payload before result after
operation_requested settings s request name version id payload before after result bytes is asks made reported =
    let P : Option (List ℕ) → Type 0 = λ x. IsReported x no_form before result after in
    IsOperationRequested.asked s is request asks (subst P made reported)

pub operation_answered : (request : TreeRequest)
    (name version id payload response before after line : List ℕ) (plain : Bool) (ending : Ending)
    (status told : ℤ) →
    AsksInBytes name version id payload request → ending ≡ operation_ending no_settings request response
    → line ≡ operation_json_line (form_of plain) no_settings request response → IsTextLine line →
    status ≡ status_of ending → told ≡ pos (length line) → after ≡ room_with line before
    → IsOperationAnswered name version id payload response plain status before told after
operation_answered request name version id payload response before after line plain ending status told asks e l json s n w =
    IsOperationAnswered.answered request asks (s ∙ ap status_of e) (subst IsTextLine l json)
    (n ∙ ap (λ (x : List ℕ). pos (length x)) l, w ∙ ap (λ (x : List ℕ). room_with x before) l)
