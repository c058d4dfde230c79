-- The request of a call is read as it.
use Rattle.std.specs.Prelude.{◌≡◌, ℕ, List, Option, Some, Result, Ok, Err, IfOk}
use Rattle.kmip_shape.specs.Fits.{Fits}
use Rattle.kmip_types.specs.declared.auth.CredentialType.{CredentialType}
use Rattle.kmip_request.specs.declared.payload.RequestPayload.{RequestPayload}
use Rattle.kmip_request.specs.Fits.{FitsCredential, FitsRequest}
use Rattle.kmip_request.specs.Message.{request_bytes}
use Rattle.kmip_request.specs.Tables.{request_payload}
use Rattle.kmip_request.specs.Values.{request_payload_val}
use Rattle.kmip_request_read.specs.Matched.{IsMatched}
use Rattle.kmip_request_read.specs.Reading.{request_for, request_read}
use Rattle.kmip_store.specs.declared.call.Call.{Call}
use Rattle.kmip_server_core.specs.Requests.{request_of}
use Rattle.kmip_server.specs.Joined.{IsReadBack}

pub reads_of : {E : Type 0} (call : Call) (credential : Option CredentialType) (result : Result (Unit {0}) E) →
    ((p : RequestPayload) (c : Option CredentialType) (b : List ℕ) → FitsRequest p c → IsMatched p
    → request_bytes p c ≡ Some b → request_read b ≡ Some (request_for p)) →
    ((call : Call) → IsMatched (request_of call)) → FitsCredential credential
    → IfOk result (λ _. Fits request_payload (request_payload_val (request_of call)))
    → IfOk result (λ _. IsReadBack call credential)
reads_of call credential (Ok x) read matched texts fits =
    λ b valid. read (request_of call) credential b (fits, texts) (matched call) valid
reads_of call credential (Err e) read matched texts fits = tt
