-- Signing with a key that is made for it: which calls are made, in which order, and what comes of
-- them. Each finds the client as the one before it left it.
use Rattle.std.specs.Prelude.{◌≡◌, ℕ, pos, List, Option, Some, None, Result, Ok, Err, codes}
use Rattle.std.specs.List.{Contains}
use Rattle.kmip_link.specs.State.{LinkState}
use Rattle.kmip_enums.specs.declared.operation.Operation.{Operation}
use Rattle.kmip_enums.specs.declared.operation.Operation.TheVariants.{Sign}
use Rattle.kmip_request.specs.Requests.{query_request, key_pair_request, activate_request, sign_request}
use Rattle.kmip_response.specs.declared.payload.ResponsePayload.TheVariants as payloads
use Rattle.kmip_response.specs.declared.payloads.query.QueryResponsePayload.{QueryResponsePayload}
use Rattle.kmip_response.specs.declared.payloads.cryptography.SignResponsePayload.{SignResponsePayload}
use Rattle.kmip_client.specs.Calls.{Helped, identifiers_of, nothing_of}
use Rattle.kmip_client.specs.Client.{ClientState}
use Rattle.kmip_client.specs.declared.error.Error.{Error}
use Rattle.kmip_client.specs.declared.error.Error.TheVariants.{OutOfMemory}
use Rattle.kmip_example.specs.declared.signing.Signed.{Signed}

-- ---- the calls

abbrev pub Queries : {T : Type 0} → (T → LinkState) → ClientState T → ClientState T →
    Result QueryResponsePayload Error → Type 0
Queries state = Helped state query_request payloads.Query (λ payload. payload)

-- a pair of 2048 bits, with these names
abbrev pub CreatesPair : {T : Type 0} → (T → LinkState) → ClientState T → ClientState T →
    Result (List ℕ × List ℕ) Error → Type 0
CreatesPair state =
    Helped state (key_pair_request (pos 2048) (codes "issuing") (codes "issuing-public"))
    payloads.CreateKeyPair identifiers_of

abbrev pub Activates : {T : Type 0} → (T → LinkState) → List ℕ → ClientState T → ClientState T →
    Result (Unit {0}) Error → Type 0
Activates state key = Helped state (activate_request key) payloads.Activate nothing_of

abbrev pub Signs : {T : Type 0} → (T → LinkState) → List ℕ → List ℕ → ClientState T →
    ClientState T → Result SignResponsePayload Error → Type 0
Signs state key message = Helped state (sign_request key message) payloads.Sign (λ payload. payload)

-- ---- what comes before a call

-- The server says that it signs.
abbrev pub SaysItSigns : QueryResponsePayload → Type 0
SaysItSigns server =
    (operations : List Operation) × (server.operations ≡ Some operations) × Contains operations Sign

-- It was asked what it can do, and says that it signs.
pub record IsSigner {T : Type 0} (state : T → LinkState) (before now : ClientState T) : Type 0 where
  pub server : QueryResponsePayload
  pub queries : Queries state before now (Ok server)
  pub says : SaysItSigns server

-- Then it made a pair with these identifiers, of the private key and of the public key.
pub record HasPair {T : Type 0} (state : T → LinkState) (pair : List ℕ × List ℕ)
    (before now : ClientState T) : Type 0 where
  pub asked : ClientState T
  pub signer : IsSigner state before asked
  pub creates : CreatesPair state asked now (Ok pair)

-- And then it activated the private key.
pub record HasActivePair {T : Type 0} (state : T → LinkState) (pair : List ℕ × List ℕ)
    (before now : ClientState T) : Type 0 where
  pub created : ClientState T
  pub pair_made : HasPair state pair before created
  pub activates : Activates state pair.0 created now (Ok tt)

-- ---- how it ends

abbrev pub signed_by : List ℕ × List ℕ → SignResponsePayload → Signed
signed_by pair payload =
    record { private_key = pair.0; public_key = pair.1; signature = payload.signature_data }

-- The first error ends it, and no call is made after that.
pub data SignsWithNewKey {T : Type 0} (state : T → LinkState) (message : List ℕ)
    (before after : ClientState T) (result : Result (Option Signed) Error) : Type 0 where
  not_asked : (error : Error) → Queries state before after (Err error) → result ≡ Err error →
      SignsWithNewKey state message before after result
  -- the server does not say that it signs, and no other call is made
  no_signer : (server : QueryResponsePayload) → Queries state before after (Ok server) →
      (SaysItSigns server → ⊥) → result ≡ Ok None →
      SignsWithNewKey state message before after result
  -- memory ran out before the pair was asked for
  no_names : IsSigner state before after → result ≡ Err OutOfMemory →
      SignsWithNewKey state message before after result
  not_created : (asked : ClientState T) (error : Error) → IsSigner state before asked →
      CreatesPair state asked after (Err error) → result ≡ Err error →
      SignsWithNewKey state message before after result
  not_activated : (pair : List ℕ × List ℕ) (created : ClientState T) (error : Error) →
      HasPair state pair before created → Activates state pair.0 created after (Err error) →
      result ≡ Err error → SignsWithNewKey state message before after result
  not_signed : (pair : List ℕ × List ℕ) (active : ClientState T) (error : Error) →
      HasActivePair state pair before active → Signs state pair.0 message active after (Err error) →
      result ≡ Err error → SignsWithNewKey state message before after result
  -- the result is the two identifiers and the signature of the answers
  signed : (pair : List ℕ × List ℕ) (active : ClientState T) (payload : SignResponsePayload) →
      HasActivePair state pair before active →
      Signs state pair.0 message active after (Ok payload) →
      result ≡ Ok (Some (signed_by pair payload)) →
      SignsWithNewKey state message before after result
