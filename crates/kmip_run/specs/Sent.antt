-- What a session sends, message by message.
use Rattle.std.specs.Prelude.{◌≡◌, ℕ, List, [], ◌∷◌, Option, Some, None, Result, Ok, Err, ◌⊎◌}
use Rattle.kmip_types.specs.declared.auth.CredentialType.{CredentialType}
use Rattle.kmip_request.specs.Fits.{FitsRequest}
use Rattle.kmip_request.specs.declared.payload.RequestPayload.{RequestPayload}
use Rattle.kmip_request_read.specs.declared.reading.RequestReadError.{RequestReadError}
use Rattle.kmip_request_read.specs.declared.reading.RequestReadError.TheVariants.{OutOfMemory}
use Rattle.kmip_client.specs.Session.{Turn}

abbrev pub with_message : Option (List ℕ) → List (List ℕ) → List (List ℕ)
with_message (Some message) later = message ∷ later
with_message None later = later

-- the canonical messages of the valid requests whose calls were made
abbrev pub messages_of : List Turn → List (List ℕ)
messages_of [] = []
messages_of (turn ∷ turns) = with_message turn.request (messages_of turns)

-- The payloads and the credential are such as Rust can hold.
abbrev pub AreHeld : List RequestPayload → Option CredentialType → Type 0
AreHeld [] credential = Unit {0}
AreHeld (payload ∷ payloads) credential = FitsRequest payload credential × AreHeld payloads credential

-- The text is the message of this request, which is one of these whose calls were made.
abbrev pub IsSent : RequestPayload → List ℕ → List Turn → List RequestPayload → Type 0
IsSent payload text [] payloads = ⊥
IsSent payload text (turn ∷ turns) [] = ⊥
IsSent payload text (turn ∷ turns) (p ∷ payloads) =
    ((p ≡ payload) × (turn.request ≡ Some text)) ⊎ IsSent payload text turns payloads

-- The reader gives this request and credential, or memory ran out.
abbrev pub GivesBack : RequestPayload → Option CredentialType →
    Result (RequestPayload × Option CredentialType) RequestReadError → Type 0
GivesBack payload credential (Ok read) = (read.0 ≡ payload) × (read.1 ≡ credential)
GivesBack payload credential (Err error) = error ≡ OutOfMemory
