-- A session over messages that stand whole, one after the other.
use Rattle.std.specs.Prelude.{◌≡◌, ℕ, List, [], ◌∷◌, length, drop, Option}
use Rattle.kmip_types.specs.declared.auth.CredentialType.{CredentialType}
use Rattle.kmip_request.specs.Message.{IsValidRequest, operation_of}
use Rattle.kmip_request.specs.declared.payload.RequestPayload.{RequestPayload}
use Rattle.kmip_client.specs.Message.{message_at, Whole}
use Rattle.kmip_client.specs.Outcome.{Answer, read_answer}

-- Each request is valid, and the bytes begin with one message for each: with the head of a
-- structure, within the limit and as long as the head says.
abbrev pub AreServed : List RequestPayload → Option CredentialType → Option ℕ → List (List ℕ) →
    List ℕ → Type 0
AreServed [] credential limit [] rest = Unit {0}
AreServed [] credential limit (m ∷ messages) rest = ⊥
AreServed (payload ∷ payloads) credential limit [] rest = ⊥
AreServed (payload ∷ payloads) credential limit (m ∷ messages) rest =
    IsValidRequest payload credential × (message_at rest limit ≡ Whole m) ×
    AreServed payloads credential limit messages (drop (length m) rest)

-- each message as the answer to its request, whether or not its contents parse
abbrev pub answers_to : List RequestPayload → List (List ℕ) → List Answer
answers_to (payload ∷ payloads) (m ∷ messages) =
    read_answer (operation_of payload) m ∷ answers_to payloads messages
answers_to payloads messages = []
