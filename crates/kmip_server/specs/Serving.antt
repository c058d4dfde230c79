-- What is known of the responses that serving makes.
use Rattle.std.specs.Prelude.{◌≡◌, ℕ, ℤ, List, [], ◌∷◌, Some}
use Rattle.kmip_response_write.specs.Settled.{response_bytes, IsHeld as IsHeldResponse}
use Rattle.kmip_response.specs.declared.message.ResponseMessage.{ResponseMessage}
use Rattle.kmip_server_core.specs.Served.{served, asks}
use Rattle.kmip_server.specs.Machine.{Run, first_for, serve}

-- the response to a message, where the server stands so
abbrev pub message_to : ℤ → Run → List ℕ → ResponseMessage
message_to time run b =
    (served run.objects b (first_for (asks run.objects b) run.given) time).message

-- where it has a wire form, it is a message that Rust can hold
abbrev pub IsHeldTo : ℤ → Run → List ℕ → Type 0
IsHeldTo time run b = (bytes : List ℕ) → response_bytes (message_to time run b) ≡ Some bytes →
    IsHeldResponse (message_to time run b)

-- so it is for each of these messages in order
abbrev pub AreResponsesHeld : ℤ → Run → List (List ℕ) → Type 0
AreResponsesHeld time run [] = Unit {0}
AreResponsesHeld time run (b ∷ bs) =
    IsHeldTo time run b × AreResponsesHeld time (serve time run b) bs
