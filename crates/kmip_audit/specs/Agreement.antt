-- What is reported of exchanges, compared with what a client returns.
use Rattle.std.specs.Prelude.{◌≡◌, ◌↔◌, ℕ, List, [], ◌∷◌, map, take, Option, Ok}
use Rattle.kmip_shape.specs.Val.{Val}
use Rattle.kmip_enums.specs.declared.operation.Operation.{Operation}
use Rattle.kmip_types.specs.declared.auth.CredentialType.{CredentialType}
use Rattle.kmip_request.specs.Fits.{FitsRequest}
use Rattle.kmip_request.specs.Message.{operation_of}
use Rattle.kmip_request.specs.declared.payload.RequestPayload.{RequestPayload}
use Rattle.kmip_request_read.specs.Matched.{IsMatched}
use Rattle.kmip_client.specs.Outcome.{Answer}
use Rattle.kmip_client.specs.Session.{Turn, all_sent, all_taken}
use Rattle.kmip_audit.specs.Report.{report_of}
use Rattle.kmip_audit.specs.Skeletons.{outcomes_in}
use Rattle.kmip_audit.specs.declared.outcomes.Outcome.{Outcome}
use Rattle.kmip_audit.specs.declared.outcomes.Outcome.TheVariants.{Answered}
use Rattle.kmip_audit.specs.declared.reports.End.TheVariants.{Whole}

-- The outcome is `Answered` exactly where the client's answer is a payload.
abbrev pub Agree : Operation → Outcome → Answer → Type 0
Agree operation outcome answer =
    (outcome ≡ Answered operation) ↔ ((payload : Val) × (answer ≡ Ok payload))

-- There is one outcome and one answer for each operation, and the two agree.
abbrev pub AllAgree : List Operation → List Outcome → List Answer → Type 0
AllAgree [] [] [] = Unit {0}
AllAgree (operation ∷ operations) (outcome ∷ outcomes) (answer ∷ answers) =
    Agree operation outcome answer × AllAgree operations outcomes answers
AllAgree operations outcomes answers = ⊥

-- Each request is matched, and one that Rust can hold.
abbrev pub AreMatched : List RequestPayload → Option CredentialType → Type 0
AreMatched [] credential = Unit {0}
AreMatched (payload ∷ payloads) credential =
    (FitsRequest payload credential × IsMatched payload) × AreMatched payloads credential

-- The report on what the turns of these requests sent and took agrees with their answers.
pub record IsReported (payloads : List RequestPayload) (turns : List Turn)
    (rest : List ℕ) : Type 0 where
  pub sent_end : (report_of (all_sent turns) (take (all_taken turns) rest)).sent_end ≡ Whole
  pub received_end :
      (report_of (all_sent turns) (take (all_taken turns) rest)).received_end ≡ Whole
  pub agree : AllAgree (map operation_of payloads)
      (outcomes_in (report_of (all_sent turns) (take (all_taken turns) rest)))
      (map (λ turn. turn.outcome.answer) turns)
