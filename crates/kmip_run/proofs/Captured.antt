-- The report on what a session sent and took.
use Rattle.std.proofs.Common.{◌≡◌, ℕ, List, take, ◌∙◌, ap, sym, subst, Result, Ok, Err, IfOk}
use Rattle.kmip_request.specs.declared.payload.RequestPayload.{RequestPayload}
use Rattle.kmip_client.specs.Session.{Turn, all_sent, all_taken}
use Rattle.kmip_audit.specs.Agreement.{IsReported}
use Rattle.kmip_audit.specs.Report.{report_of}
use Rattle.kmip_audit.specs.declared.reports.Report.{Report}
use Rattle.kmip_run.specs.Reported.{ReportsTurns}

reports_own : (payloads : List RequestPayload) (turns : List Turn) (rest : List ℕ)
    → IsReported payloads turns rest → ReportsTurns payloads turns
    (report_of (all_sent turns) (take (all_taken turns) rest))
reports_own payloads turns rest is = record { sent_end = is.sent_end; received_end = is.received_end; agree = is.agree }

pub reports_turns : {E : Type 0} (payloads : List RequestPayload) (turns : List Turn)
    (rest sent received : List ℕ) (result : Result Report E) →
    IfOk result (λ report. report ≡ report_of sent received) → sent ≡ all_sent turns
    → received ≡ take (all_taken turns) rest → IsReported payloads turns rest →
    IfOk result (λ report. ReportsTurns payloads turns report)
reports_turns payloads turns rest sent received (Ok report) made sent_is received_is is =
    let whole : report ≡ report_of (all_sent turns) (take (all_taken turns) rest) =
    made ∙ ap (λ (b : List ℕ). report_of b received) sent_is
    ∙ ap (λ (b : List ℕ). report_of (all_sent turns) b) received_is in
    subst (ReportsTurns payloads turns) (sym whole) (reports_own payloads turns rest is)
reports_turns payloads turns rest sent received (Err error) made sent_is received_is is = tt
