-- A report on what a session sent and took.
use Rattle.std.specs.Prelude.{◌≡◌, List, map}
use Rattle.kmip_request.specs.Message.{operation_of}
use Rattle.kmip_request.specs.declared.payload.RequestPayload.{RequestPayload}
use Rattle.kmip_client.specs.Session.{Turn}
use Rattle.kmip_audit.specs.Agreement.{AllAgree}
use Rattle.kmip_audit.specs.Skeletons.{outcomes_in}
use Rattle.kmip_audit.specs.declared.reports.End.TheVariants.{Whole}
use Rattle.kmip_audit.specs.declared.reports.Report.{Report}

-- Both streams end whole, and there is an entry for each request, reported as answered exactly
-- where the answer of its turn is a payload.
pub record ReportsTurns (payloads : List RequestPayload) (turns : List Turn)
    (report : Report) : Type 0 where
  pub sent_end : report.sent_end ≡ Whole
  pub received_end : report.received_end ≡ Whole
  pub agree : AllAgree (map operation_of payloads) (outcomes_in report)
      (map (λ turn. turn.outcome.answer) turns)
