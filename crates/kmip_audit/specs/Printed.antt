-- A report as text.
use Rattle.std.specs.Prelude.{ℕ, ◌+◌, List, [], ◌∷◌, ◌++◌, Option, Some, None, codes}
use Rattle.std.specs.Fmt.{decimal}
use Rattle.kmip_enums.specs.Operations.{operation_line}
use Rattle.kmip_enums.specs.ResultReasons.{result_reason_line}
use Rattle.kmip_enums.specs.declared.operation.Operation.{Operation}
use Rattle.kmip_enums.specs.declared.result_reason.ResultReason.{ResultReason}
use Rattle.kmip_audit.specs.declared.outcomes.Outcome.{Outcome}
use Rattle.kmip_audit.specs.declared.outcomes.Outcome.TheVariants.{NoRequest, UnreadRequest, NoResponse, Malformed, Unread, NotOne, Failed, Pending, Undone, OtherOperation, NoPayload, Answered}
use Rattle.kmip_audit.specs.declared.reports.Entry.{Entry}
use Rattle.kmip_audit.specs.declared.reports.Report.{Report}
use Rattle.kmip_audit.specs.declared.reports.End.{End}
use Rattle.kmip_audit.specs.declared.reports.End.TheVariants.{Whole, Torn}

-- the words of an outcome
abbrev pub outcome_words : Outcome → List ℕ
outcome_words NoRequest = codes "no request"
outcome_words UnreadRequest = codes "unread request"
outcome_words NoResponse = codes "no response"
outcome_words Malformed = codes "malformed response"
outcome_words Unread = codes "unread response"
outcome_words NotOne = codes "not one item"
outcome_words (Failed reason) = codes "failed "
outcome_words Pending = codes "pending"
outcome_words Undone = codes "undone"
outcome_words (OtherOperation operation) = codes "other operation "
outcome_words NoPayload = codes "no payload"
outcome_words (Answered operation) = codes "answered "

abbrev pub reason_name : Option ResultReason → List ℕ
reason_name None = codes "none"
reason_name (Some reason) = (result_reason_line reason).name

abbrev pub operation_name : Option Operation → List ℕ
operation_name None = codes "none"
operation_name (Some operation) = (operation_line operation).name

-- the name that follows the words, of a reason or an operation
abbrev pub outcome_name : Outcome → List ℕ
outcome_name (Failed reason) = reason_name reason
outcome_name (OtherOperation operation) = operation_name operation
outcome_name (Answered operation) = (operation_line operation).name
outcome_name outcome = []

abbrev pub outcome_text : Outcome → List ℕ
outcome_text outcome = outcome_words outcome ++ outcome_name outcome

abbrev pub end_text : End → List ℕ
end_text Whole = codes "whole"
end_text (Torn at) = codes "torn at " ++ decimal at

-- a diagnostic, and `-` where there is none
abbrev pub shown_text : Option (List ℕ) → List ℕ
shown_text None = codes "-"
shown_text (Some text) = text

-- the three lines of an entry
abbrev pub entry_text : ℕ → Entry → List ℕ
entry_text number entry =
    codes "#" ++ (decimal number ++ (codes " " ++ (outcome_text entry.outcome
    ++ (codes "\n>~ "
    ++ (shown_text entry.request
    ++ (codes "\n<~ " ++ (shown_text entry.response ++ codes "\n")))))))

-- the lines of these entries, the first of which has this number
abbrev pub entries_text : ℕ → List Entry → List ℕ
entries_text number [] = []
entries_text number (entry ∷ entries) = entry_text number entry ++ entries_text (number + 1) entries

-- and then the ends of both streams
abbrev pub report_text : Report → List ℕ
report_text report =
    entries_text 1 report.entries
    ++ (codes "sent "
    ++ (end_text report.sent_end
    ++ (codes "\nreceived " ++ (end_text report.received_end ++ codes "\n"))))
