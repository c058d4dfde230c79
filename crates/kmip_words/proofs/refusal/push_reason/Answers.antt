use Rattle.std.proofs.Common.{◌++◌, codes}
use Rattle.std.specs.Fmt.{decimal}
use Rattle.kmip_shape.specs.Enumerations.{variant_at}
use Rattle.kmip_enums.specs.ResultReasons.{result_reason_line, result_reason_variants}
use Rattle.kmip_words.specs.Refusal.{reason_name}
use Rattle.kmip_words.proofs.Added.{two_added}
use Rattle.kmip_words.proofs.refusal.push_reason.Goals as goal

pub returns-in_ok-push_reason_front-in-Some : goal.returns-in_ok-push_reason_front-in-Some
returns-in_ok-push_reason_front-in-Some c = rw c.in-Some.is
    (two_added c.push_number.result c.args.line.now c.push_reason_front.new.line c.push_number.new.line
    (codes ",\"reason\":{" ++ reason_name (variant_at result_reason_line result_reason_variants c.in-Some.reason))
    (codes "\"number\":" ++ (decimal c.in-Some.reason ++ codes "}"))
    (rw c.from_number.ensures at c.in_ok-push_reason_front-in-Some.ensures) c.push_number.ensures)
