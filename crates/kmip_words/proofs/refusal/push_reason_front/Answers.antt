use Rattle.std.proofs.Common.{codes}
use Rattle.kmip_words.specs.Refusal.{reason_name}
use Rattle.kmip_words.proofs.Added.{two_added}
use Rattle.kmip_words.proofs.refusal.push_reason_front.Goals as goal

pub returns : goal.returns
returns c =
    two_added c.push_reason_name.result c.args.line.now c.push_str.new.self c.push_reason_name.new.line
    (codes ",\"reason\":{") (reason_name c.args.reason)
    c.in_ok-push_str.ensures c.push_reason_name.ensures
