use Rattle.kmip_operation_words.specs.Calls.{operation_asked}
use Rattle.kmip_words.specs.Calls.{typed_call}
use Rattle.kmip_calls.proofs.Asked.{by_table}
use Rattle.kmip_calls.proofs.refusal.refusal_written.Goals as goal

pub returns-in_default : goal.returns-in_default
returns-in_default c =
    let asked = rw c.in_default.is at c.in_ok-why.ensures.none in
    by_table (typed_call c.args.words.now) (operation_asked c.args.words.now) asked
