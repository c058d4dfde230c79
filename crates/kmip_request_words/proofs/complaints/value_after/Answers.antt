use Rattle.kmip_request_words.proofs.NamedValues.{after_here, after_not}
use Rattle.kmip_request_words.proofs.complaints.value_after.Goals as goal

pub returns-in-Some : goal.returns-in-Some
returns-in-Some c =
    let found = c.in-Some.ensures.cases in
    after_here c.args.name.now c.args.word.now c.in-Some.value.now found.0 found.1.0 found.1.1 found.2

pub returns-in-None : goal.returns-in-None
returns-in-None c = after_not c.args.name.now c.args.word.now c.in-None.ensures.cases
