use Rattle.std.proofs.Common.{None}
use Rattle.kmip_calls.proofs.Asked.{refusals, no_words, refuses_nothing}
use Rattle.kmip_calls.proofs.refusal.refusal_of_words.Goals as goal

pub returns-in-Some : goal.returns-in-Some
returns-in-Some c =
    let written = rw c.in-Some.is at c.in_ok-words.ensures in
    refusals c.refusal_written.result c.args.words.now c.in-Some.words written
    (rw c.as_slice.ensures at c.refusal_written.ensures)

pub returns-in_ok-of-in-None : goal.returns-in_ok-of-in-None
returns-in_ok-of-in-None c =
    let none = rw c.in-None.is at c.in_ok-words.ensures in
    (no_words c.args.words.now None none, refuses_nothing c.args.words.now c.in_ok-of-in-None.field-0 none)
