use Rattle.std.proofs.Common.{sym, Some, None}
use Rattle.kmip_operations.specs.Calls.{request_of}
use Rattle.kmip_calls.proofs.Asked.{no_words, typed_is, table_is}
use Rattle.kmip_calls.proofs.call.call_of_words.Goals as goal

pub returns-in_default : goal.returns-in_default
returns-in_default c =
    let none = rw c.in_default.is at c.in_ok-written.ensures in
    sym (no_words c.args.words.now _ none)

pub returns-in-Some-2 : goal.returns-in-Some-2
returns-in-Some-2 c =
    let written = rw c.in-Some.is at c.in_ok-written.ensures in
    let found = rw (c.in-Some-2.is, c.as_slice.ensures) at c.in_ok-call.ensures in
    sym (typed_is c.args.words.now _ c.in-Some.written c.in-Some-2.call written found)

pub returns-in-Some-3 : goal.returns-in-Some-3
returns-in-Some-3 c =
    let written = rw c.in-Some.is at c.in_ok-written.ensures in
    let none = rw (c.in_default-2.is, c.as_slice.ensures) at c.in_ok-call.ensures in
    let asked = rw (c.in-Some-3.is, c.as_slice-2.ensures) at c.in_ok-call-2.ensures in
    sym (table_is c.args.words.now _ c.in-Some.written (Some (request_of c.in-Some-3.call)) written none asked)

pub returns : goal.returns
returns c =
    let written = rw c.in-Some.is at c.in_ok-written.ensures in
    let none = rw (c.in_default-2.is, c.as_slice.ensures) at c.in_ok-call.ensures in
    let asked = rw (c.in-None.is, c.as_slice-2.ensures) at c.in_ok-call-2.ensures in
    sym (table_is c.args.words.now _ c.in-Some.written None written none asked)
