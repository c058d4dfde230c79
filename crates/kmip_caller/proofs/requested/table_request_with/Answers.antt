use Rattle.std.proofs.Common.{Some, None}
use Rattle.kmip_operations.specs.Calls.{request_of}
use Rattle.kmip_caller.proofs.Asked.{table_asks, none_of_table, words_of_table}
use Rattle.kmip_caller.proofs.requested.table_request_with.Goals as goal

pub returns-in_default : goal.returns-in_default
returns-in_default c =
    none_of_table c.args.order.now c.requires.tree c.requires.typed
    (words_of_table c.args.order.now.words c.args.words.now _ c.args.id.now None c.requires.hex
    c.requires.words c.requires.id (rw (c.in_default.is, c.bytes_in.ensures) at c.in_ok-call.ensures))

pub returns : goal.returns
returns c =
    table_asks c.args.order.now c.in-Some.call _ c.requires.tree
    (words_of_table c.args.order.now.words c.args.words.now _ c.args.id.now
    (Some (request_of c.in-Some.call)) c.requires.hex c.requires.words c.requires.id
    (rw (c.in-Some.is, c.bytes_in.ensures) at c.in_ok-call.ensures))
    c.in_ok-request.ensures
