use Rattle.std.proofs.Common.{subst, List, ℕ, Option}
use Rattle.kmip_wire.specs.Found.{GivesBytes}
use Rattle.kmip_words.specs.Exchange.{request_asked}
use Rattle.kmip_words.proofs.Replies.{message_is}
use Rattle.kmip_words.proofs.offline.request_of.Goals as goal

pub returns : goal.returns
returns c =
    let P : Option (List ℕ) → Type 0 = λ bytes. GivesBytes c.write_request.result bytes in
    c.bytes_if_any.ensures (request_asked c.args.call.now c.args.settings.now.credential).message
    (subst P
    (message_is c.in_ok-request.request c.args.call.now _ c.args.settings.now.credential
    c.in_ok-request.ensures c.authentication.ensures) c.write_request.ensures.bytes)
