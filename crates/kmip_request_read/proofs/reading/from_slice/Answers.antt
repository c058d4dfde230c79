use Rattle.std.specs.Prelude.{◌≡◌, Err, option_map}
use Rattle.std.proofs.Common.{rules, sym, ◌∙◌, ap}
use Rattle.std.proofs.lemmas.Result.{err_from_is_err_and}
use Rattle.kmip_wire.specs.Items.{item_tree}
use Rattle.kmip_request.specs.Message.{credential_of, request_bytes}
use Rattle.kmip_request_read.proofs.Canonical.{err_same, matched, none_canonical, other_parts, read_parts}
use Rattle.kmip_request_read.proofs.Read.{no_item, refusal, none_read, other_read, plain_read}
use Rattle.kmip_request_read.proofs.reading.from_slice.Goals as goal

pub returns-in_err-message-clause-not_canonical : goal.returns-in_err-message-clause-not_canonical
returns-in_err-message-clause-not_canonical c = λ is.
    let p = err_from_is_err_and c.from_residual.result c.from_residual.ensures.1 in
    let none = c.in_err-message.ensures.not_canonical (ap Err (sym p.2 ∙ err_same c.from_residual.result _ _ p.1 is)) in
    none_canonical (item_tree c.in-Some.item) c.args.bytes.now c.in-Some.ensures.parses (λ val h. none val (h.1, h.2))

pub returns-in_err-message-clause-unread : goal.returns-in_err-message-clause-unread
returns-in_err-message-clause-unread c = λ is.
    let p = err_from_is_err_and c.from_residual.result c.from_residual.ensures.1 in
    none_read (item_tree c.in-Some.item) c.args.bytes.now c.in-Some.ensures.parses
    (c.in_err-message.ensures.not_canonical
    (ap Err (refusal c.from_residual.result p.0 _ p.1 p.2 c.in_err-message.ensures.never is)))

pub returns-then-not-is_client_message-clause-unread : goal.returns-then-not-is_client_message-clause-unread
returns-then-not-is_client_message-clause-unread c = λ is.
    other_read c.in_ok-message.message
    (item_tree c.in-Some.item)
    c.args.bytes.now c.in-Some.ensures.parses c.in_ok-message.ensures.ok
    (c.is_client_message.ensures.other c.if-not-is_client_message.true)

pub returns-in_default-clause-unread : goal.returns-in_default-clause-unread
returns-in_default-clause-unread c = λ is. no_item c.args.bytes.now c.in_default.ensures.parses

pub returns-clause-value : goal.returns-clause-value
returns-clause-value c =
    plain_read c.in_ok-message.message c.parts-payload.result.0 c.parts-payload.result.1
    (item_tree c.in-Some.item)
    c.args.bytes.now c.parts-payload.ensures c.in-Some.ensures.parses c.in_ok-message.ensures.ok

pub returns-then-not-is_client_message-clause-not_canonical : goal.returns-then-not-is_client_message-clause-not_canonical
returns-then-not-is_client_message-clause-not_canonical c = λ is.
    other_parts c.in_ok-message.message
    (item_tree c.in-Some.item)
    c.args.bytes.now c.in-Some.ensures.parses c.in_ok-message.ensures.ok
    (c.is_client_message.ensures.other c.if-not-is_client_message.true)

pub returns-clause-ok : goal.returns-clause-ok
returns-clause-ok c =
    let m : c.map.result ≡ option_map credential_of c.parts-payload.result.1 = search rules in
    let r = matched c.parts-payload.result.0 c.parts-payload.result.1 c.in_ok-message.message
    (item_tree c.in-Some.item)
    c.args.bytes.now c.parts-payload.ensures c.in-Some.ensures.parses c.in_ok-message.ensures.ok in
    (r.0, ap (λ d. request_bytes c.parts-payload.result.0 d) m ∙ r.1)

pub returns-clause-back : goal.returns-clause-back
returns-clause-back c = λ p d h matched e.
    let m : c.map.result ≡ option_map credential_of c.parts-payload.result.1 = search rules in
    let r = read_parts p c.parts-payload.result.0 c.parts-payload.result.1 d c.in_ok-message.message
    (item_tree c.in-Some.item)
    c.args.bytes.now c.parts-payload.ensures c.in_ok-message.ensures.ok h matched e c.in-Some.ensures.parses in
    (r.0, m ∙ r.1)
