use Rattle.kmip_request.specs.Tables.{request_message_of}
use Rattle.kmip_tags.specs.Tags.{REQUEST_MESSAGE}
use Rattle.kmip_request.specs.Values.{lent_message_val}
use Rattle.kmip_request.proofs.Sized.{no_length, form_of_length, size_of_length}
use Rattle.kmip_request.proofs.writing.message_size.Goals as goal

pub returns-clause-none : goal.returns-clause-none
returns-clause-none g c = no_length (request_message_of g.P.Item.shape) REQUEST_MESSAGE
    (lent_message_val c.args.version.now c.args.authentication.now c.args.operation.now
    (g.P.Item.val c.args.payload.now)) _ c.message_len.ensures

pub returns-clause-form : goal.returns-clause-form
returns-clause-form g c = form_of_length (request_message_of g.P.Item.shape)
    (lent_message_val c.args.version.now c.args.authentication.now c.args.operation.now
    (g.P.Item.val c.args.payload.now)) _ c.message_len.ensures

pub returns-clause-size : goal.returns-clause-size
returns-clause-size g c = size_of_length (request_message_of g.P.Item.shape)
    (lent_message_val c.args.version.now c.args.authentication.now c.args.operation.now
    (g.P.Item.val c.args.payload.now)) _ c.message_len.ensures
