use Rattle.kmip_request.specs.Tables.{request_message_of}
use Rattle.kmip_tags.specs.Tags.{REQUEST_MESSAGE}
use Rattle.kmip_request.specs.Values.{lent_message_val}
use Rattle.kmip_request.proofs.Sized.{bytes_appended}
use Rattle.kmip_request.proofs.writing.write_whole.Goals as goal

pub returns : goal.returns
returns g c = bytes_appended (request_message_of g.P.Item.shape) REQUEST_MESSAGE
    (lent_message_val c.args.version.now c.args.authentication.now c.args.operation.now
    (g.P.Item.val c.args.payload.now))
    c.args.out.now c.write_parts.new.out _ c.requires.form c.requires.empty c.write_parts.ensures
