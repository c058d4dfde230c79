use Rattle.kmip_tags.specs.Tags.{REQUEST_HEADER}
use Rattle.kmip_request.specs.Tables.{request_header}
use Rattle.kmip_request.specs.Values.{lent_header_val}
use Rattle.kmip_client.proofs.Operations.{no_length, form_of_length, size_of_length}
use Rattle.kmip_client.proofs.operation.header_size.Goals as goal

pub returns-clause-none : goal.returns-clause-none
returns-clause-none c = no_length request_header REQUEST_HEADER
    (lent_header_val c.args.version.now c.args.authentication.now) _ c.header_len.ensures

pub returns-clause-form : goal.returns-clause-form
returns-clause-form c = form_of_length request_header
    (lent_header_val c.args.version.now c.args.authentication.now) _ c.header_len.ensures

pub returns-clause-size : goal.returns-clause-size
returns-clause-size c = size_of_length request_header
    (lent_header_val c.args.version.now c.args.authentication.now) _ c.header_len.ensures
