use Rattle.std.proofs.Common.{◌+◌, ◌∙◌, ap, sym, length}
use Rattle.std.specs.Prelude.{option_map}
use Rattle.kmip_enums.specs.Operations.{operation_line}
use Rattle.kmip_request.specs.Values.{lent_header_val}
use Rattle.kmip_client.proofs.Operations.{message_ok, message_no_form, id_without_bytes}
use Rattle.kmip_client.proofs.operation.write_message.Goals as goal

pub returns-in_default-id_len-clause-no_form : goal.returns-in_default-id_len-clause-no_form
returns-in_default-id_len-clause-no_form c = λ is.
    id_without_bytes _ (operation_line c.args.operation).number (option_map (λ b. b.now) c.args.id) c.args.payload.now
    (sym c.id_len.ensures ∙ c.in_default-id_len.is)

pub returns-in_default-contents_lens-clause-no_form : goal.returns-in_default-contents_lens-clause-no_form
returns-in_default-contents_lens-clause-no_form c = λ is.
    message_no_form (lent_header_val c.args.version.now c.args.authentication.now)
    (operation_line c.args.operation).number (option_map (λ b. b.now) c.args.id) c.args.payload.now c.in-Some-id_len.before c.in-Some.header c.in-Some.ensures.form (sym c.id_len.ensures ∙ c.in-Some-id_len.is) c.requires c.in-Some.ensures.size c.in_default-contents_lens.ensures

pub returns-clause-ok : goal.returns-clause-ok
returns-clause-ok c =
    message_ok (lent_header_val c.args.version.now c.args.authentication.now)
    (operation_line c.args.operation).number (option_map (λ b. b.now) c.args.id) c.args.payload.now c.in-Some-id_len.before c.in-Some-contents_lens.lens.0 c.in-Some-contents_lens.lens.1 _ c.reset.new.self c.write_parts.new.out c.in-Some.ensures.form
    (sym c.id_len.ensures ∙ c.in-Some-id_len.is) c.requires
    (c.in-Some-contents_lens.ensures.0
    ∙ ap (λ header. header + (8 + (16 + (c.in-Some-id_len.before + length c.args.payload.now)))) c.in-Some.ensures.size)
    c.in-Some-contents_lens.ensures.2 c.in-Some-contents_lens.ensures.1 c.reset.ensures.bytes c.write_parts.ensures
