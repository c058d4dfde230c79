use Rattle.std.proofs.Common.{sym, ◌∙◌}
use Rattle.kmip_request_read.proofs.Canonical.{only_one, plain_of}
use Rattle.kmip_request_read.proofs.reading.is_client_message.Goals as goal

pub returns-then-is_client_header-clause-plain : goal.returns-then-is_client_header-clause-plain
returns-then-is_client_header-clause-plain c =
    λ yes. (
      c.item-item.result.2,
      (c.args.message.now.0).2,
      plain_of c.args.message.now c.item-item.result c.protocol_version.result
          (sym c.as_slice.ensures
          ∙ only_one c.as_slice.result.now c.item-item.result c.in-len1.len_at_least c.in-len1.len_below c.item-item.is) c.protocol_version.ensures (c.is_client_header.ensures.0 c.if-is_client_header.true) (c.is_client_item.ensures.0 yes),
    )
