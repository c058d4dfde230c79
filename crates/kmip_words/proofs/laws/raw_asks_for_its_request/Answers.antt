use Rattle.std.proofs.Common.{None}
use Rattle.kmip_words.proofs.Raws.{raw_asks}
use Rattle.kmip_words.proofs.laws.raw_asks_for_its_request.Goals as goal

pub returns : goal.returns
returns c = λ payload b fits matched bytes written.
    raw_asks payload b (c.request_is_message.ensures payload None b written).0 bytes
    (c.request_is_read.ensures payload None b fits matched written) (c.same_message.ensures payload)
