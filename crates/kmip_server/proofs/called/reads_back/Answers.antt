use Rattle.kmip_server.proofs.ReadBack.{reads_of}
use Rattle.kmip_server.proofs.called.reads_back.Goals as goal

pub returns : goal.returns
returns g c =
    reads_of c.args.call.now c.args.client.now.credential c.call_known.result c.request_is_read.ensures c.helper_is_matched.ensures c.fits.ensures c.call_known.ensures
