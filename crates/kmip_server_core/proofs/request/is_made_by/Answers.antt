use Rattle.std.proofs.Common.{sym, ◌∙◌, ap, Some}
use Rattle.std.proofs.lemmas.Slice.Eq.{bytes_eq-Decides}
use Rattle.kmip_server_core.proofs.Requested.{made_read}
use Rattle.kmip_server_core.proofs.request.is_made_by.Goals as goal

pub returns-in-Ok-clause-same : goal.returns-in-Ok-clause-same
returns-in-Ok-clause-same c same =
    made_read c.request_is_read.ensures c.args.call.now c.in_ok-request.request c.args.credential c.args.bytes.now c.in_ok-request.ensures c.fits.ensures c.texts_known.ensures
    (c.in-Ok.ensures ∙ ap Some (sym c.as_slice.ensures ∙
    (bytes_eq-Decides c.as_slice.result.now c.args.bytes.now).0 (sym c.eq.ensures ∙ same)))
