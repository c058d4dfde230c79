use Rattle.kmip_run.proofs.SentBytes as laws
use Rattle.kmip_run.proofs.laws.know_held.Goals as goal

pub returns : goal.returns
returns c = laws.held_all c.args.payloads.now c.args.credential.now c.fits_items.ensures c.known_credential.ensures
