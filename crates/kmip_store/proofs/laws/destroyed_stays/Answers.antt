use Rattle.kmip_store.proofs.Runs.{run_keeps}
use Rattle.kmip_store.proofs.laws.destroyed_stays.Goals as goal

pub returns : goal.returns
returns c = run_keeps
