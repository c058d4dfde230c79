use Rattle.kmip_store.proofs.Runs.{given_distinct}
use Rattle.kmip_store.proofs.laws.identifiers_differ.Goals as goal

pub returns : goal.returns
returns c = given_distinct
