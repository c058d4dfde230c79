use Rattle.kmip_request.proofs.Distinct as laws
use Rattle.kmip_request.proofs.laws.distinct_requests.Goals as goal

pub returns-clause-equal : goal.returns-clause-equal
returns-clause-equal c = laws.equal

pub returns-clause-apart : goal.returns-clause-apart
returns-clause-apart c = laws.apart
