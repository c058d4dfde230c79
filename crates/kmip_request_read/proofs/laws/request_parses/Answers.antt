use Rattle.kmip_request_read.proofs.Canonical as laws
use Rattle.kmip_request_read.proofs.laws.request_parses.Goals as goal

pub returns-clause-parses : goal.returns-clause-parses
returns-clause-parses c = laws.parsed

pub returns-clause-ranges : goal.returns-clause-ranges
returns-clause-ranges c = laws.ranged
