use Rattle.kmip_run.proofs.SentBytes as laws
use Rattle.kmip_run.proofs.laws.sent_bytes_of_sessions.Goals as goal

pub returns-clause-joined : goal.returns-clause-joined
returns-clause-joined c = laws.joined

pub returns-clause-parse : goal.returns-clause-parse
returns-clause-parse c = laws.parse c.request_parses.ensures.parses

pub returns-clause-only : goal.returns-clause-only
returns-clause-only c = laws.only c.request_parses.ensures.parses c.one_tree.ensures.split

pub returns-clause-requests : goal.returns-clause-requests
returns-clause-requests c = laws.requests
