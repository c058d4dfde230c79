use Rattle.kmip_request_read.proofs.Matching as laws
use Rattle.kmip_request_read.proofs.laws.read_request_is_matched.Goals as goal

pub returns-clause-read : goal.returns-clause-read
returns-clause-read c = laws.read_matched

pub returns-clause-unread : goal.returns-clause-unread
returns-clause-unread c = laws.unread_none
