use Rattle.kmip_client.proofs.session.exchange_all.Goals as goal

pub returns-clause-session : goal.returns-clause-session
returns-clause-session g c = rw c.into_vec.ensures at c.exchanges.ensures.session

pub returns-clause-cut : goal.returns-clause-cut
returns-clause-cut g c = rw c.into_vec.ensures at c.exchanges.ensures.cut
