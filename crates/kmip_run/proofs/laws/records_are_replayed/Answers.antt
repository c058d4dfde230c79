use Rattle.kmip_run.proofs.Replayed as laws
use Rattle.kmip_run.proofs.laws.records_are_replayed.Goals as goal

pub returns-clause-replayed : goal.returns-clause-replayed
returns-clause-replayed c = laws.replayed

pub returns-clause-line : goal.returns-clause-line
returns-clause-line c = λ settings recorded it same some.
    laws.line_under settings recorded it same
    (c.responses_are_outcomes.ensures.line settings it.call it.response some)

pub returns-clause-raw : goal.returns-clause-raw
returns-clause-raw c = laws.outcome_same
