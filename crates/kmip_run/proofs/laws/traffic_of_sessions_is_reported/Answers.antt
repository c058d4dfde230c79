use Rattle.kmip_client.specs.Session.{session}
use Rattle.kmip_run.proofs.Captured.{reports_turns}
use Rattle.kmip_run.proofs.laws.traffic_of_sessions_is_reported.Goals as goal

pub returns : goal.returns
returns c = λ payloads credential limit messages rest matched served sent received.
    reports_turns payloads (session payloads credential limit rest)
    rest c.args.sent.now c.args.received.now c.audit.result
    c.audit.ensures sent received
    (c.sessions_are_reported.ensures payloads credential limit messages rest matched served)
