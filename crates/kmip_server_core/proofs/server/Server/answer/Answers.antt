use Rattle.kmip_server_core.proofs.server.Server.answer.Goals as goal

pub returns-clause-answers : goal.returns-clause-answers
returns-clause-answers g c = rw (← c.self.view_is) c.answer_bytes.ensures.answers
