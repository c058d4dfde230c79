use Rattle.std.proofs.Common.{◌∙◌, ap, refl, IsTrue, Bool}
use Rattle.kmip_client.specs.Client.{count_after}
use Rattle.kmip_client.specs.Calls.{outcome_for}
use Rattle.kmip_client.specs.Outcome.{seen_by, Exchanged}
use Rattle.kmip_client.proofs.Exchanges.{seen_loses}
use Rattle.kmip_client.proofs.Headlines.{headline}
use Rattle.kmip_client.proofs.client.Client.make_call.Goals as goal

-- the clauses are about the client as a value, and the call's about its fields
pub returns : goal.returns
returns g c =
    let e = c.call-answer.ensures in
    let exchange : IsTrue (g.T.Link.state c.args.self.now.link).tells →
    Exchanged (outcome_for g.R.CallRequest.kind g.T.Link.state
    (g.R.CallRequest.request c.args.request.now) c.args.self.now c.call-answer.new.link)
    (g.T.Link.state c.args.self.now.link) (g.T.Link.state c.call-answer.new.link)
    (seen_by (g.R.CallRequest.seen c.args.request.now) c.call-answer.result) =
    rw (← c.self.view_is) e.exchange in
    record {
      exchange = exchange;
      caused = rw (← c.self.view_is) e.caused;
      writing = rw (← c.self.view_is) e.writing;
      reading = rw (← c.self.view_is) e.reading;
      headline = λ tells. headline (g.R.CallRequest.kind.bytes_of
          (g.R.CallRequest.request c.args.request.now) c.args.self.now.credential)
          (g.R.CallRequest.kind.reads (g.R.CallRequest.request c.args.request.now))
          c.args.self.now.limit (g.R.CallRequest.kind.IsValid
          (g.R.CallRequest.request c.args.request.now) c.args.self.now.limit) _
          (c.readings_hold.ensures.valid (g.R.CallRequest.request c.args.request.now)
          c.args.self.now.limit) (exchange tells);
      keeps = rw (← c.self.view_is) e.keeps;
      credential = rw (← c.self.view_is) refl;
      limit = rw (← c.self.view_is) refl;
      buffered = rw (← c.self.view_is) refl;
      count = rw (← c.self.view_is)
          (c.count_after-self-inside.ensures
          ∙ ap (λ (lost : Bool). count_after c.self.inside.errors lost)
          (c.loses_connection.ensures ∙ seen_loses
          (g.R.CallRequest.seen c.args.request.now) c.call-answer.result));
      request_text = rw (← c.self.view_is) e.request_text;
      response_text = rw (← c.self.view_is) e.response_text;
      quiet = rw (← c.self.view_is) e.quiet;
    }
