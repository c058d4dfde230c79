use Rattle.kmip_run.proofs.SentBytes as laws
use Rattle.kmip_run.proofs.laws.sent_requests_are_read.Goals as goal

pub returns : goal.returns
returns c = λ payloads credential limit rest payload held sent matched.
    let e = c.from_slice.ensures in
    let is = laws.found payloads credential limit rest payload c.args.text.now held sent in
    laws.gives_back payload credential c.from_slice.result
    (e.back payload credential is.0 matched is.1)
    (λ malformed. let tree =
    c.request_parses.ensures.parses payload credential c.args.text.now is.0 is.1 in
    e.malformed.0 malformed tree.0 tree.1)
    (λ other. e.not_canonical other payload credential is.0 matched is.1)
