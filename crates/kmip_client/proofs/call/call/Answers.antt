use Rattle.std.specs.Prelude.{option_map}
use Rattle.std.proofs.lemmas.Result.{err_from_is_err_and}
use Rattle.kmip_request.specs.Message.{credential_of}
use Rattle.kmip_client.specs.Outcome.{seen_by}
use Rattle.kmip_client.proofs.Exchanges.{serialize_stopped, serialize_not_reading, short_at_start, of_request, caused_by, reading_of, kept_is, kept_exchanged, kept_caused, kept_reading, serialize_not_writing, writing_of, kept_writing}
use Rattle.kmip_client.proofs.call.call.Goals as goal

pub returns-in-Err-clause-exchange : goal.returns-in-Err-clause-exchange
returns-in-Err-clause-exchange g c = λ tells.
    serialize_stopped (g.R.CallRequest.kind.bytes_of (g.R.CallRequest.request c.args.request.now)
    (option_map credential_of c.args.settings.now.authentication))
    (g.R.CallRequest.kind.reads (g.R.CallRequest.request c.args.request.now))
    c.args.settings.now.config.max_bytes _ _ c.in-Err.error c.in-Err.ensures.err

pub returns-in_err-diagnostics-clause-exchange : goal.returns-in_err-diagnostics-clause-exchange
returns-in_err-diagnostics-clause-exchange g c = λ tells.
    let p = err_from_is_err_and c.from_residual.result c.from_residual.ensures.1 in
    rw (p.1, p.2) (short_at_start _ _)

pub returns-in_err-reserve_exact-clause-exchange : goal.returns-in_err-reserve_exact-clause-exchange
returns-in_err-reserve_exact-clause-exchange g c = λ tells.
    let p = err_from_is_err_and c.from_residual-in_err-reserve_exact.result c.from_residual-in_err-reserve_exact.ensures.1 in
    rw (p.1, p.2) (short_at_start _ _)

pub returns-then-not-has_buf-clause-exchange : goal.returns-then-not-has_buf-clause-exchange
returns-then-not-has_buf-clause-exchange g c = λ tells.
    of_request (g.R.CallRequest.kind.reads (g.R.CallRequest.request c.args.request.now))
    (seen_by (g.R.CallRequest.seen c.args.request.now) c.exchange-answer.result)
    (g.R.CallRequest.kind.bytes_of (g.R.CallRequest.request c.args.request.now)
    (option_map credential_of c.args.settings.now.authentication))
    c.serialize.new.out.bytes c.as_slice-2.result.now c.args.settings.now.config.max_bytes _
    c.in-Ok.ensures.ok c.as_slice-2.ensures (c.exchange-answer.ensures.exchange tells)

pub returns-then-not-has_buf-clause-caused : goal.returns-then-not-has_buf-clause-caused
returns-then-not-has_buf-clause-caused g c =
    caused_by (g.R.CallRequest.kind.reads (g.R.CallRequest.request c.args.request.now))
    (seen_by (g.R.CallRequest.seen c.args.request.now) c.exchange-answer.result)
    (g.R.CallRequest.kind.bytes_of (g.R.CallRequest.request c.args.request.now)
    (option_map credential_of c.args.settings.now.authentication))
    c.serialize.new.out.bytes c.as_slice-2.result.now c.args.settings.now.config.max_bytes
    c.in-Ok.ensures.ok c.as_slice-2.ensures c.exchange-answer.ensures.caused

pub returns-clause-exchange : goal.returns-clause-exchange
returns-clause-exchange g c = λ tells.
    kept_exchanged (seen_by (g.R.CallRequest.seen c.args.request.now) c.exchange-answer.result)
    (seen_by (g.R.CallRequest.seen c.args.request.now) c.keep.result)
    (kept_is (g.R.CallRequest.seen c.args.request.now) _ _ c.keep.ensures)
    (of_request (g.R.CallRequest.kind.reads (g.R.CallRequest.request c.args.request.now))
    (seen_by (g.R.CallRequest.seen c.args.request.now) c.exchange-answer.result)
    (g.R.CallRequest.kind.bytes_of (g.R.CallRequest.request c.args.request.now)
    (option_map credential_of c.args.settings.now.authentication))
    c.serialize.new.out.bytes c.as_slice-2.result.now c.args.settings.now.config.max_bytes _
    c.in-Ok.ensures.ok c.as_slice-2.ensures (c.exchange-answer.ensures.exchange tells))

pub returns-clause-caused : goal.returns-clause-caused
returns-clause-caused g c =
    kept_caused (seen_by (g.R.CallRequest.seen c.args.request.now) c.exchange-answer.result)
    (seen_by (g.R.CallRequest.seen c.args.request.now) c.keep.result)
    (kept_is (g.R.CallRequest.seen c.args.request.now) _ _ c.keep.ensures)
    (caused_by (g.R.CallRequest.kind.reads (g.R.CallRequest.request c.args.request.now))
    (seen_by (g.R.CallRequest.seen c.args.request.now) c.exchange-answer.result)
    (g.R.CallRequest.kind.bytes_of (g.R.CallRequest.request c.args.request.now)
    (option_map credential_of c.args.settings.now.authentication))
    c.serialize.new.out.bytes c.as_slice-2.result.now c.args.settings.now.config.max_bytes
    c.in-Ok.ensures.ok c.as_slice-2.ensures c.exchange-answer.ensures.caused)

pub returns-in-Err-clause-reading : goal.returns-in-Err-clause-reading
returns-in-Err-clause-reading g c = λ tells is. absurd (serialize_not_reading c.in-Err.error c.in-Err.ensures.err is)

pub returns-clause-reading : goal.returns-clause-reading
returns-clause-reading g c = λ tells.
    kept_reading (seen_by (g.R.CallRequest.seen c.args.request.now) c.exchange-answer.result)
    (seen_by (g.R.CallRequest.seen c.args.request.now) c.keep.result)
    (kept_is (g.R.CallRequest.seen c.args.request.now) _ _ c.keep.ensures)
    (reading_of g.L.Link.state c.args.link.now c.exchange-answer.new.link
    (g.R.CallRequest.kind.reads (g.R.CallRequest.request c.args.request.now))
    (seen_by (g.R.CallRequest.seen c.args.request.now) c.exchange-answer.result)
    (g.R.CallRequest.kind.bytes_of (g.R.CallRequest.request c.args.request.now)
    (option_map credential_of c.args.settings.now.authentication))
    c.serialize.new.out.bytes c.as_slice-2.result.now c.args.settings.now.config.max_bytes _
    c.in-Ok.ensures.ok c.as_slice-2.ensures (c.exchange-answer.ensures.reading tells))

pub returns-in-Err-clause-writing : goal.returns-in-Err-clause-writing
returns-in-Err-clause-writing g c = λ tells is. absurd (serialize_not_writing c.in-Err.error c.in-Err.ensures.err is)

pub returns-clause-writing : goal.returns-clause-writing
returns-clause-writing g c = λ tells.
    kept_writing (seen_by (g.R.CallRequest.seen c.args.request.now) c.exchange-answer.result)
    (seen_by (g.R.CallRequest.seen c.args.request.now) c.keep.result)
    (kept_is (g.R.CallRequest.seen c.args.request.now) _ _ c.keep.ensures)
    (writing_of g.L.Link.state c.args.link.now c.exchange-answer.new.link
    (seen_by (g.R.CallRequest.seen c.args.request.now) c.exchange-answer.result)
    (g.R.CallRequest.kind.bytes_of (g.R.CallRequest.request c.args.request.now)
    (option_map credential_of c.args.settings.now.authentication))
    c.serialize.new.out.bytes c.as_slice-2.result.now
    c.in-Ok.ensures.ok c.as_slice-2.ensures (c.exchange-answer.ensures.writing tells))
