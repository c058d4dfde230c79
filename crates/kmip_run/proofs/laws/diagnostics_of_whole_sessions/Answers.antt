use Rattle.kmip_run.proofs.SkeletonsShown as laws
use Rattle.kmip_run.proofs.laws.diagnostics_of_whole_sessions.Goals as goal

pub returns : goal.returns
returns c = λ limit most.
    laws.sessions_tell c.request_parses.ensures.parses c.request_parses.ensures.ranges c.tree_computed.ensures c.parsed_ranges.ensures c.diagnostics_of_sessions.ensures
    c.args.payloads.now c.args.others.now c.args.credential.now c.args.other.now limit most c.args.rest.now c.args.bytes.now
    c.know_held.ensures c.«know_held-2».ensures c.bytes_known.ensures c.«bytes_known-2».ensures
