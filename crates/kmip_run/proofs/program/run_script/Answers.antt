use Rattle.std.proofs.Common.{◌≡◌, ℕ, ◌+◌, List, take, refl, ap, Some, Err, arith}
use Rattle.kmip_link.specs.State.{source_left}
use Rattle.kmip_run.proofs.Whole.{script_long, memory_ended, source_ended, long_ended, script_read}
use Rattle.kmip_run.proofs.program.run_script.Goals as goal

pub returns-in-Err-Fault : goal.returns-in-Err-Fault
returns-in-Err-Fault g c =
    source_ended c.args.command (g.S.Source.state c.args.source.now) (g.S.Source.state c.read_up_to.new.source)
    (g.K.Sink.state c.args.sink.now) c.args.link.now c.requires.reads c.read_up_to.ensures.keeps
    (c.in-Err-Fault.ensures.cause (ap Err c.in-Err-Fault.field-0-is))

pub returns-in-Err-OutOfMemory : goal.returns-in-Err-OutOfMemory
returns-in-Err-OutOfMemory g c =
    let reads = c.requires.reads in
    memory_ended (Some c.args.command) (g.S.Source.state c.args.source.now)
    (g.S.Source.state c.read_up_to.new.source) (g.K.Sink.state c.args.sink.now) c.args.link.now c.args.link.now
    c.read_up_to.ensures.keeps (λ none. absurd (cc)) (λ none. refl)

pub returns-then-len-gt-MAX_SCRIPT : goal.returns-then-len-gt-MAX_SCRIPT
returns-then-len-gt-MAX_SCRIPT g c =
    let left : List ℕ = source_left (g.S.Source.state c.args.source.now) in
    long_ended c.args.command (g.S.Source.state c.args.source.now) (g.S.Source.state c.read_up_to.new.source)
    (g.K.Sink.state c.args.sink.now) c.args.link.now c.requires.reads c.read_up_to.ensures.keeps
    (λ source.
    let bytes : c.read_up_to.new.script.items ≡ take (16777216 + 1) left =
    rw c.new-script.ensures.items at (c.in-Ok.ensures.ok source).1 in
    script_long 16777216 c.read_up_to.new.script.items left bytes
    (omega (arith, c.read_up_to.new.script.ok)))
    (λ source. ((c.in-Ok.ensures.ok source).0).pos)

pub returns : goal.returns
returns g c =
    script_read c.args.command (g.S.Source.state c.args.source.now) (g.S.Source.state c.read_up_to.new.source)
    (g.K.Sink.state c.args.sink.now) (g.K.Sink.state c.carry_out.new.sink) c.args.link.now c.carry_out.new.link
    c.read_up_to.new.script.items c.carry_out.result c.requires.reads
    c.read_up_to.ensures.keeps
    (λ source. rw c.new-script.ensures.items at (c.in-Ok.ensures.ok source).1)
    (omega (arith, c.read_up_to.new.script.ok))
    (λ source. ((c.in-Ok.ensures.ok source).0).pos)
    c.carry_out.ensures.kept (rw c.deref.ensures.value at c.carry_out.ensures.ends)
