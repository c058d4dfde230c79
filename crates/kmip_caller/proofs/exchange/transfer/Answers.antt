use Rattle.kmip_caller.proofs.Exchanges.{none_taken}
use Rattle.kmip_caller.proofs.exchange.transfer.Goals as goal

pub returns-in-Err-Fault-clause-taken_part : goal.returns-in-Err-Fault-clause-taken_part
returns-in-Err-Fault-clause-taken_part g c = λ visible. none_taken (g.S.Source.state c.args.source.now) _

pub returns-in-Err-OutOfMemory-clause-taken_part : goal.returns-in-Err-OutOfMemory-clause-taken_part
returns-in-Err-OutOfMemory-clause-taken_part g c = λ visible. none_taken (g.S.Source.state c.args.source.now) _
