use Rattle.kmip_server.proofs.Cutting.{Growing}
use Rattle.kmip_server.proofs.messages.cut_message.Given as goal

abbrev pub invariant-loop-byte : goal.invariant-loop-byte
invariant-loop-byte l = Growing l.begun l.bytes l.message.items l.byte-index
