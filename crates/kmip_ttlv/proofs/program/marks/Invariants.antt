use Rattle.std.proofs.Common.{◌≡◌, take, filter}
use Rattle.kmip_ttlv.specs.Program.{is_mark}
use Rattle.kmip_ttlv.proofs.program.marks.Given as goal

abbrev pub invariant-loop-byte : goal.invariant-loop-byte
invariant-loop-byte l = l.kept.items ≡ filter is_mark (take l.byte-index l.input)
