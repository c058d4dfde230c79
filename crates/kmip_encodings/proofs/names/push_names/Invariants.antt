use Rattle.std.proofs.Common.{◌≡◌, ◌++◌}
use Rattle.kmip_encodings.specs.Expected.{written_lines, listed}
use Rattle.kmip_encodings.proofs.Told.{written_from}
use Rattle.kmip_encodings.proofs.names.push_names.Given as goal

abbrev pub invariant-loop-index : goal.invariant-loop-index
invariant-loop-index l =
    l.out ++ listed (written_from l.index l.tag) ≡ l.fn.out ++ listed (written_lines l.tag)
