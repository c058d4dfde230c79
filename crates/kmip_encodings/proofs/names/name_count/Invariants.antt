use Rattle.std.proofs.Common.{◌≡◌, ◌≤◌, ◌+◌, length}
use Rattle.kmip_encodings.specs.Expected.{written_lines}
use Rattle.kmip_encodings.proofs.Told.{written_from}
use Rattle.kmip_encodings.proofs.names.name_count.Given as goal

abbrev pub invariant-loop-index : goal.invariant-loop-index
invariant-loop-index l =
    (l.count ≤ l.index) × (l.count + length (written_from l.index l.tag) ≡ length (written_lines l.tag))
