use Rattle.std.proofs.Common.{◌≡◌, ◌≤◌, length}
use Rattle.kmip_encodings.specs.Reading.{opens_past, is_too_deep}
use Rattle.kmip_encodings.proofs.read_json.deep_at.Given as goal

abbrev pub invariant-loop-token : goal.invariant-loop-token
invariant-loop-token l = (l.depth ≤ 128) × (opens_past 128 l.depth l.reader ≡ is_too_deep l.text)

abbrev pub decreases-loop-token : goal.decreases-loop-token
decreases-loop-token l = length l.reader
