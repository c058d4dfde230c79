use Rattle.std.proofs.Common.{flat_map, length}
use Rattle.kmip_shape.specs.Shown.{Growing, Grows, always, hex_byte}
use Rattle.kmip_shape.proofs.text_writer.TextWriter.put_digits.Given as goal

-- what shows the bytes that are left shows all
abbrev pub invariant-loop-rest : goal.invariant-loop-rest
invariant-loop-rest l =
    (new : Growing) → Grows l.self new (always (flat_map hex_byte l.rest))
    → Grows l.fn.self new (always (flat_map hex_byte l.bytes))

abbrev pub decreases-loop-rest : goal.decreases-loop-rest
decreases-loop-rest l = length l.rest
