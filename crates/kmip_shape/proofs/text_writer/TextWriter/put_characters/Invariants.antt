use Rattle.std.proofs.Common.{flat_map}
use Rattle.std.specs.Str.Iter.{chars_rest}
use Rattle.kmip_shape.specs.Shown.{Growing, Grows, escape}
use Rattle.kmip_shape.proofs.text_writer.TextWriter.put_characters.Given as goal

-- what shows the characters that are left shows all
abbrev pub invariant-loop-ch : goal.invariant-loop-ch
invariant-loop-ch l =
    (new : Growing) → Grows l.self new (λ o. flat_map (escape o) (chars_rest l.ch-iterator))
    → Grows l.fn.self new (λ o. flat_map (escape o) l.text)
