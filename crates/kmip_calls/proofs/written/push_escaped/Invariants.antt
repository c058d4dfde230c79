use Rattle.std.proofs.Common.{◌≡◌, ◌++◌, flat_map}
use Rattle.std.specs.Str.Iter.{chars_rest}
use Rattle.kmip_calls.specs.Written.{escaped}
use Rattle.kmip_calls.proofs.written.push_escaped.Given as goal

-- with what stands for the characters that are left, there is what stands for all
abbrev pub invariant-loop-ch : goal.invariant-loop-ch
invariant-loop-ch l = l.initial.out ++ flat_map escaped l.text
    ≡ l.out ++ flat_map escaped (chars_rest l.ch-iterator)
