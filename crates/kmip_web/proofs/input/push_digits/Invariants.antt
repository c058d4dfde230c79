use Rattle.std.proofs.Common.{◌≡◌, ◌++◌, drop}
use Rattle.kmip_web.specs.Input.{without_gaps}
use Rattle.kmip_web.proofs.input.push_digits.Given as goal

abbrev pub invariant-loop-byte : goal.invariant-loop-byte
invariant-loop-byte l = l.initial.digits.items ++ without_gaps l.part
    ≡ l.digits.items ++ without_gaps (drop l.byte-index l.part)
