use Rattle.std.proofs.Common.{◌≡◌, drop}
use Rattle.kmip_web.specs.Input.{has_zero}
use Rattle.kmip_web.proofs.input.has_zero.Given as goal

abbrev pub invariant-loop-byte : goal.invariant-loop-byte
invariant-loop-byte l = has_zero l.text ≡ has_zero (drop l.byte-index l.text)
