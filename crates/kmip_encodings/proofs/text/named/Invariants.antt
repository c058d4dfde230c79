use Rattle.std.proofs.Common.{◌≡◌, ◌++◌, drop}
use Rattle.kmip_encodings.specs.Texts.{mask_parts}
use Rattle.kmip_encodings.proofs.Masked.{views, texts}
use Rattle.kmip_encodings.proofs.text.named.Given as goal

abbrev pub invariant-loop-bit : goal.invariant-loop-bit
invariant-loop-bit l =
    texts l.names.items ++ mask_parts (views (drop l.bit-index l.bits)) l.rest
    ≡ mask_parts (views l.bits) l.number
