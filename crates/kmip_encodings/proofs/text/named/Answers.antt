use Rattle.std.proofs.Common.{sym, ◌∙◌}
use Rattle.kmip_encodings.proofs.Masked.{named_more, named_less, named_done}
use Rattle.kmip_encodings.proofs.text.named.Goals as goal

pub loop-bit-preserved-then-not-has_bits : goal.loop-bit-preserved-then-not-has_bits
loop-bit-preserved-then-not-has_bits c =
    named_less c.args.bits.now c.loop-bit.bit-index _ c.loop-bit.names.items c.loop-bit.rest _
    c.loop-bit-test.true (sym c.has_bits.ensures ∙ c.if-not-has_bits.true) c.loop-bit.invariant

pub loop-bit-preserved : goal.loop-bit-preserved
loop-bit-preserved c =
    named_more c.args.bits.now c.loop-bit.bit-index _ c.loop-bit.names.items c.push.new.self.items c.loop-bit.rest _
    c.loop-bit-test.true (sym c.has_bits.ensures ∙ c.if-not-has_bits.false) c.in_ok-push.ensures.items
    c.loop-bit.invariant

pub returns : goal.returns
returns c =
    named_done c.args.bits.now c.loop-bit.bit-index c.loop-bit.names.items c.loop-bit.rest _
    c.loop-bit-test.false c.loop-bit.invariant
