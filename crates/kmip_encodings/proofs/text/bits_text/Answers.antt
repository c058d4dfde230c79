use Rattle.std.proofs.Common.{ap, ◌∙◌, ℕ, List, Bor}
use Rattle.std.specs.List.{join_by}
use Rattle.kmip_encodings.proofs.Masked.{none_left, some_left}
use Rattle.kmip_encodings.proofs.text.bits_text.Goals as goal

pub returns-then-rest-eq0 : goal.returns-then-rest-eq0
returns-then-rest-eq0 c =
    none_left c.args.separator.now c.args.tag c.args.number c.mask_bits.result.now c.in_ok-names.names.items
    c.in_ok-names.rest c.in_ok-text.text c.mask_bits.ensures c.if-rest-eq0.true c.in_ok-names.ensures
    (c.in_ok-text.ensures
    ∙ ap (join_by (λ (y : Bor (List ℕ)). y.now) c.args.separator.now) c.deref.ensures.value)

pub returns : goal.returns
returns c =
    some_left c.args.separator.now c.args.tag c.args.number c.mask_bits.result.now c.in_ok-names.names.items
    c.push.new.self.items c.in_ok-names.rest c.as_str.result c.in_ok-text-2.text
    c.mask_bits.ensures c.if-rest-eq0.false c.in_ok-names.ensures
    (cc (c.as_str.ensures.bytes, c.in_ok-digits.ensures, c.to_be_bytes.ensures))
    c.in_ok-push.ensures.items
    (c.in_ok-text-2.ensures
    ∙ ap (join_by (λ (y : Bor (List ℕ)). y.now) c.args.separator.now) c.deref-2.ensures.value)
