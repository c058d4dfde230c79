use Rattle.std.proofs.Common.{◌∙◌, ◌-◌, sym, ap, arith, Some, None, cond}
use Rattle.kmip_wire.proofs.Computed.{front_short, front_unkind, front_is}
use Rattle.kmip_wire.specs.Head.{size_at}
use Rattle.kmip_wire.proofs.Steps.{value_cut}
use Rattle.kmip_wire.proofs.front.front_size.Goals as goal

pub returns-in_default : goal.returns-in_default
returns-in_default c = sym (front_short (65 - c.args.level) c.args.bytes.now (λ _. c.in_default.ensures))

pub returns-in_default-from_code : goal.returns-in_default-from_code
returns-in_default-from_code c = sym
    (front_unkind c.args.level c.args.bytes.now (omega (arith, c.requires.1))
    (omega (arith, c.in-Some.ensures.0, c.in-Some.ensures.1))
    (omega (arith, c.in-Some.ensures.0, c.in-Some.ensures.1)) (sym c.in_default-from_code.ensures))

pub returns-then-is_node : goal.returns-then-is_node
returns-then-is_node c =
    let b = c.args.bytes.now
    in let whole = c.in-Some.whole
    in let f = front_is c.args.level b _ c.in-Some-from_code.kind c.is_node.result
    (omega (arith, c.requires.1)) (omega (arith, c.in-Some.ensures.0, c.in-Some.ensures.1))
    (omega (arith, c.in-Some.ensures.0, c.in-Some.ensures.1)) (sym c.in-Some-from_code.ensures)
    (value_cut b whole c.head_length-length.result c.in-Some.ensures.0 c.head_length-length.ensures) c.is_node.ensures
    in sym (f ∙ ap (λ r. cond r (Some (size_at b)) None) c.if-is_node.true ∙ ap (λ n. Some n) (sym c.in-Some.ensures.0))

pub returns-else-is_node : goal.returns-else-is_node
returns-else-is_node c =
    let b = c.args.bytes.now
    in let whole = c.in-Some.whole
    in let f = front_is c.args.level b _ c.in-Some-from_code.kind c.is_node.result
    (omega (arith, c.requires.1)) (omega (arith, c.in-Some.ensures.0, c.in-Some.ensures.1))
    (omega (arith, c.in-Some.ensures.0, c.in-Some.ensures.1)) (sym c.in-Some-from_code.ensures)
    (value_cut b whole c.head_length-length.result c.in-Some.ensures.0 c.head_length-length.ensures) c.is_node.ensures
    in sym (f ∙ ap (λ r. cond r (Some (size_at b)) None) c.if-is_node.false)
