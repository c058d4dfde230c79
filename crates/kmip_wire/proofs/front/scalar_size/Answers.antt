use Rattle.std.proofs.Common.{◌≡◌, ◌≢◌, ◌∙◌, sym, ap, arith, Some, List, ℕ}
use Rattle.std.specs.Option.{is_some}
use Rattle.kmip_wire.specs.declared.kind.Kind.{Kind}
use Rattle.kmip_wire.specs.declared.kind.Kind.TheVariants.{Structure}
use Rattle.kmip_wire.specs.Kinds.{code_of, kind_of}
use Rattle.kmip_wire.specs.Head.{head_code}
use Rattle.kmip_wire.specs.Reading.{scalar_at}
use Rattle.kmip_wire.proofs.Values.{code_of-kind_of}
use Rattle.kmip_wire.proofs.Steps.{tells_short, tells_unknown, tells_value, tells_no_value, value_cut}
use Rattle.kmip_wire.proofs.front.scalar_size.Goals as goal

no_structure : (b : List ℕ) (k : Kind) → head_code b ≢ 1 → Some k ≡ kind_of (head_code b) → k ≢ Structure
no_structure b k n e s = n (code_of-kind_of (head_code b) k (sym e) ∙ ap code_of s)

pub returns-in_default : goal.returns-in_default
returns-in_default c = tells_unknown c.args.bytes.now (omega (arith, c.requires.head)) c.in_default.ensures

pub returns-then-whole-bytes : goal.returns-then-whole-bytes
returns-then-whole-bytes c = tells_short c.args.bytes.now (omega (arith, c.requires.head))
    (omega (arith, c.if-whole-bytes.true, c.whole_length-whole.ensures))

pub returns-then-is_value : goal.returns-then-is_value
returns-then-is_value c =
    let b = c.args.bytes.now in
    let kind = c.in-Some.kind in
    tells_value b (omega (arith, c.requires.head))
    (omega (arith, c.if-whole-bytes.false, c.whole_length-whole.ensures)) kind c.in-Some.ensures
    (no_structure b kind c.requires.scalar c.in-Some.ensures)
    (c.if-is_value.ensures ∙ ap (λ v. is_some (scalar_at kind v))
    (value_cut b c.whole_length-whole.result c.head_length-length.result c.whole_length-whole.ensures c.head_length-length.ensures)) c.whole_length-whole.result c.whole_length-whole.ensures

pub returns-else-is_value : goal.returns-else-is_value
returns-else-is_value c =
    let b = c.args.bytes.now in
    let kind = c.in-Some.kind in
    tells_no_value b (omega (arith, c.requires.head))
    (omega (arith, c.if-whole-bytes.false, c.whole_length-whole.ensures)) kind c.in-Some.ensures
    (no_structure b kind c.requires.scalar c.in-Some.ensures)
    (c.if-is_value.ensures ∙ ap (λ v. is_some (scalar_at kind v))
    (value_cut b c.whole_length-whole.result c.head_length-length.result c.whole_length-whole.ensures c.head_length-length.ensures))
