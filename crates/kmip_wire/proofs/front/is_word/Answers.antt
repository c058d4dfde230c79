use Rattle.std.proofs.Common.{◌∙◌, arith}
use Rattle.std.proofs.lemmas.Bool.{eqb-true}
use Rattle.kmip_wire.specs.Head.{head_code, head_length}
use Rattle.kmip_wire.proofs.Words.{words, passes_word}
use Rattle.kmip_wire.proofs.front.is_word.Goals as goal

pub returns-then-bytes-le10 : goal.returns-then-bytes-le10
returns-then-bytes-le10 c = λ t.
    let b = c.args.bytes.now in
    passes_word b (omega (arith, c.requires))
    (words (head_code b) (head_length b) (omega (arith, c.if-bytes-le10.true))
    (omega (arith, c.head_length.type_inv, c.head_length.ensures))
    (eqb-true _ _ t ∙ c.head_length.ensures)) c.requires
