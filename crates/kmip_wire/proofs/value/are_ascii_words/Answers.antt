use Rattle.std.proofs.Common.{sym, subst}
use Rattle.std.proofs.lemmas.List.{take_rest}
use Rattle.std.proofs.Math.Facts.{Fits-lt-pow}
use Rattle.kmip_wire.proofs.Ascii.{Passed, pass}
use Rattle.kmip_wire.proofs.value.are_ascii_words.Goals as goal

pub words-preserved : goal.words-preserved
words-preserved c =
    let b = c.args.bytes.now
    in subst (Passed b) (sym (take_rest c.words.rest.now 8))
    (pass b c.words.rest.now c.number8.result
    (λ i. Fits-lt-pow (c.type_inv.bytes i))
    c.words-test.true c.number8.ensures c.if-number8-ne0.false c.words.invariant)
