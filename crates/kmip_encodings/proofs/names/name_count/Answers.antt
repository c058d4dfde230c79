use Rattle.std.proofs.Common.{◌+◌, ap, ◌∙◌, length, arith}
use Rattle.kmip_encodings.specs.Expected.{one_if}
use Rattle.kmip_encodings.proofs.Told.{all_written, count_more, none_left}
use Rattle.kmip_encodings.proofs.names.name_count.Goals as goal

pub loop-index-init : goal.loop-index-init
loop-index-init c = (omega arith, omega (arith, ap length (all_written c.args.tag)))

pub loop-index-preserved : goal.loop-index-preserved
loop-index-preserved c =
    count_more c.loop-index.index c.args.tag c.loop-index.count _ _ c.loop-index-test.true
    (ap (λ n. c.loop-index.count + n) (c.one_if-count.ensures ∙ ap one_if c.is_written.ensures))
    c.loop-index.invariant.0 c.loop-index.invariant.1

pub returns : goal.returns
returns c =
    omega (arith, c.loop-index.invariant.1, none_left c.loop-index.index c.args.tag c.loop-index-test.false)
