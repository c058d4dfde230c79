use Rattle.std.proofs.Common.{◌++◌, ap}
use Rattle.kmip_encodings.specs.Expected.{listed}
use Rattle.kmip_encodings.proofs.Told.{all_written, names_more, names_end}
use Rattle.kmip_encodings.proofs.names.push_names.Goals as goal

pub loop-index-init : goal.loop-index-init
loop-index-init c = ap (λ ls. c.args.out.now ++ listed ls) (all_written c.args.tag)

pub loop-index-preserved : goal.loop-index-preserved
loop-index-preserved c =
    names_more c.loop-index.index c.args.tag c.loop-index.out _ _ c.loop-index-test.true
    c.in_ok-push_name.ensures c.loop-index.invariant

pub returns : goal.returns
returns c =
    names_end c.loop-index.index c.args.tag c.loop-index.out _ c.loop-index-test.false
    c.loop-index.invariant
