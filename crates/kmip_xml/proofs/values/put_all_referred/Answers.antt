use Rattle.std.proofs.Common.{◌≡◌, [], sym}
use Rattle.kmip_xml.proofs.Pieces.{part_more}
use Rattle.kmip_xml.proofs.values.put_all_referred.Goals as goal

pub loop-part-preserved : goal.loop-part-preserved
loop-part-preserved c =
    part_more c.args.parts.now c.loop-part.part-index (record { ref_ptr = (0, 0); now = [] }) c.loop-part.out
    c.put_referred.new.out _ c.loop-part-test.true
    (sym (rw c.if-not-branch.false at c.in_ok-put_referred.ensures)) c.loop-part.invariant
