use Rattle.std.proofs.Common.{◌≡◌, map}
use Rattle.kmip_xml.specs.Values.{all_referred}
use Rattle.kmip_xml.proofs.Pieces.{onto, left}
use Rattle.kmip_xml.proofs.values.put_all_referred.Given as goal

abbrev pub invariant-loop-part : goal.invariant-loop-part
invariant-loop-part l =
    onto l.out (left l.parts l.part-index) ≡ onto l.initial.out (all_referred (map (λ part. part.now) l.parts))
