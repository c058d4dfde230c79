use Rattle.std.proofs.Common.{◌≡◌, drop}
use Rattle.json.specs.Value.{members_view}
use Rattle.kmip_encodings.specs.Reading.{are_known}
use Rattle.kmip_encodings.proofs.read_json.are_known.Given as goal

abbrev pub invariant-loop-member : goal.invariant-loop-member
invariant-loop-member l =
    are_known (members_view l.members.items)
    ≡ are_known (members_view (drop l.member-index l.members.items))
