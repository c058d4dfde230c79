use Rattle.std.proofs.Common.{◌≡◌, [], take}
use Rattle.std.specs.List.{filter}
use Rattle.kmip_shape.specs.Shape.{has_tag}
use Rattle.kmip_client.proofs.untyped.first.Given as goal

abbrev pub invariant-loop-index : goal.invariant-loop-index
invariant-loop-index l = filter (has_tag l.tag) (take l.index l.trees) ≡ []
