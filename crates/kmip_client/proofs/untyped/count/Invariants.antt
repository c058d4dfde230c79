use Rattle.std.proofs.Common.{◌≡◌, ◌≤◌, length, take}
use Rattle.std.specs.List.{filter}
use Rattle.kmip_shape.specs.Shape.{has_tag}
use Rattle.kmip_client.proofs.untyped.count.Given as goal

abbrev pub invariant-loop-index : goal.invariant-loop-index
invariant-loop-index l = record {
  within : l.count ≤ l.index;
  counted : l.count ≡ length (filter (has_tag l.tag) (take l.index l.trees));
}
