-- The structure at the front of bytes, as a parsed item.
use Rattle.std.proofs.Common.{◌≡◌, ◌↔◌, ℕ, ◌≤◌, List, length, take, Option, Some, None, refl, ap, ◌∙◌, arith}
use Rattle.std.specs.Option.{option_and_then}
use Rattle.kmip_wire.specs.Tree.{Tree, scalar, structure}
use Rattle.kmip_wire.specs.Parses.{Parses}
use Rattle.kmip_wire.specs.Reading.{front_at}
use Rattle.kmip_wire.proofs.Computed.{front_computed}
use Rattle.kmip_response.specs.Reading.{if_structure, front_structure, IsStructure, BeginsWith}

-- an item and its structure are one tree
same : (o : Option Tree) (t : Tree) → option_and_then if_structure o ≡ Some t → IsStructure t × (o ≡ Some t)
same None t e = cc
same (Some (scalar tag value)) t e = cc
same (Some (structure tag trees)) (scalar tag2 value) e = cc
same (Some (structure tag trees)) (structure tag2 trees2) e = (tt, e)

structured : (t : Tree) → IsStructure t → if_structure t ≡ Some t
structured (scalar tag value) s = absurd s
structured (structure tag trees) s = refl

pub front_structure_computed : (t : Tree) (b : List ℕ) → (front_structure b ≡ Some t) ↔ BeginsWith t b
front_structure_computed t b = (read, found)
  where
    computed : (front_at 1 b ≡ Some t) ↔ ((n : ℕ) × (n ≤ length b) × Parses t 1 (take n b))
    computed = front_computed t 1 b (omega arith, omega arith)

    read : front_structure b ≡ Some t → BeginsWith t b
    read e = let s = same (front_at 1 b) t e in (s.0, computed.0 s.1)

    found : BeginsWith t b → front_structure b ≡ Some t
    found (s, p) = ap (λ (o : Option Tree). option_and_then if_structure o) (computed.1 p) ∙ structured t s
