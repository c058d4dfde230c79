-- The structure at the front of bytes.
use Rattle.std.specs.Prelude.{ℕ, ◌≤◌, List, length, take, Option, Some, None}
use Rattle.std.specs.Option.{option_and_then}
use Rattle.kmip_wire.specs.Tree.{Tree, scalar, structure}
use Rattle.kmip_wire.specs.Parses.{Parses}
use Rattle.kmip_wire.specs.Reading.{front_at}

abbrev pub if_structure : Tree → Option Tree
if_structure (scalar tag value) = None
if_structure (structure tag trees) = Some (structure tag trees)

-- the well-formed item at the front, where it is a Structure
abbrev pub front_structure : List ℕ → Option Tree
front_structure bytes = option_and_then if_structure (front_at 1 bytes)

abbrev pub IsStructure : Tree → Type 0
IsStructure (scalar tag value) = ⊥
IsStructure (structure tag trees) = Unit {0}

-- some of the first bytes are an item (KMIP 1.0, 9.1.1), which is the Structure t
abbrev pub BeginsWith : Tree → List ℕ → Type 0
BeginsWith t bytes = IsStructure t × ((n : ℕ) × (n ≤ length bytes) × Parses t 1 (take n bytes))
