-- Written by tables/generate.py from tables/*.toml: change these instead.
-- The states of an object: KMIP 1.2, 9.1.3.2.
use Rattle.std.specs.Prelude.{List, [], ◌∷◌, map, codes}
use Rattle.std.proofs.Common.{rules}
use Rattle.kmip_shape.specs.Val.{Val}
use Rattle.kmip_shape.specs.Shape.{Entry}
use Rattle.kmip_shape.specs.Same.{IsFaithful}
use Rattle.kmip_shape.specs.Enumerations.{entry, enumeration_val, AreFound, same_variant}
use Rattle.kmip_enums.specs.declared.state.State.{State}
use Rattle.kmip_enums.specs.declared.state.State.TheVariants.{PreActive, Active, Deactivated, Compromised, Destroyed, DestroyedCompromised}

-- the number and the name of each
abbrev pub state_line : State → Entry
state_line PreActive = entry 0x1 (codes "PreActive")
state_line Active = entry 0x2 (codes "Active")
state_line Deactivated = entry 0x3 (codes "Deactivated")
state_line Compromised = entry 0x4 (codes "Compromised")
state_line Destroyed = entry 0x5 (codes "Destroyed")
state_line DestroyedCompromised = entry 0x6 (codes "DestroyedCompromised")

-- in the order of their numbers
abbrev pub state_variants : List State
state_variants =
    PreActive ∷ Active ∷ Deactivated ∷ Compromised ∷ Destroyed ∷ DestroyedCompromised ∷ []

abbrev pub states : List Entry
states = map state_line state_variants

abbrev pub state_val : State → Val
state_val = enumeration_val state_line

pub state_found : AreFound state_line state_variants
state_found x = search rules

pub state_same : IsFaithful state_val
state_same = same_variant state_line state_variants state_found
