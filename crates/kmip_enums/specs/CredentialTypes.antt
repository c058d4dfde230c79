-- Written by tables/generate.py from tables/*.toml: change these instead.
-- The kinds of credentials: KMIP 1.2, 9.1.3.2.
use Rattle.std.specs.Prelude.{List, [], ◌∷◌, map, codes}
use Rattle.std.proofs.Common.{rules}
use Rattle.kmip_shape.specs.Val.{Val}
use Rattle.kmip_shape.specs.Shape.{Entry}
use Rattle.kmip_shape.specs.Same.{IsFaithful}
use Rattle.kmip_shape.specs.Enumerations.{entry, enumeration_val, AreFound, same_variant}
use Rattle.kmip_enums.specs.declared.credential_type.CredentialType.{CredentialType}
use Rattle.kmip_enums.specs.declared.credential_type.CredentialType.TheVariants.{UsernameAndPassword}

-- the number and the name of each
abbrev pub credential_type_line : CredentialType → Entry
credential_type_line UsernameAndPassword = entry 0x1 (codes "UsernameAndPassword")

-- in the order of their numbers
abbrev pub credential_type_variants : List CredentialType
credential_type_variants = UsernameAndPassword ∷ []

abbrev pub credential_types : List Entry
credential_types = map credential_type_line credential_type_variants

abbrev pub credential_type_val : CredentialType → Val
credential_type_val = enumeration_val credential_type_line

pub credential_type_found : AreFound credential_type_line credential_type_variants
credential_type_found x = search rules

pub credential_type_same : IsFaithful credential_type_val
credential_type_same =
    same_variant credential_type_line credential_type_variants credential_type_found
