-- Written by tables/generate.py from tables/*.toml: change these instead.
-- The kinds of managed objects: KMIP 1.2, 9.1.3.2.
use Rattle.std.specs.Prelude.{List, [], ◌∷◌, map, codes}
use Rattle.std.proofs.Common.{rules}
use Rattle.kmip_shape.specs.Val.{Val}
use Rattle.kmip_shape.specs.Shape.{Entry}
use Rattle.kmip_shape.specs.Same.{IsFaithful}
use Rattle.kmip_shape.specs.Enumerations.{entry, enumeration_val, AreFound, same_variant}
use Rattle.kmip_enums.specs.declared.object_type.ObjectType.{ObjectType}
use Rattle.kmip_enums.specs.declared.object_type.ObjectType.TheVariants.{Certificate, SymmetricKey, PublicKey, PrivateKey, SplitKey, Template, SecretData, OpaqueObject, PGPKey}

-- the number and the name of each
abbrev pub object_type_line : ObjectType → Entry
object_type_line Certificate = entry 0x1 (codes "Certificate")
object_type_line SymmetricKey = entry 0x2 (codes "SymmetricKey")
object_type_line PublicKey = entry 0x3 (codes "PublicKey")
object_type_line PrivateKey = entry 0x4 (codes "PrivateKey")
object_type_line SplitKey = entry 0x5 (codes "SplitKey")
object_type_line Template = entry 0x6 (codes "Template")
object_type_line SecretData = entry 0x7 (codes "SecretData")
object_type_line OpaqueObject = entry 0x8 (codes "OpaqueObject")
object_type_line PGPKey = entry 0x9 (codes "PGPKey")

-- in the order of their numbers
abbrev pub object_type_variants : List ObjectType
object_type_variants =
    Certificate ∷ SymmetricKey ∷ PublicKey ∷ PrivateKey ∷ SplitKey ∷ Template ∷ SecretData ∷
    OpaqueObject ∷ PGPKey ∷ []

abbrev pub object_types : List Entry
object_types = map object_type_line object_type_variants

abbrev pub object_type_val : ObjectType → Val
object_type_val = enumeration_val object_type_line

pub object_type_found : AreFound object_type_line object_type_variants
object_type_found x = search rules

pub object_type_same : IsFaithful object_type_val
object_type_same = same_variant object_type_line object_type_variants object_type_found
