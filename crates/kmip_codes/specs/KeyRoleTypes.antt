-- Written by tables/generate.py from tables/*.toml: change these instead.
-- The roles of keys: KMIP 1.2, 9.1.3.2.
use Rattle.std.specs.Prelude.{List, [], ◌∷◌, map, codes}
use Rattle.std.proofs.Common.{rules}
use Rattle.kmip_shape.specs.Val.{Val}
use Rattle.kmip_shape.specs.Shape.{Entry}
use Rattle.kmip_shape.specs.Same.{IsFaithful}
use Rattle.kmip_shape.specs.Enumerations.{entry, enumeration_val, AreFound, same_variant}
use Rattle.kmip_codes.specs.declared.key_role_type.KeyRoleType.{KeyRoleType}
use Rattle.kmip_codes.specs.declared.key_role_type.KeyRoleType.TheVariants.{BDK, CVK, DEK, MKAC, MKSMC, MKSMI, MKDAC, MKDN, MKCP, MKOTH, KEK, MAC16609, MAC97971, MAC97972, MAC97973, MAC97974, MAC97975, ZPK, PVKIBM, PVKPVV, PVKOTH}

-- the number and the name of each
abbrev pub key_role_type_line : KeyRoleType → Entry
key_role_type_line BDK = entry 0x1 (codes "BDK")
key_role_type_line CVK = entry 0x2 (codes "CVK")
key_role_type_line DEK = entry 0x3 (codes "DEK")
key_role_type_line MKAC = entry 0x4 (codes "MKAC")
key_role_type_line MKSMC = entry 0x5 (codes "MKSMC")
key_role_type_line MKSMI = entry 0x6 (codes "MKSMI")
key_role_type_line MKDAC = entry 0x7 (codes "MKDAC")
key_role_type_line MKDN = entry 0x8 (codes "MKDN")
key_role_type_line MKCP = entry 0x9 (codes "MKCP")
key_role_type_line MKOTH = entry 0xa (codes "MKOTH")
key_role_type_line KEK = entry 0xb (codes "KEK")
key_role_type_line MAC16609 = entry 0xc (codes "MAC16609")
key_role_type_line MAC97971 = entry 0xd (codes "MAC97971")
key_role_type_line MAC97972 = entry 0xe (codes "MAC97972")
key_role_type_line MAC97973 = entry 0xf (codes "MAC97973")
key_role_type_line MAC97974 = entry 0x10 (codes "MAC97974")
key_role_type_line MAC97975 = entry 0x11 (codes "MAC97975")
key_role_type_line ZPK = entry 0x12 (codes "ZPK")
key_role_type_line PVKIBM = entry 0x13 (codes "PVKIBM")
key_role_type_line PVKPVV = entry 0x14 (codes "PVKPVV")
key_role_type_line PVKOTH = entry 0x15 (codes "PVKOTH")

-- in the order of their numbers
abbrev pub key_role_type_variants : List KeyRoleType
key_role_type_variants =
    BDK ∷ CVK ∷ DEK ∷ MKAC ∷ MKSMC ∷ MKSMI ∷ MKDAC ∷ MKDN ∷ MKCP ∷ MKOTH ∷ KEK ∷ MAC16609 ∷
    MAC97971 ∷ MAC97972 ∷ MAC97973 ∷ MAC97974 ∷ MAC97975 ∷ ZPK ∷ PVKIBM ∷ PVKPVV ∷ PVKOTH ∷ []

abbrev pub key_role_types : List Entry
key_role_types = map key_role_type_line key_role_type_variants

abbrev pub key_role_type_val : KeyRoleType → Val
key_role_type_val = enumeration_val key_role_type_line

pub key_role_type_found : AreFound key_role_type_line key_role_type_variants
key_role_type_found x = search rules

pub key_role_type_same : IsFaithful key_role_type_val
key_role_type_same = same_variant key_role_type_line key_role_type_variants key_role_type_found
