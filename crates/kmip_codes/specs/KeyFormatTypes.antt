-- Written by tables/generate.py from tables/*.toml: change these instead.
-- The formats of key material: KMIP 1.2, 9.1.3.2.
use Rattle.std.specs.Prelude.{List, [], ◌∷◌, map, codes}
use Rattle.std.proofs.Common.{rules}
use Rattle.kmip_shape.specs.Val.{Val}
use Rattle.kmip_shape.specs.Shape.{Entry}
use Rattle.kmip_shape.specs.Same.{IsFaithful}
use Rattle.kmip_shape.specs.Enumerations.{entry, enumeration_val, AreFound, same_variant}
use Rattle.kmip_codes.specs.declared.key_format_type.KeyFormatType.{KeyFormatType}
use Rattle.kmip_codes.specs.declared.key_format_type.KeyFormatType.TheVariants.{Raw, Opaque, PKCS1, PKCS8, X509, ECPrivateKey, TransparentSymmetricKey, TransparentDSAPrivateKey, TransparentDSAPublicKey, TransparentRSAPrivateKey, TransparentRSAPublicKey, TransparentDHPrivateKey, TransparentDHPublicKey, TransparentECDSAPrivateKey, TransparentECDSAPublicKey, TransparentECHDPrivateKey, TransparentECDHPublicKey, TransparentECMQVPrivateKey, TransparentECMQVPublicKey}

-- the number and the name of each
abbrev pub key_format_type_line : KeyFormatType → Entry
key_format_type_line Raw = entry 0x1 (codes "Raw")
key_format_type_line Opaque = entry 0x2 (codes "Opaque")
key_format_type_line PKCS1 = entry 0x3 (codes "PKCS1")
key_format_type_line PKCS8 = entry 0x4 (codes "PKCS8")
key_format_type_line X509 = entry 0x5 (codes "X509")
key_format_type_line ECPrivateKey = entry 0x6 (codes "ECPrivateKey")
key_format_type_line TransparentSymmetricKey = entry 0x7 (codes "TransparentSymmetricKey")
key_format_type_line TransparentDSAPrivateKey = entry 0x8 (codes "TransparentDSAPrivateKey")
key_format_type_line TransparentDSAPublicKey = entry 0x9 (codes "TransparentDSAPublicKey")
key_format_type_line TransparentRSAPrivateKey = entry 0xa (codes "TransparentRSAPrivateKey")
key_format_type_line TransparentRSAPublicKey = entry 0xb (codes "TransparentRSAPublicKey")
key_format_type_line TransparentDHPrivateKey = entry 0xc (codes "TransparentDHPrivateKey")
key_format_type_line TransparentDHPublicKey = entry 0xd (codes "TransparentDHPublicKey")
key_format_type_line TransparentECDSAPrivateKey = entry 0xe (codes "TransparentECDSAPrivateKey")
key_format_type_line TransparentECDSAPublicKey = entry 0xf (codes "TransparentECDSAPublicKey")
key_format_type_line TransparentECHDPrivateKey = entry 0x10 (codes "TransparentECHDPrivateKey")
key_format_type_line TransparentECDHPublicKey = entry 0x11 (codes "TransparentECDHPublicKey")
key_format_type_line TransparentECMQVPrivateKey = entry 0x12 (codes "TransparentECMQVPrivateKey")
key_format_type_line TransparentECMQVPublicKey = entry 0x13 (codes "TransparentECMQVPublicKey")

-- in the order of their numbers
abbrev pub key_format_type_variants : List KeyFormatType
key_format_type_variants =
    Raw ∷ Opaque ∷ PKCS1 ∷ PKCS8 ∷ X509 ∷ ECPrivateKey ∷ TransparentSymmetricKey ∷
    TransparentDSAPrivateKey ∷ TransparentDSAPublicKey ∷ TransparentRSAPrivateKey ∷
    TransparentRSAPublicKey ∷ TransparentDHPrivateKey ∷ TransparentDHPublicKey ∷
    TransparentECDSAPrivateKey ∷ TransparentECDSAPublicKey ∷ TransparentECHDPrivateKey ∷
    TransparentECDHPublicKey ∷ TransparentECMQVPrivateKey ∷ TransparentECMQVPublicKey ∷ []

abbrev pub key_format_types : List Entry
key_format_types = map key_format_type_line key_format_type_variants

abbrev pub key_format_type_val : KeyFormatType → Val
key_format_type_val = enumeration_val key_format_type_line

pub key_format_type_found : AreFound key_format_type_line key_format_type_variants
key_format_type_found x = search rules

pub key_format_type_same : IsFaithful key_format_type_val
key_format_type_same =
    same_variant key_format_type_line key_format_type_variants key_format_type_found
