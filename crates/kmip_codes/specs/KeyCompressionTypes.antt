-- Written by tables/generate.py from tables/*.toml: change these instead.
-- The ways in which a key is compressed: KMIP 1.2, 9.1.3.2.
use Rattle.std.specs.Prelude.{List, [], ◌∷◌, map, codes}
use Rattle.std.proofs.Common.{rules}
use Rattle.kmip_shape.specs.Val.{Val}
use Rattle.kmip_shape.specs.Shape.{Entry}
use Rattle.kmip_shape.specs.Same.{IsFaithful}
use Rattle.kmip_shape.specs.Enumerations.{entry, enumeration_val, AreFound, same_variant}
use Rattle.kmip_codes.specs.declared.key_compression_type.KeyCompressionType.{KeyCompressionType}
use Rattle.kmip_codes.specs.declared.key_compression_type.KeyCompressionType.TheVariants.{ECPUblicKeyTypeUncompressed, ECPUblicKeyTypeX962CompressedPrime, ECPUblicKeyTypeX962CompressedChar2, ECPUblicKeyTypeX962Hybrid}

-- the number and the name of each
abbrev pub key_compression_type_line : KeyCompressionType → Entry
key_compression_type_line ECPUblicKeyTypeUncompressed =
    entry 0x1 (codes "ECPUblicKeyTypeUncompressed")
key_compression_type_line ECPUblicKeyTypeX962CompressedPrime =
    entry 0x2 (codes "ECPUblicKeyTypeX962CompressedPrime")
key_compression_type_line ECPUblicKeyTypeX962CompressedChar2 =
    entry 0x3 (codes "ECPUblicKeyTypeX962CompressedChar2")
key_compression_type_line ECPUblicKeyTypeX962Hybrid = entry 0x4 (codes "ECPUblicKeyTypeX962Hybrid")

-- in the order of their numbers
abbrev pub key_compression_type_variants : List KeyCompressionType
key_compression_type_variants =
    ECPUblicKeyTypeUncompressed ∷ ECPUblicKeyTypeX962CompressedPrime ∷
    ECPUblicKeyTypeX962CompressedChar2 ∷ ECPUblicKeyTypeX962Hybrid ∷ []

abbrev pub key_compression_types : List Entry
key_compression_types = map key_compression_type_line key_compression_type_variants

abbrev pub key_compression_type_val : KeyCompressionType → Val
key_compression_type_val = enumeration_val key_compression_type_line

pub key_compression_type_found : AreFound key_compression_type_line key_compression_type_variants
key_compression_type_found x = search rules

pub key_compression_type_same : IsFaithful key_compression_type_val
key_compression_type_same =
    same_variant key_compression_type_line key_compression_type_variants key_compression_type_found
