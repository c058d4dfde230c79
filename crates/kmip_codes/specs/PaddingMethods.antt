-- Written by tables/generate.py from tables/*.toml: change these instead.
-- The ways to pad a message: KMIP 1.2, 9.1.3.2.
use Rattle.std.specs.Prelude.{List, [], ◌∷◌, map, codes}
use Rattle.std.proofs.Common.{rules}
use Rattle.kmip_shape.specs.Val.{Val}
use Rattle.kmip_shape.specs.Shape.{Entry}
use Rattle.kmip_shape.specs.Same.{IsFaithful}
use Rattle.kmip_shape.specs.Enumerations.{entry, enumeration_val, AreFound, same_variant}
use Rattle.kmip_codes.specs.declared.padding_method.PaddingMethod.{PaddingMethod}
use Rattle.kmip_codes.specs.declared.padding_method.PaddingMethod.TheVariants.{None as NoPadding, OAEP, PKCS5, SSL3, Zeros, ANSI_X9_23, ISO_10126, PKCS1_v1_5, X9_31, PSS}

-- the number and the name of each
abbrev pub padding_method_line : PaddingMethod → Entry
padding_method_line NoPadding = entry 0x1 (codes "None")
padding_method_line OAEP = entry 0x2 (codes "OAEP")
padding_method_line PKCS5 = entry 0x3 (codes "PKCS5")
padding_method_line SSL3 = entry 0x4 (codes "SSL3")
padding_method_line Zeros = entry 0x5 (codes "Zeros")
padding_method_line ANSI_X9_23 = entry 0x6 (codes "ANSI_X9_23")
padding_method_line ISO_10126 = entry 0x7 (codes "ISO_10126")
padding_method_line PKCS1_v1_5 = entry 0x8 (codes "PKCS1_v1_5")
padding_method_line X9_31 = entry 0x9 (codes "X9_31")
padding_method_line PSS = entry 0xa (codes "PSS")

-- in the order of their numbers
abbrev pub padding_method_variants : List PaddingMethod
padding_method_variants =
    NoPadding ∷ OAEP ∷ PKCS5 ∷ SSL3 ∷ Zeros ∷ ANSI_X9_23 ∷ ISO_10126 ∷ PKCS1_v1_5 ∷ X9_31 ∷ PSS ∷ []

abbrev pub padding_methods : List Entry
padding_methods = map padding_method_line padding_method_variants

abbrev pub padding_method_val : PaddingMethod → Val
padding_method_val = enumeration_val padding_method_line

pub padding_method_found : AreFound padding_method_line padding_method_variants
padding_method_found x = search rules

pub padding_method_same : IsFaithful padding_method_val
padding_method_same = same_variant padding_method_line padding_method_variants padding_method_found
