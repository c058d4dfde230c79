-- Written by tables/generate.py from tables/*.toml: change these instead.
-- The ways to wrap a key: KMIP 1.2, 9.1.3.2.
use Rattle.std.specs.Prelude.{List, [], ◌∷◌, map, codes}
use Rattle.std.proofs.Common.{rules}
use Rattle.kmip_shape.specs.Val.{Val}
use Rattle.kmip_shape.specs.Shape.{Entry}
use Rattle.kmip_shape.specs.Same.{IsFaithful}
use Rattle.kmip_shape.specs.Enumerations.{entry, enumeration_val, AreFound, same_variant}
use Rattle.kmip_codes.specs.declared.wrapping_method.WrappingMethod.{WrappingMethod}
use Rattle.kmip_codes.specs.declared.wrapping_method.WrappingMethod.TheVariants.{Encrypt, MACSign, EncryptThenMACSign, MACSignThenEncrypt, TR31}

-- the number and the name of each
abbrev pub wrapping_method_line : WrappingMethod → Entry
wrapping_method_line Encrypt = entry 0x1 (codes "Encrypt")
wrapping_method_line MACSign = entry 0x2 (codes "MACSign")
wrapping_method_line EncryptThenMACSign = entry 0x3 (codes "EncryptThenMACSign")
wrapping_method_line MACSignThenEncrypt = entry 0x4 (codes "MACSignThenEncrypt")
wrapping_method_line TR31 = entry 0x5 (codes "TR31")

-- in the order of their numbers
abbrev pub wrapping_method_variants : List WrappingMethod
wrapping_method_variants = Encrypt ∷ MACSign ∷ EncryptThenMACSign ∷ MACSignThenEncrypt ∷ TR31 ∷ []

abbrev pub wrapping_methods : List Entry
wrapping_methods = map wrapping_method_line wrapping_method_variants

abbrev pub wrapping_method_val : WrappingMethod → Val
wrapping_method_val = enumeration_val wrapping_method_line

pub wrapping_method_found : AreFound wrapping_method_line wrapping_method_variants
wrapping_method_found x = search rules

pub wrapping_method_same : IsFaithful wrapping_method_val
wrapping_method_same =
    same_variant wrapping_method_line wrapping_method_variants wrapping_method_found
