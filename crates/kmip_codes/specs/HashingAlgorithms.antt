-- Written by tables/generate.py from tables/*.toml: change these instead.
-- The hashing algorithms: KMIP 1.2, 9.1.3.2.
use Rattle.std.specs.Prelude.{List, [], ◌∷◌, map, codes}
use Rattle.std.proofs.Common.{rules}
use Rattle.kmip_shape.specs.Val.{Val}
use Rattle.kmip_shape.specs.Shape.{Entry}
use Rattle.kmip_shape.specs.Same.{IsFaithful}
use Rattle.kmip_shape.specs.Enumerations.{entry, enumeration_val, AreFound, same_variant}
use Rattle.kmip_codes.specs.declared.hashing_algorithm.HashingAlgorithm.{HashingAlgorithm}
use Rattle.kmip_codes.specs.declared.hashing_algorithm.HashingAlgorithm.TheVariants.{MD2, MD4, MD5, SHA1, SHA224, SHA256, SHA384, SHA512, RIPEMD160, Tiger, Whirlpool}

-- the number and the name of each
abbrev pub hashing_algorithm_line : HashingAlgorithm → Entry
hashing_algorithm_line MD2 = entry 0x1 (codes "MD2")
hashing_algorithm_line MD4 = entry 0x2 (codes "MD4")
hashing_algorithm_line MD5 = entry 0x3 (codes "MD5")
hashing_algorithm_line SHA1 = entry 0x4 (codes "SHA1")
hashing_algorithm_line SHA224 = entry 0x5 (codes "SHA224")
hashing_algorithm_line SHA256 = entry 0x6 (codes "SHA256")
hashing_algorithm_line SHA384 = entry 0x7 (codes "SHA384")
hashing_algorithm_line SHA512 = entry 0x8 (codes "SHA512")
hashing_algorithm_line RIPEMD160 = entry 0x9 (codes "RIPEMD160")
hashing_algorithm_line Tiger = entry 0xa (codes "Tiger")
hashing_algorithm_line Whirlpool = entry 0xb (codes "Whirlpool")

-- in the order of their numbers
abbrev pub hashing_algorithm_variants : List HashingAlgorithm
hashing_algorithm_variants =
    MD2 ∷ MD4 ∷ MD5 ∷ SHA1 ∷ SHA224 ∷ SHA256 ∷ SHA384 ∷ SHA512 ∷ RIPEMD160 ∷ Tiger ∷ Whirlpool ∷ []

abbrev pub hashing_algorithms : List Entry
hashing_algorithms = map hashing_algorithm_line hashing_algorithm_variants

abbrev pub hashing_algorithm_val : HashingAlgorithm → Val
hashing_algorithm_val = enumeration_val hashing_algorithm_line

pub hashing_algorithm_found : AreFound hashing_algorithm_line hashing_algorithm_variants
hashing_algorithm_found x = search rules

pub hashing_algorithm_same : IsFaithful hashing_algorithm_val
hashing_algorithm_same =
    same_variant hashing_algorithm_line hashing_algorithm_variants hashing_algorithm_found
