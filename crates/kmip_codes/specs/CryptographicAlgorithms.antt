-- Written by tables/generate.py from tables/*.toml: change these instead.
-- The cryptographic algorithms: KMIP 1.2, 9.1.3.2.
use Rattle.std.specs.Prelude.{List, [], ◌∷◌, map, codes}
use Rattle.std.proofs.Common.{rules}
use Rattle.kmip_shape.specs.Val.{Val}
use Rattle.kmip_shape.specs.Shape.{Entry}
use Rattle.kmip_shape.specs.Same.{IsFaithful}
use Rattle.kmip_shape.specs.Enumerations.{entry, enumeration_val, AreFound, same_variant}
use Rattle.kmip_codes.specs.declared.cryptographic_algorithm.CryptographicAlgorithm.{CryptographicAlgorithm}
use Rattle.kmip_codes.specs.declared.cryptographic_algorithm.CryptographicAlgorithm.TheVariants.{DES, TRIPLE_DES, AES, RSA}

-- the number and the name of each
abbrev pub cryptographic_algorithm_line : CryptographicAlgorithm → Entry
cryptographic_algorithm_line DES = entry 0x1 (codes "DES")
cryptographic_algorithm_line TRIPLE_DES = entry 0x2 (codes "TRIPLE_DES")
cryptographic_algorithm_line AES = entry 0x3 (codes "AES")
cryptographic_algorithm_line RSA = entry 0x4 (codes "RSA")

-- in the order of their numbers
abbrev pub cryptographic_algorithm_variants : List CryptographicAlgorithm
cryptographic_algorithm_variants = DES ∷ TRIPLE_DES ∷ AES ∷ RSA ∷ []

abbrev pub cryptographic_algorithms : List Entry
cryptographic_algorithms = map cryptographic_algorithm_line cryptographic_algorithm_variants

abbrev pub cryptographic_algorithm_val : CryptographicAlgorithm → Val
cryptographic_algorithm_val = enumeration_val cryptographic_algorithm_line

pub cryptographic_algorithm_found : AreFound cryptographic_algorithm_line
    cryptographic_algorithm_variants
cryptographic_algorithm_found x = search rules

pub cryptographic_algorithm_same : IsFaithful cryptographic_algorithm_val
cryptographic_algorithm_same =
    same_variant cryptographic_algorithm_line cryptographic_algorithm_variants
    cryptographic_algorithm_found
