-- Written by tables/generate.py from tables/*.toml: change these instead.
-- The algorithms of digital signatures: KMIP 1.2, 9.1.3.2.
use Rattle.std.specs.Prelude.{List, [], ◌∷◌, map, codes}
use Rattle.std.proofs.Common.{rules}
use Rattle.kmip_shape.specs.Val.{Val}
use Rattle.kmip_shape.specs.Shape.{Entry}
use Rattle.kmip_shape.specs.Same.{IsFaithful}
use Rattle.kmip_shape.specs.Enumerations.{entry, enumeration_val, AreFound, same_variant}
use Rattle.kmip_codes.specs.declared.digital_signature_algorithm.DigitalSignatureAlgorithm.{DigitalSignatureAlgorithm}
use Rattle.kmip_codes.specs.declared.digital_signature_algorithm.DigitalSignatureAlgorithm.TheVariants.{MD2WithRSAEncryption_PKCS1_v1_5, MD5WithRSAEncryption_PKCS1_v1_5, SHA1WithRSAEncryption_PKCS1_v1_5, SHA224WithRSAEncryption_PKCS1_v1_5, SHA256WithRSAEncryption_PKCS1_v1_5, SHA384WithRSAEncryption_PKCS1_v1_5, SHA512WithRSAEncryption_PKCS1_v1_5, RSASSA_PSS_PKCS1_v1_5, DSAWithSHA1, DSAWithSHA224, DSAWithSHA256, ECDSAWithSHA1, ECDSAWithSHA224, ECDSAWithSHA256, ECDSAWithSHA384, ECDSAWithSHA512}

-- the number and the name of each
abbrev pub digital_signature_algorithm_line : DigitalSignatureAlgorithm → Entry
digital_signature_algorithm_line MD2WithRSAEncryption_PKCS1_v1_5 =
    entry 0x1 (codes "MD2WithRSAEncryption_PKCS1_v1_5")
digital_signature_algorithm_line MD5WithRSAEncryption_PKCS1_v1_5 =
    entry 0x2 (codes "MD5WithRSAEncryption_PKCS1_v1_5")
digital_signature_algorithm_line SHA1WithRSAEncryption_PKCS1_v1_5 =
    entry 0x3 (codes "SHA1WithRSAEncryption_PKCS1_v1_5")
digital_signature_algorithm_line SHA224WithRSAEncryption_PKCS1_v1_5 =
    entry 0x4 (codes "SHA224WithRSAEncryption_PKCS1_v1_5")
digital_signature_algorithm_line SHA256WithRSAEncryption_PKCS1_v1_5 =
    entry 0x5 (codes "SHA256WithRSAEncryption_PKCS1_v1_5")
digital_signature_algorithm_line SHA384WithRSAEncryption_PKCS1_v1_5 =
    entry 0x6 (codes "SHA384WithRSAEncryption_PKCS1_v1_5")
digital_signature_algorithm_line SHA512WithRSAEncryption_PKCS1_v1_5 =
    entry 0x7 (codes "SHA512WithRSAEncryption_PKCS1_v1_5")
digital_signature_algorithm_line RSASSA_PSS_PKCS1_v1_5 = entry 0x8 (codes "RSASSA_PSS_PKCS1_v1_5")
digital_signature_algorithm_line DSAWithSHA1 = entry 0x9 (codes "DSAWithSHA1")
digital_signature_algorithm_line DSAWithSHA224 = entry 0xa (codes "DSAWithSHA224")
digital_signature_algorithm_line DSAWithSHA256 = entry 0xb (codes "DSAWithSHA256")
digital_signature_algorithm_line ECDSAWithSHA1 = entry 0xc (codes "ECDSAWithSHA1")
digital_signature_algorithm_line ECDSAWithSHA224 = entry 0xd (codes "ECDSAWithSHA224")
digital_signature_algorithm_line ECDSAWithSHA256 = entry 0xe (codes "ECDSAWithSHA256")
digital_signature_algorithm_line ECDSAWithSHA384 = entry 0xf (codes "ECDSAWithSHA384")
digital_signature_algorithm_line ECDSAWithSHA512 = entry 0x10 (codes "ECDSAWithSHA512")

-- in the order of their numbers
abbrev pub digital_signature_algorithm_variants : List DigitalSignatureAlgorithm
digital_signature_algorithm_variants =
    MD2WithRSAEncryption_PKCS1_v1_5 ∷ MD5WithRSAEncryption_PKCS1_v1_5 ∷
    SHA1WithRSAEncryption_PKCS1_v1_5 ∷ SHA224WithRSAEncryption_PKCS1_v1_5 ∷
    SHA256WithRSAEncryption_PKCS1_v1_5 ∷ SHA384WithRSAEncryption_PKCS1_v1_5 ∷
    SHA512WithRSAEncryption_PKCS1_v1_5 ∷ RSASSA_PSS_PKCS1_v1_5 ∷ DSAWithSHA1 ∷ DSAWithSHA224 ∷
    DSAWithSHA256 ∷ ECDSAWithSHA1 ∷ ECDSAWithSHA224 ∷ ECDSAWithSHA256 ∷ ECDSAWithSHA384 ∷
    ECDSAWithSHA512 ∷ []

abbrev pub digital_signature_algorithms : List Entry
digital_signature_algorithms =
    map digital_signature_algorithm_line digital_signature_algorithm_variants

abbrev pub digital_signature_algorithm_val : DigitalSignatureAlgorithm → Val
digital_signature_algorithm_val = enumeration_val digital_signature_algorithm_line

pub digital_signature_algorithm_found : AreFound digital_signature_algorithm_line
    digital_signature_algorithm_variants
digital_signature_algorithm_found x = search rules

pub digital_signature_algorithm_same : IsFaithful digital_signature_algorithm_val
digital_signature_algorithm_same =
    same_variant digital_signature_algorithm_line digital_signature_algorithm_variants
    digital_signature_algorithm_found
