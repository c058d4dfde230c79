-- Written by tables/generate.py from tables/*.toml: change these instead.
-- The kinds of certificates: KMIP 1.2, 9.1.3.2.
use Rattle.std.specs.Prelude.{List, [], ◌∷◌, map, codes}
use Rattle.std.proofs.Common.{rules}
use Rattle.kmip_shape.specs.Val.{Val}
use Rattle.kmip_shape.specs.Shape.{Entry}
use Rattle.kmip_shape.specs.Same.{IsFaithful}
use Rattle.kmip_shape.specs.Enumerations.{entry, enumeration_val, AreFound, same_variant}
use Rattle.kmip_enums.specs.declared.certificate_type.CertificateType.{CertificateType}
use Rattle.kmip_enums.specs.declared.certificate_type.CertificateType.TheVariants.{X509, PGP}

-- the number and the name of each
abbrev pub certificate_type_line : CertificateType → Entry
certificate_type_line X509 = entry 0x1 (codes "X509")
certificate_type_line PGP = entry 0x2 (codes "PGP")

-- in the order of their numbers
abbrev pub certificate_type_variants : List CertificateType
certificate_type_variants = X509 ∷ PGP ∷ []

abbrev pub certificate_types : List Entry
certificate_types = map certificate_type_line certificate_type_variants

abbrev pub certificate_type_val : CertificateType → Val
certificate_type_val = enumeration_val certificate_type_line

pub certificate_type_found : AreFound certificate_type_line certificate_type_variants
certificate_type_found x = search rules

pub certificate_type_same : IsFaithful certificate_type_val
certificate_type_same =
    same_variant certificate_type_line certificate_type_variants certificate_type_found
