-- Written by tables/generate.py from tables/*.toml: change these instead.
-- The kinds of links: KMIP 1.2, 9.1.3.2.
use Rattle.std.specs.Prelude.{List, [], ◌∷◌, map, codes}
use Rattle.std.proofs.Common.{rules}
use Rattle.kmip_shape.specs.Val.{Val}
use Rattle.kmip_shape.specs.Shape.{Entry}
use Rattle.kmip_shape.specs.Same.{IsFaithful}
use Rattle.kmip_shape.specs.Enumerations.{entry, enumeration_val, AreFound, same_variant}
use Rattle.kmip_enums.specs.declared.link_type.LinkType.{LinkType}
use Rattle.kmip_enums.specs.declared.link_type.LinkType.TheVariants.{CertificateLink, PublicKeyLink, PrivateKeyLink, DerivationBaseObjectLink, DerivedKeyLink, ReplacementObjectLink, ReplacedObjectLink}

-- the number and the name of each
abbrev pub link_type_line : LinkType → Entry
link_type_line CertificateLink = entry 0x101 (codes "CertificateLink")
link_type_line PublicKeyLink = entry 0x102 (codes "PublicKeyLink")
link_type_line PrivateKeyLink = entry 0x103 (codes "PrivateKeyLink")
link_type_line DerivationBaseObjectLink = entry 0x104 (codes "DerivationBaseObjectLink")
link_type_line DerivedKeyLink = entry 0x105 (codes "DerivedKeyLink")
link_type_line ReplacementObjectLink = entry 0x106 (codes "ReplacementObjectLink")
link_type_line ReplacedObjectLink = entry 0x107 (codes "ReplacedObjectLink")

-- in the order of their numbers
abbrev pub link_type_variants : List LinkType
link_type_variants =
    CertificateLink ∷ PublicKeyLink ∷ PrivateKeyLink ∷ DerivationBaseObjectLink ∷ DerivedKeyLink ∷
    ReplacementObjectLink ∷ ReplacedObjectLink ∷ []

abbrev pub link_types : List Entry
link_types = map link_type_line link_type_variants

abbrev pub link_type_val : LinkType → Val
link_type_val = enumeration_val link_type_line

pub link_type_found : AreFound link_type_line link_type_variants
link_type_found x = search rules

pub link_type_same : IsFaithful link_type_val
link_type_same = same_variant link_type_line link_type_variants link_type_found
