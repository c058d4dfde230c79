-- Written by tables/generate.py from tables/*.toml: change these instead.
-- The tags under which the values of attributes stand, by the attributes' names (KMIP 1.2, 3).
use Rattle.std.specs.Prelude.{ℕ, List, codes, if◌then◌else◌, bytes_eq}
use Rattle.kmip_tags.specs.Tags as tags

-- the tag of the enumeration of the attribute's values; Attribute Value where it has none
abbrev pub attribute_tag : List ℕ → ℕ
attribute_tag name =
    if bytes_eq name (codes "Certificate Type") then tags.CERTIFICATE_TYPE
    else if bytes_eq name (codes "Cryptographic Algorithm") then tags.CRYPTOGRAPHIC_ALGORITHM
    else if bytes_eq name (codes "Cryptographic Usage Mask") then tags.CRYPTOGRAPHIC_USAGE_MASK
    else if bytes_eq name (codes "Digital Signature Algorithm") then tags.DIGITAL_SIGNATURE_ALGORITHM
    else if bytes_eq name (codes "Object Type") then tags.OBJECT_TYPE
    else if bytes_eq name (codes "State") then tags.STATE
    else tags.ATTRIBUTE_VALUE
