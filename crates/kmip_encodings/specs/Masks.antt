-- Written by tables/generate.py from tables/*.toml: change these instead.
-- The bits of masks, by the tag that a mask stands under and their names (KMIP 1.2, 9.1.3.3): those by
-- OASIS's rule, and kmip-protocol's where they differ.
use Rattle.std.specs.Prelude.{ℕ, ◌==◌, Bool, true, false, List, [], ◌∷◌, codes, Option, Some, None, if◌then◌else◌, bytes_eq}
use Rattle.kmip_tags.specs.Tags as tags

-- a bit with its name by OASIS's rule
abbrev pub Bit : Type 0
Bit = ℕ × List ℕ

unfoldable pub cryptographic_usage_bits : List Bit
cryptographic_usage_bits =
    (0x1, codes "Sign") ∷
    (0x2, codes "Verify") ∷
    (0x4, codes "Encrypt") ∷
    (0x8, codes "Decrypt") ∷
    (0x10, codes "WrapKey") ∷
    (0x20, codes "UnwrapKey") ∷
    (0x40, codes "Export") ∷
    (0x80, codes "MACGenerate") ∷
    (0x100, codes "MACVerify") ∷
    (0x200, codes "DeriveKey") ∷
    (0x400, codes "ContentCommitmentNonRepudiation") ∷
    (0x800, codes "KeyAgreement") ∷
    (0x1000, codes "CertificateSign") ∷
    (0x2000, codes "CRLSign") ∷
    (0x4000, codes "GenerateCryptogram") ∷
    (0x8000, codes "ValidateCryptogram") ∷
    (0x10000, codes "TranslateEncrypt") ∷
    (0x20000, codes "TranslateDecrypt") ∷
    (0x40000, codes "TranslateWrap") ∷
    (0x80000, codes "TranslateUnwrap") ∷
    []

unfoldable pub storage_status_bits : List Bit
storage_status_bits =
    (0x1, codes "OnLineStorage") ∷
    (0x2, codes "ArchivalStorage") ∷
    []

-- whether an Integer under the tag is a mask
abbrev pub is_mask : ℕ → Bool
is_mask tag =
    if tag == tags.CRYPTOGRAPHIC_USAGE_MASK then true
    else if tag == tags.STORAGE_STATUS_MASK then true
    else false

-- the bits that have names, the lowest first; none where the tag is none of a mask
abbrev pub mask_bits : ℕ → List Bit
mask_bits tag =
    if tag == tags.CRYPTOGRAPHIC_USAGE_MASK then cryptographic_usage_bits
    else if tag == tags.STORAGE_STATUS_MASK then storage_status_bits
    else []

abbrev pub cryptographic_usage_bit_1 : List ℕ → Option ℕ
cryptographic_usage_bit_1 name =
    if bytes_eq name (codes "Sign") then Some 0x1
    else if bytes_eq name (codes "Verify") then Some 0x2
    else if bytes_eq name (codes "Encrypt") then Some 0x4
    else if bytes_eq name (codes "Decrypt") then Some 0x8
    else if bytes_eq name (codes "WrapKey") then Some 0x10
    else if bytes_eq name (codes "UnwrapKey") then Some 0x20
    else if bytes_eq name (codes "Export") then Some 0x40
    else if bytes_eq name (codes "MACGenerate") then Some 0x80
    else None

abbrev pub cryptographic_usage_bit_2 : List ℕ → Option ℕ
cryptographic_usage_bit_2 name =
    if bytes_eq name (codes "MACVerify") then Some 0x100
    else if bytes_eq name (codes "DeriveKey") then Some 0x200
    else if bytes_eq name (codes "ContentCommitmentNonRepudiation") then Some 0x400
    else if bytes_eq name (codes "KeyAgreement") then Some 0x800
    else if bytes_eq name (codes "CertificateSign") then Some 0x1000
    else if bytes_eq name (codes "CRLSign") then Some 0x2000
    else if bytes_eq name (codes "GenerateCryptogram") then Some 0x4000
    else if bytes_eq name (codes "ValidateCryptogram") then Some 0x8000
    else cryptographic_usage_bit_1 name

abbrev pub cryptographic_usage_bit : List ℕ → Option ℕ
cryptographic_usage_bit name =
    if bytes_eq name (codes "TranslateEncrypt") then Some 0x10000
    else if bytes_eq name (codes "TranslateDecrypt") then Some 0x20000
    else if bytes_eq name (codes "TranslateWrap") then Some 0x40000
    else if bytes_eq name (codes "TranslateUnwrap") then Some 0x80000
    else if bytes_eq name (codes "MacGenerate") then Some 0x80
    else if bytes_eq name (codes "MacVerify") then Some 0x100
    else if bytes_eq name (codes "CrlSign") then Some 0x2000
    else cryptographic_usage_bit_2 name

abbrev pub storage_status_bit : List ℕ → Option ℕ
storage_status_bit name =
    if bytes_eq name (codes "OnLineStorage") then Some 0x1
    else if bytes_eq name (codes "ArchivalStorage") then Some 0x2
    else None

abbrev pub mask_bit : ℕ → List ℕ → Option ℕ
mask_bit tag name =
    if tag == tags.CRYPTOGRAPHIC_USAGE_MASK then cryptographic_usage_bit name
    else if tag == tags.STORAGE_STATUS_MASK then storage_status_bit name
    else None
