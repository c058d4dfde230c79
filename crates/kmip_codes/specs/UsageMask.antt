-- Written by tables/generate.py from tables/*.toml: change these instead.
-- The uses of a key, each with its bit: KMIP 1.2, 9.1.3.3.1.
use Rattle.std.specs.Prelude.{ℕ, List, [], ◌∷◌, codes}
use Rattle.kmip_codes.specs.declared.usage_mask.CryptographicUsageMask.{CryptographicUsageMask}

abbrev pub usages : List (List ℕ × ℕ)
usages =
    (codes "Sign", 0x1)
    ∷ (codes "Verify", 0x2)
    ∷ (codes "Encrypt", 0x4)
    ∷ (codes "Decrypt", 0x8)
    ∷ (codes "WrapKey", 0x10)
    ∷ (codes "UnwrapKey", 0x20)
    ∷ (codes "Export", 0x40)
    ∷ (codes "MacGenerate", 0x80)
    ∷ (codes "MacVerify", 0x100)
    ∷ (codes "DeriveKey", 0x200)
    ∷ (codes "ContentCommitmentNonRepudiation", 0x400)
    ∷ (codes "KeyAgreement", 0x800)
    ∷ (codes "CertificateSign", 0x1000)
    ∷ (codes "CrlSign", 0x2000)
    ∷ (codes "GenerateCryptogram", 0x4000)
    ∷ (codes "ValidateCryptogram", 0x8000)
    ∷ (codes "TranslateEncrypt", 0x10000)
    ∷ (codes "TranslateDecrypt", 0x20000)
    ∷ (codes "TranslateWrap", 0x40000)
    ∷ (codes "TranslateUnwrap", 0x80000)
    ∷ []

-- the bits of a set
abbrev pub usage_bits : CryptographicUsageMask → ℕ
usage_bits mask = mask.0
