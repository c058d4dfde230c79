-- Written by tables/generate.py from tables/*.toml: change these instead.
-- The modes of block ciphers: KMIP 1.2, 9.1.3.2.
use Rattle.std.specs.Prelude.{List, [], ◌∷◌, map, codes}
use Rattle.std.proofs.Common.{rules}
use Rattle.kmip_shape.specs.Val.{Val}
use Rattle.kmip_shape.specs.Shape.{Entry}
use Rattle.kmip_shape.specs.Same.{IsFaithful}
use Rattle.kmip_shape.specs.Enumerations.{entry, enumeration_val, AreFound, same_variant}
use Rattle.kmip_codes.specs.declared.block_cipher_mode.BlockCipherMode.{BlockCipherMode}
use Rattle.kmip_codes.specs.declared.block_cipher_mode.BlockCipherMode.TheVariants.{CBC, ECB, PCBC, CFB, OFB, CTR, CMAC, CCM, GCM, CBC_MAC, XTS, AESKeyWrapPadding, NISTKeyWrap, X9_102_AESKW, X9_102_TDKW, X9_102_AKW1, X9_102_AKW2}

-- the number and the name of each
abbrev pub block_cipher_mode_line : BlockCipherMode → Entry
block_cipher_mode_line CBC = entry 0x1 (codes "CBC")
block_cipher_mode_line ECB = entry 0x2 (codes "ECB")
block_cipher_mode_line PCBC = entry 0x3 (codes "PCBC")
block_cipher_mode_line CFB = entry 0x4 (codes "CFB")
block_cipher_mode_line OFB = entry 0x5 (codes "OFB")
block_cipher_mode_line CTR = entry 0x6 (codes "CTR")
block_cipher_mode_line CMAC = entry 0x7 (codes "CMAC")
block_cipher_mode_line CCM = entry 0x8 (codes "CCM")
block_cipher_mode_line GCM = entry 0x9 (codes "GCM")
block_cipher_mode_line CBC_MAC = entry 0xa (codes "CBC_MAC")
block_cipher_mode_line XTS = entry 0xb (codes "XTS")
block_cipher_mode_line AESKeyWrapPadding = entry 0xc (codes "AESKeyWrapPadding")
block_cipher_mode_line NISTKeyWrap = entry 0xd (codes "NISTKeyWrap")
block_cipher_mode_line X9_102_AESKW = entry 0xe (codes "X9_102_AESKW")
block_cipher_mode_line X9_102_TDKW = entry 0xf (codes "X9_102_TDKW")
block_cipher_mode_line X9_102_AKW1 = entry 0x10 (codes "X9_102_AKW1")
block_cipher_mode_line X9_102_AKW2 = entry 0x11 (codes "X9_102_AKW2")

-- in the order of their numbers
abbrev pub block_cipher_mode_variants : List BlockCipherMode
block_cipher_mode_variants =
    CBC ∷ ECB ∷ PCBC ∷ CFB ∷ OFB ∷ CTR ∷ CMAC ∷ CCM ∷ GCM ∷ CBC_MAC ∷ XTS ∷ AESKeyWrapPadding ∷
    NISTKeyWrap ∷ X9_102_AESKW ∷ X9_102_TDKW ∷ X9_102_AKW1 ∷ X9_102_AKW2 ∷ []

abbrev pub block_cipher_modes : List Entry
block_cipher_modes = map block_cipher_mode_line block_cipher_mode_variants

abbrev pub block_cipher_mode_val : BlockCipherMode → Val
block_cipher_mode_val = enumeration_val block_cipher_mode_line

pub block_cipher_mode_found : AreFound block_cipher_mode_line block_cipher_mode_variants
block_cipher_mode_found x = search rules

pub block_cipher_mode_same : IsFaithful block_cipher_mode_val
block_cipher_mode_same =
    same_variant block_cipher_mode_line block_cipher_mode_variants block_cipher_mode_found
