-- The texts of values in JSON and XML.
use Rattle.std.specs.Prelude.{bit_and, bit_xor, ℕ, ◌==◌, ℤ, Bool, false, List, [], ◌∷◌, ◌++◌, drop, codes, Option, Some, None, if◌then◌else◌}
use Rattle.std.specs.List.{join_by}
use Rattle.std.specs.Option.{unwrap_or}
use Rattle.std.specs.Int.{w32, w64, to_be_bytes, cast_unsigned}
use Rattle.hex.specs.Hex.{encode_upper}
use Rattle.kmip_encodings.specs.Words.{tag_word}
use Rattle.kmip_encodings.specs.Names.{enumeration_name}
use Rattle.kmip_encodings.specs.Masks.{Bit, is_mask, mask_bits}
use Rattle.kmip_encodings.specs.Dates.{civil_of, civil_text, date_number}

-- `0x` and two digits a byte
abbrev pub hex_text : List ℕ → List ℕ
hex_text bytes = codes "0x" ++ encode_upper bytes

-- its name, or `0x` and six digits where it has none
abbrev pub tag_text : ℕ → List ℕ
tag_text tag = unwrap_or (tag_word tag) (hex_text (drop 1 (to_be_bytes w32 tag)))

-- its name, or `0x` and eight digits where no table has one
abbrev pub enumeration_text : ℕ → ℕ → List ℕ
enumeration_text tag number =
    unwrap_or (enumeration_name tag number) (hex_text (to_be_bytes w32 number))

abbrev pub is_number : Option ℕ → ℕ → Bool
is_number None n = false
is_number (Some m) n = m == n

-- the date and the time of day, where the text reads as the number, as it does from the year 1 to
-- the year 9999; or else `0x` and 16 digits
unfoldable pub date_text : ℕ → List ℕ
date_text n =
    if is_number (date_number (civil_text (civil_of n))) n then civil_text (civil_of n)
    else hex_text (to_be_bytes w64 n)

-- the names of the bits of a number, and `0x` and eight digits for all its bits that have no name
abbrev pub mask_parts : List Bit → ℕ → List (List ℕ)
mask_parts [] n = if n == 0 then [] else hex_text (to_be_bytes w32 n) ∷ []
mask_parts (bit ∷ bits) n =
    if bit_and n bit.0 == bit.0 then bit.1 ∷ mask_parts bits (bit_xor n bit.0) else mask_parts bits n

abbrev pub bits_text : List ℕ → ℕ → ℕ → List ℕ
bits_text separator tag n = join_by (λ s. s) separator (mask_parts (mask_bits tag) n)

abbrev pub text_of_bits : List ℕ → ℕ → ℕ → Option (List ℕ)
text_of_bits separator tag n = if n == 0 then None else Some (bits_text separator tag n)

-- a mask by the names of its bits, with the separator between two; none of what is no mask, and of 0
unfoldable pub mask_text : List ℕ → ℕ → ℤ → Option (List ℕ)
mask_text separator tag z =
    if is_mask tag then text_of_bits separator tag (cast_unsigned w32 z) else None
