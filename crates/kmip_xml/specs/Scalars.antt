-- The value of an item that is no structure, by its text (KMIP Additional Message Encodings 1.0, XML).
use Rattle.std.specs.Prelude.{ℕ, ◌^◌, ◌==◌, ◌&&◌, nat_lt, ℤ, pos, negsuc, Bool, true, false, List, codes, Option, Some, None, if◌then◌else◌, bytes_eq, option_map}
use Rattle.std.specs.Int.{w32, cast_signed}
use Rattle.std.specs.List.{slice_split}
use Rattle.std.specs.Result.{result_ok}
use Rattle.std.specs.Fmt.{signed_decimal}
use Rattle.std.specs.Str.Parse.{signed_digits_value}
use Rattle.hex.specs.Hex.{decode_of}
use Rattle.kmip_wire.specs.declared.kind.Kind.{Kind}
use Rattle.kmip_wire.specs.declared.kind.Kind.TheVariants.{Structure, Integer, LongInteger, BigInteger, Enumeration, Boolean, TextString, ByteString, DateTime, Interval}
use Rattle.kmip_wire.specs.Tree.{Scalar, integer, long_integer, big_integer, boolean}
use Rattle.kmip_encodings.specs.Reading.{bits_of_parts, number_scalar, string_scalar}
use Rattle.kmip_xml.specs.Given.{or_else}

abbrev pub is_long : ℤ → Bool
is_long (pos n) = nat_lt n (2 ^ 63)
is_long (negsuc n) = nat_lt n (2 ^ 63)

-- the number of 64 bits whose decimal form is this text
unfoldable pub long_number : List ℕ → Option ℤ
long_number s =
    if is_long (signed_digits_value 10 s)
    && bytes_eq (signed_decimal (signed_digits_value 10 s)) s
    then Some (signed_digits_value 10 s) else None

abbrev pub truth : List ℕ → Option Bool
truth s =
    if bytes_eq s (codes "true") then Some true
    else if bytes_eq s (codes "false") then Some false
    else None

-- What XML has and JSON has not: a mask with a space between two names of bits, any Long Integer in
-- decimal, and a Big Integer in hex digits with no `0x`.
abbrev pub own_scalar : ℕ → Kind → List ℕ → Option Scalar
own_scalar tag Integer s =
    option_map (λ n. integer (cast_signed w32 n)) (bits_of_parts tag (slice_split (λ c. c == 32) s))
own_scalar tag LongInteger s = option_map long_integer (long_number s)
own_scalar tag BigInteger s = option_map big_integer (result_ok (decode_of s))
own_scalar tag Boolean s = option_map boolean (truth s)
own_scalar tag kind s = None

-- the value of an item of the type, whose names are looked up under the tag: a number in decimal, or
-- what a string of JSON means there
unfoldable pub scalar_of : ℕ → Kind → List ℕ → Option Scalar
scalar_of tag kind s =
    or_else (number_scalar kind s) (or_else (own_scalar tag kind s) (string_scalar tag kind s))
