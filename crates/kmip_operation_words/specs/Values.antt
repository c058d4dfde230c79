-- The value that a word gives, by its kind.
use Rattle.std.specs.Prelude.{ℕ, ◌==◌, Bool, true, false, List, length, Option, Some, None, if◌then◌else◌, codes, bytes_eq}
use Rattle.std.specs.Int.{cast_signed, w32}
use Rattle.std.specs.Option.{option_map, option_and_then}
use Rattle.kmip_wire.specs.Tree.{Scalar, integer, long_integer, enumeration, boolean, text_string, byte_string, date_time, interval}
use Rattle.kmip_encodings.specs.Names.{enumeration_number}
use Rattle.kmip_request_words.specs.Keys.{uses_of}
use Rattle.kmip_request_words.specs.Values.{int_of, long_of, count_of, number_of, bytes_of, word_text}
use Rattle.kmip_request_words.specs.Words.{parts_between}
use Rattle.kmip_operation_words.specs.declared.rows.Kind.{Kind}
use Rattle.kmip_operation_words.specs.declared.rows.Kind.TheVariants.{Identifier, Text, Hex, Handle, Int, Count, Date, Seconds, Truth, Name, Uses}

abbrev pub not_empty : List ℕ → Option (List ℕ)
not_empty text = if length text == 0 then None else Some text

abbrev pub truth_of : List ℕ → Option Bool
truth_of word =
    if bytes_eq word (codes "true") then Some true
    else if bytes_eq word (codes "false") then Some false
    else None

-- the value of a word; a name is one of the enumeration that stands under the tag
abbrev pub value_of : Kind → ℕ → List ℕ → Option Scalar
value_of Identifier tag word = option_map text_string (option_and_then not_empty (word_text word))
value_of Text tag word = option_map text_string (word_text word)
value_of Hex tag word = option_map byte_string (bytes_of word)
value_of Handle tag word = option_map byte_string (option_and_then not_empty (bytes_of word))
value_of Int tag word = option_map integer (int_of word)
value_of Count tag word = option_map long_integer (count_of word)
value_of Date tag word = option_map date_time (long_of word)
value_of Seconds tag word = option_map interval (number_of word)
value_of Truth tag word = option_map boolean (truth_of word)
value_of Name tag word = option_map enumeration (enumeration_number tag word)
value_of Uses tag word =
    option_map (λ bits. integer (cast_signed w32 bits)) (uses_of (parts_between 44 word))
