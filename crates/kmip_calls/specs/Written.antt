-- Words that are given as they are, and the words of the grammar that stand for them.
use Rattle.std.specs.Prelude.{ℕ, ◌+◌, ◌==◌, Bool, true, false, List, [], ◌∷◌, ◌++◌, length, flat_map, Option, Some, None, if◌then◌else◌, codes, bytes_eq}
use Rattle.std.specs.List.{before_first, after_first}
use Rattle.std.specs.Option.{option_map, option_and_then}
use Rattle.std.specs.Str.{is_utf8}
use Rattle.hex.specs.Hex.{encode_upper}
use Rattle.kmip_request_words.specs.Attributes.{then_more}
use Rattle.kmip_request_words.specs.Complaints.{has_equals}
use Rattle.kmip_calls.specs.declared.written.Word.{Word}
use Rattle.kmip_calls.specs.Places.{may_be_option}

-- a `%` begins an escape, and a `=` ends the name of an option
abbrev pub escaped : ℕ → List ℕ
escaped byte =
    if byte == 37 then codes "%25" else if byte == 61 then codes "%3D" else byte ∷ []

-- the word that stands for a text
unfoldable pub text_word : List ℕ → List ℕ
text_word text =
    if length text == 0 then codes "-"
    else if bytes_eq text (codes "-") then codes "%2D"
    else flat_map escaped text

-- the word that stands for data
unfoldable pub data_word : List ℕ → List ℕ
data_word bytes = if length bytes == 0 then codes "-" else encode_upper bytes

abbrev pub is_equals : ℕ → Bool
is_equals byte = byte == 61

-- the word of an option, as `name=TEXT`: its name stays, and its value becomes a word
unfoldable pub option_word : List ℕ → List ℕ
option_word text =
    if has_equals text
    then before_first is_equals text ++ 61 ∷ text_word (after_first is_equals text)
    else text_word text

abbrev pub text_written : Bool → List ℕ → List ℕ
text_written is_option text = if is_option then option_word text else text_word text

-- the word that stands for one that is given; none for a text that is not UTF-8
abbrev pub word_written : Bool → Word → Option (List ℕ)
word_written is_option word =
    if word.is_data then Some (data_word word.bytes.now)
    else if is_utf8 word.bytes.now then Some (text_written is_option word.bytes.now)
    else None

-- the name of a call, which is a text
abbrev pub name_text : Word → Option (List ℕ)
name_text name =
    if name.is_data then None
    else if is_utf8 name.bytes.now then Some name.bytes.now
    else None

-- the words that stand for these, of which the first has this index
abbrev pub words_from : (ℕ → Bool) → ℕ → List Word → Option (List (List ℕ))
words_from is_option index [] = Some []
words_from is_option index (word ∷ words) =
    then_more (word_written (is_option index) word) (words_from is_option (index + 1) words)

abbrev pub words_of : List Word → List ℕ → Option (List (List ℕ))
words_of words name =
    option_map (λ written. name ∷ written)
    (words_from (may_be_option name (length words)) 0 words)

-- the words of the grammar that stand for the name of a call, which stays, and for its words
unfoldable pub written_words : List Word → Option (List (List ℕ))
written_words [] = Some []
written_words (name ∷ words) = option_and_then (words_of words) (name_text name)
