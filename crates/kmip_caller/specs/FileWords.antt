-- Words of a call that name a file: `@FILE` in the place of bytes in hex, or of JSON.
use Rattle.std.specs.Prelude.{ℕ, ◌==◌, ◌-◌, ◌||◌, ◌&&◌, nat_eq, nat_lt, List, [], ◌∷◌, length, drop, Bool, false, Option, Some, None, if◌then◌else◌, codes, bytes_eq}
use Rattle.std.specs.List.{starts_with}
use Rattle.std.specs.Option.{option_map, is_some}
use Rattle.std.specs.Str.{is_utf8}
use Rattle.kmip_words.specs.Options.{Given}
use Rattle.kmip_operation_words.specs.Bytes.{takes_bytes}
use Rattle.kmip_operation_words.specs.Calls.{row_in}
use Rattle.kmip_operation_words.specs.Rows.{Row}
use Rattle.kmip_operation_words.specs.Table.{calls}
use Rattle.kmip_caller.specs.Record.{response_word}
use Rattle.kmip_caller.specs.TableWords.{with_id}

-- whether a call has JSON, which stands last
abbrev pub is_of_json : List ℕ → Bool
is_of_json call = bytes_eq call (codes "operation") || bytes_eq call (codes "message")

abbrev pub has_json : List (List ℕ) → Bool
has_json [] = false
has_json (call ∷ words) = is_of_json call

-- behind how many words of a call, which has so many, its JSON stands, or its bytes in hex
abbrev pub place_of : List ℕ → ℕ → Option ℕ
place_of call count =
    if bytes_eq call (codes "raw") then Some 1
    else if bytes_eq call (codes "sign") || bytes_eq call (codes "register") then Some 2
    else if is_of_json call then Some (count - 1)
    else None

abbrev pub place_in : List (List ℕ) → Option ℕ
place_in [] = None
place_in (call ∷ words) = place_of call (length (call ∷ words))

-- what stands after the `@` of a word
abbrev pub file_of : List ℕ → Option (List ℕ)
file_of word =
    if starts_with nat_eq word (codes "@") then Some (drop (length (codes "@")) word) else None

-- whether the word at a place gives bytes to a call of the table, whose name stands at place 0
abbrev pub takes_bytes_at : Option Row → ℕ → Bool
takes_bytes_at None place = false
takes_bytes_at (Some row) place = nat_lt 0 place && takes_bytes row (place - 1)

abbrev pub gives_bytes : List (List ℕ) → ℕ → Bool
gives_bytes [] place = false
gives_bytes (name ∷ words) place = takes_bytes_at (row_in calls name) place

-- and with `item-id=HEX` in front
abbrev pub gives_bytes_behind : Given → ℕ → Bool
gives_bytes_behind given place =
    if is_some given.value then nat_lt 0 place && gives_bytes given.rest (place - 1)
    else gives_bytes given.rest place

abbrev pub takes_file_at : Option ℕ → List (List ℕ) → ℕ → Bool
takes_file_at (Some at) words place = at == place
takes_file_at None words place = gives_bytes_behind (with_id words) place

-- whether the word at a place may name a file
abbrev pub takes_file : List (List ℕ) → ℕ → Bool
takes_file words place = takes_file_at (place_in words) words place

abbrev pub file_at : ℕ → List (List ℕ) → Option (List ℕ)
file_at at [] = None
file_at at (word ∷ words) = if at == 0 then file_of word else file_at (at - 1) words

-- the file that the word of a call at this place names
abbrev pub file_in : List (List ℕ) → ℕ → Option (List ℕ)
file_in words place = if takes_file words place then file_at place words else None

abbrev pub text_for : List ℕ → Option (List ℕ)
text_for contents = if is_utf8 contents then Some contents else None

-- the word that stands for the contents of a file: the text itself where it is JSON, and else the
-- bytes in hex, or `-` where there are none
abbrev pub word_for : Bool → List ℕ → Option (List ℕ)
word_for json contents =
    if json then text_for contents else Some (response_word contents)

abbrev pub put_at : ℕ → List ℕ → List (List ℕ) → List (List ℕ)
put_at at put [] = []
put_at at put (word ∷ words) = if at == 0 then put ∷ words else word ∷ put_at (at - 1) put words

-- the words with the contents in the place of the one that names the file
abbrev pub with_contents : List ℕ → ℕ → List (List ℕ) → Option (List (List ℕ))
with_contents contents place words =
    if takes_file words place
    then option_map (λ put. put_at place put words) (word_for (has_json words) contents)
    else None
