-- The line that records a call and its response: a line of a script (docs/PROGRAM.md).
use Rattle.std.specs.Prelude.{◌≡◌, ℕ, List, [], ◌∷◌, ◌++◌, ◌==◌, length, Bool, true, false, not, ◌&&◌, Option, Some, None, if◌then◌else◌, codes, bytes_eq}
use Rattle.std.specs.List.{list_any}
use Rattle.std.specs.Option.{option_map}
use Rattle.hex.specs.Hex.{encode_upper}
use Rattle.kmip_words.specs.Calls.{call_of, call_in, typed_call}
use Rattle.kmip_words.specs.Exchange.{request_asked, or_empty}
use Rattle.kmip_words.specs.declared.call.Call.{Call}
use Rattle.kmip_words.specs.declared.call.Call.TheVariants.{Request}
use Rattle.kmip_words.specs.declared.call.Recorded.{Recorded}

-- the words, each with a space after it
abbrev pub with_spaces : List (List ℕ) → List ℕ
with_spaces [] = []
with_spaces (word ∷ words) = word ++ 32 ∷ with_spaces words

-- a response as a word: `-` where it is empty, or else upper-case hex
abbrev pub response_word : List ℕ → List ℕ
response_word [] = codes "-"
response_word (byte ∷ response) = encode_upper (byte ∷ response)

abbrev pub record_line : List (List ℕ) → List ℕ → List ℕ
record_line words response = with_spaces words ++ response_word response

abbrev pub record_text : List (List ℕ) → List ℕ → List ℕ
record_text words response = record_line words response ++ codes "\n"

abbrev pub is_call : Option Recorded → Bool
is_call (Some it) = true
is_call None = false

abbrev pub has_byte : ℕ → List ℕ → Bool
has_byte byte text = list_any (λ c. c == byte) text

-- whether a script may hold a word: it is not empty, and has no space and no line feed
abbrev pub is_script_word : List ℕ → Bool
is_script_word word = not (length word == 0) && (not (has_byte 32 word) && not (has_byte 10 word))

abbrev pub are_script_words : List (List ℕ) → Bool
are_script_words [] = true
are_script_words (word ∷ words) = is_script_word word && are_script_words words

-- the call that a script reads from the words, with an empty response after them
abbrev pub call_read : List (List ℕ) → Option Recorded
call_read words = if are_script_words words then call_of (record_line words []) else None

-- whether the words, with a response after them, are a line of a script
abbrev pub is_recordable : List (List ℕ) → Bool
is_recordable words = is_call (call_read words)

-- The record of these words with this response is one line, and a script reads from it the call of
-- the words and the response.
pub record ReadsBack (words : List (List ℕ)) (response : List ℕ) : Type 0 where
  pub one_line : has_byte 10 (record_line words response) ≡ false
  pub call : Call
  pub call_is : call_in words ≡ Some call
  pub back : call_of (record_line words response) ≡
      Some (record { call = call; response = response })

-- `raw` and the bytes of a request
abbrev pub raw_words : List ℕ → List (List ℕ)
raw_words request = codes "raw" ∷ encode_upper request ∷ []

-- whether a call, where there is one, sends just these bytes where it has no credential
abbrev pub sends : List ℕ → Option Recorded → Bool
sends request (Some it) = bytes_eq (or_empty (request_asked it.call None).message) request
sends request None = false

-- whether `raw` of a script sends just these bytes
abbrev pub is_raw : List ℕ → Bool
is_raw request = sends request (call_read (raw_words request))

-- the words of a request's bytes: `raw` with them, or else `message`, which no script has
abbrev pub bytes_words : List ℕ → List (List ℕ)
bytes_words request =
    if is_raw request then raw_words request else codes "message" ∷ encode_upper request ∷ []

-- whether a script has no words for a call
abbrev pub is_unscripted : Call → Bool
is_unscripted (Request payload) = true
is_unscripted call = false

-- whether a typed call is recorded by the words that were typed: a script has words for it, and may
-- hold these
abbrev pub is_as_typed : Option Call → List (List ℕ) → Bool
is_as_typed (Some call) words = not (is_unscripted call) && is_recordable words
is_as_typed None words = false

-- the words that are recorded of a call: those that were typed, or else those of the bytes of its
-- request, where it has a wire form
abbrev pub recorded_words : List (List ℕ) → Option (List ℕ) → Option (List (List ℕ))
recorded_words words request =
    if is_as_typed (typed_call words) words then Some words else option_map bytes_words request

-- the same where a file for the record is given, and none where it is not
abbrev pub words_kept : Option (List ℕ) → List (List ℕ) → Option (List ℕ) → Option (List (List ℕ))
words_kept (Some file) words request = recorded_words words request
words_kept None words request = None

-- what is written of the words that are recorded, and of the response
abbrev pub record_with : Option (List (List ℕ)) → Option (List ℕ) → List ℕ
record_with (Some words) (Some response) = record_text words response
record_with words response = []
