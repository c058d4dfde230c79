-- Which call words ask for: words of a line of a script, and words that are typed.
use Rattle.std.specs.Prelude.{ℕ, ℤ, List, [], ◌∷◌, Option, Some, None, if◌then◌else◌, codes, bytes_eq}
use Rattle.std.specs.Option.{option_map, option_and_then}
use Rattle.std.specs.Str.{is_utf8}
use Rattle.kmip_request.specs.declared.payload.RequestPayload.{RequestPayload}
use Rattle.kmip_request_read.specs.Reading.{request_read}
use Rattle.kmip_request_words.specs.Asked.{asked_in}
use Rattle.kmip_request_words.specs.Refusals.{why_refused}
use Rattle.kmip_request_words.specs.Requests.{locate_request, attributes_request, create_aes_request, discover_request}
use Rattle.kmip_request_words.specs.Words.{words_of}
use Rattle.kmip_request_words.specs.Values.{int_of, bytes_of, word_text}
use Rattle.kmip_words.specs.declared.call.Call.{Call}
use Rattle.kmip_words.specs.declared.call.Call.TheVariants.{Query, CreateRsa, Rng, Sign, Activate, Revoke, Destroy, Rename, Get, Raw, Request}
use Rattle.kmip_words.specs.declared.call.Recorded.{Recorded}

-- the call of one word: `query`
abbrev pub call_of_one : List ℕ → Option Call
call_of_one name = if bytes_eq name (codes "query") then Some Query else None

abbrev pub rng_of : Option ℤ → Option Call
rng_of (Some num_bytes) = Some (Rng num_bytes)
rng_of None = None

-- the calls whose one argument is the identifier of a key
abbrev pub key_call : List ℕ → List ℕ → Option Call
key_call name id =
    if bytes_eq name (codes "activate") then Some (Activate id)
    else if bytes_eq name (codes "revoke") then Some (Revoke id)
    else if bytes_eq name (codes "destroy") then Some (Destroy id)
    else if bytes_eq name (codes "get") then Some (Get id)
    else None

abbrev pub key_call_of : List ℕ → Option (List ℕ) → Option Call
key_call_of name (Some id) = key_call name id
key_call_of name None = None

-- the call `raw` of these bytes, where the request reader reads them as a request
abbrev pub raw_of : Option (List ℕ) → Option Call
raw_of (Some bytes) = option_map Raw (request_read bytes)
raw_of None = None

-- the calls of two words: `rng INT`, `raw HEX`, and `activate TEXT`, `revoke TEXT`, `destroy TEXT`,
-- `get TEXT`
abbrev pub call_of_two : List ℕ → List ℕ → Option Call
call_of_two name word =
    if bytes_eq name (codes "rng") then rng_of (int_of word)
    else if bytes_eq name (codes "raw") then raw_of (bytes_of word)
    else key_call_of name (word_text word)

abbrev pub sign_of : Option (List ℕ) → Option (List ℕ) → Option Call
sign_of (Some id) (Some bytes) = Some (Sign id bytes)
sign_of id bytes = None

abbrev pub rename_of : Option (List ℕ) → Option (List ℕ) → Option Call
rename_of (Some id) (Some new_name) = Some (Rename id new_name)
rename_of id new_name = None

-- the calls of three words: `sign TEXT HEX` and `rename TEXT TEXT`
abbrev pub call_of_three : List ℕ → List ℕ → List ℕ → Option Call
call_of_three name id word =
    if bytes_eq name (codes "sign") then sign_of (word_text id) (bytes_of word)
    else if bytes_eq name (codes "rename") then rename_of (word_text id) (word_text word)
    else None

abbrev pub create_rsa_of : Option ℤ → Option (List ℕ) → Option (List ℕ) → Option Call
create_rsa_of (Some key_length) (Some private_key_name) (Some public_key_name) =
    Some (CreateRsa key_length private_key_name public_key_name)
create_rsa_of key_length private_key_name public_key_name = None

-- the call of four words: `create-rsa INT TEXT TEXT`
abbrev pub call_of_four : List ℕ → List ℕ → List ℕ → List ℕ → Option Call
call_of_four name number first second =
    if bytes_eq name (codes "create-rsa")
    then create_rsa_of (int_of number) (word_text first) (word_text second)
    else None

abbrev pub with_response : Option Call → Option (List ℕ) → Option Recorded
with_response (Some call) (Some response) = Some (record { call = call; response = response })
with_response call response = None

-- the call of these words, by how many there are; the last word is the response recorded for it
abbrev pub recorded_of : List (List ℕ) → Option Recorded
recorded_of (name ∷ response ∷ []) = with_response (call_of_one name) (bytes_of response)
recorded_of (name ∷ first ∷ response ∷ []) =
    with_response (call_of_two name first) (bytes_of response)
recorded_of (name ∷ first ∷ second ∷ response ∷ []) =
    with_response (call_of_three name first second) (bytes_of response)
recorded_of (name ∷ first ∷ second ∷ third ∷ response ∷ []) =
    with_response (call_of_four name first second third) (bytes_of response)
recorded_of words = None

abbrev pub call_from : Option (List (List ℕ)) → Option Recorded
call_from (Some words) = recorded_of words
call_from None = None

-- the call of a line, where the line is of the grammar
unfoldable pub call_of : List ℕ → Option Recorded
call_of line = if is_utf8 line then call_from (words_of line) else None

-- the call of these words with no response, by how many there are
abbrev pub call_in : List (List ℕ) → Option Call
call_in (name ∷ []) = call_of_one name
call_in (name ∷ first ∷ []) = call_of_two name first
call_in (name ∷ first ∷ second ∷ []) = call_of_three name first second
call_in (name ∷ first ∷ second ∷ third ∷ []) = call_of_four name first second third
call_in words = None

-- the call of a line without a response, where the line is of the grammar
unfoldable pub call_alone : List ℕ → Option Call
call_alone line = if is_utf8 line then option_and_then call_in (words_of line) else None

-- ---- the calls that are typed, with no response: those above, four more, and those with options

abbrev pub typed_of_one : List ℕ → Option Call
typed_of_one name =
    if bytes_eq name (codes "discover") then Some (Request discover_request) else call_of_one name

abbrev pub locate_of : Option (List ℕ) → Option Call
locate_of (Some name) = Some (Request (locate_request name))
locate_of None = None

abbrev pub attributes_of : Option (List ℕ) → Option Call
attributes_of (Some id) = Some (Request (attributes_request id))
attributes_of None = None

-- `locate TEXT`, whose one word is a name whatever it is, also with `=`; and `attributes TEXT`
abbrev pub typed_of_two : List ℕ → List ℕ → Option Call
typed_of_two name word =
    if bytes_eq name (codes "locate") then locate_of (word_text word)
    else if bytes_eq name (codes "attributes") then attributes_of (word_text word)
    else call_of_two name word

abbrev pub create_aes_of : Option ℤ → Option (List ℕ) → Option Call
create_aes_of (Some key_length) (Some name) = Some (Request (create_aes_request key_length name))
create_aes_of key_length name = None

-- `create-aes INT TEXT`
abbrev pub typed_of_three : List ℕ → List ℕ → List ℕ → Option Call
typed_of_three name first second =
    if bytes_eq name (codes "create-aes") then create_aes_of (int_of first) (word_text second)
    else call_of_three name first second

-- the call of words that are typed and have no options, by how many there are
abbrev pub plain_call : List (List ℕ) → Option Call
plain_call (name ∷ []) = typed_of_one name
plain_call (name ∷ first ∷ []) = typed_of_two name first
plain_call (name ∷ first ∷ second ∷ []) = typed_of_three name first second
plain_call (name ∷ first ∷ second ∷ third ∷ []) = call_of_four name first second third
plain_call words = None

abbrev pub or_request : Option Call → Option RequestPayload → Option Call
or_request (Some call) request = Some call
or_request None request = option_map Request request

-- no call where words are refused, for whatever reason
abbrev pub unless_refused : Option (List ℕ) → Option Call → Option Call
unless_refused (Some text) call = None
unless_refused None call = call

-- the call of words that are typed: one with no options, or else the request that words with
-- options ask for; none of words that ask for what is not meant
unfoldable pub typed_call : List (List ℕ) → Option Call
typed_call words =
    unless_refused (why_refused words) (or_request (plain_call words) (asked_in words))
