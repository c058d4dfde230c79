-- The words of a call whose payload or message is given in JSON.
use Rattle.std.specs.Prelude.{ℕ, ◌==◌, List, [], ◌∷◌, length, Option, Some, None, if◌then◌else◌, codes, bytes_eq}
use Rattle.std.specs.Option.{option_map}
use Rattle.kmip_words.specs.Options.{Given, option_given}
use Rattle.kmip_words.specs.Values.{bytes_of}
use Rattle.kmip_caller.specs.declared.words.TreeWords.{TreeWords}
use Rattle.kmip_caller.specs.declared.words.TreeWords.TheVariants.{Operation, Message}

pub data TreeText : Type 0 where
  an_operation : (name version : List ℕ) → (hex : Option (List ℕ)) → (payload : List ℕ) → TreeText
  a_message : List ℕ → TreeText

-- the texts of the words that the code found
abbrev pub tree_text : TreeWords → TreeText
tree_text (Operation name version hex payload) =
    an_operation name.now version.now (option_map (λ text. text.now) hex) payload.now
tree_text (Message message) = a_message message.now

abbrev pub version_or_default : Option (List ℕ) → List ℕ
version_or_default (Some version) = version
version_or_default None = codes "1.2"

abbrev pub payload_words : List ℕ → Option (List ℕ) → Option (List ℕ) → List (List ℕ) →
    Option TreeText
payload_words name version hex (payload ∷ []) =
    Some (an_operation name (version_or_default version) hex payload)
payload_words name version hex words = None

-- the value that was given before, or else the one that the first word gives to a name
abbrev pub given_or : Option (List ℕ) → List ℕ → List (List ℕ) → Given
given_or (Some value) name words = record { value = Some value; rest = words }
given_or None name words = option_given name words

-- the options of an operation, in any order and each at most once, and its payload
abbrev pub optioned_words : List ℕ → List (List ℕ) → Option TreeText
optioned_words name words =
    let first : Given = option_given (codes "version=") words in
    let hex : Given = option_given (codes "item-id=") first.rest in
    let version : Given = given_or first.value (codes "version=") hex.rest in
    payload_words name version.value hex.value version.rest

-- `operation NAME [version=VERSION] [item-id=HEX] PAYLOAD`
abbrev pub operation_words : List ℕ → List ℕ → List (List ℕ) → Option TreeText
operation_words call name words =
    if bytes_eq call (codes "operation") then optioned_words name words else None

-- the Unique Batch Item ID (KMIP 1.0, 6.4) that `item-id=HEX` gives: at least one byte
abbrev pub not_empty : Option (List ℕ) → Option (Option (List ℕ))
not_empty (Some bytes) = if length bytes == 0 then None else Some (Some bytes)
not_empty None = None

-- and none where there is no such word
abbrev pub item_id : Option (List ℕ) → Option (Option (List ℕ))
item_id (Some hex) = not_empty (bytes_of hex)
item_id None = Some None

-- `message MESSAGE`
abbrev pub message_words : List ℕ → List ℕ → Option TreeText
message_words call message = if bytes_eq call (codes "message") then Some (a_message message) else None

abbrev pub tree_words : List (List ℕ) → Option TreeText
tree_words (call ∷ message ∷ []) = message_words call message
tree_words (call ∷ name ∷ word ∷ words) = operation_words call name (word ∷ words)
tree_words words = None
