-- Words that are of the grammar, and ask for what is not meant: no call is made of them.
use Rattle.std.specs.Prelude.{ℕ, List, [], ◌∷◌, length, ◌==◌, Bool, false, ◌&&◌, ◌||◌, is_some, Option, Some, None, if◌then◌else◌, codes, bytes_eq}
use Rattle.kmip_request_words.specs.Options.{value_given}

-- whether a word stands for the empty text
abbrev pub is_empty_word : List ℕ → Bool
is_empty_word word = length word == 0 || bytes_eq word (codes "-")

-- the calls whose first word is the identifier of an object
abbrev pub is_about_object : List ℕ → Bool
is_about_object name =
    bytes_eq name (codes "activate") || bytes_eq name (codes "revoke")
    || bytes_eq name (codes "destroy") || bytes_eq name (codes "rename")
    || bytes_eq name (codes "sign") || bytes_eq name (codes "get")
    || bytes_eq name (codes "attributes") || bytes_eq name (codes "attribute-add")
    || bytes_eq name (codes "attribute-modify") || bytes_eq name (codes "attribute-delete")

abbrev pub is_empty_value : Option (List ℕ) → Bool
is_empty_value (Some value) = is_empty_word value
is_empty_value None = false

-- whether an identifier among the words of a call is empty: that of its object, or that of the key
-- that wraps it; a server takes an empty one as it likes
abbrev pub has_empty_identifier : List (List ℕ) → Bool
has_empty_identifier (name ∷ id ∷ options) =
    is_about_object name
    && (is_empty_word id
    || (bytes_eq name (codes "get") && is_empty_value (value_given (codes "wrap=") options)))
has_empty_identifier words = false

-- whether a signature of a digest is asked for, with the digest's algorithm: to KMIP 1.2 (4.31)
-- the data of Sign is never a digest, and the server would hash it once more
abbrev pub hashes_twice : List (List ℕ) → Bool
hashes_twice (name ∷ id ∷ bytes ∷ options) =
    bytes_eq name (codes "sign")
    && (is_some (value_given (codes "prehashed") options)
    && is_some (value_given (codes "hash=") options))
hashes_twice words = false

-- why no call is made of these words, where that is so
abbrev pub why_refused : List (List ℕ) → Option (List ℕ)
why_refused words =
    if has_empty_identifier words
    then Some (codes "an identifier is empty; a request that means it is sent by message")
    else if hashes_twice words
    then Some (codes
    "prehashed and hash= exclude each other: KMIP 1.2 has no digested data in Sign, so the server would hash the digest again")
    else None
