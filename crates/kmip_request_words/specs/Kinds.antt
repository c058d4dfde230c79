-- What a word of each kind may be, and the refusal of one that is not of its kind.
use Rattle.std.specs.Prelude.{ℕ, Bool, true, false, ◌&&◌, ◌==◌, length, is_some, List, [], ◌∷◌, ◌++◌, map, if◌then◌else◌, codes, bytes_eq}
use Rattle.std.specs.List.{list_any, list_all}
use Rattle.kmip_enums.specs.ObjectTypes.{object_type_line, object_type_variants}
use Rattle.kmip_enums.specs.States.{state_line, state_variants}
use Rattle.kmip_enums.specs.RevocationReasonCodes.{revocation_reason_code_line, revocation_reason_code_variants}
use Rattle.kmip_shape.specs.Shape.{Entry}
use Rattle.kmip_types.specs.CryptographicAlgorithms.{cryptographic_algorithm_line, cryptographic_algorithm_variants}
use Rattle.kmip_types.specs.HashingAlgorithms.{hashing_algorithm_line, hashing_algorithm_variants}
use Rattle.kmip_types.specs.KeyFormatTypes.{key_format_type_line, key_format_type_variants}
use Rattle.kmip_types.specs.PaddingMethods.{padding_method_line, padding_method_variants}
use Rattle.kmip_types.specs.UsageMask.{usages}
use Rattle.kmip_request_words.specs.Grammar.{attributes}
use Rattle.kmip_request_words.specs.Keys.{table_name}
use Rattle.kmip_request_words.specs.Values.{int_of, long_of, bytes_of, word_text}
use Rattle.kmip_request_words.specs.Words.{parts_between}
use Rattle.kmip_request_words.specs.declared.grammar.Kind.{Kind}
use Rattle.kmip_request_words.specs.declared.grammar.Kind.TheVariants.{Identifier, Text, Int, Seconds, Hex, Request, Algorithm, Format, Hash, Padding, Reason, ObjectType, State, KeyKind, Uses, Flag, Attribute, Operation, Version, Payload, Message}

-- the names of the variants of an enumeration
abbrev pub names_in : {T : Type 0} → (T → Entry) → List T → List (List ℕ)
names_in line variants = map (λ v. (line v).name) variants

-- the names that a word of a kind may be, where it is one of several: those of KMIP's tables, and of
-- an attribute what stands before its value
abbrev pub names_of : Kind → List (List ℕ)
names_of Algorithm = names_in cryptographic_algorithm_line cryptographic_algorithm_variants
names_of Format = names_in key_format_type_line key_format_type_variants
names_of Hash = names_in hashing_algorithm_line hashing_algorithm_variants
names_of Padding = names_in padding_method_line padding_method_variants
names_of Reason = names_in revocation_reason_code_line revocation_reason_code_variants
names_of ObjectType = names_in object_type_line object_type_variants
names_of State = names_in state_line state_variants
names_of KeyKind = codes "public" ∷ codes "private" ∷ codes "symmetric" ∷ []
names_of Uses = map (λ it. it.0) usages
names_of Version = codes "1.0" ∷ codes "1.1" ∷ codes "1.2" ∷ []
names_of Attribute = map (λ option. option.name) attributes
names_of kind = []

abbrev pub is_among : List (List ℕ) → List ℕ → Bool
is_among names word = list_any (λ name. bytes_eq name word) names

-- whether each word is one of these names of uses, in the table's spelling or OASIS's
abbrev pub are_among : List (List ℕ) → List (List ℕ) → Bool
are_among names words = list_all (λ word. is_among names (table_name word)) words

-- names of uses, with `,` between two
abbrev pub are_uses : List ℕ → Bool
are_uses word = are_among (names_of Uses) (parts_between 44 word)

-- the kinds of which a word is one of several names
abbrev pub is_listed : Kind → Bool
is_listed Identifier = false
is_listed Text = false
is_listed Int = false
is_listed Seconds = false
is_listed Hex = false
is_listed Request = false
is_listed Flag = false
is_listed Operation = false
is_listed Payload = false
is_listed Message = false
is_listed kind = true

-- the words of a kind; what JSON and the name of an operation are is not looked at
abbrev pub takes : Kind → List ℕ → Bool
takes Identifier word = is_some (word_text word)
takes Text word = is_some (word_text word)
takes Int word = is_some (int_of word)
takes Seconds word = is_some (long_of word)
takes Hex word = is_some (bytes_of word)
takes Request word = is_some (bytes_of word)
takes Flag word = length word == 0
takes Operation word = true
takes Payload word = true
takes Message word = true
takes Uses word = are_uses word
takes kind word = is_among (names_of kind) word

-- names, with `, ` between two
abbrev pub listed : List (List ℕ) → List ℕ
listed [] = []
listed (name ∷ []) = name
listed (name ∷ names) = name ++ (codes ", " ++ listed names)

abbrev pub plain_wanted : Kind → List ℕ
plain_wanted Int = codes "is no number from -2147483648 to 2147483647 in decimal digits"
plain_wanted Seconds = codes "is no number from 0 to 9223372036854775807 in decimal digits"
plain_wanted Hex = codes "is no even number of hex digits, and not - for no bytes"
plain_wanted Request = codes "is no even number of hex digits, and not - for no bytes"
plain_wanted Flag = codes "stands alone, with nothing after it"
plain_wanted kind = codes "is no text: % stands before two upper-case hex digits, and all is UTF-8"

abbrev pub after_names : Kind → List ℕ
after_names Uses = codes ", with , between two"
after_names Attribute = codes " with its value"
after_names kind = []

-- the refusal of a word that is not of a kind: which names it may be, or what else
abbrev pub wanted : Kind → List ℕ
wanted kind =
    if is_listed kind
    then codes "is none of " ++ (listed (names_of kind) ++ after_names kind)
    else plain_wanted kind
