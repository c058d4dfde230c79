-- Attributes by words, as `name=k1` and `length=256`.
use Rattle.std.specs.Prelude.{ℕ, ℤ, pos, List, [], ◌∷◌, Option, Some, None, if◌then◌else◌, codes, bytes_eq}
use Rattle.std.specs.Option.{option_map}
use Rattle.kmip_enums.specs.ObjectTypes.{object_type_line, object_type_variants}
use Rattle.kmip_enums.specs.States.{state_line, state_variants}
use Rattle.kmip_types.specs.CryptographicAlgorithms.{cryptographic_algorithm_line, cryptographic_algorithm_variants}
use Rattle.kmip_types.specs.TheAttributeName.{AttributeName}
use Rattle.kmip_types.specs.declared.attribute_value.AttributeValue.TheVariants as values
use Rattle.kmip_request.specs.Constructors.{attribute_of}
use Rattle.kmip_request.specs.TheAttribute.{Attribute}
use Rattle.kmip_request_words.specs.Coded.{variant_named}
use Rattle.kmip_request_words.specs.Requests.{name_attribute}
use Rattle.kmip_request_words.specs.Values.{int_of, long_of, word_text}
use Rattle.kmip_request_words.specs.Words.{parts_between}

-- an attribute whose value is a text (KMIP 1.0, 3.2, 3.28 and 3.31)
abbrev pub text_attribute : List ℕ → Option (List ℕ) → Option Attribute
text_attribute option None = None
text_attribute option (Some text) =
    if bytes_eq option (codes "name") then Some (name_attribute text)
    else if bytes_eq option (codes "group")
    then Some (attribute_of (codes "Object Group") (values.TextString text))
    else if bytes_eq option (codes "contact")
    then Some (attribute_of (codes "Contact Information") (values.ContactInformation text))
    else None

-- the attribute that an option and its value give (KMIP 1.0, 3.3, 3.4, 3.5, 3.17 and 3.19); the
-- date is in seconds since 1970-01-01 UTC
abbrev pub attribute_given : List ℕ → List ℕ → Option Attribute
attribute_given option value =
    if bytes_eq option (codes "type")
    then option_map (λ type. attribute_of (codes "Object Type") (values.ObjectType type))
    (variant_named object_type_line object_type_variants value)
    else if bytes_eq option (codes "state")
    then option_map (λ state. attribute_of (codes "State") (values.State state))
    (variant_named state_line state_variants value)
    else if bytes_eq option (codes "algorithm")
    then option_map
    (λ x. attribute_of (codes "Cryptographic Algorithm") (values.CryptographicAlgorithm x))
    (variant_named cryptographic_algorithm_line cryptographic_algorithm_variants value)
    else if bytes_eq option (codes "length")
    then option_map (λ z. attribute_of (codes "Cryptographic Length") (values.Integer z))
    (int_of value)
    else if bytes_eq option (codes "activation")
    then option_map (λ n. attribute_of (codes "Activation Date") (values.DateTime n))
    (long_of value)
    else text_attribute option (word_text value)

-- an option and its value, with `=` between the two
abbrev pub attribute_of_parts : List (List ℕ) → Option Attribute
attribute_of_parts (option ∷ value ∷ []) = attribute_given option value
attribute_of_parts parts = None

-- the attribute of a word
unfoldable pub attribute_in : List ℕ → Option Attribute
attribute_in word = attribute_of_parts (parts_between 61 word)

-- the name of an attribute
abbrev pub attribute_name : List ℕ → Option AttributeName
attribute_name word = option_map (λ name. record { 0 = name }) (word_text word)

abbrev pub then_more : {B : Type 0} → Option B → Option (List B) → Option (List B)
then_more (Some x) (Some xs) = Some (x ∷ xs)
then_more x xs = None

-- what each word gives, in order; none where one gives nothing
abbrev pub all_of : {B : Type 0} → (List ℕ → Option B) → List (List ℕ) → Option (List B)
all_of f [] = Some []
all_of f (word ∷ words) = then_more (f word) (all_of f words)
