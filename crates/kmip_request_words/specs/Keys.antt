-- What the words of the calls that make or register keys ask for.
use Rattle.std.specs.Prelude.{ℕ, ℤ, Bool, List, [], ◌∷◌, ◌++◌, Option, Some, None, if◌then◌else◌, codes, bytes_eq}
use Rattle.std.specs.Int.{cast_signed, w32}
use Rattle.std.specs.Int.RustNames.{bit_or}
use Rattle.std.specs.Option.{option_map, option_and_then}
use Rattle.bitflags.specs.Sets.{find_name}
use Rattle.kmip_enums.specs.declared.object_type.ObjectType.{ObjectType}
use Rattle.kmip_types.specs.CryptographicAlgorithms.{cryptographic_algorithm_line, cryptographic_algorithm_variants}
use Rattle.kmip_types.specs.KeyFormatTypes.{key_format_type_line, key_format_type_variants}
use Rattle.kmip_types.specs.UsageMask.{usages}
use Rattle.kmip_types.specs.TheCryptographicAlgorithm.{CryptographicAlgorithm}
use Rattle.kmip_types.specs.TheKeyFormatType.{KeyFormatType}
use Rattle.kmip_types.specs.TheKeyMaterial.{KeyMaterial}
use Rattle.kmip_types.specs.declared.attribute_value.AttributeValue.TheVariants as values
use Rattle.kmip_request.specs.Constructors.{attribute_of}
use Rattle.kmip_request.specs.Requests.{pair_attributes}
use Rattle.kmip_request.specs.TheAttribute.{Attribute}
use Rattle.kmip_request_objects.specs.declared.key_block.KeyBlock.{KeyBlock}
use Rattle.kmip_request.specs.TheManagedObject.{ManagedObject}
use Rattle.kmip_request.specs.declared.payload.RequestPayload.{RequestPayload}
use Rattle.kmip_request_words.specs.Coded.{variant_named, variant_of}
use Rattle.kmip_request_words.specs.Options.{value_given, are_options}
use Rattle.kmip_request_words.specs.Requests.{name_attribute}
use Rattle.kmip_request_words.specs.Given.{text_given}
use Rattle.kmip_request_words.specs.Values.{int_of, bytes_of, word_text}
use Rattle.kmip_request_words.specs.Words.{parts_between}

abbrev pub with_use : Option ℕ → Option ℕ → Option ℕ
with_use (Some bit) (Some bits) = Some (bit_or bits bit)
with_use bit bits = None

-- the name of a use as the table writes it: OASIS writes three of them in capitals
abbrev pub table_name : List ℕ → List ℕ
table_name name =
    if bytes_eq name (codes "MACGenerate") then codes "MacGenerate"
    else if bytes_eq name (codes "MACVerify") then codes "MacVerify"
    else if bytes_eq name (codes "CRLSign") then codes "CrlSign"
    else name

-- the bits of these uses together (KMIP 1.2, 9.1.3.3.1)
abbrev pub uses_of : List (List ℕ) → Option ℕ
uses_of [] = Some 0
uses_of (name ∷ names) = with_use (find_name usages (table_name name)) (uses_of names)

-- the uses that an option names, with `,` between two, and else these
abbrev pub uses_or : ℕ → Option (List ℕ) → Option ℕ
uses_or usual None = Some usual
uses_or usual (Some value) = uses_of (parts_between 44 value)

-- the attribute Cryptographic Usage Mask (KMIP 1.0, 3.14)
abbrev pub usage_attribute : ℕ → Attribute
usage_attribute bits =
    attribute_of (codes "Cryptographic Usage Mask") (values.Integer (cast_signed w32 bits))

-- the attributes of a key with this name and these uses
abbrev pub key_with : Option (List ℕ) → Option ℕ → Option (List Attribute)
key_with (Some name) (Some bits) = Some (name_attribute name ∷ usage_attribute bits ∷ [])
key_with name bits = None

-- the name by its word, and the uses by the value of an option
abbrev pub key_given : List ℕ → ℕ → Option (List ℕ) → Option (List Attribute)
key_given name usual value = key_with (word_text name) (uses_or usual value)

-- ---- `create ALGORITHM BITS NAME [usage=]`: KMIP 1.0, 4.1

abbrev pub cryptographic_attributes : CryptographicAlgorithm → ℤ → List Attribute
cryptographic_attributes algorithm key_length =
    attribute_of (codes "Cryptographic Algorithm") (values.CryptographicAlgorithm algorithm)
    ∷ attribute_of (codes "Cryptographic Length") (values.Integer key_length)
    ∷ []

abbrev pub create_with : Option CryptographicAlgorithm → Option ℤ → Option (List Attribute) →
    Option RequestPayload
create_with (Some algorithm) (Some key_length) (Some attributes) =
    Some (RequestPayload.Create ObjectType.SymmetricKey (record {
      0 = None;
      1 = Some (attributes ++ cryptographic_attributes algorithm key_length);
    }))
create_with algorithm key_length attributes = None

-- Encrypt and Decrypt, unless others are named
unfoldable pub create_asked : List (List ℕ) → Option RequestPayload
create_asked (algorithm ∷ number ∷ name ∷ options) =
    if are_options (codes "usage=" ∷ []) options
    then create_with
    (variant_named cryptographic_algorithm_line cryptographic_algorithm_variants algorithm)
    (int_of number) (key_given name 0xC (value_given (codes "usage=") options))
    else None
create_asked words = None

-- ---- `create-rsa BITS PRIVATE PUBLIC [private-usage=] [public-usage=]`: KMIP 1.0, 4.2

abbrev pub create_pair_with : Option ℤ → Option (List Attribute) → Option (List Attribute) →
    Option RequestPayload
create_pair_with (Some key_length) (Some private) (Some public) =
    Some (RequestPayload.CreateKeyPair
    (Some (record { 0 = None; 1 = Some (pair_attributes key_length) }))
    (Some (record { 0 = None; 1 = Some private }))
    (Some (record { 0 = None; 1 = Some public })))
create_pair_with key_length private public = None

-- Sign and Verify, unless others are named
unfoldable pub create_pair_asked : List (List ℕ) → Option RequestPayload
create_pair_asked (number ∷ private ∷ public ∷ options) =
    if are_options (codes "private-usage=" ∷ codes "public-usage=" ∷ []) options
    then create_pair_with (int_of number)
    (key_given private 0x1 (value_given (codes "private-usage=") options))
    (key_given public 0x2 (value_given (codes "public-usage=") options))
    else None
create_pair_asked words = None

-- ---- `register public|private|symmetric HEX format= algorithm= length= [usage=] [name=]`: KMIP
-- 1.0, 4.3

abbrev pub key_block_with : List ℕ → Option KeyFormatType → Option CryptographicAlgorithm →
    Option ℤ → Option KeyBlock
key_block_with bytes (Some format) (Some algorithm) (Some length) =
    Some (record {
      0 = format;
      1 = None;
      2 = Some (record { 0 = KeyMaterial.Bytes bytes; 1 = None });
      3 = Some algorithm;
      4 = Some (record { 0 = length });
      5 = None;
    })
key_block_with bytes format algorithm length = None

-- a key's block by its bytes, and its format, algorithm and length by options
abbrev pub key_block_of : List (List ℕ) → List ℕ → Option KeyBlock
key_block_of options bytes =
    key_block_with bytes
    (variant_of key_format_type_line key_format_type_variants
    (value_given (codes "format=") options))
    (variant_of cryptographic_algorithm_line cryptographic_algorithm_variants
    (value_given (codes "algorithm=") options))
    (option_and_then int_of (value_given (codes "length=") options))

unfoldable pub key_block_given : List ℕ → List (List ℕ) → Option KeyBlock
key_block_given word options = option_and_then (key_block_of options) (bytes_of word)

-- the attributes that are given: the uses, and the name
abbrev pub uses_given : Option (List ℕ) → Option (List Attribute)
uses_given None = Some []
uses_given (Some value) =
    option_map (λ bits. usage_attribute bits ∷ []) (uses_of (parts_between 44 value))

abbrev pub and_name : Option (List Attribute) → Option (Option (List ℕ)) → Option (List Attribute)
and_name (Some attributes) (Some None) = Some attributes
and_name (Some attributes) (Some (Some name)) = Some (attributes ++ name_attribute name ∷ [])
and_name attributes name = None

unfoldable pub attributes_given : List (List ℕ) → Option (List Attribute)
attributes_given options =
    and_name (uses_given (value_given (codes "usage=") options))
    (text_given (value_given (codes "name=") options))

-- the object of a kind, and its type
unfoldable pub object_of : List ℕ → KeyBlock → Option (ObjectType × ManagedObject)
object_of kind block =
    if bytes_eq kind (codes "public")
    then Some (ObjectType.PublicKey, ManagedObject.PublicKey (record { 0 = block }))
    else if bytes_eq kind (codes "private")
    then Some (ObjectType.PrivateKey, ManagedObject.PrivateKey (record { 0 = block }))
    else if bytes_eq kind (codes "symmetric")
    then Some (ObjectType.SymmetricKey, ManagedObject.SymmetricKey (record { 0 = block }))
    else None

abbrev pub register_with : List ℕ → Option KeyBlock → Option (List Attribute) →
    Option RequestPayload
register_with kind (Some block) (Some attributes) =
    option_map
    (λ made. RequestPayload.Register made.0 (record { 0 = None; 1 = Some attributes })
    (Some made.1))
    (object_of kind block)
register_with kind block attributes = None

unfoldable pub are_register_options : List (List ℕ) → Bool
are_register_options options =
    are_options
    (codes "format=" ∷ codes "algorithm=" ∷ codes "length=" ∷ codes "usage=" ∷ codes "name=" ∷ [])
    options

unfoldable pub register_asked : List (List ℕ) → Option RequestPayload
register_asked (kind ∷ bytes ∷ options) =
    if are_register_options options
    then register_with kind (key_block_given bytes options) (attributes_given options)
    else None
register_asked words = None

-- by the name of the call
abbrev pub key_asked : List ℕ → List (List ℕ) → Option RequestPayload
key_asked name words =
    if bytes_eq name (codes "create") then create_asked words
    else if bytes_eq name (codes "create-rsa") then create_pair_asked words
    else if bytes_eq name (codes "register") then register_asked words
    else None
