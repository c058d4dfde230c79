-- What words with options ask for.
use Rattle.std.specs.Prelude.{ℕ, ℤ, Bool, true, false, List, [], ◌∷◌, Option, Some, None, if◌then◌else◌, codes, bytes_eq}
use Rattle.std.specs.Option.{option_map, option_and_then}
use Rattle.kmip_enums.specs.RevocationReasonCodes.{revocation_reason_code_line, revocation_reason_code_variants}
use Rattle.kmip_enums.specs.declared.revocation_reason_code.RevocationReasonCode.{RevocationReasonCode}
use Rattle.kmip_types.specs.CryptographicAlgorithms.{cryptographic_algorithm_line, cryptographic_algorithm_variants}
use Rattle.kmip_types.specs.HashingAlgorithms.{hashing_algorithm_line, hashing_algorithm_variants}
use Rattle.kmip_types.specs.KeyFormatTypes.{key_format_type_line, key_format_type_variants}
use Rattle.kmip_types.specs.PaddingMethods.{padding_method_line, padding_method_variants}
use Rattle.kmip_types.specs.TheBlockCipherMode.{BlockCipherMode}
use Rattle.kmip_types.specs.TheCryptographicAlgorithm.{CryptographicAlgorithm}
use Rattle.kmip_types.specs.TheHashingAlgorithm.{HashingAlgorithm}
use Rattle.kmip_types.specs.TheKeyFormatType.{KeyFormatType}
use Rattle.kmip_types.specs.ThePaddingMethod.{PaddingMethod}
use Rattle.kmip_types.specs.TheWrappingMethod.{WrappingMethod}
use Rattle.kmip_types.specs.TheUniqueIdentifier.{UniqueIdentifier}
use Rattle.kmip_types.specs.TheAttributeName.{AttributeName}
use Rattle.kmip_types.specs.declared.cryptographic_parameters.CryptographicParameters.{CryptographicParameters}
use Rattle.kmip_request.specs.TheAttribute.{Attribute}
use Rattle.kmip_types.specs.TheCompromiseOccurrenceDate.{CompromiseOccurrenceDate}
use Rattle.kmip_request_objects.specs.declared.revocation_reason.RevocationReason.{RevocationReason}
use Rattle.kmip_request_objects.specs.declared.key_wrapping.KeyWrappingSpecification.{KeyWrappingSpecification}
use Rattle.kmip_request.specs.Requests.{signing_parameters}
use Rattle.kmip_request.specs.declared.payload.RequestPayload.{RequestPayload}
use Rattle.kmip_request_words.specs.Attributes.{attribute_in, attribute_name, all_of}
use Rattle.kmip_request_words.specs.Coded.{variant_or}
use Rattle.kmip_request_words.specs.Given.{text_given, date_given, number_given}
use Rattle.kmip_request_words.specs.Keys.{key_asked}
use Rattle.kmip_request_words.specs.Options.{value_given, are_options}
use Rattle.kmip_request_words.specs.Values.{bytes_of, word_text}

-- the identifier of an object
abbrev pub identifier : List ℕ → Option UniqueIdentifier
identifier id = Some (record { 0 = id })

-- ---- `sign ID HEX [hash=] [padding=] [algorithm=] [prehashed]`

-- the digest that is asked for where `hash=` gives none: SHA-256, or after the word `prehashed`
-- none, as the bytes are a digest already; a word that only begins so is no option
abbrev pub usual_hash : Option (List ℕ) → Option (Option HashingAlgorithm)
usual_hash None = Some (Some HashingAlgorithm.SHA256)
usual_hash (Some []) = Some None
usual_hash (Some (c ∷ rest)) = None

abbrev pub hash_given : List (List ℕ) → Option (Option HashingAlgorithm)
hash_given words =
    option_and_then
    (λ usual. variant_or hashing_algorithm_line hashing_algorithm_variants usual
    (value_given (codes "hash=") words))
    (usual_hash (value_given (codes "prehashed") words))

abbrev pub padding_given : List (List ℕ) → Option (Option PaddingMethod)
padding_given words =
    variant_or padding_method_line padding_method_variants (Some PaddingMethod.PKCS1_v1_5)
    (value_given (codes "padding=") words)

abbrev pub algorithm_given : List (List ℕ) → Option (Option CryptographicAlgorithm)
algorithm_given words =
    variant_or cryptographic_algorithm_line cryptographic_algorithm_variants
    (Some CryptographicAlgorithm.RSA) (value_given (codes "algorithm=") words)

-- the parameters of `sign` without options, but for these three
abbrev pub parameters_with : Option (Option HashingAlgorithm) → Option (Option PaddingMethod) →
    Option (Option CryptographicAlgorithm) → Option CryptographicParameters
parameters_with (Some hash) (Some padding) (Some algorithm) =
    Some (record signing_parameters {
      hashing_algorithm = hash;
      padding_method = padding;
      cryptographic_algorithm = algorithm;
    })
parameters_with hash padding algorithm = None

abbrev pub parameters_given : List (List ℕ) → Option CryptographicParameters
parameters_given words =
    if are_options
    (codes "hash=" ∷ codes "padding=" ∷ codes "algorithm=" ∷ codes "prehashed" ∷ []) words
    then parameters_with (hash_given words) (padding_given words) (algorithm_given words)
    else None

abbrev pub sign_with : Option (List ℕ) → Option (List ℕ) → Option CryptographicParameters →
    Option RequestPayload
sign_with (Some id) (Some bytes) (Some parameters) =
    Some (RequestPayload.Sign (identifier id) (Some parameters) (record { 0 = bytes }))
sign_with id bytes parameters = None

abbrev pub sign_asked : List (List ℕ) → Option RequestPayload
sign_asked (id ∷ bytes ∷ options) =
    sign_with (word_text id) (bytes_of bytes) (parameters_given options)
sign_asked words = None

-- ---- `revoke ID [reason=] [message=] [since=]`

abbrev pub reason_given : List (List ℕ) → Option (Option RevocationReasonCode)
reason_given words =
    variant_or revocation_reason_code_line revocation_reason_code_variants
    (Some RevocationReasonCode.CessationOfOperation) (value_given (codes "reason=") words)

abbrev pub revocation_with : Option (Option RevocationReasonCode) → Option (Option (List ℕ)) →
    Option RevocationReason
revocation_with (Some (Some reason)) (Some message) =
    Some (record { 0 = reason; 1 = option_map (λ text. record { 0 = text }) message })
revocation_with reason message = None

abbrev pub revocation_given : List (List ℕ) → Option RevocationReason
revocation_given words =
    revocation_with (reason_given words) (text_given (value_given (codes "message=") words))

abbrev pub since_given : List (List ℕ) → Option (Option CompromiseOccurrenceDate)
since_given words =
    option_map (option_map (λ date. record { 0 = date }))
    (date_given (value_given (codes "since=") words))

abbrev pub revoke_with : Option (List ℕ) → Option RevocationReason →
    Option (Option CompromiseOccurrenceDate) → Option RequestPayload
revoke_with (Some id) (Some reason) (Some since) =
    Some (RequestPayload.Revoke (identifier id) reason since)
revoke_with id reason since = None

abbrev pub revoke_asked : List (List ℕ) → Option RequestPayload
revoke_asked (id ∷ options) =
    if are_options (codes "reason=" ∷ codes "message=" ∷ codes "since=" ∷ []) options
    then revoke_with (word_text id) (revocation_given options) (since_given options)
    else None
revoke_asked [] = None

-- ---- `get ID [format=] [wrap=]`

-- AES Key Wrap (RFC 3394)
abbrev pub wrapping_parameters : CryptographicParameters
wrapping_parameters = record {
  block_cipher_mode = Some BlockCipherMode.NISTKeyWrap;
  padding_method = None;
  hashing_algorithm = None;
  key_role_type = None;
  digital_signature_algorithm = None;
  cryptographic_algorithm = None;
  random_iv = None;
  iv_length = None;
  tag_length = None;
  fixed_field_length = None;
  invocation_field_length = None;
  counter_length = None;
  initial_counter_value = None;
}

-- wrapped under the key with this identifier (KMIP 1.0, 2.1.6)
abbrev pub wrapped_under : List ℕ → KeyWrappingSpecification
wrapped_under id = record {
  0 = WrappingMethod.Encrypt;
  1 = Some (record { 0 = record { 0 = id }; 1 = Some wrapping_parameters });
  2 = None;
  3 = None;
}

abbrev pub format_given : List (List ℕ) → Option (Option KeyFormatType)
format_given words =
    variant_or key_format_type_line key_format_type_variants None
    (value_given (codes "format=") words)

abbrev pub get_with : Option (List ℕ) → Option (Option KeyFormatType) → Option (Option (List ℕ)) →
    Option RequestPayload
get_with (Some id) (Some format) (Some wrap) =
    Some (RequestPayload.Get (identifier id) format None (option_map wrapped_under wrap))
get_with id format wrap = None

abbrev pub get_asked : List (List ℕ) → Option RequestPayload
get_asked (id ∷ options) =
    if are_options (codes "format=" ∷ codes "wrap=" ∷ []) options
    then get_with (word_text id) (format_given options)
    (text_given (value_given (codes "wrap=") options))
    else None
get_asked [] = None

-- ---- `locate [where] ATTRIBUTE..`

-- the attributes: what stands after the word `where`, which may be left out where the words are not
-- one
abbrev pub after_where : List (List ℕ) → List (List ℕ)
after_where (word ∷ words) = if bytes_eq word (codes "where") then words else word ∷ words
after_where [] = []

-- ---- `attributes ID NAME..`

abbrev pub attributes_with : Option (List ℕ) → Option (List AttributeName) → Option RequestPayload
attributes_with (Some id) (Some names) =
    Some (RequestPayload.GetAttributes (identifier id) (Some names))
attributes_with id names = None

abbrev pub attributes_asked : List (List ℕ) → Option RequestPayload
attributes_asked (id ∷ names) = attributes_with (word_text id) (all_of attribute_name names)
attributes_asked [] = None

-- ---- `attribute-add ID OPTION`, `attribute-modify ID OPTION [index=]`

abbrev pub add_with : Option (List ℕ) → Option Attribute → Option RequestPayload
add_with (Some id) (Some attribute) = Some (RequestPayload.AddAttribute (identifier id) attribute)
add_with id attribute = None

abbrev pub add_asked : List (List ℕ) → Option RequestPayload
add_asked (id ∷ word ∷ []) = add_with (word_text id) (attribute_in word)
add_asked words = None

abbrev pub modify_with : Option (List ℕ) → Option Attribute → Option (Option ℤ) →
    Option RequestPayload
modify_with (Some id) (Some attribute) (Some index) =
    Some (RequestPayload.ModifyAttribute (identifier id)
    (record { 0 = attribute.0; 1 = option_map (λ z. record { 0 = z }) index; 2 = attribute.2 }))
modify_with id attribute index = None

abbrev pub modify_asked : List (List ℕ) → Option RequestPayload
modify_asked (id ∷ word ∷ options) =
    if are_options (codes "index=" ∷ []) options
    then modify_with (word_text id) (attribute_in word)
    (number_given (value_given (codes "index=") options))
    else None
modify_asked words = None

-- ---- `attribute-delete ID NAME [index=]`

abbrev pub delete_with : Option (List ℕ) → Option AttributeName → Option (Option ℤ) →
    Option RequestPayload
delete_with (Some id) (Some name) (Some index) =
    Some (RequestPayload.DeleteAttribute (identifier id) name
    (option_map (λ z. record { 0 = z }) index))
delete_with id name index = None

abbrev pub delete_asked : List (List ℕ) → Option RequestPayload
delete_asked (id ∷ name ∷ options) =
    if are_options (codes "index=" ∷ []) options
    then delete_with (word_text id) (attribute_name name)
    (number_given (value_given (codes "index=") options))
    else None
delete_asked words = None

-- ---- by the name of the call

abbrev pub edit_asked : List ℕ → List (List ℕ) → Option RequestPayload
edit_asked name words =
    if bytes_eq name (codes "attribute-add") then add_asked words
    else if bytes_eq name (codes "attribute-modify") then modify_asked words
    else if bytes_eq name (codes "attribute-delete") then delete_asked words
    else key_asked name words

abbrev pub asked_by : List ℕ → List (List ℕ) → Option RequestPayload
asked_by name words =
    if bytes_eq name (codes "sign") then sign_asked words
    else if bytes_eq name (codes "revoke") then revoke_asked words
    else if bytes_eq name (codes "get") then get_asked words
    else if bytes_eq name (codes "locate")
    then option_map RequestPayload.Locate (all_of attribute_in (after_where words))
    else if bytes_eq name (codes "attributes") then attributes_asked words
    else edit_asked name words

-- the request that words with options ask for
unfoldable pub asked_in : List (List ℕ) → Option RequestPayload
asked_in (name ∷ words) = asked_by name words
asked_in [] = None
