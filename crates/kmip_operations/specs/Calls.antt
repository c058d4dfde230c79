-- A call of any operation, by the operation's name, a version of KMIP, a Unique Batch Item ID and a
-- payload in JSON or XML; and a message in JSON or XML.
use Rattle.std.specs.Prelude.{◌≡◌, ℕ, ◌==◌, ◌&&◌, ◌||◌, Bool, true, false, List, length, codes, Option, Some, None, if◌then◌else◌, bytes_eq}
use Rattle.std.specs.Option.{option_and_then}
use Rattle.kmip_tags.specs.Tags.{OPERATION, REQUEST_MESSAGE, REQUEST_PAYLOAD, UNIQUE_IDENTIFIER, PRIVATE_KEY_UNIQUE_IDENTIFIER, PUBLIC_KEY_UNIQUE_IDENTIFIER, LINKED_OBJECT_IDENTIFIER, REPLACED_UNIQUE_IDENTIFIER, ASYNCHRONOUS_CORRELATION_VALUE}
use Rattle.kmip_wire.specs.Tree.{Tree, Trees, Scalar, scalar, structure, none, more, text_string, byte_string}
use Rattle.kmip_shape.specs.Enumerations.{variant_at}
use Rattle.kmip_enums.specs.Operations.{operation_line, operation_variants}
use Rattle.kmip_enums.specs.declared.operation.Operation.{Operation}
use Rattle.kmip_encodings.specs.Names.{enumeration_number}
use Rattle.kmip_xml.specs.Texts.{Means}
use Rattle.kmip_client.specs.Operation.{TreeRequest}
use Rattle.kmip_client.specs.declared.operation.Version.{Version}
use Rattle.kmip_client.specs.declared.operation.Version.TheVariants.{V1_0, V1_1, V1_2}
use Rattle.kmip_operations.specs.declared.call.OperationCall.{OperationCall}

-- a call, as kmip_client's contracts see it
abbrev pub request_of : OperationCall → TreeRequest
request_of call = record {
  operation = call.operation;
  version = call.version;
  id = call.id;
  payload = call.payload;
}

-- the operation with this name
abbrev pub operation_named : List ℕ → Option Operation
operation_named name =
    option_and_then (variant_at operation_line operation_variants) (enumeration_number OPERATION name)

-- the version that a text writes
abbrev pub version_written : List ℕ → Option Version
version_written text =
    if bytes_eq text (codes "1.0") then Some V1_0
    else if bytes_eq text (codes "1.1") then Some V1_1
    else if bytes_eq text (codes "1.2") then Some V1_2
    else None

-- whether an item is a structure with this tag
abbrev pub is_structure : ℕ → Tree → Bool
is_structure wanted (structure tag items) = tag == wanted
is_structure wanted (scalar tag value) = false

-- the text is the JSON, in which no object has a name twice, or the XML of this structure with the
-- tag
abbrev pub IsStructureText : ℕ → List ℕ → Tree → Type 0
IsStructureText wanted text tree = Means text tree × (is_structure wanted tree ≡ true)

-- the tags under which the identifier of an object stands
abbrev pub is_identifier : ℕ → Bool
is_identifier tag =
    tag == UNIQUE_IDENTIFIER
    || (tag == PRIVATE_KEY_UNIQUE_IDENTIFIER
    || (tag == PUBLIC_KEY_UNIQUE_IDENTIFIER
    || (tag == LINKED_OBJECT_IDENTIFIER || tag == REPLACED_UNIQUE_IDENTIFIER)))

-- whether an item is an empty identifier, which a server may take for that of another object, or an
-- empty handle of an operation that has not ended (KMIP 1.0, 6.8)
abbrev pub is_empty_identifier : ℕ → Scalar → Bool
is_empty_identifier tag (text_string text) = is_identifier tag && length text == 0
is_empty_identifier tag (byte_string bytes) =
    tag == ASYNCHRONOUS_CORRELATION_VALUE && length bytes == 0
is_empty_identifier tag value = false

-- whether a payload has one in it, at whatever depth
abbrev mutual
  pub has_empty_identifier : Tree → Bool
  has_empty_identifier (scalar tag value) = is_empty_identifier tag value
  has_empty_identifier (structure tag items) = have_empty_identifier items

  pub have_empty_identifier : Trees → Bool
  have_empty_identifier none = false
  have_empty_identifier (more item items) =
      has_empty_identifier item || have_empty_identifier items

-- the text is the JSON or XML of the payload of a request (KMIP 1.0, 9.1.3.1) in which no identifier
-- and no handle is empty
abbrev pub IsPayloadText : List ℕ → Tree → Type 0
IsPayloadText text tree =
    IsStructureText REQUEST_PAYLOAD text tree × (has_empty_identifier tree ≡ false)

-- the text is the JSON or XML of a whole request message
abbrev pub IsMessageText : List ℕ → Tree → Type 0
IsMessageText = IsStructureText REQUEST_MESSAGE

-- the call that a name, a version, a Unique Batch Item ID, where there is one, and a payload in JSON
-- or XML ask for
pub record Asks (name version : List ℕ) (id : Option (List ℕ)) (payload : List ℕ)
    (request : TreeRequest) : Type 0 where
  pub operation_is : operation_named name ≡ Some request.operation
  pub version_is : version_written version ≡ Some request.version
  pub id_is : id ≡ request.id
  pub payload_is : IsPayloadText payload request.payload
