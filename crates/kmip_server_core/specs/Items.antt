-- The batch items and the message that report what a call came to (KMIP 1.0, 7.1 and 7.2).
use Rattle.std.specs.Prelude.{ℕ, ℤ, pos, cond, List, [], ◌∷◌, Option, Some, None, codes}
use Rattle.kmip_enums.specs.declared.operation.Operation.{Operation}
use Rattle.kmip_enums.specs.declared.object_type.ObjectType.{ObjectType}
use Rattle.kmip_enums.specs.declared.object_type.ObjectType.TheVariants as types
use Rattle.kmip_enums.specs.declared.name_type.NameType.TheVariants.{UninterpretedTextString}
use Rattle.kmip_enums.specs.declared.result_status.ResultStatus.TheVariants.{Success, OperationFailed}
use Rattle.kmip_enums.specs.declared.result_reason.ResultReason.{ResultReason}
use Rattle.kmip_enums.specs.declared.result_reason.ResultReason.TheVariants as reasons
use Rattle.kmip_types.specs.TheCryptographicAlgorithm.{CryptographicAlgorithm}
use Rattle.kmip_types.specs.TheKeyFormatType.{KeyFormatType}
use Rattle.kmip_types.specs.TheKeyMaterial.{KeyMaterial}
use Rattle.kmip_types.specs.declared.attribute_value.AttributeValue.TheVariants as values
use Rattle.kmip_response_objects.specs.declared.attribute.Attribute.{Attribute}
use Rattle.kmip_response_objects.specs.declared.key_block.KeyBlock.{KeyBlock}
use Rattle.kmip_response_objects.specs.declared.managed_object.ManagedObject.{ManagedObject}
use Rattle.kmip_response.specs.declared.payload.ResponsePayload.{ResponsePayload}
use Rattle.kmip_response.specs.declared.batch_item.BatchItem.{BatchItem}
use Rattle.kmip_response.specs.declared.message.ResponseMessage.{ResponseMessage}
use Rattle.kmip_request_read.specs.Reading.{minor_for}
use Rattle.kmip_store.specs.Objects.{is_public}
use Rattle.kmip_store.specs.Steps.{Answer, NotFound, Denied, Failed, Done, Supports, Created, Random, Signed, Got}
use Rattle.kmip_store.specs.declared.call.Call.{Call}
use Rattle.kmip_store.specs.declared.call.Call.TheVariants.{Query, CreateRsaKeyPair, RngRetrieve, Sign, ActivateKey, RevokeKey, DestroyKey, RenameKey, GetKey}
use Rattle.kmip_store.specs.declared.object.Object.{Object}
use Rattle.kmip_server_core.specs.Requests.{call_operation}

-- ---- payloads

-- an object is returned as a public key, or else as a private key (KMIP 1.0, 3.3)
abbrev pub key_type : Object → ObjectType
key_type object = cond (is_public object.object_type) types.PublicKey types.PrivateKey

-- the key block of an RSA key in PKCS#1 (KMIP 1.0, 2.1.3)
abbrev pub key_block_of : Object → KeyBlock
key_block_of object = record {
  key_format_type = KeyFormatType.PKCS1;
  key_compression_type = None;
  key_value = record { key_material = KeyMaterial.Bytes object.key; attributes = None };
  cryptographic_algorithm = Some CryptographicAlgorithm.RSA;
  cryptographic_length = Some object.length;
  key_wrapping_data = None;
}

abbrev pub key_object : Object → ManagedObject
key_object object = cond (is_public object.object_type)
    (ManagedObject.PublicKey (record { key_block = key_block_of object }))
    (ManagedObject.PrivateKey (record { key_block = key_block_of object }))

-- the attribute Name of an object (KMIP 1.0, 3.2)
abbrev pub name_attribute : List ℕ → Attribute
name_attribute name = record {
  name = record { 0 = codes "Name" };
  index = None;
  value = values.Name (record { 0 = name }) UninterpretedTextString;
}

-- the payload for the answer to a call; none where the call never has such an answer
abbrev pub payload_for : Call → Answer → Option ResponsePayload
payload_for Query (Supports operations object_types) = Some (ResponsePayload.Query (record {
  operations = Some operations;
  object_types = Some object_types;
  vendor_identification = None;
  server_information = None;
  skipped = tt;
}))
payload_for (CreateRsaKeyPair bits private public) (Created private_id public_id) =
    Some (ResponsePayload.CreateKeyPair (record {
      private_key_unique_identifier = record { 0 = private_id };
      public_key_unique_identifier = record { 0 = public_id };
    }))
payload_for (RngRetrieve n) (Random bytes) =
    Some (ResponsePayload.RNGRetrieve (record { random_bytes = bytes }))
payload_for (Sign id contents) (Signed bytes) = Some (ResponsePayload.Sign (record {
  unique_identifier = record { 0 = id };
  signature_data = bytes;
}))
payload_for (ActivateKey id) Done =
    Some (ResponsePayload.Activate (record { unique_identifier = record { 0 = id } }))
payload_for (RevokeKey id) Done =
    Some (ResponsePayload.Revoke (record { unique_identifier = record { 0 = id } }))
payload_for (DestroyKey id) Done =
    Some (ResponsePayload.Destroy (record { unique_identifier = record { 0 = id } }))
payload_for (RenameKey id name) Done = Some (ResponsePayload.ModifyAttribute (record {
  unique_identifier = record { 0 = id };
  attribute = name_attribute name;
}))
payload_for (GetKey id) (Got object) = Some (ResponsePayload.Get (record {
  object_type = key_type object;
  unique_identifier = record { 0 = id };
  cryptographic_object = key_object object;
}))
payload_for _ _ = None

-- ---- items

abbrev pub failed_item : Option Operation → ResultReason → List ℕ → BatchItem
failed_item operation reason text = record {
  operation = operation;
  unique_batch_item_id = None;
  result_status = OperationFailed;
  result_reason = Some reason;
  result_message = Some text;
  payload = None;
  message_extension = None;
}

abbrev pub done_item : Operation → Option ResponsePayload → BatchItem
done_item operation payload = record {
  operation = Some operation;
  unique_batch_item_id = None;
  result_status = Success;
  result_reason = None;
  result_message = None;
  payload = payload;
  message_extension = None;
}

-- the item that reports the answer to a call
abbrev pub item_for : Call → Answer → BatchItem
item_for call NotFound =
    failed_item (Some (call_operation call)) reasons.ItemNotFound (codes "no such object")
item_for call Denied = failed_item (Some (call_operation call)) reasons.PermissionDenied
    (codes "not allowed in this state")
item_for call Failed =
    failed_item (Some (call_operation call)) reasons.CryptographicFailure (codes "maker failed")
item_for call answer = done_item (call_operation call) (payload_for call answer)

-- the items for a new pair, which are the same whatever length and names were asked for
abbrev pub pair_item : Answer → BatchItem
pair_item answer = item_for (CreateRsaKeyPair (pos 0) [] []) answer

-- the item that refuses bytes that no matched request has
abbrev pub invalid_item : BatchItem
invalid_item = failed_item None reasons.InvalidMessage (codes "invalid message")

-- the item that refuses an operation that no helper has
abbrev pub unsupported_item : Operation → BatchItem
unsupported_item operation = failed_item (Some operation) reasons.OperationNotSupported
    (codes "operation not supported")

-- the item that refuses a request that no helper makes, of an operation that a helper has
abbrev pub unhelped_item : Operation → BatchItem
unhelped_item operation =
    failed_item (Some operation) reasons.InvalidField (codes "not a helper request")

-- ---- the message

-- the minor version of KMIP 1 that the messages of an operation carry (KMIP 1.0, 6.1)
abbrev pub minor_of : Option Operation → ℕ
minor_of None = 0
minor_of (Some operation) = minor_for operation

-- a message with this time stamp and one item (KMIP 1.0, 7.1)
abbrev pub message_with : ℤ → BatchItem → ResponseMessage
message_with time item = record {
  header = record {
    protocol_version = record { major = pos 1; minor = pos (minor_of item.operation) };
    timestamp = time;
    batch_count = pos 1;
  };
  batch_items = item ∷ [];
}
