-- Which helper's call a request is.
use Rattle.std.specs.Prelude.{ℕ, zero, suc, ℤ, pos, Bool, true, false, List, [], Option, Some, None, if◌then◌else◌}
use Rattle.std.specs.Option.{option_and_then}
use Rattle.kmip_shape.specs.Val.{Val, Vals, Field, Fields, Number, Text, Bytes, Record, Case, One, Many, NoField, AndField, NoVal, AndVal}
use Rattle.kmip_enums.specs.declared.operation.Operation.{Operation}
use Rattle.kmip_enums.specs.declared.operation.Operation.TheVariants as operations
use Rattle.kmip_types.specs.SameValues.{same_val}
use Rattle.kmip_request.specs.Message.{operation_of}
use Rattle.kmip_request.specs.Values.{request_payload_val}
use Rattle.kmip_request.specs.declared.payload.RequestPayload.{RequestPayload}
use Rattle.kmip_request_read.specs.Reading.{Request}
use Rattle.kmip_request.specs.Requests.{query_request, key_pair_request, rng_request, sign_request, activate_request, revoke_request, destroy_request, rename_request, get_request}
use Rattle.kmip_store.specs.declared.call.Call.{Call}
use Rattle.kmip_store.specs.declared.call.Call.TheVariants.{Query, CreateRsaKeyPair, RngRetrieve, Sign, ActivateKey, RevokeKey, DestroyKey, RenameKey, GetKey}

-- the request of a helper's call
abbrev pub request_of : Call → RequestPayload
request_of Query = query_request
request_of (CreateRsaKeyPair bits private public) = key_pair_request bits private public
request_of (RngRetrieve n) = rng_request n
request_of (Sign id bytes) = sign_request id bytes
request_of (ActivateKey id) = activate_request id
request_of (RevokeKey id) = revoke_request id
request_of (DestroyKey id) = destroy_request id
request_of (RenameKey id name) = rename_request id name
request_of (GetKey id) = get_request id

abbrev pub call_operation : Call → Operation
call_operation call = operation_of (request_of call)

-- the nine operations of the helpers (KMIP 1.0, 4; KMIP 1.2, 4.31 and 4.35)
abbrev pub is_served : Operation → Bool
is_served operations.CreateKeyPair = true
is_served operations.Get = true
is_served operations.ModifyAttribute = true
is_served operations.Activate = true
is_served operations.Revoke = true
is_served operations.Destroy = true
is_served operations.Query = true
is_served operations.Sign = true
is_served operations.RNGRetrieve = true
is_served _ = false

-- ---- the arguments of a helper at their places in its payload; where one is missing, an arbitrary
-- value

abbrev pub field_in : ℕ → Fields → Option Field
field_in n NoField = None
field_in zero (AndField field fields) = Some field
field_in (suc n) (AndField field fields) = field_in n fields

-- a field of a record, also of one in a case
abbrev pub field_at : ℕ → Val → Option Field
field_at n (Record fields) = field_in n fields
field_at n (Case m (Record fields)) = field_in n fields
field_at n val = None

abbrev pub one_of : Option Field → Option Val
one_of (Some (One val)) = Some val
one_of field = None

abbrev pub many_of : Option Field → Vals
many_of (Some (Many vals)) = vals
many_of field = NoVal

-- the one value of a field
abbrev pub part : ℕ → Val → Option Val
part n val = one_of (field_at n val)

abbrev pub text_in : Option Val → List ℕ
text_in (Some (Text s)) = s
text_in val = []

abbrev pub number_in : Option Val → ℤ
number_in (Some (Number z)) = z
number_in (Some (Case n (Number z))) = z
number_in val = pos 0

abbrev pub bytes_in : Option Val → List ℕ
bytes_in (Some (Bytes b)) = b
bytes_in val = []

abbrev pub val_at : ℕ → Vals → Option Val
val_at n NoVal = None
val_at zero (AndVal val vals) = Some val
val_at (suc n) (AndVal val vals) = val_at n vals

-- the value of an attribute (KMIP 1.0, 2.1.1)
abbrev pub attribute_value : Option Val → Option Val
attribute_value attribute = option_and_then (part 2) attribute

-- the text of a Name (KMIP 1.0, 3.2)
abbrev pub name_in : Option Val → List ℕ
name_in attribute = text_in (option_and_then (part 0) (attribute_value attribute))

-- an attribute of a template (KMIP 1.0, 2.1.8)
abbrev pub member : ℕ → Option Val → Option Val
member n template = option_and_then (λ val. val_at n (many_of (field_at 1 val))) template

-- the one call whose request may have this payload
abbrev pub candidate : Operation → Val → Option Call
candidate operations.Query payload = Some Query
candidate operations.CreateKeyPair payload = Some (CreateRsaKeyPair
    (number_in (attribute_value (member 1 (part 0 payload))))
    (name_in (member 0 (part 1 payload)))
    (name_in (member 0 (part 2 payload))))
candidate operations.RNGRetrieve payload = Some (RngRetrieve (number_in (part 0 payload)))
candidate operations.Sign payload =
    Some (Sign (text_in (part 0 payload)) (bytes_in (part 2 payload)))
candidate operations.Activate payload = Some (ActivateKey (text_in (part 0 payload)))
candidate operations.Revoke payload = Some (RevokeKey (text_in (part 0 payload)))
candidate operations.Destroy payload = Some (DestroyKey (text_in (part 0 payload)))
candidate operations.ModifyAttribute payload =
    Some (RenameKey (text_in (part 0 payload)) (name_in (part 1 payload)))
candidate operations.Get payload = Some (GetKey (text_in (part 0 payload)))
candidate _ payload = None

abbrev pub if_request : Val → Call → Option Call
if_request payload call =
    if same_val (request_payload_val (request_of call)) payload then Some call else None

-- The helper's call whose request this is: where there is one, the request of that call has this
-- payload, and where there is none, no helper's request has it.
unfoldable pub call_of : Request → Option Call
call_of request =
    option_and_then (if_request request.payload) (candidate request.operation request.payload)
