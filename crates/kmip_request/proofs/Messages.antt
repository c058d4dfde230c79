-- The message that is written for a payload and a credential is the one that is promised.
use Rattle.std.proofs.Common.{◌≡◌, ℕ, pos, List, [], ◌∷◌, Option, Some, None, refl, sym, ◌∙◌, ap, subst}
use Rattle.kmip_tags.specs.Tags.{BATCH_ITEM, OPERATION, REQUEST_MESSAGE, REQUEST_PAYLOAD}
use Rattle.std.specs.Prelude.{Result, OnOk}
use Rattle.kmip_wire.specs.declared.error.WireError.{WireError}
use Rattle.std.specs.Option.{option_map, option_and_then}
use Rattle.kmip_wire.specs.Tree.{Tree, scalar, enumeration}
use Rattle.kmip_wire.specs.Bytes.{bytes}
use Rattle.kmip_shape.specs.Val.{Val}
use Rattle.kmip_shape.specs.Shape.{Shape}
use Rattle.kmip_shape.specs.Trees.{tree_of, structure_of, then_trees, one_tree}
use Rattle.kmip_shape.specs.Writes.{bytes_of}
use Rattle.kmip_enums.specs.Operations.{operation_line}
use Rattle.kmip_enums.specs.declared.credential_type.CredentialType.{CredentialType}
use Rattle.kmip_enums.specs.declared.credential_type.CredentialType.TheVariants as types
use Rattle.kmip_request.specs.declared.authentication.CredentialValue.{CredentialValue}
use Rattle.kmip_request.specs.Tables.{request_message_of, request_payload}
use Rattle.kmip_request.specs.Values.{lent_message_val, request_payload_val}
use Rattle.kmip_request.specs.Message.{request_bytes, message_tree, header_tree, authentication_trees, credential_of, operation_of, minor_of, version_of}
use Rattle.kmip_request.specs.declared.authentication.Authentication.{Authentication}
use Rattle.kmip_request.specs.declared.header.ProtocolVersion.{ProtocolVersion}
use Rattle.kmip_enums.specs.declared.operation.Operation.{Operation}
use Rattle.kmip_request.specs.declared.authentication.CredentialValue.TheVariants as values
use Rattle.kmip_request.specs.declared.payload.RequestPayload.{RequestPayload}

-- the item of a payload, where it has one, decides whether the message has a tree
around : (header : Tree) (operation : ℕ) (payload : Option Tree) →
    structure_of REQUEST_MESSAGE (then_trees (Some (header ∷ []))
    (then_trees (then_trees (one_tree
    (structure_of BATCH_ITEM (then_trees (Some (scalar OPERATION (enumeration operation) ∷ []))
    (then_trees (Some []) (then_trees (one_tree payload) (Some [])))))) (Some [])) (Some [])))
    ≡ option_map (message_tree header operation) payload
around header operation None = refl
around header operation (Some p) = refl

-- the version of KMIP 1 of this minor number
abbrev version : ℕ → ProtocolVersion
version minor = record { 0 = record { 0 = pos 1 }; 1 = record { 0 = pos minor } }

-- the same for each credential: its type, and its value
for_values : (shape : Shape) (val : Val) (minor : ℕ) (operation : Operation) (type : CredentialType)
    (value : CredentialValue) →
    tree_of (request_message_of shape) REQUEST_MESSAGE
    (lent_message_val (version minor)
    (Some (record { 0 = record { 0 = type; 1 = value } })) operation val)
    ≡ option_map (message_tree (header_tree minor (authentication_trees
    (Some (credential_of (record { 0 = record { 0 = type; 1 = value } })))))
    (operation_line operation).number) (tree_of shape REQUEST_PAYLOAD val)
for_values shape val minor operation types.UsernameAndPassword (values.UsernameAndPassword username None) =
    around (header_tree minor (authentication_trees (Some
    (credential_of (record {
      0 = record
          { 0 = types.UsernameAndPassword; 1 = values.UsernameAndPassword username None };
    })))))
    (operation_line operation).number (tree_of shape REQUEST_PAYLOAD val)
for_values shape val minor operation types.UsernameAndPassword (values.UsernameAndPassword username (Some password)) =
    around (header_tree minor (authentication_trees (Some
    (credential_of (record {
      0 = record
          { 0 = types.UsernameAndPassword; 1 = values.UsernameAndPassword username (Some password) };
    }))))) (operation_line operation).number (tree_of shape REQUEST_PAYLOAD val)

-- and for a payload of every shape
tree_is : (shape : Shape) (val : Val) (minor : ℕ) (operation : Operation) (credential : Option Authentication) →
    tree_of (request_message_of shape) REQUEST_MESSAGE (lent_message_val (version minor) credential operation val)
    ≡ option_map (message_tree (header_tree minor (authentication_trees
    (option_map credential_of credential))) (operation_line operation).number)
    (tree_of shape REQUEST_PAYLOAD val)
tree_is shape val minor operation None =
    around (header_tree minor []) (operation_line operation).number
    (tree_of shape REQUEST_PAYLOAD val)
tree_is shape val minor operation (Some a) = for_values shape val minor operation (a.0).0 (a.0).1

pub bytes_are : (payload : RequestPayload) (credential : Option Authentication) →
    bytes_of (request_message_of request_payload) REQUEST_MESSAGE
    (lent_message_val (version_of payload) credential (operation_of payload)
    (request_payload_val payload))
    ≡ request_bytes payload (option_map credential_of credential)
bytes_are payload credential =
    ap (λ tree. option_and_then bytes tree)
    (tree_is request_payload (request_payload_val payload) (minor_of payload)
    (operation_of payload) credential)

-- the message that is written is that of the payload's version and operation
lent_is : (payload : RequestPayload) (credential : Option Authentication)
    (made_in : ProtocolVersion) (operation : Operation) → made_in ≡ version_of payload
    → operation ≡ operation_of payload →
    bytes_of (request_message_of request_payload) REQUEST_MESSAGE
    (lent_message_val made_in credential operation (request_payload_val payload))
    ≡ request_bytes payload (option_map credential_of credential)
lent_is payload credential made_in operation v o =
    ap (λ (x : ProtocolVersion). bytes_of (request_message_of request_payload) REQUEST_MESSAGE
    (lent_message_val x credential operation (request_payload_val payload))) v
    ∙ (ap (λ (x : Operation). bytes_of (request_message_of request_payload) REQUEST_MESSAGE
    (lent_message_val (version_of payload) credential x (request_payload_val payload))) o
    ∙ bytes_are payload credential)

pub lent_ok : {A : Type 0} (result : Result A WireError) (b : List ℕ) (payload : RequestPayload)
    (credential : Option Authentication) (made_in : ProtocolVersion) (operation : Operation)
    → made_in ≡ version_of payload → operation ≡ operation_of payload →
    OnOk result (bytes_of (request_message_of request_payload) REQUEST_MESSAGE
    (lent_message_val made_in credential operation (request_payload_val payload)) ≡ Some b) →
    OnOk result (request_bytes payload (option_map credential_of credential) ≡ Some b)
lent_ok result b payload credential made_in operation v o h =
    subst (λ (x : Option (List ℕ)). OnOk result (x ≡ Some b)) (lent_is payload credential made_in operation v o) h

pub lent_no_form : (payload : RequestPayload) (credential : Option Authentication)
    (made_in : ProtocolVersion) (operation : Operation) → made_in ≡ version_of payload
    → operation ≡ operation_of payload →
    bytes_of (request_message_of request_payload) REQUEST_MESSAGE
    (lent_message_val made_in credential operation (request_payload_val payload)) ≡ None →
    request_bytes payload (option_map credential_of credential) ≡ None
lent_no_form payload credential made_in operation v o h = sym (lent_is payload credential made_in operation v o) ∙ h
