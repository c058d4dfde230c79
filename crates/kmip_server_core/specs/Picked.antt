-- What a payload has at the places of the arguments of a helper; where it has none, an arbitrary
-- value.
use Rattle.std.specs.Prelude.{ℕ, ℤ, pos, List, [], ◌∷◌, Option, Some, None}
use Rattle.kmip_types.specs.TheUniqueIdentifier.{UniqueIdentifier}
use Rattle.kmip_types.specs.declared.attribute_value.AttributeValue.{AttributeValue}
use Rattle.kmip_types.specs.declared.attribute_value.AttributeValue.TheVariants as values
use Rattle.kmip_request.specs.TheAttribute.{Attribute}
use Rattle.kmip_request_objects.specs.declared.template_attribute.CommonTemplateAttribute.{CommonTemplateAttribute}
use Rattle.kmip_request_objects.specs.declared.template_attribute.PrivateKeyTemplateAttribute.{PrivateKeyTemplateAttribute}
use Rattle.kmip_request_objects.specs.declared.template_attribute.PublicKeyTemplateAttribute.{PublicKeyTemplateAttribute}
use Rattle.kmip_request.specs.declared.payload.RequestPayload.{RequestPayload}
use Rattle.kmip_request.specs.declared.payload.RequestPayload.TheVariants as payloads
use Rattle.kmip_store.specs.declared.call.Call.{Call}
use Rattle.kmip_store.specs.declared.call.Call.TheVariants.{Query, CreateRsaKeyPair, RngRetrieve, Sign, ActivateKey, RevokeKey, DestroyKey, RenameKey, GetKey}

abbrev pub id_text : Option UniqueIdentifier → List ℕ
id_text None = []
id_text (Some id) = id.0

abbrev pub value_name : AttributeValue → List ℕ
value_name (values.Name name kind) = name.0
value_name _ = []

abbrev pub value_number : AttributeValue → ℤ
value_number (values.Integer z) = z
value_number _ = pos 0

-- the name in the first attribute
abbrev pub first_name : Option (List Attribute) → List ℕ
first_name (Some (attribute ∷ attributes)) = value_name attribute.2
first_name _ = []

-- the number in the second attribute
abbrev pub second_number : Option (List Attribute) → ℤ
second_number (Some (first ∷ attribute ∷ attributes)) = value_number attribute.2
second_number _ = pos 0

abbrev pub length_in : Option CommonTemplateAttribute → ℤ
length_in None = pos 0
length_in (Some template) = second_number template.1

abbrev pub private_name : Option PrivateKeyTemplateAttribute → List ℕ
private_name None = []
private_name (Some template) = first_name template.1

abbrev pub public_name : Option PublicKeyTemplateAttribute → List ℕ
public_name None = []
public_name (Some template) = first_name template.1

-- the one call whose request may be this payload
abbrev pub candidate_call : RequestPayload → Option Call
candidate_call (payloads.Query functions) = Some Query
candidate_call (payloads.CreateKeyPair common private public) =
    Some (CreateRsaKeyPair (length_in common) (private_name private) (public_name public))
candidate_call (payloads.RNGRetrieve length) = Some (RngRetrieve length.0)
candidate_call (payloads.Sign id parameters contents) = Some (Sign (id_text id) contents.0)
candidate_call (payloads.Activate id) = Some (ActivateKey (id_text id))
candidate_call (payloads.Revoke id reason date) = Some (RevokeKey (id_text id))
candidate_call (payloads.Destroy id) = Some (DestroyKey (id_text id))
candidate_call (payloads.ModifyAttribute id attribute) =
    Some (RenameKey (id_text id) (value_name attribute.2))
candidate_call (payloads.Get id format compression specification) = Some (GetKey (id_text id))
candidate_call _ = None
