-- The tables of the structures of responses that may stand alone.
use Rattle.std.specs.Prelude.{Bool, ◌&&◌, List, [], ◌∷◌}
use Rattle.kmip_shape.specs.Shape.{Shape}
use Rattle.kmip_shape.specs.Fits.{tags_once, choosers_stand}
use Rattle.kmip_response_objects.specs.Tables.{name, attribute, template_attribute, key_block, certificate, symmetric_key, public_key, private_key}
use Rattle.kmip_response.specs.Tables.{response_message, response_header, protocol_version, batch_item, message_extension, create_payload, create_key_pair_payload, register_payload, locate_payload, get_payload, get_attributes_payload, get_attribute_list_payload, attribute_edit_payload, unique_identifier_payload, query_payload, discover_versions_payload, sign_payload, rng_retrieve_payload}

-- the message and its parts
abbrev pub message_tables : List Shape
message_tables =
    response_message ∷ response_header ∷ protocol_version ∷ batch_item ∷ message_extension ∷ []

-- the payloads
abbrev pub payload_tables : List Shape
payload_tables =
    create_payload ∷ create_key_pair_payload ∷ register_payload ∷ locate_payload ∷ get_payload
    ∷ get_attributes_payload ∷ get_attribute_list_payload ∷ attribute_edit_payload
    ∷ unique_identifier_payload ∷ query_payload ∷ discover_versions_payload ∷ sign_payload
    ∷ rng_retrieve_payload ∷ []

-- the objects in them
abbrev pub object_tables : List Shape
object_tables =
    name ∷ attribute ∷ template_attribute ∷ key_block ∷ certificate ∷ symmetric_key ∷ public_key
    ∷ private_key ∷ []

-- No record has a tag twice, and a field that chooses stands before the field that it chooses.
abbrev pub stands : Shape → Bool
stands shape = tags_once shape && choosers_stand shape
