-- The tables of the objects in requests, which kmip_request checks beside its own.
use Rattle.std.specs.Prelude.{List, [], ◌∷◌}
use Rattle.kmip_shape.specs.Shape.{Shape}
use Rattle.kmip_request_objects.specs.Tables.{name, attribute, template_attribute, encryption_key_information, mac_or_signature_key_information, key_wrapping_data, key_wrapping_specification, key_value, key_block, symmetric_key, public_key, private_key, template, revocation_reason}

abbrev pub object_tables : List Shape
object_tables =
    name ∷ attribute ∷ template_attribute ∷ encryption_key_information ∷
    mac_or_signature_key_information ∷ key_wrapping_data ∷ key_wrapping_specification ∷ key_value ∷
    key_block ∷ symmetric_key ∷ public_key ∷ private_key ∷ template ∷ revocation_reason ∷ []
