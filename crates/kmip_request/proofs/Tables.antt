-- What is checked of the tables of a request, each by computing it.
use Rattle.std.proofs.Common.{◌≡◌, ◌≤◌, true, refl, arith}
use Rattle.kmip_shape.specs.Fits.{tags_once}
use Rattle.kmip_shape.proofs.Ranges.{tags_in_range, depth}
use Rattle.kmip_request_objects.specs.Tables.{name, attribute, template_attribute, encryption_key_information, mac_or_signature_key_information, key_wrapping_data, key_wrapping_specification, key_value, key_block, revocation_reason}
use Rattle.kmip_request_objects.specs.Roots.{object_tables}
use Rattle.kmip_request.specs.Tables.{request_payload, request_message, root_tables, all_stand}

pub all_tables_stand : all_stand root_tables ≡ true
unfolding name attribute template_attribute encryption_key_information mac_or_signature_key_information key_wrapping_data key_wrapping_specification key_value key_block revocation_reason
all_tables_stand = refl

pub all_objects_stand : all_stand object_tables ≡ true
unfolding name attribute template_attribute encryption_key_information mac_or_signature_key_information key_wrapping_data key_wrapping_specification key_value key_block revocation_reason
all_objects_stand = refl

pub message_once : tags_once request_message ≡ true
unfolding name attribute template_attribute encryption_key_information mac_or_signature_key_information key_wrapping_data key_wrapping_specification key_value key_block revocation_reason
message_once = refl

pub payload_in_range : tags_in_range request_payload ≡ true
unfolding name attribute template_attribute encryption_key_information mac_or_signature_key_information key_wrapping_data key_wrapping_specification key_value key_block revocation_reason
payload_in_range = refl

pub payload_depth : depth request_payload ≤ 32
unfolding name attribute template_attribute encryption_key_information mac_or_signature_key_information key_wrapping_data key_wrapping_specification key_value key_block revocation_reason
payload_depth = omega arith

pub message_in_range : tags_in_range request_message ≡ true
unfolding name attribute template_attribute encryption_key_information mac_or_signature_key_information key_wrapping_data key_wrapping_specification key_value key_block revocation_reason
message_in_range = refl

pub message_depth : depth request_message ≤ 64
unfolding name attribute template_attribute encryption_key_information mac_or_signature_key_information key_wrapping_data key_wrapping_specification key_value key_block revocation_reason
message_depth = omega arith
