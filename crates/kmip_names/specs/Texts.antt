-- Values that are a text.
use Rattle.std.specs.Prelude.{ℕ, List}
use Rattle.std.proofs.Common.{ap}
use Rattle.kmip_shape.specs.Val.{Val, Text}
use Rattle.kmip_shape.specs.Same.{IsFaithful, same_text}
use Rattle.kmip_names.specs.declared.texts.UniqueIdentifier.{UniqueIdentifier}
use Rattle.kmip_names.specs.declared.texts.NameValue.{NameValue}
use Rattle.kmip_names.specs.declared.texts.RevocationMessage.{RevocationMessage}
use Rattle.kmip_names.specs.declared.texts.LinkedObjectIdentifier.{LinkedObjectIdentifier}
use Rattle.kmip_names.specs.declared.texts.ApplicationNamespace.{ApplicationNamespace}
use Rattle.kmip_names.specs.declared.texts.ApplicationData.{ApplicationData}

abbrev pub unique_identifier_val : UniqueIdentifier → Val
unique_identifier_val x = Text x.0

pub unique_identifier_same : IsFaithful unique_identifier_val
unique_identifier_same x y h =
    let made : List ℕ → UniqueIdentifier = λ value. record { 0 = value } in ap made (same_text h)

abbrev pub name_value_val : NameValue → Val
name_value_val x = Text x.0

pub name_value_same : IsFaithful name_value_val
name_value_same x y h = let made : List ℕ → NameValue = λ value. record { 0 = value } in ap made (same_text h)

abbrev pub revocation_message_val : RevocationMessage → Val
revocation_message_val x = Text x.0

pub revocation_message_same : IsFaithful revocation_message_val
revocation_message_same x y h =
    let made : List ℕ → RevocationMessage = λ value. record { 0 = value } in ap made (same_text h)

abbrev pub linked_object_identifier_val : LinkedObjectIdentifier → Val
linked_object_identifier_val x = Text x.0

pub linked_object_identifier_same : IsFaithful linked_object_identifier_val
linked_object_identifier_same x y h =
    let made : List ℕ → LinkedObjectIdentifier = λ value. record { 0 = value } in
    ap made (same_text h)

abbrev pub application_namespace_val : ApplicationNamespace → Val
application_namespace_val x = Text x.0

pub application_namespace_same : IsFaithful application_namespace_val
application_namespace_same x y h =
    let made : List ℕ → ApplicationNamespace = λ value. record { 0 = value } in
    ap made (same_text h)

abbrev pub application_data_val : ApplicationData → Val
application_data_val x = Text x.0

pub application_data_same : IsFaithful application_data_val
application_data_same x y h =
    let made : List ℕ → ApplicationData = λ value. record { 0 = value } in ap made (same_text h)
