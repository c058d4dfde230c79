-- Which responses are settled, on worked examples: each line computes.
use Rattle.std.proofs.Common.{◌≡◌, ℕ, false, true, nat_eq, List, [], ◌∷◌, Option, Some, None, refl, eq-eqb}
use Rattle.std.specs.Prelude.{codes, pos}
use Rattle.kmip_shape.proofs.Parts.{none_some, some_same}
use Rattle.kmip_enums.specs.declared.operation.Operation.{Operation}
use Rattle.kmip_enums.specs.declared.operation.Operation.TheVariants as operations
use Rattle.kmip_enums.specs.declared.object_type.ObjectType.{ObjectType}
use Rattle.kmip_enums.specs.declared.object_type.ObjectType.TheVariants as objects
use Rattle.kmip_enums.specs.declared.result_status.ResultStatus.TheVariants.{Success}
use Rattle.kmip_types.specs.declared.attribute_value.AttributeValue.{AttributeValue}
use Rattle.kmip_types.specs.declared.attribute_value.AttributeValue.TheVariants.{ObjectGroup, TextString}
use Rattle.kmip_types.specs.TheKeyFormatType.{KeyFormatType}
use Rattle.kmip_types.specs.TheKeyFormatType.TheVariants as formats
use Rattle.kmip_types.specs.TheKeyMaterial.{KeyMaterial}
use Rattle.kmip_types.specs.TheKeyMaterial.TheVariants as materials
use Rattle.kmip_response_objects.specs.declared.attribute.Attribute.{Attribute}
use Rattle.kmip_response_objects.specs.declared.managed_object.ManagedObject.TheVariants.{SymmetricKey}
use Rattle.kmip_response.specs.declared.batch_item.BatchItem.{BatchItem}
use Rattle.kmip_response.specs.declared.message.ResponseMessage.{ResponseMessage}
use Rattle.kmip_response.specs.declared.payload.ResponsePayload.{ResponsePayload}
use Rattle.kmip_response.specs.declared.payload.ResponsePayload.TheVariants.{Activate, AddAttribute, DiscoverVersions, Get}
use Rattle.kmip_response_write.specs.Settled.{IsSettled}

-- another case is selected
other_case : (m n : ℕ) → nat_eq m n ≡ false → Some m ≡ Some n → ⊥
other_case m n e h = let k : nat_eq m n ≡ true = eq-eqb m n (some_same m n h) in cc

abbrev message_of : List BatchItem → ResponseMessage
message_of items = record {
  header = record {
    protocol_version = record { major = pos 1; minor = pos 0 };
    timestamp =
        pos 1;
    batch_count = pos 1;
  };
  batch_items = items;
}

abbrev item_of : Option Operation → Option ResponsePayload → BatchItem
item_of operation payload = record {
  operation = operation;
  unique_batch_item_id = None;
  result_status = Success;
  result_reason = None;
  result_message = None;
  payload = payload;
  message_extension = None;
}

abbrev answer : Operation → ResponsePayload → ResponseMessage
answer operation payload = message_of (item_of (Some operation) (Some payload) ∷ [])

-- ---- payloads

abbrev activated : ResponsePayload
activated = Activate (record { unique_identifier = record { 0 = codes "k1" } })

payload_of_its_operation : IsSettled (answer operations.Activate activated)
payload_of_its_operation = (
  refl,
  (
    tt,
    (tt, (tt, tt, (tt, tt, tt)), (tt, tt, (tt, tt, tt))),
    (
      tt,
      (
        (
          tt,
          tt,
          (
            tt,
            tt,
            (
              tt,
              tt,
              (tt, tt, (tt, tt, (tt, (refl, (tt, tt, tt)), (tt, tt, tt)))),
            ),
          ),
        ),
        tt,
      ),
      tt,
    ),
  ),
)

payload_of_another_operation : IsSettled (answer operations.Revoke activated) → ⊥
payload_of_another_operation h = other_case 19 18 refl ((h.1).2.1.0.2.2.2.2.2.1).0

payload_without_an_operation : IsSettled (message_of (item_of None (Some activated) ∷ [])) → ⊥
payload_without_an_operation h = none_some ⊥ ((h.1).2.1.0.2.2.2.2.2.1).0

no_payload : IsSettled (message_of (item_of None None ∷ []))
no_payload = (
  refl,
  (
    tt,
    (tt, (tt, tt, (tt, tt, tt)), (tt, tt, (tt, tt, tt))),
    (tt, ((tt, tt, (tt, tt, (tt, tt, (tt, tt, (tt, tt, (tt, tt, (tt, tt, tt))))))), tt), tt),
  ),
)

no_batch_item : IsSettled (message_of []) → ⊥
no_batch_item h = (h.1).2.0

-- ---- attributes

abbrev adds : List ℕ → AttributeValue → ResponseMessage
adds name value = answer operations.AddAttribute (AddAttribute (record {
  unique_identifier = record { 0 = codes "k1" };
  attribute = record { name = record { 0 = name }; index = None; value = value };
}))

group_under_its_name : IsSettled (adds (codes "Object Group") (ObjectGroup (codes "g")))
group_under_its_name = (
  refl,
  (
    tt,
    (tt, (tt, tt, (tt, tt, tt)), (tt, tt, (tt, tt, tt))),
    (
      tt,
      (
        (
          tt,
          tt,
          (
            tt,
            tt,
            (
              tt,
              tt,
              (
                tt,
                tt,
                (
                  tt,
                  tt,
                  (
                    tt,
                    (refl, (tt, tt, (tt, (tt, tt, (tt, tt, (tt, (refl, tt), tt))), tt))),
                    (tt, tt, tt),
                  ),
                ),
              ),
            ),
          ),
        ),
        tt,
      ),
      tt,
    ),
  ),
)

text_under_a_name_of_the_table : IsSettled (adds (codes "Object Group") (TextString (codes "g"))) → ⊥
text_under_a_name_of_the_table h = other_case 6 16 refl (((h.1).2.1.0.2.2.2.2.2.1).1.2.1.2.2.1).0

-- ---- objects and key material

abbrev got : ObjectType → KeyFormatType → KeyMaterial → Option (List Attribute) → ResponseMessage
got object_type format material attributes = answer operations.Get (Get (record {
  object_type = object_type;
  unique_identifier = record { 0 = codes "k1" };
  cryptographic_object = SymmetricKey (record {
    key_block = record {
      key_format_type = format;
      key_compression_type = None;
      key_value = record { key_material = material; attributes = attributes };
      cryptographic_algorithm = None;
      cryptographic_length = None;
      key_wrapping_data = None;
    };
  });
}))

bytes_in_the_raw_format : IsSettled (got objects.SymmetricKey formats.Raw (materials.Bytes []) None)
bytes_in_the_raw_format = (
  refl,
  (
    tt,
    (tt, (tt, tt, (tt, tt, tt)), (tt, tt, (tt, tt, tt))),
    (
      tt,
      (
        (
          tt,
          tt,
          (
            tt,
            tt,
            (
              tt,
              tt,
              (
                tt,
                tt,
                (
                  tt,
                  tt,
                  (
                    tt,
                    (
                      refl,
                      (
                        tt,
                        tt,
                        (
                          tt,
                          tt,
                          (
                            tt,
                            (
                              refl,
                              (
                                tt,
                                (
                                  tt,
                                  tt,
                                  (
                                    tt,
                                    tt,
                                    (
                                      tt,
                                      (tt, (refl, tt), (tt, tt, tt)),
                                      (tt, tt, (tt, tt, (tt, tt, tt))),
                                    ),
                                  ),
                                ),
                                tt,
                              ),
                            ),
                            tt,
                          ),
                        ),
                      ),
                    ),
                    (tt, tt, tt),
                  ),
                ),
              ),
            ),
          ),
        ),
        tt,
      ),
      tt,
    ),
  ),
)

wrapped_in_the_raw_format : IsSettled (got objects.SymmetricKey formats.Raw (materials.Wrapped []) None)
wrapped_in_the_raw_format = (
  refl,
  (
    tt,
    (tt, (tt, tt, (tt, tt, tt)), (tt, tt, (tt, tt, tt))),
    (
      tt,
      (
        (
          tt,
          tt,
          (
            tt,
            tt,
            (
              tt,
              tt,
              (
                tt,
                tt,
                (
                  tt,
                  tt,
                  (
                    tt,
                    (
                      refl,
                      (
                        tt,
                        tt,
                        (
                          tt,
                          tt,
                          (
                            tt,
                            (
                              refl,
                              (tt, (tt, tt, (tt, tt, (tt, tt, (tt, tt, (tt, tt, (tt, tt, tt)))))), tt),
                            ),
                            tt,
                          ),
                        ),
                      ),
                    ),
                    (tt, tt, tt),
                  ),
                ),
              ),
            ),
          ),
        ),
        tt,
      ),
      tt,
    ),
  ),
)

object_of_another_type : IsSettled (got objects.PublicKey formats.Raw (materials.Bytes []) None) → ⊥
object_of_another_type h = other_case 3 2 refl (((h.1).2.1.0.2.2.2.2.2.1).1.2.2.1).0

bytes_in_a_transparent_format : IsSettled
    (got objects.SymmetricKey formats.TransparentSymmetricKey (materials.Bytes []) None) → ⊥
bytes_in_a_transparent_format h = other_case 2 1 refl (((h.1).2.1.0.2.2.2.2.2.1).1.2.2.1.1.1.2.2.1.1).0

wrapped_beside_attributes : IsSettled (got objects.SymmetricKey formats.Raw (materials.Wrapped []) (Some [])) → ⊥
wrapped_beside_attributes h = absurd (cc)

structure_in_the_raw_format : IsSettled (got objects.SymmetricKey formats.Raw (materials.Structure []) None) → ⊥
structure_in_the_raw_format h = absurd (cc)

-- ---- optional lists

abbrev versions : ResponsePayload
versions = DiscoverVersions (record { supported_versions = Some [] })

empty_list : IsSettled (answer operations.DiscoverVersions versions) → ⊥
empty_list h = ((h.1).2.1.0.2.2.2.2.2.1).1.0
