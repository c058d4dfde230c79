-- The messages of a server are settled: each line computes.
use Rattle.std.proofs.Common.{◌≡◌, ℕ, ℤ, List, [], ◌∷◌, refl, sym, subst, Option, Some, None, Bool, true, false, cond}
use Rattle.std.specs.Prelude.{pos, negsuc, IsSome, codes}
use Rattle.kmip_wire.specs.declared.kind.Kind.TheVariants.{DateTime}
use Rattle.kmip_shape.specs.Val.{Val, Number, Record, AndField, NoField, One, Many, AndVal, NoVal}
use Rattle.kmip_shape.specs.Shape.{NoCase, no_outer}
use Rattle.kmip_shape.specs.Dates.{date_number}
use Rattle.kmip_shape.specs.Fits.{kind_fits, selected_in}
use Rattle.kmip_shape.specs.Trees.{tree_of}
use Rattle.kmip_enums.specs.declared.object_type.ObjectType.TheVariants as types
use Rattle.kmip_enums.specs.declared.operation.Operation.{Operation}
use Rattle.kmip_enums.specs.declared.operation.Operation.TheVariants as operations
use Rattle.kmip_enums.specs.declared.result_reason.ResultReason.{ResultReason}
use Rattle.kmip_enums.specs.declared.result_reason.ResultReason.TheVariants as reasons
use Rattle.kmip_response_objects.specs.declared.managed_object.ManagedObject.{ManagedObject}
use Rattle.kmip_response.specs.Tables.{response_message, batch_item}
use Rattle.kmip_response.specs.Values.{batch_item_val, protocol_version_val}
use Rattle.kmip_response.specs.declared.batch_item.BatchItem.{BatchItem}
use Rattle.kmip_response.specs.declared.payload.ResponsePayload.{ResponsePayload}
use Rattle.kmip_response_write.specs.Settled.{IsHeld, IsSettled}
use Rattle.kmip_store.specs.Objects.{is_public}
use Rattle.kmip_store.specs.Steps.{Answer, NotFound, Denied, Failed, Done, Supports, Created, Random, Signed, Got, supported_operations, step}
use Rattle.kmip_store.specs.declared.call.Call.{Call}
use Rattle.kmip_store.specs.declared.call.Call.TheVariants.{Query, CreateRsaKeyPair, RngRetrieve, Sign, ActivateKey, RevokeKey, DestroyKey, RenameKey, GetKey}
use Rattle.kmip_store.specs.declared.maker.Made.{Made}
use Rattle.kmip_store.specs.declared.object.Object.{Object}
use Rattle.kmip_server_core.specs.Items.{key_block_of, failed_item, done_item, item_for, minor_of, message_with}
use Rattle.kmip_server_core.specs.Requests.{call_operation}
use Rattle.kmip_server_core.specs.Served.{served_call}
use Rattle.kmip_tags.specs.Tags.{BATCH_ITEM, RESPONSE_MESSAGE}

-- ---- the time of a message that Rust can hold is written

-- a message's value, with this number of its time
abbrev message_val : ℤ → BatchItem → Val
message_val z item = Record
    (AndField (One (Record
    (AndField (One (protocol_version_val (record { major = pos 1; minor = pos (minor_of item.operation) })))
    (AndField (One (Number z))
    (AndField (One (Number (pos 1)))
    NoField)))))
    (AndField (Many (AndVal (batch_item_val item) NoVal))
    NoField))

abbrev HasTree : ℤ → BatchItem → Type 0
HasTree z item = IsSome (tree_of response_message RESPONSE_MESSAGE (message_val z item))

abbrev IsSelected : BatchItem → Type 0
IsSelected item = selected_in (batch_item_val item) NoCase batch_item no_outer BATCH_ITEM

date_fits : (z : ℤ) → kind_fits DateTime (Number z) → (n : ℕ) × (z ≡ pos n)
date_fits (pos n) f = (n, refl)
date_fits (negsuc n) f = absurd f

settled : (time : ℤ) (item : BatchItem) → IsHeld (message_with time item)
    → ((n : ℕ) → HasTree (pos n) item) → IsSelected item → IsSettled (message_with time item)
settled time item held tree selected =
    let date = date_fits (date_number time) ((held.1).2.1) in (
      subst (λ z. HasTree z item) (sym date.1) (tree date.0),
      (tt, (tt, (tt, tt, (tt, tt, tt)), (tt, tt, (tt, tt, tt))), (tt, (selected, tt), tt)),
    )

-- ---- items

failed_settled : (time : ℤ) (operation : Operation) (reason : ResultReason) (text : List ℕ)
    → IsHeld (message_with time (failed_item (Some operation) reason text))
    → IsSettled (message_with time (failed_item (Some operation) reason text))
failed_settled time operation reason text held =
    settled time (failed_item (Some operation) reason text) held (λ n. refl)
    (tt, tt, (tt, tt, (tt, tt, (tt, tt, (tt, tt, (tt, tt, (tt, tt, tt)))))))

untold_settled : (time : ℤ) (operation : Operation)
    → IsHeld (message_with time (done_item operation None))
    → IsSettled (message_with time (done_item operation None))
untold_settled time operation held =
    settled time (done_item operation None) held (λ n. refl)
    (tt, tt, (tt, tt, (tt, tt, (tt, tt, (tt, tt, (tt, tt, (tt, tt, tt)))))))

activatekey_settled : (time : ℤ) (id : List ℕ) (answer : Answer)
    → IsHeld (message_with time (item_for (ActivateKey id) answer))
    → IsSettled (message_with time (item_for (ActivateKey id) answer))
activatekey_settled time id NotFound held =
    failed_settled time (call_operation (ActivateKey id)) reasons.ItemNotFound
    (codes "no such object") held
activatekey_settled time id Denied held =
    failed_settled time (call_operation (ActivateKey id)) reasons.PermissionDenied
    (codes "not allowed in this state") held
activatekey_settled time id Failed held =
    failed_settled time (call_operation (ActivateKey id)) reasons.CryptographicFailure
    (codes "maker failed") held
activatekey_settled time id Done held =
    settled time (item_for (ActivateKey id) Done) held (λ n. refl)
    (tt, tt, (tt, tt, (tt, tt, (tt, tt, (tt, tt, (tt, (refl, (tt, tt, tt)), (tt, tt, tt)))))))
activatekey_settled time id _ held = untold_settled time (call_operation (ActivateKey id)) held

revokekey_settled : (time : ℤ) (id : List ℕ) (answer : Answer)
    → IsHeld (message_with time (item_for (RevokeKey id) answer))
    → IsSettled (message_with time (item_for (RevokeKey id) answer))
revokekey_settled time id NotFound held =
    failed_settled time (call_operation (RevokeKey id)) reasons.ItemNotFound
    (codes "no such object") held
revokekey_settled time id Denied held =
    failed_settled time (call_operation (RevokeKey id)) reasons.PermissionDenied
    (codes "not allowed in this state") held
revokekey_settled time id Failed held =
    failed_settled time (call_operation (RevokeKey id)) reasons.CryptographicFailure
    (codes "maker failed") held
revokekey_settled time id Done held =
    settled time (item_for (RevokeKey id) Done) held (λ n. refl)
    (tt, tt, (tt, tt, (tt, tt, (tt, tt, (tt, tt, (tt, (refl, (tt, tt, tt)), (tt, tt, tt)))))))
revokekey_settled time id _ held = untold_settled time (call_operation (RevokeKey id)) held

destroykey_settled : (time : ℤ) (id : List ℕ) (answer : Answer)
    → IsHeld (message_with time (item_for (DestroyKey id) answer))
    → IsSettled (message_with time (item_for (DestroyKey id) answer))
destroykey_settled time id NotFound held =
    failed_settled time (call_operation (DestroyKey id)) reasons.ItemNotFound
    (codes "no such object") held
destroykey_settled time id Denied held =
    failed_settled time (call_operation (DestroyKey id)) reasons.PermissionDenied
    (codes "not allowed in this state") held
destroykey_settled time id Failed held =
    failed_settled time (call_operation (DestroyKey id)) reasons.CryptographicFailure
    (codes "maker failed") held
destroykey_settled time id Done held =
    settled time (item_for (DestroyKey id) Done) held (λ n. refl)
    (tt, tt, (tt, tt, (tt, tt, (tt, tt, (tt, tt, (tt, (refl, (tt, tt, tt)), (tt, tt, tt)))))))
destroykey_settled time id _ held = untold_settled time (call_operation (DestroyKey id)) held

renamekey_settled : (time : ℤ) (id name : List ℕ) (answer : Answer)
    → IsHeld (message_with time (item_for (RenameKey id name) answer))
    → IsSettled (message_with time (item_for (RenameKey id name) answer))
renamekey_settled time id name NotFound held =
    failed_settled time (call_operation (RenameKey id name)) reasons.ItemNotFound
    (codes "no such object") held
renamekey_settled time id name Denied held =
    failed_settled time (call_operation (RenameKey id name)) reasons.PermissionDenied
    (codes "not allowed in this state") held
renamekey_settled time id name Failed held =
    failed_settled time (call_operation (RenameKey id name)) reasons.CryptographicFailure
    (codes "maker failed") held
renamekey_settled time id name Done held =
    settled time (item_for (RenameKey id name) Done) held (λ n. refl) (
      tt,
      tt,
      (
        tt,
        tt,
        (
          tt,
          tt,
          (
            tt,
            tt,
            (
              tt,
              tt,
              (
                tt,
                (refl, (tt, tt, (tt, (tt, tt, (tt, tt, (tt, (refl, (tt, tt, (tt, tt, tt))), tt))), tt))),
                (tt, tt, tt),
              ),
            ),
          ),
        ),
      ),
    )
renamekey_settled time id name _ held = untold_settled time (call_operation (RenameKey id name)) held

creatersakeypair_settled : (time : ℤ) (bits : ℤ) (private public : List ℕ) (answer : Answer)
    → IsHeld (message_with time (item_for (CreateRsaKeyPair bits private public) answer))
    → IsSettled (message_with time (item_for (CreateRsaKeyPair bits private public) answer))
creatersakeypair_settled time bits private public NotFound held =
    failed_settled time (call_operation (CreateRsaKeyPair bits private public)) reasons.ItemNotFound
    (codes "no such object") held
creatersakeypair_settled time bits private public Denied held =
    failed_settled time (call_operation (CreateRsaKeyPair bits private public))
    reasons.PermissionDenied (codes "not allowed in this state") held
creatersakeypair_settled time bits private public Failed held =
    failed_settled time (call_operation (CreateRsaKeyPair bits private public))
    reasons.CryptographicFailure (codes "maker failed") held
creatersakeypair_settled time bits private public (Created x y) held =
    settled time (item_for (CreateRsaKeyPair bits private public) (Created x y)) held (λ n. refl) (
      tt,
      tt,
      (
        tt,
        tt,
        (
          tt,
          tt,
          (
            tt,
            tt,
            (
              tt,
              tt,
              (
                tt,
                (refl, (tt, tt, (tt, tt, tt))),
                (tt, tt, tt),
              ),
            ),
          ),
        ),
      ),
    )
creatersakeypair_settled time bits private public _ held =
    untold_settled time (call_operation (CreateRsaKeyPair bits private public)) held

rngretrieve_settled : (time : ℤ) (n : ℤ) (answer : Answer)
    → IsHeld (message_with time (item_for (RngRetrieve n) answer))
    → IsSettled (message_with time (item_for (RngRetrieve n) answer))
rngretrieve_settled time n NotFound held =
    failed_settled time (call_operation (RngRetrieve n)) reasons.ItemNotFound
    (codes "no such object") held
rngretrieve_settled time n Denied held =
    failed_settled time (call_operation (RngRetrieve n)) reasons.PermissionDenied
    (codes "not allowed in this state") held
rngretrieve_settled time n Failed held =
    failed_settled time (call_operation (RngRetrieve n)) reasons.CryptographicFailure
    (codes "maker failed") held
rngretrieve_settled time n (Random bytes) held =
    settled time (item_for (RngRetrieve n) (Random bytes)) held (λ n. refl)
    (tt, tt, (tt, tt, (tt, tt, (tt, tt, (tt, tt, (tt, (refl, (tt, tt, tt)), (tt, tt, tt)))))))
rngretrieve_settled time n _ held = untold_settled time (call_operation (RngRetrieve n)) held

sign_settled : (time : ℤ) (id contents : List ℕ) (answer : Answer)
    → IsHeld (message_with time (item_for (Sign id contents) answer))
    → IsSettled (message_with time (item_for (Sign id contents) answer))
sign_settled time id contents NotFound held =
    failed_settled time (call_operation (Sign id contents)) reasons.ItemNotFound
    (codes "no such object") held
sign_settled time id contents Denied held =
    failed_settled time (call_operation (Sign id contents)) reasons.PermissionDenied
    (codes "not allowed in this state") held
sign_settled time id contents Failed held =
    failed_settled time (call_operation (Sign id contents)) reasons.CryptographicFailure
    (codes "maker failed") held
sign_settled time id contents (Signed bytes) held =
    settled time (item_for (Sign id contents) (Signed bytes)) held (λ n. refl) (
      tt,
      tt,
      (
        tt,
        tt,
        (
          tt,
          tt,
          (
            tt,
            tt,
            (
              tt,
              tt,
              (
                tt,
                (refl, (tt, tt, (tt, tt, tt))),
                (tt, tt, tt),
              ),
            ),
          ),
        ),
      ),
    )
sign_settled time id contents _ held = untold_settled time (call_operation (Sign id contents)) held

-- an object, as a public key or not
abbrev got_item : Bool → List ℕ → Object → BatchItem
got_item b id object = done_item operations.Get (Some (ResponsePayload.Get (record {
  object_type = cond b types.PublicKey types.PrivateKey;
  unique_identifier = record { 0 = id };
  cryptographic_object = cond b
      (ManagedObject.PublicKey (record { key_block = key_block_of object }))
      (ManagedObject.PrivateKey (record { key_block = key_block_of object }));
})))

got_settled : (b : Bool) (time : ℤ) (id : List ℕ) (object : Object)
    → IsHeld (message_with time (got_item b id object))
    → IsSettled (message_with time (got_item b id object))
got_settled true time id object held =
    settled time (got_item true id object) held (λ n. refl) (
      tt,
      tt,
      (
        tt,
        tt,
        (
          tt,
          tt,
          (
            tt,
            tt,
            (
              tt,
              tt,
              (
                tt,
                (
                  refl,
                  (
                    tt,
                    tt,
                    (
                      tt,
                      tt,
                      (
                        tt,
                        (
                          refl,
                          (
                            tt,
                            (
                              tt,
                              tt,
                              (tt, tt, (tt, (tt, (refl, tt), (tt, tt, tt)), (tt, tt, (tt, tt, (tt, tt, tt))))),
                            ),
                            tt,
                          ),
                        ),
                        tt,
                      ),
                    ),
                  ),
                ),
                (tt, tt, tt),
              ),
            ),
          ),
        ),
      ),
    )
got_settled false time id object held =
    settled time (got_item false id object) held (λ n. refl) (
      tt,
      tt,
      (
        tt,
        tt,
        (
          tt,
          tt,
          (
            tt,
            tt,
            (
              tt,
              tt,
              (
                tt,
                (
                  refl,
                  (
                    tt,
                    tt,
                    (
                      tt,
                      tt,
                      (
                        tt,
                        (
                          refl,
                          (
                            tt,
                            (
                              tt,
                              tt,
                              (tt, tt, (tt, (tt, (refl, tt), (tt, tt, tt)), (tt, tt, (tt, tt, (tt, tt, tt))))),
                            ),
                            tt,
                          ),
                        ),
                        tt,
                      ),
                    ),
                  ),
                ),
                (tt, tt, tt),
              ),
            ),
          ),
        ),
      ),
    )

getkey_settled : (time : ℤ) (id : List ℕ) (answer : Answer)
    → IsHeld (message_with time (item_for (GetKey id) answer))
    → IsSettled (message_with time (item_for (GetKey id) answer))
getkey_settled time id NotFound held =
    failed_settled time (call_operation (GetKey id)) reasons.ItemNotFound
    (codes "no such object") held
getkey_settled time id Denied held =
    failed_settled time (call_operation (GetKey id)) reasons.PermissionDenied
    (codes "not allowed in this state") held
getkey_settled time id Failed held =
    failed_settled time (call_operation (GetKey id)) reasons.CryptographicFailure
    (codes "maker failed") held
getkey_settled time id (Got object) held = got_settled (is_public object.object_type) time id object held
getkey_settled time id _ held = untold_settled time (call_operation (GetKey id)) held

-- ---- all calls

pub served_is_settled : (objects : List Object) (call : Call) (made : Option Made) (time : ℤ)
    → IsHeld (served_call objects call made time).message
    → IsSettled (served_call objects call made time).message
unfolding served_call
served_is_settled objects Query made time held =
    settled time (item_for Query (Supports supported_operations
    (types.PublicKey ∷ types.PrivateKey ∷ []))) held (λ n. refl) (
      tt,
      tt,
      (
        tt,
        tt,
        (
          tt,
          tt,
          (
            tt,
            tt,
            (
              tt,
              tt,
              (
                tt,
                (
                  refl,
                  (
                    tt,
                    (tt, (tt, (tt, (tt, (tt, (tt, (tt, (tt, (tt, tt))))))))),
                    (tt, (tt, (tt, tt)), (tt, tt, tt)),
                  ),
                ),
                (tt, tt, tt),
              ),
            ),
          ),
        ),
      ),
    )
served_is_settled objects (ActivateKey id) made time held =
    activatekey_settled time id (step objects (ActivateKey id) made).answer held
served_is_settled objects (RevokeKey id) made time held =
    revokekey_settled time id (step objects (RevokeKey id) made).answer held
served_is_settled objects (DestroyKey id) made time held =
    destroykey_settled time id (step objects (DestroyKey id) made).answer held
served_is_settled objects (RenameKey id name) made time held =
    renamekey_settled time id name (step objects (RenameKey id name) made).answer held
served_is_settled objects (CreateRsaKeyPair bits private public) made time held =
    creatersakeypair_settled time bits private public
    (step objects (CreateRsaKeyPair bits private public) made).answer held
served_is_settled objects (RngRetrieve n) made time held =
    rngretrieve_settled time n (step objects (RngRetrieve n) made).answer held
served_is_settled objects (Sign id contents) made time held =
    sign_settled time id contents (step objects (Sign id contents) made).answer held
served_is_settled objects (GetKey id) made time held =
    getkey_settled time id (step objects (GetKey id) made).answer held
