use Rattle.std.proofs.lemmas.Int.{to_z-of_z}
use Rattle.std.proofs.Common.{◌≡◌, refl, w32, rules, SFits}
use Rattle.kmip_response.specs.declared.payload.ResponsePayload.TheVariants as payloads
use Rattle.kmip_client.specs.Calls.{part_of, nothing_of}
use Rattle.kmip_store.specs.declared.call.Call.{Call}
use Rattle.kmip_server.specs.declared.answers.Answered.TheVariants as answered
use Rattle.kmip_server.proofs.Asked.{asked_of, asked_at_once}
use Rattle.kmip_server.proofs.ask.ask.Goals as goal

pub returns-in-Query : goal.returns-in-Query
returns-in-Query g c =
    let is : c.map.result ≡ part_of answered.Query c.query.result = search rules in
    rw (c.in-Query.is, is)
    (asked_of Call.Query payloads.Query (λ payload. payload) answered.Query c.query.result (λ p. refl) (λ p. tt) c.query.ensures)

pub returns-in-CreateRsaKeyPair : goal.returns-in-CreateRsaKeyPair
returns-in-CreateRsaKeyPair g c =
    let fits : SFits w32 c.in-CreateRsaKeyPair.key_length = search rules in
    rw c.in-CreateRsaKeyPair.is (rw (to_z-of_z w32 c.in-CreateRsaKeyPair.key_length fits) at c.create.ensures)

pub returns-in-RngRetrieve : goal.returns-in-RngRetrieve
returns-in-RngRetrieve g c =
    let fits : SFits w32 c.in-RngRetrieve.num_bytes = search rules in
    let is : c.map-in-RngRetrieve.result ≡ part_of answered.Random c.rng_retrieve.result = search rules in
    rw (c.in-RngRetrieve.is, is)
    (asked_at_once (Call.RngRetrieve c.in-RngRetrieve.num_bytes)
    payloads.RNGRetrieve answered.Random c.rng_retrieve.result (λ p. refl) (λ p. tt)
    (rw (to_z-of_z w32 c.in-RngRetrieve.num_bytes fits) at c.rng_retrieve.ensures))

pub returns-in-Sign : goal.returns-in-Sign
returns-in-Sign g c =
    let is : c.map-in-Sign.result ≡ part_of answered.Signed c.sign.result = search rules in
    rw (c.in-Sign.is, is)
    (asked_of (Call.Sign c.in-Sign.id c.in-Sign.bytes) payloads.Sign
    (λ payload. payload) answered.Signed c.sign.result (λ p. refl) (λ p. tt)
    (rw (c.as_str.ensures.bytes, c.as_slice.ensures) at c.sign.ensures))

pub returns-in-ActivateKey : goal.returns-in-ActivateKey
returns-in-ActivateKey g c =
    let is : c.map-in-ActivateKey.result ≡ part_of (λ _. answered.Unit) c.activate_key.result = search rules in
    rw (c.in-ActivateKey.is, is)
    (asked_of (Call.ActivateKey c.in-ActivateKey.id) payloads.Activate nothing_of
    (λ _. answered.Unit) c.activate_key.result (λ p. refl) (λ p. tt)
    (rw c.as_str-in-ActivateKey.ensures.bytes at c.activate_key.ensures))

pub returns-in-RevokeKey : goal.returns-in-RevokeKey
returns-in-RevokeKey g c =
    let is : c.map-in-RevokeKey.result ≡ part_of (λ _. answered.Unit) c.revoke_key.result = search rules in
    rw (c.in-RevokeKey.is, is)
    (asked_of (Call.RevokeKey c.in-RevokeKey.id) payloads.Revoke nothing_of
    (λ _. answered.Unit) c.revoke_key.result (λ p. refl) (λ p. tt)
    (rw c.as_str-in-RevokeKey.ensures.bytes at c.revoke_key.ensures))

pub returns-in-DestroyKey : goal.returns-in-DestroyKey
returns-in-DestroyKey g c =
    let is : c.map-in-DestroyKey.result ≡ part_of (λ _. answered.Unit) c.destroy_key.result = search rules in
    rw (c.in-DestroyKey.is, is)
    (asked_of (Call.DestroyKey c.in-DestroyKey.id) payloads.Destroy nothing_of
    (λ _. answered.Unit) c.destroy_key.result (λ p. refl) (λ p. tt)
    (rw c.as_str-in-DestroyKey.ensures.bytes at c.destroy_key.ensures))

pub returns-in-RenameKey : goal.returns-in-RenameKey
returns-in-RenameKey g c = rw c.in-RenameKey.is c.rename.ensures

pub returns-in-GetKey : goal.returns-in-GetKey
returns-in-GetKey g c =
    let is : c.map-in-GetKey.result ≡ part_of answered.Got c.get_key.result = search rules in
    rw (c.in-GetKey.is, is)
    (asked_of (Call.GetKey c.in-GetKey.id) payloads.Get (λ payload. payload) answered.Got c.get_key.result (λ p. refl) (λ p. tt)
    (rw c.as_str-in-GetKey.ensures.bytes at c.get_key.ensures))
