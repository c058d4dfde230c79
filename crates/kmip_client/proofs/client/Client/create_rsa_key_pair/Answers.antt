use Rattle.std.proofs.Common.{◌≡◌, refl, subst, ℤ, IfOk, w32}
use Rattle.std.proofs.lemmas.Int.{to_z-of_z}
use Rattle.kmip_response.specs.declared.payload.ResponsePayload.TheVariants as payloads
use Rattle.kmip_client.specs.Calls.{identifiers_of}
use Rattle.kmip_client.specs.Requests as requests
use Rattle.kmip_client.proofs.Helped.{helped}
use Rattle.kmip_client.proofs.client.Client.create_rsa_key_pair.Goals as goal

-- the length is the same in the request as it was passed
pub returns : goal.returns
returns g c =
    let made = c.key_pair_request-request in
    let Makes : ℤ → Type 0 = λ n. IfOk made.result
    (λ request.
    request ≡ requests.key_pair_request n c.args.private_key_name c.args.public_key_name) in
    helped made.result
    (requests.key_pair_request c.args.key_length c.args.private_key_name c.args.public_key_name)
    _ (λ payload. payloads.CreateKeyPair payload)
    identifiers_of c.ask.result c.identifiers.result
    (subst Makes (to_z-of_z w32 c.args.key_length c.ranges.key_length) made.ensures)
    (λ payload. refl) c.identifiers.ensures c.ask.ensures
