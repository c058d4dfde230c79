use Rattle.std.proofs.lemmas.Int.{to_z-of_z}
use Rattle.std.proofs.Common.{◌≡◌, refl, w32, rules, SFits}
use Rattle.kmip_response.specs.declared.payload.ResponsePayload.TheVariants as payloads
use Rattle.kmip_client.specs.Calls.{part_of, identifiers_of}
use Rattle.kmip_store.specs.declared.call.Call.{Call}
use Rattle.kmip_server.specs.declared.answers.Answered.TheVariants as answered
use Rattle.kmip_server.proofs.Asked.{asked_of}
use Rattle.kmip_server.proofs.ask.create.Goals as goal

pub returns : goal.returns
returns g c =
    let fits : SFits w32 c.args.key_length = search rules in
    let is : c.map.result ≡ part_of (λ identifiers. answered.Pair identifiers.0 identifiers.1)
    c.create_rsa_key_pair.result = search rules in
    rw is
    (asked_of
    (Call.CreateRsaKeyPair c.args.key_length c.args.private_name.now c.args.public_name.now)
    payloads.CreateKeyPair identifiers_of
    (λ identifiers. answered.Pair identifiers.0 identifiers.1) c.create_rsa_key_pair.result
    (λ p. refl) (λ p. tt)
    (rw (
      to_z-of_z w32 c.args.key_length fits,
      c.in_ok-private_name.ensures,
      c.in_ok-public_name.ensures,
    ) at c.create_rsa_key_pair.ensures))
