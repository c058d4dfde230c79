use Rattle.std.proofs.Common.{refl, rules, w32, SFits}
use Rattle.std.proofs.lemmas.Int.{to_z-of_z}
use Rattle.kmip_client.specs.Requests.{key_pair_request, rename_request}
use Rattle.kmip_words.proofs.Exchanges.{request_made}
use Rattle.kmip_words.proofs.call.request_for.Goals as goal

pub returns-in_ok-public_key_name-in-CreateRsa : goal.returns-in_ok-public_key_name-in-CreateRsa
returns-in_ok-public_key_name-in-CreateRsa c =
    let fits : SFits w32 c.in-CreateRsa.key_length = search rules in
    request_made c.key_pair_request.result
    (key_pair_request c.in-CreateRsa.key_length c.in-CreateRsa.private_key_name c.in-CreateRsa.public_key_name) c.args.call.now
    (λ credential. rw c.in-CreateRsa.is refl)
    (rw (
      to_z-of_z w32 c.in-CreateRsa.key_length fits,
      c.in_ok-private_key_name-in-CreateRsa.ensures,
      c.in_ok-public_key_name-in-CreateRsa.ensures,
    )
    at c.key_pair_request.ensures)

pub returns-in_ok-try_clone-in-Rename : goal.returns-in_ok-try_clone-in-Rename
returns-in_ok-try_clone-in-Rename c =
    request_made c.rename_request.result
    (rename_request c.in-Rename.id c.in-Rename.new_name) c.args.call.now
    (λ credential. rw c.in-Rename.is refl)
    (rw (c.as_str-in-Rename.ensures.bytes, c.in_ok-try_clone-in-Rename.ensures) at c.rename_request.ensures)
