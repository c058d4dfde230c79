use Rattle.std.proofs.Common.{refl}
use Rattle.kmip_client.specs.declared.error.Error.TheVariants.{OutOfMemory}
use Rattle.kmip_example.specs.Signing.{IsSigner, HasPair, HasActivePair, not_asked, no_signer, no_names, not_created, not_activated, not_signed, signed}
use Rattle.kmip_example.proofs.Errors.{err_is}
use Rattle.kmip_example.proofs.signing.sign_with_new_key.Goals as goal

pub returns-in_err-server : goal.returns-in_err-server
returns-in_err-server g c = not_asked c.in_err-server.field-0.0 c.in_err-server.ensures
    (err_is c.from_residual.result _ c.from_residual.ensures.1)

pub returns-then-not-says_it_signs : goal.returns-then-not-says_it_signs
returns-then-not-says_it_signs g c =
    no_signer c.in_ok-server.server c.in_ok-server.ensures
    (c.says_it_signs.ensures.not c.if-not-says_it_signs.true) refl

pub returns-in_err-private_name : goal.returns-in_err-private_name
returns-in_err-private_name g c =
    let signer : IsSigner g.T.Link.state c.args.client.now c.query.new.self =
    record {
      server = c.in_ok-server.server;
      queries = c.in_ok-server.ensures;
      says =
          c.says_it_signs.ensures.says c.if-not-says_it_signs.false;
    } in
    no_names signer
    (err_is c.from_residual-in_err-private_name.result OutOfMemory c.from_residual-in_err-private_name.ensures.1)

pub returns-in_err-public_name : goal.returns-in_err-public_name
returns-in_err-public_name g c =
    let signer : IsSigner g.T.Link.state c.args.client.now c.query.new.self =
    record {
      server = c.in_ok-server.server;
      queries = c.in_ok-server.ensures;
      says =
          c.says_it_signs.ensures.says c.if-not-says_it_signs.false;
    } in
    no_names signer
    (err_is c.from_residual-in_err-public_name.result OutOfMemory c.from_residual-in_err-public_name.ensures.1)

pub returns-in_err-pair : goal.returns-in_err-pair
returns-in_err-pair g c =
    let signer : IsSigner g.T.Link.state c.args.client.now c.query.new.self =
    record {
      server = c.in_ok-server.server;
      queries = c.in_ok-server.ensures;
      says =
          c.says_it_signs.ensures.says c.if-not-says_it_signs.false;
    } in
    not_created c.query.new.self c.in_err-pair.field-0.0 signer
    (rw (c.in_ok-private_name.ensures, c.in_ok-public_name.ensures) at c.in_err-pair.ensures)
    (err_is c.from_residual-in_err-pair.result _ c.from_residual-in_err-pair.ensures.1)

pub returns-in_err-activate_key : goal.returns-in_err-activate_key
returns-in_err-activate_key g c =
    let signer : IsSigner g.T.Link.state c.args.client.now c.query.new.self =
    record {
      server = c.in_ok-server.server;
      queries = c.in_ok-server.ensures;
      says =
          c.says_it_signs.ensures.says c.if-not-says_it_signs.false;
    } in
    let pair : HasPair g.T.Link.state c.in_ok-pair.pair c.args.client.now c.create_rsa_key_pair.new.self =
    record {
      asked = c.query.new.self;
      signer = signer;
      creates =
          rw (c.in_ok-private_name.ensures, c.in_ok-public_name.ensures) at c.in_ok-pair.ensures;
    } in
    not_activated c.in_ok-pair.pair c.create_rsa_key_pair.new.self c.in_err-activate_key.field-0.0 pair (rw c.as_str.ensures.bytes at c.in_err-activate_key.ensures)
    (err_is c.from_residual-in_err-activate_key.result _ c.from_residual-in_err-activate_key.ensures.1)

pub returns-in_err-signed : goal.returns-in_err-signed
returns-in_err-signed g c =
    let signer : IsSigner g.T.Link.state c.args.client.now c.query.new.self =
    record {
      server = c.in_ok-server.server;
      queries = c.in_ok-server.ensures;
      says =
          c.says_it_signs.ensures.says c.if-not-says_it_signs.false;
    } in
    let pair : HasPair g.T.Link.state c.in_ok-pair.pair c.args.client.now c.create_rsa_key_pair.new.self =
    record {
      asked = c.query.new.self;
      signer = signer;
      creates =
          rw (c.in_ok-private_name.ensures, c.in_ok-public_name.ensures) at c.in_ok-pair.ensures;
    } in
    let active : HasActivePair g.T.Link.state c.in_ok-pair.pair c.args.client.now c.activate_key.new.self =
    record {
      created = c.create_rsa_key_pair.new.self;
      pair_made = pair;
      activates =
          rw c.as_str.ensures.bytes at c.in_ok-activate_key.ensures;
    } in
    not_signed c.in_ok-pair.pair c.activate_key.new.self c.in_err-signed.field-0.0 active
    (rw c.as_str-2.ensures.bytes at c.in_err-signed.ensures)
    (err_is c.from_residual-in_err-signed.result _ c.from_residual-in_err-signed.ensures.1)

pub returns : goal.returns
returns g c =
    let signer : IsSigner g.T.Link.state c.args.client.now c.query.new.self =
    record {
      server = c.in_ok-server.server;
      queries = c.in_ok-server.ensures;
      says =
          c.says_it_signs.ensures.says c.if-not-says_it_signs.false;
    } in
    let pair : HasPair g.T.Link.state c.in_ok-pair.pair c.args.client.now c.create_rsa_key_pair.new.self =
    record {
      asked = c.query.new.self;
      signer = signer;
      creates =
          rw (c.in_ok-private_name.ensures, c.in_ok-public_name.ensures) at c.in_ok-pair.ensures;
    } in
    let active : HasActivePair g.T.Link.state c.in_ok-pair.pair c.args.client.now c.activate_key.new.self =
    record {
      created = c.create_rsa_key_pair.new.self;
      pair_made = pair;
      activates =
          rw c.as_str.ensures.bytes at c.in_ok-activate_key.ensures;
    } in
    signed c.in_ok-pair.pair c.activate_key.new.self c.in_ok-signed.signed active
    (rw c.as_str-2.ensures.bytes at c.in_ok-signed.ensures) refl
