use Rattle.std.proofs.Common.{w32, rules, SFits}
use Rattle.std.proofs.lemmas.Int.{to_z-of_z}
use Rattle.kmip_server_core.proofs.calls.answer_call.Goals as goal

pub returns-in-Query-clause-answers : goal.returns-in-Query-clause-answers
returns-in-Query-clause-answers g c = rw c.in-Query.is (c.query.ensures (g.M.Maker.state c.args.maker.now))

pub returns-in-ActivateKey-clause-answers : goal.returns-in-ActivateKey-clause-answers
returns-in-ActivateKey-clause-answers g c =
    rw c.in-ActivateKey.is (c.activate.ensures (g.M.Maker.state c.args.maker.now))

pub returns-in-RevokeKey-clause-answers : goal.returns-in-RevokeKey-clause-answers
returns-in-RevokeKey-clause-answers g c = rw c.in-RevokeKey.is (c.revoke.ensures (g.M.Maker.state c.args.maker.now))

pub returns-in-DestroyKey-clause-answers : goal.returns-in-DestroyKey-clause-answers
returns-in-DestroyKey-clause-answers g c = rw c.in-DestroyKey.is (c.destroy.ensures (g.M.Maker.state c.args.maker.now))

pub returns-in-RenameKey-clause-answers : goal.returns-in-RenameKey-clause-answers
returns-in-RenameKey-clause-answers g c = rw c.in-RenameKey.is (c.rename.ensures (g.M.Maker.state c.args.maker.now))

pub returns-in-GetKey-clause-answers : goal.returns-in-GetKey-clause-answers
returns-in-GetKey-clause-answers g c = rw c.in-GetKey.is (c.get.ensures (g.M.Maker.state c.args.maker.now))

pub returns-in-Sign-clause-answers : goal.returns-in-Sign-clause-answers
returns-in-Sign-clause-answers g c = rw c.in-Sign.is c.sign.ensures.answers

pub returns-in-RngRetrieve-clause-answers : goal.returns-in-RngRetrieve-clause-answers
returns-in-RngRetrieve-clause-answers g c =
    let fits : SFits w32 c.in-RngRetrieve.num_bytes = search rules in
    rw c.in-RngRetrieve.is (rw (to_z-of_z w32 c.in-RngRetrieve.num_bytes fits) at c.retrieve.ensures.answers)

pub returns-in-CreateRsaKeyPair-clause-answers : goal.returns-in-CreateRsaKeyPair-clause-answers
returns-in-CreateRsaKeyPair-clause-answers g c =
    let fits : SFits w32 c.in-CreateRsaKeyPair.key_length = search rules in
    rw c.in-CreateRsaKeyPair.is (rw (to_z-of_z w32 c.in-CreateRsaKeyPair.key_length fits) at c.create.ensures.answers)
