use Rattle.std.proofs.Common.{sym, subst, w32}
use Rattle.std.proofs.lemmas.Int.{to_z-of_z}
use Rattle.kmip_store.specs.declared.call.Call.TheVariants.{CreateRsaKeyPair}
use Rattle.kmip_server_core.specs.Answering.{AnswersCall}
use Rattle.kmip_server_core.proofs.Pairs.{pair_serves}
use Rattle.kmip_server_core.proofs.pair.create.Goals as goal

pub returns-clause-answers : goal.returns-clause-answers
returns-clause-answers g c =
    subst
    (λ r. AnswersCall
    (CreateRsaKeyPair c.args.key_length c.args.private_name.now c.args.public_name.now)
    c.args.stamp.now.time c.args.store.now (g.M.Maker.state c.args.maker.now)
    (g.M.Maker.state c.create_rsa_key_pair-answer.new.maker)
    c.create_rsa_key_pair-answer.new.self r) (sym c.choose.ensures)
    (pair_serves c.args.store.now c.create_rsa_key_pair-answer.new.self c.args.key_length c.args.private_name.now c.args.public_name.now c.args.stamp.now.time (g.M.Maker.state c.args.maker.now) (g.M.Maker.state c.create_rsa_key_pair-answer.new.maker) c.create_rsa_key_pair-answer.result
    c.in_ok-created.created c.in_ok-refused.refused
    (rw (
      to_z-of_z w32 c.args.key_length c.ranges.key_length,
      c.as_str.ensures.bytes,
      c.as_str-2.ensures.bytes,
    ) at c.create_rsa_key_pair-answer.ensures.step)
    c.in_ok-created.ensures c.in_ok-refused.ensures)
