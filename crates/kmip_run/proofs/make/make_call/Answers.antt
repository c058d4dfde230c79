use Rattle.std.proofs.Common.{sym}
use Rattle.kmip_words.specs.Exchange.{settings_of}
use Rattle.kmip_run.proofs.Makes.{makes_call}
use Rattle.kmip_run.proofs.make.make_call.Goals as goal

pub returns-clause-makes : goal.returns-clause-makes
returns-clause-makes c =
    let did = rw c.left_len-before.ensures.same at c.in_ok-ending.ensures in
    let fed = rw c.as_slice.ensures at c.in_ok-feed.ensures in
    rw c.left_len.ensures.same
    (makes_call c.args.client.now c.feed.new.client c.answer.new.client
    (settings_of c.args.client.now)
    c.args.recorded c.is_failure.result c.left_len-before.result c.left_len.result
    c.is_failure.ensures (sym fed.settings) fed.fed fed.left c.left_len-before.ensures.len c.left_len.ensures.len did)
