use Rattle.kmip_caller.specs.Exchange.{bare, with_reason}
use Rattle.kmip_caller.proofs.exchange.link_failed.Goals as goal

pub returns-in_ok-joined-in-Some : goal.returns-in_ok-joined-in-Some
returns-in_ok-joined-in-Some c = with_reason c.as_str.result.now c.in_ok-joined-in-Some.ensures

pub returns-in_ok-of-in-None : goal.returns-in_ok-of-in-None
returns-in_ok-of-in-None c = bare c.in_ok-of-in-None.ensures
