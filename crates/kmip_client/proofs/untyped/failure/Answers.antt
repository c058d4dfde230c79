use Rattle.std.proofs.Common.{◌≡◌, ◌∙◌, sym, ap, rules}
use Rattle.kmip_client.specs.declared.error.Error.TheVariants.{ServerError}
use Rattle.kmip_client.specs.Untyped.{failure_of, numbered_failure, unlisted_text}
use Rattle.kmip_client.proofs.untyped.failure.Goals as goal

pub returns-in_ok-text-in-None : goal.returns-in_ok-text-in-None
returns-in_ok-text-in-None c =
    let e : failure_of c.args.operation c.args.message.now c.args.reason
    ≡ ServerError (unlisted_text c.args.operation c.in-Some.number c.args.message.now) =
    ap (failure_of c.args.operation c.args.message.now) c.in-Some.is
    ∙ ap (numbered_failure c.args.operation c.args.message.now c.in-Some.number)
    (sym c.from_number.ensures ∙ c.in-None.is) in
    rw e (search rules)
