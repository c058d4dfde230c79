use Rattle.std.proofs.Common.{◌≡◌, ◌∙◌, sym, ap, Err, length, subst}
use Rattle.kmip_shape.specs.Writes.{vals}
use Rattle.kmip_response.specs.Values.{batch_item_val, response_message_val}
use Rattle.kmip_client.specs.declared.error.Error.{Error}
use Rattle.kmip_client.specs.declared.error.Error.TheVariants.{ServerError}
use Rattle.kmip_client.specs.Check.{check_response, check_items, count_text}
use Rattle.kmip_client.specs.Outcome.{Gives}
use Rattle.kmip_client.proofs.Checks.{not_told, not_one}
use Rattle.kmip_client.proofs.check.check_message.Goals as goal

pub returns-then-not-counts_one : goal.returns-then-not-counts_one
returns-then-not-counts_one g c =
    let e : check_response c.args.operation (response_message_val c.args.message)
    ≡ Err (ServerError (count_text c.len-count.result)) =
    ap (λ told. check_items c.args.operation told (vals batch_item_val c.args.message.batch_items))
    (sym c.counts_one.ensures ∙ c.if-not-counts_one.true)
    ∙ not_told c.args.operation batch_item_val c.args.message.batch_items
    ∙ ap (λ n. Err (ServerError (count_text n))) (sym c.len-count.ensures) in
    let P : Error → Type 0 =
    λ error. Gives (check_response c.args.operation (response_message_val c.args.message)) (Err error) in
    subst P (sym c.in_ok-not_single.ensures) (sym e)

pub returns-then-count-ne1 : goal.returns-then-count-ne1
returns-then-count-ne1 g c =
    let other : length c.args.message.batch_items ≡ 1 → ⊥ = λ one. c.if-count-ne1.true (c.len-count.ensures ∙ one) in
    let e : check_response c.args.operation (response_message_val c.args.message)
    ≡ Err (ServerError (count_text c.len-count.result)) =
    not_one c.args.operation _ batch_item_val c.args.message.batch_items other
    ∙ ap (λ n. Err (ServerError (count_text n))) (sym c.len-count.ensures) in
    let P : Error → Type 0 =
    λ error. Gives (check_response c.args.operation (response_message_val c.args.message)) (Err error) in
    subst P (sym c.in_ok-not_single-2.ensures) (sym e)
