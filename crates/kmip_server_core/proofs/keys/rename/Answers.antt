use Rattle.std.proofs.Common.{◌≡◌, refl, sym, subst, ap, ◌∙◌, Some, None}
use Rattle.kmip_store.specs.Steps.{Done, step}
use Rattle.kmip_store.specs.declared.call.Call.TheVariants as calls
use Rattle.kmip_server_core.specs.Items.{message_with}
use Rattle.kmip_server_core.specs.Answering.{IsWritten, step_answer, AnswersCall}
use Rattle.kmip_server_core.proofs.Changes.{rename_told, changing_serves, unchanged_serves}
use Rattle.kmip_server_core.proofs.keys.rename.Goals as goal

pub returns-in-Ok : goal.returns-in-Ok
returns-in-Ok c = λ maker.
    let says : step_answer (λ _. Done) c.renames.result
    ≡ Some (step c.args.store.now (calls.RenameKey c.args.id.now c.args.new_name.now)
    None).answer = (rw c.as_str.ensures.bytes at c.renames.ensures)
    ∙ ap Some (rename_told c.args.store.now c.args.id.now c.args.new_name.now) in
    subst (λ r. AnswersCall (calls.RenameKey c.args.id.now c.args.new_name.now)
    c.args.stamp.now.time c.args.store.now maker maker c.rename_key.new.self r)
    (sym c.respond.ensures)
    (changing_serves c.args.store.now c.rename_key.new.self
    (calls.RenameKey c.args.id.now c.args.new_name.now)
    c.args.stamp.now.time maker c.renames.result c.rename_key.result c.in_ok-item.item c.in-Ok.response refl
    says c.in_ok-item.ensures c.in-Ok.ensures
    (rw (c.as_str-in-Ok.ensures.bytes, c.as_str-in-Ok-2.ensures.bytes) at c.rename_key.ensures))

pub returns-in-Err : goal.returns-in-Err
returns-in-Err c = λ maker.
    let says : step_answer (λ _. Done) c.renames.result
    ≡ Some (step c.args.store.now (calls.RenameKey c.args.id.now c.args.new_name.now)
    None).answer = (rw c.as_str.ensures.bytes at c.renames.ensures)
    ∙ ap Some (rename_told c.args.store.now c.args.id.now c.args.new_name.now) in
    unchanged_serves c.args.store.now (calls.RenameKey c.args.id.now c.args.new_name.now)
    c.args.stamp.now.time maker c.renames.result c.in_ok-item.item c.in-Err.error refl
    says c.in_ok-item.ensures (subst (λ r. IsWritten
    (message_with c.args.stamp.now.time c.in_ok-item.item) r) c.in-Err.is c.write.ensures)
