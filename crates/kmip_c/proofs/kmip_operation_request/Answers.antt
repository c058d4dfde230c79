use Rattle.std.proofs.Common.{◌∙◌, ap, sym, refl, rules, w64, SFits, pos, length, List, ℕ, Some, None}
use Rattle.std.proofs.lemmas.Int.{to_z-of_z}
use Rattle.kmip_operations.specs.Calls.{request_of}
use Rattle.kmip_c.specs.Calls.{settings_of}
use Rattle.kmip_exports.specs.Exports.{room_with}
use Rattle.kmip_c.specs.Codes.{no_form}
use Rattle.kmip_c.proofs.Operations.{operation_requested}
use Rattle.kmip_c.proofs.kmip_operation_request.Goals as goal

pub returns-in-Ok-Some-operation_request-clause-request : goal.returns-in-Ok-Some-operation_request-clause-request
returns-in-Ok-Some-operation_request-clause-request c = λ some.
    let told : SFits w64 c.copy_out.result = search rules in
    let settings = rw c.in-Ok-Some.field-0-is at c.in-Ok-Some.ensures in
    let asks = rw c.in-Ok-Some-operation_of.field-0-is at c.in-Ok-Some-operation_of.ensures in
    let made = rw c.in-Ok-Some-operation_request.field-0-is at c.in-Ok-Some-operation_request.ensures in
    rw (to_z-of_z w64 c.copy_out.result told)
    (operation_requested (settings_of c.args.has_credential c.args.user.now c.args.password.now)
    c.in-Ok-Some.settings (request_of c.in-Ok-Some-operation_of.call)
    c.args.name.now c.args.version.now c.args.id.now c.args.payload.now c.args.into.now c.copy_out.new.room c.copy_out.result (Some c.in-Ok-Some-operation_request.request) (sym settings) asks made (
      c.copy_out.ensures.len ∙ ap (λ (x : List ℕ). pos (length x)) c.as_slice.ensures,
      c.copy_out.ensures.room ∙ ap (λ (x : List ℕ). room_with x c.args.into.now)
          c.as_slice.ensures,
    ))

pub returns-in-Ok-None-operation_request-clause-request : goal.returns-in-Ok-None-operation_request-clause-request
returns-in-Ok-None-operation_request-clause-request c = λ some.
    let settings = rw c.in-Ok-Some.field-0-is at c.in-Ok-Some.ensures in
    let asks = rw c.in-Ok-Some-operation_of.field-0-is at c.in-Ok-Some-operation_of.ensures in
    let made = rw c.in-Ok-None-operation_request.field-0-is at c.in-Ok-None-operation_request.ensures in
    operation_requested (settings_of c.args.has_credential c.args.user.now c.args.password.now)
    c.in-Ok-Some.settings (request_of c.in-Ok-Some-operation_of.call)
    c.args.name.now c.args.version.now c.args.id.now c.args.payload.now c.args.into.now c.args.into.now no_form None (sym settings) asks made (refl, refl)
