use Rattle.std.proofs.Common.{◌∙◌, ap, sym, refl, rules, w64, SFits, pos, length, List, ℕ, Some, None}
use Rattle.std.proofs.lemmas.Int.{to_z-of_z}
use Rattle.kmip_calls.specs.Calls.{call_of, call_view}
use Rattle.kmip_c.specs.Calls.{id_of, settings_of}
use Rattle.kmip_exports.specs.Exports.{room_with}
use Rattle.kmip_c.specs.Codes.{no_form}
use Rattle.kmip_c.proofs.Calls.{requested, no_settings_given, no_call_given}
use Rattle.kmip_c.proofs.kmip_request.Goals as goal

pub returns-in-Ok-Some-request_of_words-clause-request : goal.returns-in-Ok-Some-request_of_words-clause-request
returns-in-Ok-Some-request_of_words-clause-request c = λ some.
    let told : SFits w64 c.copy_out.result = search rules in
    let settings = rw c.in-Ok-Some.field-0-is at c.in-Ok-Some.ensures in
    let asks = rw (c.in-Ok-Some-call_of_words.field-0-is, c.id_of.ensures) at c.in-Ok-Some-call_of_words.ensures in
    let made = rw c.in-Ok-Some-request_of_words.field-0-is at c.in-Ok-Some-request_of_words.ensures in
    rw (to_z-of_z w64 c.copy_out.result told)
    (requested (settings_of c.args.has_credential c.args.user.now c.args.password.now)
    (call_of c.args.words.now (id_of c.args.id.now)) c.in-Ok-Some.settings
    (call_view c.in-Ok-Some-call_of_words.call) c.args.into.now c.copy_out.new.room c.copy_out.result
    (Some c.in-Ok-Some-request_of_words.request) (sym settings) (sym asks) made (
      c.copy_out.ensures.len ∙ ap (λ (x : List ℕ). pos (length x)) c.as_slice.ensures,
      c.copy_out.ensures.room ∙ ap (λ (x : List ℕ). room_with x c.args.into.now)
          c.as_slice.ensures,
    ))

pub returns-in-Ok-None-request_of_words-clause-request : goal.returns-in-Ok-None-request_of_words-clause-request
returns-in-Ok-None-request_of_words-clause-request c = λ some.
    let settings = rw c.in-Ok-Some.field-0-is at c.in-Ok-Some.ensures in
    let asks = rw (c.in-Ok-Some-call_of_words.field-0-is, c.id_of.ensures) at c.in-Ok-Some-call_of_words.ensures in
    let made = rw c.in-Ok-None-request_of_words.field-0-is at c.in-Ok-None-request_of_words.ensures in
    requested (settings_of c.args.has_credential c.args.user.now c.args.password.now)
    (call_of c.args.words.now (id_of c.args.id.now)) c.in-Ok-Some.settings
    (call_view c.in-Ok-Some-call_of_words.call) c.args.into.now c.args.into.now no_form None (sym settings)
    (sym asks) made (refl, refl)
