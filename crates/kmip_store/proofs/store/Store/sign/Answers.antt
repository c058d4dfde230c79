use Rattle.std.proofs.Common.{◌≡◌, ℕ, ◌∙◌, true, refl, sym, ap, List, Some}
use Rattle.kmip_store.specs.Objects.{find_in}
use Rattle.kmip_store.specs.Steps.{Signed, can_sign}
use Rattle.kmip_store.specs.declared.object.Object.{Object}
use Rattle.kmip_store.specs.declared.call.Call.TheVariants.{Sign}
use Rattle.kmip_store.specs.declared.maker.Asked.TheVariants as questions
use Rattle.kmip_store.specs.declared.maker.Made.{Made}
use Rattle.kmip_store.specs.declared.maker.Made.TheVariants as answers
use Rattle.kmip_store.proofs.Questions.{made_step, no_result, sign_asks, sign_step}
use Rattle.kmip_store.proofs.store.Store.sign.Goals as goal

pub returns-in_err-sign-clause-step : goal.returns-in_err-sign-clause-step
returns-in_err-sign-clause-step g c =
    let here = c.in_ok-object.ensures.here in
    let object : Object = c.in_ok-object.object.now in
    let found : find_in c.args.self.now c.args.id.now ≡ Some (here.0, object) =
    ap (λ (l : List Object). find_in l c.args.id.now)
    (sym (c.as_slice.ensures.value ∙ c.self.view_is)) ∙ here.1 in
    let signs : can_sign object ≡ true = sym c.can_sign.ensures ∙ c.if-not-can_sign.false in
    no_result Signed (λ (bytes : List ℕ). answers.Bytes bytes) c.args.self.now
    (Sign c.args.id.now c.args.bytes.now) _ _
    (questions.Sign object.key c.args.bytes.now)
    c.in_err-sign.field-0.0 c.from_residual-in_err-sign.result
    (sign_asks c.args.self.now c.args.id.now c.args.bytes.now here.0 object found signs)
    (sign_step c.args.self.now c.args.id.now c.args.bytes.now here.0 object answers.Refused found signs)
    c.in_err-sign.ensures.call c.from_residual-in_err-sign.ensures.1

pub returns-clause-step : goal.returns-clause-step
returns-clause-step g c =
    let here = c.in_ok-object.ensures.here in
    let object : Object = c.in_ok-object.object.now in
    let made : Made = answers.Bytes c.in_ok-sign.field-0 in
    let found : find_in c.args.self.now c.args.id.now ≡ Some (here.0, object) =
    ap (λ (l : List Object). find_in l c.args.id.now)
    (sym (c.as_slice.ensures.value ∙ c.self.view_is)) ∙ here.1 in
    let signs : can_sign object ≡ true = sym c.can_sign.ensures ∙ c.if-not-can_sign.false in
    made_step c.args.self.now (Sign c.args.id.now c.args.bytes.now) c.args.self.now
    (Signed c.in_ok-sign.field-0) _ _ (questions.Sign object.key c.args.bytes.now) made
    (sign_asks c.args.self.now c.args.id.now c.args.bytes.now here.0 object found signs) refl
    (λ is. cc)
    (sign_step c.args.self.now c.args.id.now c.args.bytes.now here.0 object made found signs)
    c.in_ok-sign.ensures.call
