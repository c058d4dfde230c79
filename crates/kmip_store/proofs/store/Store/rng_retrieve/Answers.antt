use Rattle.std.proofs.Common.{ℕ, ℤ, refl, List, subst, Err}
use Rattle.std.proofs.Math.Facts.{to_z-of_z}
use Rattle.kmip_store.specs.Makers.{MakerCall}
use Rattle.kmip_store.specs.Steps.{Random}
use Rattle.kmip_store.specs.declared.call.Call.TheVariants.{RngRetrieve}
use Rattle.kmip_store.specs.declared.maker.Asked.TheVariants as questions
use Rattle.kmip_store.specs.declared.maker.Made.{Made}
use Rattle.kmip_store.specs.declared.maker.Made.TheVariants as answers
use Rattle.kmip_store.proofs.Questions.{made_step, no_result}
use Rattle.kmip_store.proofs.store.Store.rng_retrieve.Goals as goal

pub returns-in_err-random-clause-step : goal.returns-in_err-random-clause-step
returns-in_err-random-clause-step g c =
    let made : List ℕ → Made = λ bytes. answers.Bytes bytes in
    no_result Random made c.args.self.now (RngRetrieve c.args.num_bytes) _ _
    (questions.Random c.args.num_bytes)
    c.in_err-random.field-0.0 c.from_residual.result refl refl
    (subst (λ (n : ℤ). MakerCall made (questions.Random n) (g.M.Maker.state c.args.maker.now)
    (g.M.Maker.state c.random.new.self) (Err c.in_err-random.field-0.0))
    (to_z-of_z c.ranges.num_bytes) c.in_err-random.ensures.call)
    c.from_residual.ensures.1

pub returns-clause-step : goal.returns-clause-step
returns-clause-step g c =
    made_step c.args.self.now (RngRetrieve c.args.num_bytes) c.args.self.now
    (Random c.in_ok-random.field-0) _ _ (questions.Random c.args.num_bytes)
    (answers.Bytes c.in_ok-random.field-0) refl refl (λ is. cc) refl
    (rw (to_z-of_z c.ranges.num_bytes) at c.in_ok-random.ensures.call)
