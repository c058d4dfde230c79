use Rattle.std.proofs.Common.{◌≡◌, ◌++◌, ◌∷◌, [], ℕ, ℤ, refl, subst, List, Err, rules}
use Rattle.std.proofs.Math.Facts.{to_z-of_z}
use Rattle.kmip_enums.specs.declared.object_type.ObjectType.TheVariants.{PublicKey, PrivateKey}
use Rattle.kmip_store.specs.Makers.{MakerCall}
use Rattle.kmip_store.specs.Steps.{Created, key_of}
use Rattle.kmip_store.specs.declared.object.Object.{Object}
use Rattle.kmip_store.specs.declared.call.Call.{Call}
use Rattle.kmip_store.specs.declared.call.Call.TheVariants.{CreateRsaKeyPair}
use Rattle.kmip_store.specs.declared.maker.Asked.TheVariants as questions
use Rattle.kmip_store.specs.declared.maker.Made.{Made}
use Rattle.kmip_store.specs.declared.maker.Made.TheVariants as answers
use Rattle.kmip_store.proofs.Questions.{made_step, no_result, create_step}
use Rattle.kmip_store.proofs.store.Store.create_rsa_key_pair.Goals as goal

pub returns-in_err-private_key-clause-step : goal.returns-in_err-private_key-clause-step
returns-in_err-private_key-clause-step g c =
    let made : List ℕ × List ℕ → Made = λ pair. answers.Pair pair.0 pair.1 in
    let call : Call = CreateRsaKeyPair c.args.key_length c.args.private_name.now c.args.public_name.now in
    let same : c.reserve.new.self.items ≡ c.args.self.now = search rules in
    rw same (no_result (λ (pair : List ℕ × List ℕ). Created pair.0 pair.1)
    made c.args.self.now call _ _ (questions.KeyPair c.args.key_length)
    c.in_err-private_key.field-0.0 c.from_residual-in_err-private_key.result refl refl
    (subst (λ (n : ℤ). MakerCall made (questions.KeyPair n) (g.M.Maker.state c.args.maker.now)
    (g.M.Maker.state c.key_pair.new.self) (Err c.in_err-private_key.field-0.0))
    (to_z-of_z c.ranges.key_length) c.in_err-private_key.ensures.call)
    c.from_residual-in_err-private_key.ensures.1)

pub returns-clause-step : goal.returns-clause-step
returns-clause-step g c =
    let objects : List Object = c.args.self.now in
    let bits : ℤ = c.args.key_length in
    let private : List ℕ = c.args.private_name.now in
    let public : List ℕ = c.args.public_name.now in
    let ids = c.in_ok-identifiers.ensures.texts in
    let a : List ℕ = c.in_ok-private_key.private_key in
    let b : List ℕ = c.in_ok-private_key.public_key in
    let added : c.add_pair.new.objects.items
    ≡ objects ++ key_of PrivateKey private bits a ∷ key_of PublicKey public bits b ∷ [] =
    search rules in
    made_step objects (CreateRsaKeyPair bits private public) c.add_pair.new.objects.items
    (Created c.in_ok-identifiers.identifiers.0 c.in_ok-identifiers.identifiers.1) _ _
    (questions.KeyPair bits) (answers.Pair a b) refl refl (λ is. cc)
    (create_step objects c.add_pair.new.objects.items bits private public a b c.in_ok-identifiers.identifiers.0 c.in_ok-identifiers.identifiers.1 added ids.0 ids.1)
    (rw (to_z-of_z c.ranges.key_length) at c.in_ok-private_key.ensures.call)
