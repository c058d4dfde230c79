use Rattle.std.proofs.Common.{rules, ◌≡◌, ◌++◌, ◌∷◌, [], ◌∙◌, ap, sym, List}
use Rattle.kmip_store.specs.Plain.{plain_answers}
use Rattle.kmip_store.specs.declared.maker.Asked.{Asked}
use Rattle.kmip_store.specs.declared.maker.Made.{Made}
use Rattle.kmip_store.proofs.Plains.{one_more}
use Rattle.kmip_store.proofs.plain_maker.PlainMaker.keep.Goals as goal

pub invariant_of-self-2 : goal.invariant_of-self-2
invariant_of-self-2 c =
    let asked : c.push.new.self.items ≡ c.args.self.now.asked ++ c.args.asked ∷ [] = search rules in
    let given : c.push-2.new.self.items ≡ c.args.self.now.given ++ c.args.made ∷ [] = search rules in
    let before : c.args.self.now.given ≡ plain_answers 0 c.args.self.now.asked = search rules in
    given
    ∙ ap (λ (l : List Made). l ++ c.args.made ∷ []) before
    ∙ ap (λ (m : Made). plain_answers 0 c.args.self.now.asked ++ m ∷ []) c.requires
    ∙ sym (one_more c.args.self.now.asked c.args.asked)
    ∙ ap (λ (l : List Asked). plain_answers 0 l) (sym asked)
