use Rattle.std.proofs.Common.{sym, ap, ◌∙◌, option_map, Bor, List, ℕ}
use Rattle.kmip_xml.proofs.Fronts.{dashed}
use Rattle.kmip_xml.proofs.markup.after_dashes.Goals as goal

pub returns-in-Some : goal.returns-in-Some
returns-in-Some c =
    ap (option_map (λ (x : Bor (List ℕ) × Bor (List ℕ)). x.1.now)) (sym c.in-Some.is)
    ∙ dashed c.args.text.now c.split_once.result c.split_once.ensures.cases

pub returns-in-None : goal.returns-in-None
returns-in-None c =
    ap (option_map (λ (x : Bor (List ℕ) × Bor (List ℕ)). x.1.now)) (sym c.in-None.is)
    ∙ dashed c.args.text.now c.split_once.result c.split_once.ensures.cases
