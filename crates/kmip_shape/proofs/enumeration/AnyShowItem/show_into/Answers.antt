use Rattle.std.proofs.Common.{ℕ, List, sym, subst}
use Rattle.kmip_shape.specs.Shown.{Grows, word}
use Rattle.kmip_shape.proofs.Growth.{in_style}
use Rattle.kmip_shape.proofs.Variants.{found_in_style}
use Rattle.kmip_shape.proofs.enumeration.AnyShowItem.show_into.Goals as goal

pub returns : goal.returns
returns g c =
    in_style (sym (found_in_style g.T.Enumeration.line g.T.Enumeration.variants _ _
    (g.met.T.Enumeration.found c.args.self.now) c.args.out.now.style))
    (subst (λ (name : List ℕ). Grows c.args.out.now c.put_word.new.self (word name)) c.name.ensures c.put_word.ensures)
