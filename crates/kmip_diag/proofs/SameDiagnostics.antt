-- Equal diagnostics are those of equal skeletons.
use Rattle.std.proofs.Common.{◌≡◌, sym, ◌∙◌, ap, ◌↔◌, ℕ, List, [], ◌++◌, Option}
use Rattle.kmip_wire.specs.Tree.{Tree}
use Rattle.kmip_wire.specs.Parses.{Parses}
use Rattle.kmip_diag.specs.Skeleton.{Skeleton, Skeletons, scalar, none, more, skeleton}
use Rattle.kmip_diag.specs.declared.token.Mark.TheVariants.{Integer}
use Rattle.kmip_diag.specs.Printed.{printed}
use Rattle.kmip_diag.specs.Tokens.{IsSkeleton}
use Rattle.kmip_diag.specs.Diagnostic.{diagnostic}
use Rattle.kmip_diag.proofs.Reading.{printed_all-inj}
use Rattle.kmip_diag.proofs.OneShown.{item_diagnostic}

abbrev first_skeleton : Skeletons → Skeleton
first_skeleton none = scalar 0 Integer
first_skeleton (more t ts) = t

pub same_diagnostics : (p : Option ℕ) (t u : Tree) (b c : List ℕ) → IsSkeleton (skeleton t)
    → IsSkeleton (skeleton u) → Parses t 1 b → Parses u 1 c
    → (diagnostic p b ≡ diagnostic p c) ↔ (skeleton t ≡ skeleton u)
same_diagnostics p t u b c g h q r =
    let left : diagnostic p b ≡ printed p (skeleton t) = item_diagnostic p t b q
    in let right : diagnostic p c ≡ printed p (skeleton u) = item_diagnostic p u c r
    in (
      λ f. ap first_skeleton (printed_all-inj p (more (skeleton t) none) (more (skeleton u) none)
          (g, tt) (h, tt) (ap (λ z. z ++ []) (sym left ∙ f ∙ right))),
      λ f. left ∙ ap (printed p) f ∙ sym right,
    )
