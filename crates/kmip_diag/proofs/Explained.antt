-- The diagnostic of an item is expanded.
use Rattle.std.proofs.Common.{◌≡◌, sym, ◌∙◌, ℕ, ◌+◌, List, take, drop, Option, Some}
use Rattle.std.proofs.lemmas.List.{append-nil}
use Rattle.kmip_wire.specs.Tree.{Tree, Trees, scalar, structure, none, more}
use Rattle.kmip_wire.specs.Head.{value_of}
use Rattle.kmip_wire.specs.Parses.{Parses, ParseAll}
use Rattle.kmip_wire.specs.Bytes.{HasRanges}
use Rattle.kmip_diag.specs.Skeleton.{skeleton, skeletons}
use Rattle.kmip_diag.specs.Skeleton as shown
use Rattle.kmip_diag.specs.Printed.{printed}
use Rattle.kmip_diag.specs.Diagnostic.{diagnostic}
use Rattle.kmip_diag.specs.Lines.{lines_of}
use Rattle.kmip_diag.specs.Expansion.{IsWithin, AreWithin, expansion}
use Rattle.kmip_diag.proofs.Ranges.{skeleton_ranges}
use Rattle.kmip_diag.proofs.OneShown.{item_diagnostic}
use Rattle.kmip_diag.proofs.Expanding.{expansion_where}

mutual
  within : (t : Tree) (level : ℕ) (b : List ℕ) → Parses t level b → IsWithin (skeleton t) level
  within (scalar tag s) level b i = i.level_is.1
  within (structure tag ts) level b i = (i.level_is.1, all_within ts (level + 1) (value_of b) i.value)

  all_within : (ts : Trees) (level : ℕ) (b : List ℕ) → ParseAll ts level b → AreWithin (skeletons ts) level
  all_within none level b q = tt
  all_within (more t ts) level b (n, le, q, all) = (within t level (take n b) q, all_within ts level (drop n b) all)

pub explained : (p : Option ℕ) (t : Tree) (b : List ℕ) → HasRanges t → Parses t 1 b
    → expansion p (diagnostic p b) ≡ Some (lines_of 0 (skeleton t))
explained p t b h q = expansion_where p (diagnostic p b) (lines_of 0 (skeleton t)) (
  shown.more (skeleton t) shown.none,
  ((skeleton_ranges t h, tt), (within t 1 b q, tt)),
  append-nil (printed p (skeleton t)) ∙ sym (item_diagnostic p t b q),
  sym (append-nil (lines_of 0 (skeleton t))),
)
