-- The trees that bytes parse as have at most 64 levels.
use Rattle.std.proofs.Common.{ℕ, ◌+◌, ◌≤◌, List, take, drop, arith}
use Rattle.kmip_wire.specs.Tree.{Tree, Trees, scalar, structure, none, more}
use Rattle.kmip_wire.specs.Head.{value_of}
use Rattle.kmip_wire.specs.Parses.{Parses, ParseAll}
use Rattle.kmip_wire.specs.Bytes.{levels, levels_of_all}

mutual
  pub tree_levels : (t : Tree) (level : ℕ) (b : List ℕ) → Parses t level b → levels t + level ≤ 65
  tree_levels (scalar tag s) level b p = let l = p.level_is.1 in omega arith
  tree_levels (structure tag ts) level b p =
      let l = p.level_is.1 in
      let inside = all_levels ts (level + 1) (value_of b) (omega arith) p.value in
      omega arith

  all_levels : (ts : Trees) (level : ℕ) (b : List ℕ) → level ≤ 65 → ParseAll ts level b
      → levels_of_all ts + level ≤ 65
  all_levels none level b h p = omega arith
  all_levels (more t ts) level b h p =
      let first = tree_levels t level (take p.0 b) p.2 in
      let others = all_levels ts level (drop p.0 b) h p.3 in
      omega arith
