-- How many bytes an item has, with head and pads (KMIP 1.0, 9.1.1).
use Rattle.std.specs.Prelude.{ℕ, ◌+◌}
use Rattle.kmip_wire.specs.Tree.{Tree, Trees, scalar, structure, none, more}
use Rattle.kmip_shape.specs.Writes.{leaf_size}

abbrev mutual
  pub size_of : Tree → ℕ
  size_of (scalar tag s) = leaf_size s
  size_of (structure tag ts) = 8 + sizes_of ts

  pub sizes_of : Trees → ℕ
  sizes_of none = 0
  sizes_of (more t ts) = size_of t + sizes_of ts
