-- The bytes of the values of trees, whose lengths are computed before they are written.
use Rattle.std.specs.Prelude.{ℕ, ◌^◌, ◌&&◌, nat_lt, List, length, Option, Some, None, if◌then◌else◌}
use Rattle.kmip_wire.specs.Tree.{Tree, scalar, structure}
use Rattle.kmip_wire.specs.Bytes.{value_bytes, has_form, all_bytes}

-- a value whose length fits its field
abbrev pub fitting : Option (List ℕ) → Option (List ℕ)
fitting None = None
fitting (Some v) = if nat_lt (length v) (2 ^ 32) then Some v else None

-- the bytes of the value of a tree that has bytes
abbrev pub value_of_tree : Tree → Option (List ℕ)
value_of_tree (scalar tag s) =
    if has_form s && nat_lt (length (value_bytes s)) (2 ^ 32) then Some (value_bytes s) else None
value_of_tree (structure tag ts) = fitting (all_bytes ts)
