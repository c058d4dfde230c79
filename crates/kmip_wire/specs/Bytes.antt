-- The canonical bytes of a tree (KMIP 1.0, 9.1.1), and the ranges of its parts.
use Rattle.std.specs.Prelude.{Bool, true, ◌&&◌, ℕ, ◌+◌, ◌%◌, ◌<◌, ◌^◌, max, ◌==◌, nat_lt, List, [], ◌∷◌, ◌++◌, length, drop, slice_index, replicate, Option, Some, None, if◌then◌else◌, IsUtf8, FitsSigned}
use Rattle.std.specs.Int.{w32, w64, to_be_bytes, cast_unsigned}
use Rattle.kmip_wire.specs.Tree.{Tree, Trees, Scalar, scalar, structure, none, more, integer, long_integer, big_integer, enumeration, boolean, text_string, byte_string, date_time, interval}
use Rattle.kmip_wire.specs.Kinds.{code_of, kind_of_scalar}
use Rattle.kmip_wire.specs.Head.{pads}

-- the bytes of a value, without pads
abbrev pub value_bytes : Scalar → List ℕ
value_bytes (integer z) = to_be_bytes w32 (cast_unsigned w32 z)
value_bytes (long_integer z) = to_be_bytes w64 (cast_unsigned w64 z)
value_bytes (big_integer b) = b
value_bytes (enumeration n) = to_be_bytes w32 n
value_bytes (boolean b) = to_be_bytes w64 (if b then 1 else 0)
value_bytes (text_string b) = b
value_bytes (byte_string b) = b
value_bytes (date_time n) = to_be_bytes w64 n
value_bytes (interval n) = to_be_bytes w32 n

-- a Big Integer's length is a multiple of 8
abbrev pub has_form : Scalar → Bool
has_form (big_integer b) = length b % 8 == 0
has_form _ = true

-- three bytes of the tag, one of the type, four of the length
abbrev pub head_bytes : ℕ → ℕ → ℕ → List ℕ
head_bytes tag code n = drop 1 (to_be_bytes w32 tag) ++ (code ∷ to_be_bytes w32 n)

-- head, value and the fewest zero pads
unfoldable pub item_bytes : ℕ → ℕ → List ℕ → List ℕ
item_bytes tag code v = head_bytes tag code (length v) ++ (v ++ replicate (pads (length v)) 0)

-- a structure of the contents, if there are some and their length fits its field
abbrev pub structure_bytes : ℕ → Option (List ℕ) → Option (List ℕ)
structure_bytes tag None = None
structure_bytes tag (Some v) =
    if nat_lt (length v) (2 ^ 32) then Some (item_bytes tag 1 v) else None

abbrev pub in_order : Option (List ℕ) → Option (List ℕ) → Option (List ℕ)
in_order None b = None
in_order (Some a) None = None
in_order (Some a) (Some b) = Some (a ++ b)

-- the one canonical text of a tree, and of trees in order
abbrev mutual
  pub bytes : Tree → Option (List ℕ)
  bytes (scalar tag s) =
      if has_form s && nat_lt (length (value_bytes s)) (2 ^ 32)
      then Some (item_bytes tag (code_of (kind_of_scalar s)) (value_bytes s)) else None
  bytes (structure tag ts) = structure_bytes tag (all_bytes ts)

  pub all_bytes : Trees → Option (List ℕ)
  all_bytes none = Some []
  all_bytes (more t ts) = in_order (bytes t) (all_bytes ts)

-- how many levels a tree has
abbrev mutual
  pub levels : Tree → ℕ
  levels (scalar tag s) = 1
  levels (structure tag ts) = levels_of_all ts + 1

  pub levels_of_all : Trees → ℕ
  levels_of_all none = 0
  levels_of_all (more t ts) = max (levels t) (levels_of_all ts)

-- every one is a byte
abbrev pub AreBytes : List ℕ → Type 0
AreBytes b = (i : ℕ) → slice_index b i < 256

-- the ranges of a tree's parts
abbrev pub IsInRange : Scalar → Type 0
IsInRange (integer z) = FitsSigned w32 z
IsInRange (long_integer z) = FitsSigned w64 z
IsInRange (big_integer b) = AreBytes b
IsInRange (enumeration n) = n < 2 ^ 32
IsInRange (boolean b) = Unit {0}
IsInRange (text_string b) = IsUtf8 b
IsInRange (byte_string b) = AreBytes b
IsInRange (date_time n) = n < 2 ^ 64
IsInRange (interval n) = n < 2 ^ 32

abbrev mutual
  pub HasRanges : Tree → Type 0
  HasRanges (scalar tag s) = (tag < 2 ^ 24) × IsInRange s
  HasRanges (structure tag ts) = (tag < 2 ^ 24) × HaveRanges ts

  pub HaveRanges : Trees → Type 0
  HaveRanges none = Unit {0}
  HaveRanges (more t ts) = HasRanges t × HaveRanges ts
