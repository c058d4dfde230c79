-- The tree of some bytes, computed. Parses states the same as a relation. Here the levels that are
-- left count down.
use Rattle.std.specs.Prelude.{◌-◌, ℕ, zero, suc, ◌%◌, ◌==◌, ◌&&◌, Bool, true, false, List, [], ◌∷◌, length, take, drop, Option, Some, None, if◌then◌else◌, nat_le}
use Rattle.std.specs.Option.{option_map, is_some}
use Rattle.std.specs.Int.{w32, w64, from_be_bytes, cast_signed}
use Rattle.std.specs.Str.{is_utf8}
use Rattle.kmip_wire.specs.declared.kind.Kind.{Kind}
use Rattle.kmip_wire.specs.declared.kind.Kind.TheVariants.{Structure, Integer, LongInteger, BigInteger, Enumeration, Boolean, TextString, ByteString, DateTime, Interval}
use Rattle.kmip_wire.specs.Tree.{Tree, Trees, Scalar, scalar, structure, none, more, integer, long_integer, big_integer, enumeration, boolean, text_string, byte_string, date_time, interval}
use Rattle.kmip_wire.specs.Kinds.{kind_of}
use Rattle.kmip_wire.specs.Head.{head_tag, head_code, size_at, value_of}

abbrev pub truth_at : ℕ → Option Scalar
truth_at n = if n == 0 then Some (boolean false) else (if n == 1 then Some (boolean true) else None)

-- the scalar that the bytes of a value stand for
abbrev pub scalar_at : Kind → List ℕ → Option Scalar
scalar_at Structure v = None
scalar_at Integer v =
    if length v == 4 then Some (integer (cast_signed w32 (from_be_bytes w32 v))) else None
scalar_at LongInteger v =
    if length v == 8 then Some (long_integer (cast_signed w64 (from_be_bytes w64 v))) else None
scalar_at BigInteger v = if length v % 8 == 0 then Some (big_integer v) else None
scalar_at Enumeration v = if length v == 4 then Some (enumeration (from_be_bytes w32 v)) else None
scalar_at Boolean v = if length v == 8 then truth_at (from_be_bytes w64 v) else None
scalar_at TextString v = if is_utf8 v then Some (text_string v) else None
scalar_at ByteString v = Some (byte_string v)
scalar_at DateTime v = if length v == 8 then Some (date_time (from_be_bytes w64 v)) else None
scalar_at Interval v = if length v == 4 then Some (interval (from_be_bytes w32 v)) else None

abbrev pub trees_with : Option Tree → Option Trees → Option Trees
trees_with None ts = None
trees_with (Some t) ts = option_map (more t) ts

-- the trees of the whole of b, where `one` gives a tree of a whole text
abbrev pub items_by : (List ℕ → Option Tree) → ℕ → List ℕ → Option Trees
items_by one fuel [] = Some none
items_by one zero (x ∷ xs) = None
items_by one (suc fuel) (x ∷ xs) =
    trees_with (one (take (size_at (x ∷ xs)) (x ∷ xs)))
    (items_by one fuel (drop (size_at (x ∷ xs)) (x ∷ xs)))

-- whether the whole of b has the length that its head says
abbrev pub is_whole : List ℕ → Bool
is_whole b = nat_le 8 (length b) && (length b == size_at b)

abbrev pub node_at : Option Trees → ℕ → Option Kind → List ℕ → Option Tree
node_at items tag None v = None
node_at items tag (Some Structure) v = option_map (structure tag) items
node_at items tag (Some kind) v = option_map (scalar tag) (scalar_at kind v)

-- the tree that the whole of b is, with at most so many levels
unfoldable pub item_of : ℕ → List ℕ → Option Tree
item_of zero b = None
item_of (suc levels) b =
    if is_whole b then node_at (items_by (item_of levels) (length (value_of b)) (value_of b))
    (head_tag b) (kind_of (head_code b)) (value_of b) else None

abbrev pub items_of : ℕ → List ℕ → Option Trees
items_of levels b = items_by (item_of levels) (length b) b

-- the tree of the item at the front that parses at the level, if there is one
abbrev pub front_at : ℕ → List ℕ → Option Tree
front_at level b = item_of (65 - level) (take (size_at b) b)

-- how many bytes the item at the front has
abbrev pub front_of : ℕ → List ℕ → Option ℕ
front_of levels b = if is_some (item_of levels (take (size_at b) b)) then Some (size_at b) else None

-- whether v is a value of the type, given whether v is items
abbrev pub well_formed : Bool → Option Kind → List ℕ → Bool
well_formed items None v = false
well_formed items (Some Structure) v = items
well_formed items (Some kind) v = is_some (scalar_at kind v)
