-- Open structures, those that are not ended yet: what is still to be found in each of them.
use Rattle.std.specs.Prelude.{◌≡◌, ℕ, zero, suc, ◌+◌, ◌-◌, ◌≤◌, ◌<◌, ◌&&◌, Bool, true, false, Some, List, length, take, drop, slice_index}
use Rattle.std.specs.Option.{is_some}
use Rattle.kmip_wire.specs.declared.kind.Kind.{Kind}
use Rattle.kmip_wire.specs.Kinds.{kind_of}
use Rattle.kmip_wire.specs.Reading.{items_of, scalar_at}

-- after the end of the innermost: `lefts` has at `d` how many bytes are then left of the structure
-- `d` deep, and they are items of at most `levels` levels
abbrev pub are_after : ℕ → List ℕ → ℕ → List ℕ → Bool
are_after levels lefts zero rest = true
are_after levels lefts (suc d) rest =
    is_some (items_of levels (take (slice_index lefts d) rest)) && are_after (levels + 1) lefts d
    (drop (slice_index lefts d) rest)

-- the first `left` bytes are items of at most `levels` levels, and then each open structure ends
abbrev pub are_open : ℕ → List ℕ → ℕ → ℕ → List ℕ → Bool
are_open levels lefts depth left rest =
    is_some (items_of levels (take left rest)) && are_after (levels + 1) lefts depth
    (drop left rest)

-- the bytes left of all the structures around the innermost
abbrev pub total : List ℕ → ℕ → ℕ
total lefts zero = 0
total lefts (suc d) = slice_index lefts d + total lefts d

-- how far the check of `bytes` as items of `levels` levels has come, while `depth` structures are
-- open: what is left decides
pub record State (levels : ℕ) (bytes lefts : List ℕ) (depth left : ℕ) (rest : List ℕ) : Type 0 where
  pub room : length lefts ≡ 64
  pub within : depth < levels
  pub sum : left + total lefts depth ≡ length rest
  pub same : are_open (levels - depth) lefts depth left rest ≡ is_some (items_of levels bytes)

-- the bytes are no items
abbrev pub NoItems : List ℕ → Type 0
NoItems b = (levels : ℕ) → is_some (items_of levels b) ≡ false

-- an item of n bytes is at the front, and the rest decides whether the bytes are items
abbrev pub Passes : ℕ → List ℕ → Type 0
Passes n b = (8 ≤ n) × (n ≤ length b) ×
    ((levels : ℕ) → is_some (items_of (suc levels) b) ≡ is_some (items_of (suc levels) (drop n b)))

-- a structure with contents of n bytes is at the front: the contents and the rest decide
abbrev pub Opens : ℕ → List ℕ → Type 0
Opens n b =
    (8 + n ≤ length b)
    × ((levels : ℕ) → is_some
    (items_of (suc levels) b) ≡ (is_some (items_of levels (take n (drop 8 b))) && is_some
    (items_of (suc levels) (drop n (drop 8 b)))))

-- any n bytes, at most 8 and some, are a value of the type with this number
abbrev pub IsWord : ℕ → ℕ → Type 0
IsWord code n = (0 < n) × (n ≤ 8) ×
    ((k : Kind) × (Some k ≡ kind_of code) ×
    ((v : List ℕ) → length v ≡ n → is_some (scalar_at k v) ≡ true))
