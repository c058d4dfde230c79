-- The forms in memory: their content, and how many bytes a planned call moves.
use Rattle.std.specs.Prelude.{◌≡◌, ℕ, ◌+◌, ◌-◌, ◌^◌, ◌%◌, min, max, List, [], ◌∷◌, length, true, slice_index}
use Rattle.kmip_link.specs.State.{LinkState, SourceState, SinkState}

-- bytes that were fed and bytes that were taken, with the planned sizes and the place of the next
-- call's size
pub record MemoryState : Type 0 where
  pub ever : List ℕ
  pub pos : ℕ
  pub sent : List ℕ
  pub sizes : List ℕ
  pub place : ℕ

-- where the size of call number k stands, the first call after the plan being number 0
abbrev pub place_of : List ℕ → ℕ → ℕ
place_of [] k = 0
place_of (size ∷ sizes) k = k % length (size ∷ sizes)

-- the most that call number k moves, of a number that it could; a size of 0 counts as 1
abbrev pub planned_size : List ℕ → ℕ → ℕ → ℕ
planned_size [] k most = most
planned_size (size ∷ sizes) k most =
    min (max 1 (slice_index (size ∷ sizes) (place_of (size ∷ sizes) k))) most

-- The next call is number k since the plan.
abbrev pub IsCallNumber : MemoryState → ℕ → Type 0
IsCallNumber link k = link.place ≡ place_of link.sizes k

-- The next call moves n of the bytes that it could move, as the plan has it.
abbrev pub HasSize : MemoryState → ℕ → ℕ → Type 0
HasSize link most n = (k : ℕ) → IsCallNumber link k → n ≡ planned_size link.sizes k most

-- One call went by, under the same plan.
pub record CountsCall (before after : MemoryState) : Type 0 where
  pub sizes : after.sizes ≡ before.sizes
  pub next : (k : ℕ) → IsCallNumber before k → IsCallNumber after (k + 1)

-- what a link in memory means; it never fails
abbrev pub memory_state : MemoryState → LinkState
memory_state link = record {
  tells = true;
  still = true;
  mark = [];
  ever = link.ever;
  pos = link.pos;
  sent = link.sent;
  faults = 0;
}

-- a link in memory that fails at the calls with these numbers
pub record PlannedState : Type 0 where
  pub link : MemoryState
  pub failing : List ℕ
  -- the number of the next call, from 0 up to the greatest `u64`
  pub number : ℕ
  pub faults : ℕ

-- what it means: the link in memory, with a count of its own
abbrev pub planned_state : PlannedState → LinkState
planned_state it = record (memory_state it.link) { faults = it.faults }

-- a count that stops at its last value, the greatest `u64`
abbrev pub next_count : ℕ → ℕ
next_count n = min (n + 1) (2 ^ 64 - 1)

-- bytes to read, where the calls with these numbers fail
pub record SourceMemory : Type 0 where
  pub ever : List ℕ
  pub pos : ℕ
  pub failing : List ℕ
  pub number : ℕ
  pub faults : ℕ

abbrev pub source_state : SourceMemory → SourceState
source_state it = record { tells = true; ever = it.ever; pos = it.pos; faults = it.faults }

-- bytes that were written, where the calls with these numbers fail
pub record SinkMemory : Type 0 where
  pub sent : List ℕ
  pub failing : List ℕ
  pub number : ℕ
  pub faults : ℕ

abbrev pub sink_state : SinkMemory → SinkState
sink_state it = record { tells = true; sent = it.sent; faults = it.faults }
