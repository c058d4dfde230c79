-- A buffer's bytes, and how many more it takes.
use Rattle.std.specs.Prelude.{ℕ, ◌+◌, ◌≤◌, List, ◌++◌, ◌≡◌, length, Option, Some, None}

pub record Room : Type 0 where
  pub bytes : List ℕ
  pub spare : ℕ

-- the text of that size was appended into the spare room
pub record Appends (old : Room) (new : Room) (text : List ℕ) (size : ℕ) : Type 0 where
  pub bytes : new.bytes ≡ old.bytes ++ text
  pub spare : new.spare + size ≡ old.spare

-- there is a text, and room for it
abbrev pub HasRoom : Option (List ℕ) → ℕ → Type 0
HasRoom None spare = ⊥
HasRoom (Some b) spare = length b ≤ spare

-- the text was appended, where there is one
abbrev pub Puts : Option (List ℕ) → Room → Room → Type 0
Puts None old new = Unit {0}
Puts (Some b) old new = Appends old new b (length b)
