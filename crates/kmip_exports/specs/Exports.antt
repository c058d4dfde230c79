-- What callers of exported functions get: lengths as `snprintf` returns them, and a number below
-- zero in place of one.
use Rattle.std.specs.Prelude.{◌≡◌, ℕ, ℤ, pos, negsuc, List, ◌++◌, drop, Option, Some, None, nat_le, length, if◌then◌else◌}

-- the room after bytes were written to its front: all of them where they fit, and else none
abbrev pub room_with : List ℕ → List ℕ → List ℕ
room_with bytes room =
    if nat_le (length bytes) (length room) then bytes ++ drop (length bytes) room else room

-- the codes -3 and -5
abbrev pub not_a_message : ℤ
not_a_message = negsuc 2

abbrev pub memory : ℤ
memory = negsuc 4

-- the whole length is returned, and the bytes are written where they fit
abbrev pub IsShown : List ℕ → List ℕ → ℤ → List ℕ → Type 0
IsShown bytes before result after = (result ≡ pos (length bytes)) × (after ≡ room_with bytes before)

-- the same for bytes that may be missing: then this code is returned, and nothing is written
abbrev pub IsReported : Option (List ℕ) → ℤ → List ℕ → ℤ → List ℕ → Type 0
IsReported (Some bytes) code before result after = IsShown bytes before result after
IsReported None code before result after = (result ≡ code) × (after ≡ before)
