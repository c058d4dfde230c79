-- The messages in bytes that were sent one after the other.
use Rattle.std.specs.Prelude.{◌≡◌, ℕ, ◌+◌, ◌<◌, ◌≤◌, ◌==◌, ◌&&◌, nat_le, Bool, true, false, List, [], ◌∷◌, ◌++◌, length, take, fold, if◌then◌else◌}
use Rattle.kmip_wire.specs.Head.{head_length}

-- whether bytes are a head and as many more as its length says, whatever its type (KMIP 1.0, 9.1.1)
unfoldable pub is_message : List ℕ → Bool
is_message b = nat_le 8 (length b) && (length b == 8 + head_length b)

-- the bytes are a head and as many more as its length says
pub record IsMessage (b : List ℕ) : Type 0 where
  pub head : 8 ≤ length b
  pub size : length b ≡ 8 + head_length b

-- bytes that were sent, as whole messages and the begun one
pub record Split : Type 0 where
  pub whole : List (List ℕ)
  pub begun : List ℕ

-- one byte more
abbrev pub took : Split → ℕ → Split
took messages_in byte =
    if is_message (messages_in.begun ++ byte ∷ [])
    then record {
      whole = messages_in.whole ++ (messages_in.begun ++ byte ∷ []) ∷ [];
      begun = [];
    }
    else record { whole = messages_in.whole; begun = messages_in.begun ++ byte ∷ [] }

abbrev pub nothing_sent : Split
nothing_sent = record { whole = []; begun = [] }

unfoldable pub messages_in : List ℕ → Split
messages_in sent = fold took nothing_sent sent

-- the next bytes go to the begun message, up to its end
pub record CutsMessage (begun bytes message : List ℕ) (whole : Bool) : Type 0 where
  pub n : ℕ
  pub within : n ≤ length bytes
  pub some : 0 < length bytes → 0 < n
  pub is : message ≡ begun ++ take n bytes
  pub split_is : (w : List (List ℕ)) →
      fold took (record { whole = w; begun = begun }) (take n bytes) ≡
      (if whole then record { whole = w ++ message ∷ []; begun = [] }
      else record { whole = w; begun = message })
  pub ends : whole ≡ true → (0 < n) × (is_message message ≡ true)
  pub all : whole ≡ false → n ≡ length bytes
