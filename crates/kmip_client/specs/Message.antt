-- What stands at the front of the bytes that are left: a message is a head and the contents that it
-- says (KMIP 1.0, 9.1.1).
use Rattle.std.specs.Prelude.{◌≡◌, ℕ, ◌+◌, ◌≤◌, List, length, take, Option, if◌then◌else◌, nat_lt, Result, Ok, Err}
use Rattle.kmip_wire.specs.Heads.{head_says}
use Rattle.kmip_wire.specs.declared.error.HeadError.{HeadError}
use Rattle.kmip_link.specs.State.{LinkState, left}
use Rattle.kmip_client.specs.Transfer.{Takes}
use Rattle.kmip_client.specs.declared.message.MessageStop.{MessageStop}

pub data Message : Type 0 where
  -- too few bytes for a head, or for the contents that the head says
  Ended : Message
  -- the head is not that of a structure, or announces more than the limit
  Refused : HeadError → Message
  -- these bytes are a head and the contents that it says
  Whole : List ℕ → Message

-- the message that an accepted head begins, which announces n bytes of contents
abbrev pub message_by : Result ℕ HeadError → List ℕ → Message
message_by (Err error) rest = Refused error
message_by (Ok n) rest = if nat_lt (length rest) (n + 8) then Ended else Whole (take (n + 8) rest)

-- the message at the front of the bytes, under a limit on its length
unfoldable pub message_at : List ℕ → Option ℕ → Message
message_at rest limit =
    if nat_lt (length rest) 8 then Ended else message_by (head_says (take 8 rest) limit) rest

-- how many bytes are taken for it
abbrev pub taken_for : List ℕ → Message → ℕ
taken_for rest Ended = length rest
taken_for rest (Refused error) = 8
taken_for rest (Whole m) = length m

-- a reading took the bytes of this message, which stands at the front of the bytes left
pub record Comes (before after : LinkState) (limit : Option ℕ) (taken : List ℕ)
    (here : Message) : Type 0 where
  pub front : message_at (left before) limit ≡ here
  pub takes : Takes before after (taken_for (left before) here)
  pub bytes : taken ≡ take (taken_for (left before) here) (left before)

-- a reading stopped after n bytes, at most those that would be taken
pub record StopsWithin (before after : LinkState) (limit : Option ℕ) (n : ℕ) : Type 0 where
  pub within : n ≤ taken_for (left before) (message_at (left before) limit)
  pub takes : Takes before after n

-- what was read of a message, by the answer of the reading
abbrev pub ReadsMessage : LinkState → LinkState → Option ℕ → List ℕ →
    Result (Unit {0}) MessageStop → Type 0
ReadsMessage before after limit taken (Ok _) = Comes before after limit taken (Whole taken)
ReadsMessage before after limit taken (Err MessageStop.Ended) = Comes before after limit taken Ended
ReadsMessage before after limit taken (Err (MessageStop.Refused error)) =
    Comes before after limit taken (Refused error)
ReadsMessage before after limit taken (Err MessageStop.Fault) =
    (n : ℕ) × StopsWithin before after limit n × (taken ≡ take n (left before))
ReadsMessage before after limit taken (Err MessageStop.OutOfMemory) =
    (n : ℕ) × StopsWithin before after limit n

-- what the bytes that were read are, over any link
abbrev pub IsRead : Option ℕ → List ℕ → Result (Unit {0}) MessageStop → Type 0
IsRead limit taken (Ok _) = message_at taken limit ≡ Whole taken
IsRead limit taken (Err (MessageStop.Refused error)) = message_at taken limit ≡ Refused error
IsRead limit taken (Err stop) = Unit {0}
