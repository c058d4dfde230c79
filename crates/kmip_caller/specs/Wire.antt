-- What is read for one message.
use Rattle.std.specs.Prelude.{◌≡◌, ℕ, List, length, take, Option, None, if◌then◌else◌, nat_lt}
use Rattle.std.specs.Result.{result_ok}
use Rattle.kmip_wire.specs.Heads.{head_says}
use Rattle.kmip_client.specs.Message.{message_at, taken_for}

-- how many of the bytes left are taken for the message at their front, under a limit on its length
abbrev pub taken_at : List ℕ → Option ℕ → ℕ
taken_at rest limit = taken_for rest (message_at rest limit)

-- how many bytes of contents a head says, where all of it is there and it is not refused
abbrev pub contents_of : List ℕ → Option ℕ → Option ℕ
contents_of bytes limit =
    if nat_lt (length bytes) 8 then None else result_ok (head_says (take 8 bytes) limit)

-- The bytes are at most one message: all of them are taken for it.
abbrev pub IsOneAtMost : Option ℕ → List ℕ → Type 0
IsOneAtMost limit bytes = taken_at bytes limit ≡ length bytes
