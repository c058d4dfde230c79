-- The length in a message's head, under a limit on the whole message.
use Rattle.std.specs.Prelude.{ℕ, ◌+◌, ◌==◌, nat_lt, List, Option, Some, None, Result, Ok, Err, if◌then◌else◌}
use Rattle.kmip_wire.specs.declared.error.HeadError.{HeadError}
use Rattle.kmip_wire.specs.declared.error.HeadError.TheVariants.{NotStructure, TooLong}
use Rattle.kmip_wire.specs.Head.{head_code, head_length}

-- the length, if the whole message, head included, is within the limit
abbrev pub within : ℕ → Option ℕ → Result ℕ HeadError
within n None = Ok n
within n (Some limit) = if nat_lt limit (n + 8) then Err (TooLong (n + 8) limit) else Ok n

abbrev pub head_says : List ℕ → Option ℕ → Result ℕ HeadError
head_says b limit = if head_code b == 1 then within (head_length b) limit else Err NotStructure
