-- The two captured streams of a script.
use Rattle.std.specs.Prelude.{ℕ, List, [], ◌∷◌, Option, Some, None, if◌then◌else◌}
use Rattle.std.specs.Option.{option_map}
use Rattle.std.specs.Str.{is_utf8}
use Rattle.kmip_words.specs.Values.{bytes_of}
use Rattle.kmip_run.specs.declared.auditing.Captured.{Captured}
use Rattle.kmip_run.specs.declared.auditing.Captured.TheVariants.{Streams, Bad}

-- the bytes of a line that is one word in hex
unfoldable pub stream_of : List ℕ → Option (List ℕ)
stream_of line = if is_utf8 line then bytes_of line else None

-- the bytes of the first line, and the lines after it
abbrev pub next_stream : List (List ℕ) → Option (List ℕ × List (List ℕ))
next_stream [] = None
next_stream (line ∷ lines) = option_map (λ stream. (stream, lines)) (stream_of line)

-- no third line may follow
abbrev pub both_streams : List ℕ → List ℕ → List (List ℕ) → Captured
both_streams sent received [] = Streams sent received
both_streams sent received (line ∷ lines) = Bad 3

abbrev pub after_sent : List ℕ → Option (List ℕ × List (List ℕ)) → Captured
after_sent sent None = Bad 2
after_sent sent (Some next) = both_streams sent next.0 next.1

abbrev pub from_first : Option (List ℕ × List (List ℕ)) → Captured
from_first None = Bad 1
from_first (Some next) = after_sent next.0 (next_stream next.1)

-- the streams of exactly two lines, each one word in hex; or the number of the first line that is
-- none, is missing, or is the third
abbrev pub captured_in : List (List ℕ) → Captured
captured_in lines = from_first (next_stream lines)

-- there are two streams
abbrev pub AreStreams : Captured → Type 0
AreStreams (Streams sent received) = Unit {0}
AreStreams (Bad number) = ⊥
