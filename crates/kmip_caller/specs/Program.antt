-- What the program does with the words of a call, and how it ends.
use Rattle.std.specs.Prelude.{◌≡◌, ◌⊎◌, ℕ, List, ◌++◌, Bool, true, false, Option, IsTrue}
use Rattle.kmip_link.specs.State.{SourceState, SinkState, FaultCountRose}
use Rattle.kmip_words.specs.Streams.{WrotePart}
use Rattle.kmip_words.specs.declared.ending.Ending.{Ending}
use Rattle.kmip_words.specs.declared.ending.Ending.TheVariants.{Answered, Refused, Lost}
use Rattle.kmip_caller.specs.Record.{words_kept, record_with}
use Rattle.kmip_caller.specs.Refusal.{IsRefusalWritten}
use Rattle.kmip_caller.specs.Exchange.{Exchange, Carried, CarriedPart}
use Rattle.kmip_caller.specs.Asked.{AsksFor, AsksForNone}
use Rattle.kmip_caller.specs.declared.command.Order.{Order}
use Rattle.kmip_caller.specs.declared.program.Status.{Status}
use Rattle.kmip_caller.specs.declared.program.Status.TheVariants.{Ended, NoCall, NotWritten, OutOfMemory}

-- the exit status
abbrev pub code_of : Status → ℕ
code_of (Ended Answered) = 0
code_of (Ended Refused) = 1
code_of NoCall = 2
code_of (Ended Lost) = 3
code_of NotWritten = 4
code_of OutOfMemory = 5

-- whether the record and the answer were written
abbrev pub is_ended : Status → Bool
is_ended (Ended ending) = true
is_ended status = false

-- What the order asks for was carried, with this line for its answer.
pub record Makes (order : Order) (w0 w1 : SinkState) (s0 s1 : SourceState)
    (response : Option (List ℕ)) (line : List ℕ) (ending : Ending) : Type 0 where
  pub exchange : Exchange
  pub asks : AsksFor order exchange
  pub carried : Carried order.settings.limit exchange w0 w1 s0 s1 response line ending

-- what the program reads from and writes to: the wire and the source of a call, and the sinks of
-- its record and of its answer
pub record Streams : Type 0 where
  pub wire : SinkState
  pub source : SourceState
  pub kept : SinkState
  pub errors : SinkState

abbrev pub streams : SinkState → SourceState → SinkState → SinkState → Streams
streams wire source kept errors =
    record { wire = wire; source = source; kept = kept; errors = errors }

-- No call is made, and the answer says why.
pub record Refuses (order : Order) (before after : Streams) (status : Status) : Type 0 where
  pub status_is : (status ≡ NoCall) ⊎ (status ≡ OutOfMemory)
  -- nothing is sent, read or recorded
  pub wire : after.wire ≡ before.wire
  pub source : after.source ≡ before.source
  pub kept : after.kept ≡ before.kept
  -- a refusal is written, unless its sink failed or memory ran out, and at most that
  pub errors : IsRefusalWritten order (status ≡ NoCall) before.errors after.errors

-- The record of a call, which is this entry, and this line of its answer were written.
pub record Reports (entry line : List ℕ) (ending : Ending) (f0 f1 k0 k1 : SinkState)
    (status : Status) : Type 0 where
  pub status_is : (status ≡ Ended ending) ⊎ ((status ≡ NotWritten) ⊎ (status ≡ OutOfMemory))
  -- record: whole, or a first part of it
  pub recorded : IsTrue (is_ended status) → IsTrue f0.tells → f1.sent ≡ f0.sent ++ entry
  pub recorded_part : IsTrue f0.tells → WrotePart f0 f1 entry
  -- answer: whole, or a first part of it
  pub written : IsTrue (is_ended status) → IsTrue k0.tells → k1.sent ≡ k0.sent ++ line
  pub written_part : IsTrue k0.tells → WrotePart k0 k1 line
  -- an answer is not lost with its record
  pub still_written : status ≡ NotWritten → IsTrue k0.tells →
      (FaultCountRose k0.faults k1.faults → ⊥) → k1.sent ≡ k0.sent ++ line
  -- one of the two sinks failed
  pub cause : status ≡ NotWritten → FaultCountRose f0.faults f1.faults ⊎ FaultCountRose k0.faults k1.faults

-- what is recorded of a call with this response, where a file for it is given
abbrev pub record_of : Order → Exchange → Option (List ℕ) → List ℕ
record_of order exchange response =
    record_with (words_kept order.file order.words exchange.without_credential) response

-- The call was made, and reported.
pub record Made (order : Order) (exchange : Exchange) (before after : Streams) (status : Status) : Type 0 where
  pub response : Option (List ℕ)
  pub line : List ℕ
  pub ending : Ending
  pub carried : Carried order.settings.limit exchange before.wire after.wire before.source after.source
      response line ending
  pub reports : Reports (record_of order exchange response) line ending before.kept after.kept
      before.errors after.errors status

-- Memory ran out before the call had an answer: it was carried in part, and nothing was written.
pub record BrokenOff (limit : Option ℕ) (exchange : Exchange) (before after : Streams)
    (status : Status) : Type 0 where
  pub status_is : status ≡ OutOfMemory
  pub carried : CarriedPart limit exchange before.wire after.wire before.source after.source
  pub kept : after.kept ≡ before.kept
  pub errors : after.errors ≡ before.errors

-- What the program did with an order: it refused it, where that asks for nothing, or else made the
-- call or broke it off.
pub record Runs (order : Order) (before after : Streams) (status : Status) : Type 0 where
  pub refuses : AsksForNone order → Refuses order before after status
  pub makes : (exchange : Exchange) → AsksFor order exchange →
      Made order exchange before after status
      ⊎ BrokenOff order.settings.limit exchange before after status
