-- Why a reading of a message stopped, from why a part of it stopped.
use Rattle.std.specs.Prelude.{ℕ, Result, Ok, Err}
use Rattle.kmip_wire.specs.declared.error.HeadError.{HeadError}
use Rattle.kmip_client.specs.declared.transfer.ReadStop.{ReadStop}
use Rattle.kmip_client.specs.declared.message.MessageStop.{MessageStop}

-- the bytes stopped
abbrev pub message_stop_of : ReadStop → MessageStop
message_stop_of ReadStop.Ended = MessageStop.Ended
message_stop_of ReadStop.Fault = MessageStop.Fault
message_stop_of ReadStop.OutOfMemory = MessageStop.OutOfMemory

-- the head stopped it
abbrev pub head_stop_of : Result ℕ HeadError → Result ℕ MessageStop
head_stop_of (Ok n) = Ok n
head_stop_of (Err error) = Err (MessageStop.Refused error)
