-- What the code found at the front of bytes, as contracts see it.
use Rattle.kmip_client.specs.declared.reading.Front.{Front}
use Rattle.kmip_client.specs.Message.{Message}

abbrev pub message_seen : Front → Message
message_seen Front.Ended = Message.Ended
message_seen (Front.Refused error) = Message.Refused error
message_seen (Front.Whole m) = Message.Whole m.now
