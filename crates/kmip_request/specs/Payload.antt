-- The words of the traits of items, said of a payload: its canonical bytes under a tag.
use Rattle.std.specs.Prelude.{ℕ, Option}
use Rattle.kmip_wire.specs.Room.{Room, Appends}
use Rattle.kmip_shape.specs.Writes.{HasForm, size_of, text_of, wire_len_of}
use Rattle.kmip_request.specs.declared.payload.RequestPayload.{RequestPayload}
use Rattle.kmip_request.specs.Tables.{request_payload}
use Rattle.kmip_request.specs.Values.{request_payload_val}

-- their length, where there are such bytes
abbrev pub payload_len : RequestPayload → Option ℕ
payload_len payload = wire_len_of request_payload (request_payload_val payload)

-- there are such bytes
abbrev pub HasPayloadForm : RequestPayload → Type 0
HasPayloadForm payload = HasForm request_payload (request_payload_val payload)

-- their length, where it is known that there are such bytes
abbrev pub payload_size : RequestPayload → ℕ
payload_size payload = size_of request_payload (request_payload_val payload)

-- they were appended to a buffer
abbrev pub IsAppended : RequestPayload → ℕ → Room → Room → Type 0
IsAppended payload tag before after =
    Appends before after (text_of request_payload tag (request_payload_val payload))
    (payload_size payload)
