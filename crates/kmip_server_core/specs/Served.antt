-- What a server returns for bytes, and what it asks its maker for that.
use Rattle.std.specs.Prelude.{ℕ, ℤ, List, Option, Some, None, if◌then◌else◌}
use Rattle.kmip_enums.specs.declared.operation.Operation.{Operation}
use Rattle.kmip_response.specs.declared.batch_item.BatchItem.{BatchItem}
use Rattle.kmip_response.specs.declared.message.ResponseMessage.{ResponseMessage}
use Rattle.kmip_request_read.specs.Reading.{Request, request_read}
use Rattle.kmip_store.specs.Steps.{step, question}
use Rattle.kmip_store.specs.declared.call.Call.{Call}
use Rattle.kmip_store.specs.declared.maker.Asked.{Asked}
use Rattle.kmip_store.specs.declared.maker.Made.{Made}
use Rattle.kmip_store.specs.declared.object.Object.{Object}
use Rattle.kmip_server_core.specs.Requests.{is_served, call_of}
use Rattle.kmip_server_core.specs.Items.{item_for, invalid_item, unsupported_item, unhelped_item, message_with}

-- the objects after a request, and the response to it
pub record Served : Type 0 where
  pub objects : List Object
  pub message : ResponseMessage

-- a step of the object map, and the message that reports it
unfoldable pub served_call : List Object → Call → Option Made → ℤ → Served
served_call objects call made time =
    let s = step objects call made in
    record { objects = s.objects; message = message_with time (item_for call s.answer) }

-- a refusal, which changes nothing
abbrev pub refused_with : List Object → ℤ → BatchItem → Served
refused_with objects time item = record { objects = objects; message = message_with time item }

abbrev pub served_known : List Object → Operation → Option Call → Option Made → ℤ → Served
served_known objects operation None made time =
    refused_with objects time (unhelped_item operation)
served_known objects operation (Some call) made time = served_call objects call made time

abbrev pub served_request : List Object → Option Request → Option Made → ℤ → Served
served_request objects None made time = refused_with objects time invalid_item
served_request objects (Some request) made time =
    if is_served request.operation
    then served_known objects request.operation (call_of request) made time
    else refused_with objects time (unsupported_item request.operation)

-- The objects after these bytes, and the response to them, given the maker's answer where it is
-- asked.
unfoldable pub served : List Object → List ℕ → Option Made → ℤ → Served
served objects b made time = served_request objects (request_read b) made time

abbrev pub asks_known : List Object → Option Call → Option Asked
asks_known objects None = None
asks_known objects (Some call) = question objects call

abbrev pub asks_request : List Object → Option Request → Option Asked
asks_request objects None = None
asks_request objects (Some request) =
    if is_served request.operation then asks_known objects (call_of request) else None

-- what the maker is asked for these bytes
unfoldable pub asks : List Object → List ℕ → Option Asked
asks objects b = asks_request objects (request_read b)
