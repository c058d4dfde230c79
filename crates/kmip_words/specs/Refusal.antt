-- What is shown of a response to which the client returns an error: where it reports failure, the
-- server's reason and text (KMIP 1.0, 6.9 to 6.11); and beside an `InternalError` its skeleton.
use Rattle.std.specs.Prelude.{ℕ, List, [], ◌++◌, ◌==◌, Option, Some, None, if◌then◌else◌, codes}
use Rattle.std.specs.Option.{option_and_then}
use Rattle.std.specs.List.{find}
use Rattle.std.specs.Fmt.{decimal}
use Rattle.kmip_wire.specs.Tree.{Tree}
use Rattle.kmip_wire.specs.Parts.{tag_of, children_in, enumeration_in, text_in}
use Rattle.kmip_wire.specs.Reading.{item_of}
use Rattle.kmip_tags.specs.Tags.{BATCH_ITEM, RESULT_STATUS, RESULT_REASON, RESULT_MESSAGE}
use Rattle.kmip_diag.specs.Diagnostic.{diagnostic}
use Rattle.kmip_shape.specs.Enumerations.{variant_at}
use Rattle.kmip_shape.specs.Shown.{text_in_style}
use Rattle.kmip_shape.specs.declared.style.Style.TheVariants.{Json}
use Rattle.kmip_enums.specs.ResultReasons.{result_reason_line, result_reason_variants}
use Rattle.kmip_enums.specs.declared.result_reason.ResultReason.{ResultReason}
use Rattle.kmip_client.specs.declared.error.Error.{Error}
use Rattle.kmip_client.specs.declared.error.Error.TheVariants.{ServerError, InternalError, ItemNotFound}
use Rattle.kmip_words.specs.Exchange.{error_line}

-- the first item with the tag in a structure
abbrev pub item_with : ℕ → Tree → Option Tree
item_with tag tree = option_and_then (find (λ item. tag_of item == tag)) (children_in tree)

-- the batch item, where its status is the enumeration's number 1, Operation Failed
abbrev pub if_failed : Option ℕ → Tree → Option Tree
if_failed (Some status) item = if status == 1 then Some item else None
if_failed None item = None

-- the first batch item of a response, where it reports failure
abbrev pub failed_item : List ℕ → Option Tree
failed_item response =
    option_and_then
    (λ item. if_failed (option_and_then enumeration_in (item_with RESULT_STATUS item)) item)
    (option_and_then (item_with BATCH_ITEM) (item_of 64 response))

-- the number of the server's reason, and the server's text
abbrev pub reason_of : List ℕ → Option ℕ
reason_of response =
    option_and_then (λ item. option_and_then enumeration_in (item_with RESULT_REASON item))
    (failed_item response)

abbrev pub message_of : List ℕ → Option (List ℕ)
message_of response =
    option_and_then (λ item. option_and_then text_in (item_with RESULT_MESSAGE item))
    (failed_item response)

-- the name of a reason of the table (KMIP 1.0, 9.1.3.2.28), as a member before another
abbrev pub reason_name : Option ResultReason → List ℕ
reason_name (Some reason) =
    codes "\"name\":" ++ (text_in_style (result_reason_line reason).name Json ++ codes ",")
reason_name None = []

-- a reason by its number: `{"name":"ItemNotFound","number":1}`; without the name where the number
-- is in no table
abbrev pub reason_object : ℕ → List ℕ
reason_object number =
    codes "{" ++ (reason_name (variant_at result_reason_line result_reason_variants number)
    ++ (codes "\"number\":" ++ (decimal number ++ codes "}")))

abbrev pub reason_member : Option ℕ → List ℕ
reason_member (Some reason) = codes ",\"reason\":" ++ reason_object reason
reason_member None = []

abbrev pub message_member : Option (List ℕ) → List ℕ
message_member (Some message) = codes ",\"message\":" ++ text_in_style message Json
message_member None = []

-- what the server says of a failure, as members after others:
-- `,"reason":{"name":"ItemNotFound","number":1},"message":".."`
abbrev pub failure_members : List ℕ → List ℕ
failure_members response =
    reason_member (reason_of response) ++ message_member (message_of response)

-- what stands beside an `InternalError` in its line of JSON: `,"response":".."`, and the same
abbrev pub refusal_members : List ℕ → List ℕ
refusal_members response =
    (codes ",\"response\":" ++ text_in_style (diagnostic (Some 0x4200) response) Json)
    ++ failure_members response

-- the line of JSON of an `InternalError` with this text, in which the response is shown
abbrev pub internal_error_line : List ℕ → List ℕ → List ℕ
internal_error_line text response =
    (codes "{\"error\":\"InternalError\",\"text\":" ++ text_in_style text Json)
    ++ (refusal_members response ++ codes "}\n")

-- the line of JSON of an error with this front and text, with what the server says of the failure
abbrev pub refused_line : List ℕ → List ℕ → List ℕ → List ℕ
refused_line front text response =
    (front ++ text_in_style text Json) ++ (failure_members response ++ codes "}\n")

-- the line of JSON of an error, where this is the response that was read
abbrev pub failure_line : Error → List ℕ → List ℕ
failure_line (InternalError text) response = internal_error_line text response
failure_line (ServerError text) response =
    refused_line (codes "{\"error\":\"ServerError\",\"text\":") text response
failure_line (ItemNotFound text) response =
    refused_line (codes "{\"error\":\"ItemNotFound\",\"text\":") text response
failure_line error response = error_line error Json
