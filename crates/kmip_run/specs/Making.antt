-- The exchanges that `make N` makes, each from a number, and their results.
use Rattle.std.specs.Prelude.{◌≡◌, ℕ, zero, suc, ℤ, pos, ◌+◌, ◌*◌, ◌/◌, ◌%◌, ◌^◌, ◌==◌, List, [], ◌∷◌, ◌++◌, drop, replicate, Bool, true, false, None, if◌then◌else◌, codes}
use Rattle.kmip_tags.specs.Tags.{BATCH_COUNT, BATCH_ITEM, DATA, OPERATION, PROTOCOL_VERSION, PROTOCOL_VERSION_MAJOR, PROTOCOL_VERSION_MINOR, RESPONSE_HEADER, RESPONSE_MESSAGE, RESPONSE_PAYLOAD, RESULT_MESSAGE, RESULT_REASON, RESULT_STATUS, TIME_STAMP, UNIQUE_IDENTIFIER}
use Rattle.std.specs.Fmt.{decimal}
use Rattle.kmip_wire.specs.Tree.{Tree, scalar, structure, trees_of, integer, enumeration, text_string, byte_string, date_time}
use Rattle.kmip_wire.specs.Bytes.{bytes}
use Rattle.kmip_enums.specs.Operations.{operation_line}
use Rattle.kmip_enums.specs.ResultStatuses.{result_status_line}
use Rattle.kmip_enums.specs.ResultReasons.{result_reason_line}
use Rattle.kmip_enums.specs.declared.operation.Operation.{Operation}
use Rattle.kmip_enums.specs.declared.operation.Operation.TheVariants as operations
use Rattle.kmip_enums.specs.declared.result_status.ResultStatus.TheVariants as statuses
use Rattle.kmip_enums.specs.declared.result_reason.ResultReason.TheVariants as reasons
use Rattle.kmip_link.specs.Plan.{MemoryState}
use Rattle.kmip_request.specs.Message.{minor_of, operation_of}
use Rattle.kmip_request.specs.declared.payload.RequestPayload.{RequestPayload}
use Rattle.kmip_client.specs.Requests.{query_request, rng_request, activate_request, destroy_request}
use Rattle.kmip_words.specs.Exchange.{Settings, or_empty, Step, step}
use Rattle.kmip_words.specs.declared.call.Call.{Call}
use Rattle.kmip_words.specs.declared.call.Call.TheVariants.{Query, Rng, Activate, Destroy}
use Rattle.kmip_words.specs.declared.call.Recorded.{Recorded}

-- the number after this one, in the sequence from which exchanges are made
unfoldable pub next_of : ℕ → ℕ
next_of x = (6364136223846793005 * x + 1442695040888963407) % 2 ^ 64

-- the version 1 with this minor version (KMIP 1.0, 6.1)
abbrev pub version_tree : ℤ → Tree
version_tree minor =
    structure PROTOCOL_VERSION
    (trees_of (scalar PROTOCOL_VERSION_MAJOR (integer (pos 1))
    ∷ scalar PROTOCOL_VERSION_MINOR (integer minor) ∷ []))

-- the header of a response: its version, the time stamp 1, and the batch count 1 (KMIP 1.0, 7.2)
abbrev pub head_tree : ℤ → Tree
head_tree minor =
    structure RESPONSE_HEADER
    (trees_of (version_tree minor ∷ scalar TIME_STAMP (date_time 1)
    ∷ scalar BATCH_COUNT (integer (pos 1)) ∷ []))

-- a response message, with the fields of its batch item (KMIP 1.0, 7.1)
abbrev pub response_tree : ℤ → List Tree → Tree
response_tree minor fields =
    structure RESPONSE_MESSAGE
    (trees_of (head_tree minor ∷ structure BATCH_ITEM (trees_of fields) ∷ []))

-- the Operation, the first field of a batch item (KMIP 1.0, 6.2)
abbrev pub operation_tree : Operation → Tree
operation_tree operation = scalar OPERATION (enumeration (operation_line operation).number)

-- what follows the Operation where it succeeded: its status, and the payload of these fields
abbrev pub done_trees : List Tree → List Tree
done_trees payload =
    scalar RESULT_STATUS (enumeration (result_status_line statuses.Success).number)
    ∷ structure RESPONSE_PAYLOAD (trees_of payload)
    ∷ []

-- what follows it where the object was not found: status, reason and message
abbrev pub gone_trees : List Tree
gone_trees =
    scalar RESULT_STATUS (enumeration (result_status_line statuses.OperationFailed).number)
    ∷ scalar RESULT_REASON (enumeration (result_reason_line reasons.ItemNotFound).number)
    ∷ scalar RESULT_MESSAGE (text_string (codes "gone"))
    ∷ []

-- a response to a request, of its version and its operation, with the fields that follow the
-- operation
abbrev pub response_to : RequestPayload → List Tree → Tree
response_to request fields =
    response_tree (pos (minor_of request)) (operation_tree (operation_of request) ∷ fields)

-- a call that makes this request, with the canonical bytes of its response
abbrev pub with_tree : Call → RequestPayload → List Tree → Recorded
with_tree call request fields =
    record { call = call; response = or_empty (bytes (response_to request fields)) }

-- the exchange of `rng` with `count` random bytes, each of them `byte`
abbrev pub random_made : ℕ → ℕ → Recorded
random_made count byte =
    with_tree (Rng (pos count)) (rng_request (pos count))
    (done_trees (scalar DATA (byte_string (replicate count byte)) ∷ []))

abbrev pub activated_made : List ℕ → Recorded
activated_made id =
    with_tree (Activate id) (activate_request id)
    (done_trees (scalar UNIQUE_IDENTIFIER (text_string id) ∷ []))

-- the exchange of `query` with a server that has Create and Query
abbrev pub queried_made : Recorded
queried_made =
    with_tree Query query_request
    (done_trees (operation_tree operations.Create ∷ operation_tree operations.Query ∷ []))

abbrev pub destroyed_made : List ℕ → Recorded
destroyed_made id = with_tree (Destroy id) (destroy_request id) gone_trees

-- the exchange of a kind, with arguments made from v and x
abbrev pub kind_made : ℕ → ℕ → ℕ → Recorded
kind_made kind v x =
    if kind == 0 then random_made (v % 64) (x % 256)
    else if kind == 1 then activated_made (decimal (v % 1000))
    else if kind == 2 then queried_made
    else destroyed_made (decimal (v % 1000))

-- the exchange that is made from a number
unfoldable pub made_of : ℕ → Recorded
made_of x = kind_made (x / 2 ^ 32 % 4) (x / 2 ^ 34) x

-- the results of exchanges: the bytes that are fed and sent, how many bytes are taken, and how many
-- answers are payloads and how many errors
pub record Counts : Type 0 where
  pub fed : List ℕ
  pub sent : List ℕ
  pub taken : ℕ
  pub ok : ℕ
  pub errors : ℕ

abbrev pub no_counts : Counts
no_counts = record { fed = []; sent = []; taken = 0; ok = 0; errors = 0 }

-- 1 for an answer that is a payload, and below for one that is an error
abbrev pub one_ok : Bool → ℕ
one_ok true = 0
one_ok false = 1

abbrev pub one_error : Bool → ℕ
one_error true = 1
one_error false = 0

-- an exchange that is fed this response, and the later ones
abbrev pub then_made : List ℕ → Step → Counts → Counts
then_made fed s later = record {
  fed = fed ++ later.fed;
  sent = s.sent ++ later.sent;
  taken = s.taken + later.taken;
  ok = one_ok s.failed + later.ok;
  errors = one_error s.failed + later.errors;
}

-- `count` exchanges, the first made from the number after x, with these bytes left before it
unfoldable pub counts_after : Settings → ℕ → ℕ → List ℕ → Counts
counts_after settings zero x rest = no_counts
counts_after settings (suc count) x rest =
    let it : Recorded = made_of (next_of x) in
    let s : Step = step settings it.call (rest ++ it.response) in
    then_made it.response s
    (counts_after settings count (next_of x) (drop s.taken (rest ++ it.response)))

-- what an exchange did to the link, and how many bytes it took
pub record MakesCall (s : Step) (fed : List ℕ) (before after : MemoryState) (failed : Bool)
    (taken : ℕ) : Type 0 where
  pub failed_is : failed ≡ s.failed
  pub taken_is : taken ≡ s.taken
  pub ever : after.ever ≡ before.ever ++ fed
  pub sent : after.sent ≡ before.sent ++ s.sent
  pub pos : after.pos ≡ before.pos + s.taken
  pub left : drop after.pos after.ever ≡ drop s.taken (drop before.pos before.ever ++ fed)

-- what exchanges did to the link, and what was counted
pub record Makes (c : Counts) (before after : MemoryState) (ok errors taken : ℕ) : Type 0 where
  pub ok_is : ok ≡ c.ok
  pub errors_is : errors ≡ c.errors
  pub taken_is : taken ≡ c.taken
  pub ever : after.ever ≡ before.ever ++ c.fed
  pub sent : after.sent ≡ before.sent ++ c.sent
  pub pos : after.pos ≡ before.pos + c.taken

-- no credential, no limit and no diagnostics
abbrev pub made_settings : Settings
made_settings = record { credential = None; limit = None; buffered = false }

-- the five lines: how many exchanges, how many answers that are payloads and that are errors, and
-- how many bytes sent and taken
abbrev pub made_text : ℕ → ℕ → ℕ → ℕ → ℕ → List ℕ
made_text count ok errors sent taken =
    codes "exchanges "
    ++ (decimal count ++ (codes "\nok " ++ (decimal ok ++ (codes "\nerrors " ++ (decimal errors
    ++ (codes "\nsent "
    ++ (decimal sent ++ (codes "\ntaken " ++ (decimal taken ++ codes "\n")))))))))
