-- Calls of any operation as C makes them: a name, a version, a Unique Batch Item ID and a payload of
-- bytes.
use Rattle.std.specs.Prelude.{◌≡◌, ℕ, ℤ, pos, Bool, true, false, List, Option, Some, None}
use Rattle.std.specs.Str.{IsUtf8}
use Rattle.kmip_client.specs.Operation.{TreeRequest, operation_bytes}
use Rattle.kmip_words.specs.Exchange.{Settings}
use Rattle.kmip_operations.specs.Calls.{Asks}
use Rattle.kmip_operations.specs.Answers.{operation_json_line, operation_ending}
use Rattle.kmip_operations.specs.JsonLines.{IsTextLine}
use Rattle.kmip_plain.specs.declared.payload.PayloadForm.{PayloadForm}
use Rattle.kmip_plain.specs.declared.payload.PayloadForm.TheVariants.{Plain, Tree}
use Rattle.kmip_c.specs.Calls.{id_of, no_settings, status_of}
use Rattle.kmip_exports.specs.Exports.{IsReported}
use Rattle.kmip_c.specs.Codes.{grammar, no_value, no_form}

-- how a payload is written
abbrev pub form_of : Bool → PayloadForm
form_of true = Plain
form_of false = Tree

-- the name, the version and the payload are texts, and ask with this ID for this call
pub record AsksInBytes (name version id payload : List ℕ) (request : TreeRequest) : Type 0 where
  pub name_utf8 : IsUtf8 name
  pub version_utf8 : IsUtf8 version
  pub payload_utf8 : IsUtf8 payload
  pub asks : Asks name version (id_of id) payload request

-- they ask for no call, whatever the ID is
abbrev pub AsksForNone : List ℕ → List ℕ → List ℕ → Type 0
AsksForNone name version payload =
    (id : List ℕ) (request : TreeRequest) → AsksInBytes name version id payload request → ⊥

-- what C gets for a request, memory aside: its bytes, or that it has no wire form, or that what was
-- given is not of the grammar
pub data IsOperationRequested (settings : Option Settings) (name version id payload before : List ℕ)
    (result : ℤ) (after : List ℕ) : Type 0 where
  asked : (s : Settings) → settings ≡ Some s →
      (request : TreeRequest) → AsksInBytes name version id payload request →
      IsReported (operation_bytes request s.credential) no_form before result after →
      IsOperationRequested settings name version id payload before result after
  no_credential : settings ≡ None → (result ≡ grammar) × (after ≡ before) →
      IsOperationRequested settings name version id payload before result after
  no_call : AsksForNone name version payload → (result ≡ grammar) × (after ≡ before) →
      IsOperationRequested settings name version id payload before result after

-- what C gets for a response, memory aside: how the call ended, and the line of its answer, which is
-- a text of JSON in UTF-8 and a line feed; or that what was given is not of the grammar
pub data IsOperationAnswered (name version id payload response : List ℕ) (plain : Bool)
    (status : ℤ) (before : List ℕ) (length : ℤ) (after : List ℕ) : Type 0 where
  answered : (request : TreeRequest) → AsksInBytes name version id payload request →
      status ≡ status_of (operation_ending no_settings request response) →
      IsTextLine (operation_json_line (form_of plain) no_settings request response) →
      IsReported (Some (operation_json_line (form_of plain) no_settings request response)) (pos 0) before length after →
      IsOperationAnswered name version id payload response plain status before length after
  no_call : AsksForNone name version payload → status ≡ pos 2 →
      IsReported None (pos 0) before length after →
      IsOperationAnswered name version id payload response plain status before length after

-- what C gets for the reason why there is no call, memory aside: a text; or that there is a call,
-- with whatever ID
pub data IsOperationRefused (name version payload before : List ℕ) (result : ℤ) (after : List ℕ) :
    Type 0 where
  asked : ((id : List ℕ) → (request : TreeRequest) × AsksInBytes name version id payload request) →
      (result ≡ no_value) × (after ≡ before) →
      IsOperationRefused name version payload before result after
  refused : AsksForNone name version payload → (why : List ℕ) →
      IsReported (Some why) no_value before result after →
      IsOperationRefused name version payload before result after
