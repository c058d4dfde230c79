-- Calls as C makes them: words, an ID and a credential of bytes.
use Rattle.std.specs.Prelude.{◌≡◌, ◌==◌, ℕ, ℤ, pos, Bool, true, false, ◌&&◌, List, length, Option, Some, None, IsSome, if◌then◌else◌}
use Rattle.std.specs.Str.{is_utf8}
use Rattle.kmip_client.specs.Client.{credential_for}
use Rattle.kmip_words.specs.Exchange.{Settings}
use Rattle.kmip_words.specs.declared.ending.Ending.{Ending}
use Rattle.kmip_words.specs.declared.ending.Ending.TheVariants.{Answered, Refused, Lost}
use Rattle.kmip_operations.specs.JsonLines.{IsTextLine}
use Rattle.kmip_calls.specs.Answers.{request_asked, line_of, ending_of}
use Rattle.kmip_calls.specs.Calls.{Asked, call_of, Refuses}
use Rattle.kmip_calls.specs.Values.{value_in}
use Rattle.kmip_calls.specs.declared.written.Word.{Word}
use Rattle.kmip_exports.specs.Exports.{IsReported}
use Rattle.kmip_c.specs.declared.call.Credential.{Credential}
use Rattle.kmip_c.specs.Codes.{grammar, no_form, no_value}

-- the Unique Batch Item ID of a request (KMIP 1.0, 6.4), where none is no bytes
abbrev pub id_of : List ℕ → Option (List ℕ)
id_of id = if length id == 0 then None else Some id

-- the settings of calls with no credential, and no limit: the limit was already applied to the head
-- of the response
abbrev pub no_settings : Settings
no_settings = record { credential = None; limit = None; buffered = false }

-- the settings of calls, by whether they carry a credential; none where they do, and the user name
-- or the password is no UTF-8
abbrev pub settings_of : Bool → List ℕ → List ℕ → Option Settings
settings_of false user password = Some no_settings
settings_of true user password =
    if is_utf8 user && is_utf8 password
    then Some (record {
      credential = credential_for (Some user) (Some password);
      limit = None;
      buffered = false;
    })
    else None

-- the settings of calls that carry this credential
abbrev pub settings_with : Credential → Settings
settings_with credential = record {
  credential = credential_for credential.user credential.password;
  limit = None;
  buffered = false;
}

-- what C gets for a request, memory aside: its bytes, or that it has no wire form, or that the words
-- are no call or the credential is no text
abbrev pub IsRequested : Option Settings → Option Asked → List ℕ → ℤ → List ℕ → Type 0
IsRequested (Some settings) (Some call) before result after =
    IsReported (request_asked call settings.credential) no_form before result after
IsRequested settings call before result after = (result ≡ grammar) × (after ≡ before)

-- how a call ended, as 0, 1 or 3
abbrev pub status_of : Ending → ℤ
status_of Answered = pos 0
status_of Refused = pos 1
status_of Lost = pos 3

-- what C gets for a response, memory aside: how the call ended, and the line of its answer, which is
-- a text of JSON in UTF-8 and a line feed; or that the words are no call
abbrev pub IsAnswered : Option Asked → List ℕ → ℤ → List ℕ → ℤ → List ℕ → Type 0
IsAnswered (Some call) response status before length after =
    (status ≡ status_of (ending_of no_settings call response))
    × IsTextLine (line_of no_settings call response)
    × IsReported (Some (line_of no_settings call response)) (pos 0) before length after
IsAnswered None response status before length after =
    (status ≡ pos 2) × IsReported None (pos 0) before length after

-- what C gets for the reason why words are no call, memory aside: a text; or that they are one, with
-- whatever ID
pub data IsExplained (words : List Word) (before : List ℕ) (result : ℤ) (after : List ℕ) :
    Type 0 where
  a_call : IsSome (call_of words None) → IsReported None no_value before result after →
      IsExplained words before result after
  no_call : call_of words None ≡ None → (why : List ℕ) → Refuses words why →
      IsReported (Some why) no_value before result after → IsExplained words before result after

-- by whether the line and the path are texts
abbrev pub IsValueBy : Bool → List ℕ → List ℕ → Bool → List ℕ → ℤ → List ℕ → Type 0
IsValueBy true line path hex before result after =
    IsReported (value_in path hex line) no_value before result after
IsValueBy false line path hex before result after = IsReported None grammar before result after

-- what C gets for a value of an answer, memory aside: the bytes of the value at the path, or that
-- there is none; or that the line or the path is no text
abbrev pub IsValueReported : List ℕ → List ℕ → Bool → List ℕ → ℤ → List ℕ → Type 0
IsValueReported line path hex before result after =
    IsValueBy (is_utf8 line && is_utf8 path) line path hex before result after
