-- Records: lines of a script, each with a call and the response that the call had.
use Rattle.std.specs.Prelude.{◌≡◌, ℕ, ◌==◌, List, [], ◌++◌, map, length, codes, Bool, false, Some, None}
use Rattle.std.specs.List.{All, concat, list_any}
use Rattle.kmip_client.specs.Message.{message_at, taken_for}
use Rattle.kmip_words.specs.Calls.{call_of}
use Rattle.kmip_words.specs.Exchange.{Settings, Step, step, call_text, request_asked}
use Rattle.kmip_words.specs.declared.call.Recorded.{Recorded}
use Rattle.kmip_run.specs.Transcript.{Transcript, end_after}
use Rattle.kmip_run.specs.declared.status.ScriptEnd.{ScriptEnd}
use Rattle.kmip_run.specs.declared.status.Status.TheVariants.{Ended}

-- the script of these lines
abbrev pub script_of : List (List ℕ) → List ℕ
script_of lines = concat (map (λ line. line ++ codes "\n") lines)

-- whether a line feed is in a text
abbrev pub has_feed : List ℕ → Bool
has_feed text = list_any (λ c. c == 10) text

-- The response is one that a call takes whole: at most one message, and no byte where the request
-- has no wire form, so that nothing was sent.
pub record IsTakenWhole (settings : Settings) (it : Recorded) : Type 0 where
  pub one_at_most :
      taken_for it.response (message_at it.response settings.limit) ≡ length it.response
  pub unsent : (request_asked it.call settings.credential).message ≡ None → it.response ≡ []

-- The lines record these calls with these responses.
pub record AreRecords (settings : Settings) (lines : List (List ℕ)) (records : List Recorded) :
    Type 0 where
  pub one_line : All (λ line. has_feed line ≡ false) lines
  pub reads : map call_of lines ≡ map Some records
  pub whole : All (IsTakenWhole settings) records

-- what a call comes to over its own response, and no other byte
abbrev pub own_step : Settings → Recorded → Step
own_step settings it = step settings it.call it.response

-- Each call was fed its own response, and came to what it comes to over this one alone: no byte was
-- left for the next. `end` is how the calls before ended.
pub record ReplaysEach (settings : Settings) (records : List Recorded) (end : ScriptEnd)
    (t : Transcript) : Type 0 where
  pub text : t.text ≡ concat (map (λ it. call_text (own_step settings it)) records)
  pub status : t.status ≡
      Ended (end_after end (list_any (λ it. (own_step settings it).failed) records))
  pub fed : t.fed ≡ concat (map (λ it. it.response) records)
  pub sent : t.sent ≡ concat (map (λ it. (own_step settings it).sent) records)
  pub taken : t.taken ≡ length t.fed
