-- Records are replayed each over its own response.
use Rattle.std.proofs.Common.{◌≡◌, ℕ, suc, ◌+◌, ◌==◌, ◌||◌, eqb, List, [], ◌∷◌, ◌++◌, map, length, drop, codes, Bool, true, false, Option, Some, None, refl, ap, sym, ◌∙◌, subst, arith}
use Rattle.std.proofs.lemmas.List.{length-append}
use Rattle.std.proofs.Math.Seq.{drop-length}
use Rattle.std.specs.List.{All, list_any}
use Rattle.kmip_enums.specs.declared.operation.Operation.{Operation}
use Rattle.kmip_client.specs.Message.{message_at, taken_for}
use Rattle.kmip_client.specs.Outcome.{outcome_of}
use Rattle.kmip_request.specs.declared.payload.RequestPayload.{RequestPayload}
use Rattle.kmip_words.specs.About.{outcome_line, response_line}
use Rattle.kmip_words.specs.Calls.{call_of}
use Rattle.kmip_words.specs.Exchange.{Settings, Step, call_text, Asked, request_asked, call_outcome, IsRequestOf}
use Rattle.kmip_words.specs.declared.call.Call.{Call}
use Rattle.kmip_words.specs.declared.call.Call.TheVariants.{Request}
use Rattle.kmip_words.specs.declared.call.Recorded.{Recorded}
use Rattle.kmip_run.specs.Script.{lines_of}
use Rattle.kmip_run.specs.Transcript.{Transcript, end_after, then_later, replay_from}
use Rattle.kmip_run.specs.Records.{script_of, has_feed, IsTakenWhole, AreRecords, own_step, ReplaysEach}
use Rattle.kmip_run.specs.declared.status.ScriptEnd.{ScriptEnd}
use Rattle.kmip_run.specs.declared.status.ScriptEnd.TheVariants.{Answered}
use Rattle.kmip_run.specs.declared.status.Status.TheVariants.{Ended}
use Rattle.kmip_run.proofs.Runs.{replayed_call}

all_first : {X : Type 0} (P : X → Type 0) (x : X) (xs : List X) → All P (x ∷ xs) → P x
all_first P x xs all = all 0 x (omega arith)

all_later : {X : Type 0} (P : X → Type 0) (x : X) (xs : List X) → All P (x ∷ xs) → All P xs
all_later P x xs all = λ k d within. all (suc k) d (omega (arith, within))

no_feed : (c : ℕ) (line : List ℕ) → has_feed (c ∷ line) ≡ false
    → (eqb c 10 ≡ false) × (has_feed line ≡ false)
no_feed c line none = elim (eqb c 10) as
    (λ b. (b || has_feed line) ≡ false → (b ≡ false) × (has_feed line ≡ false)) [
      | true ↦ λ e. absurd (cc)
      | false ↦ λ e. (refl, e)
    ] none

-- a line with a line feed after it is the first
line_first : (line rest : List ℕ) → has_feed line ≡ false
    → lines_of ((line ++ codes "\n") ++ rest) ≡ line ∷ lines_of rest
line_first [] rest none = refl
line_first (c ∷ line) rest none =
    let (other, later) = no_feed c line none in rw (other, line_first line rest later) refl

lines_back : (lines : List (List ℕ)) → All (λ line. has_feed line ≡ false) lines
    → lines_of (script_of lines) ≡ lines
lines_back [] all = refl
lines_back (line ∷ lines) all =
    let Is : List ℕ → Type 0 = λ line. has_feed line ≡ false in
    line_first line (script_of lines) (all_first Is line lines all)
    ∙ ap (λ (x : List (List ℕ)). line ∷ x) (lines_back lines (all_later Is line lines all))

taken_whole : (message : Option (List ℕ)) (operation : Operation) (limit : Option ℕ)
    (response : List ℕ) → taken_for response (message_at response limit) ≡ length response
    → (message ≡ None → response ≡ [])
    → (outcome_of message operation limit response).taken ≡ length response
taken_whole None operation limit response whole unsent = sym (ap length (unsent refl))
taken_whole (Some message) operation limit response whole unsent = whole

step_whole : (settings : Settings) (it : Recorded) → IsTakenWhole settings it
    → (own_step settings it).taken ≡ length it.response
step_whole settings it whole =
    let asked : Asked = request_asked it.call settings.credential in
    taken_whole asked.message asked.operation settings.limit it.response whole.one_at_most whole.unsent

-- after the call of a record nothing is left
replayed_first : (settings : Settings) (line : List ℕ) (lines : List (List ℕ)) (it : Recorded)
    (number : ℕ) (end : ScriptEnd) → call_of line ≡ Some it → IsTakenWhole settings it
    → replay_from settings (line ∷ lines) number end []
    ≡ then_later it.response (own_step settings it)
    (replay_from settings lines (number + 1) (end_after end (own_step settings it).failed) [])
replayed_first settings line lines it number end is whole =
    let s : Step = own_step settings it in
    let none = ap (λ (n : ℕ). drop n it.response) (step_whole settings it whole) ∙ drop-length it.response in
    replayed_call settings line lines number end [] it (sym is)
    ∙ ap (λ (rest : List ℕ). then_later it.response s
    (replay_from settings lines (number + 1) (end_after end s.failed) rest)) none

either : (end : ScriptEnd) (first later : Bool)
    → end_after (end_after end first) later ≡ end_after end (first || later)
either end true true = refl
either end true false = refl
either end false later = refl

first_same : {A : Type 0} (x y : A) (xs ys : List A) → (x ∷ xs) ≡ (y ∷ ys) → (x ≡ y) × (xs ≡ ys)
first_same x y xs ys e = (cc, cc)

each : (settings : Settings) (lines : List (List ℕ)) (records : List Recorded) (number : ℕ)
    (end : ScriptEnd) → map call_of lines ≡ map Some records → All (IsTakenWhole settings) records
    → ReplaysEach settings records end (replay_from settings lines number end [])
unfolding replay_from
each settings [] [] number end reads whole =
    record { text = refl; status = refl; fed = refl; sent = refl; taken = refl }
each settings [] (it ∷ records) number end reads whole = absurd (cc)
each settings (line ∷ lines) [] number end reads whole = absurd (cc)
each settings (line ∷ lines) (it ∷ records) number end reads whole =
    let (is, later) = first_same (call_of line) (Some it) (map call_of lines) (map Some records) reads in
    let s : Step = own_step settings it in
    let here = all_first (IsTakenWhole settings) it records whole in
    let rest = each settings lines records (number + 1) (end_after end s.failed) later
    (all_later (IsTakenWhole settings) it records whole) in
    let t : Transcript = replay_from settings lines (number + 1) (end_after end s.failed) [] in
    let P : Transcript → Type 0 = ReplaysEach settings (it ∷ records) end in
    subst P (sym (replayed_first settings line lines it number end is here)) (record {
      text = ap (λ (x : List ℕ). call_text s ++ x) rest.text;
      status = rest.status ∙ ap Ended (either end s.failed (list_any (λ it. (own_step settings it).failed) records));
      fed = ap (λ (x : List ℕ). it.response ++ x) rest.fed;
      sent = ap (λ (x : List ℕ). s.sent ++ x) rest.sent;
      taken = rw (step_whole settings it here, rest.taken) (sym (length-append it.response t.fed));
    })

pub replayed : (settings : Settings) (lines : List (List ℕ)) (records : List Recorded)
    → AreRecords settings lines records
    → ReplaysEach settings records Answered (replay_from settings (lines_of (script_of lines)) 1 Answered [])
replayed settings lines records are =
    let P : List (List ℕ) → Type 0 = λ ls.
    ReplaysEach settings records Answered (replay_from settings ls 1 Answered []) in
    subst P (sym (lines_back lines are.one_line)) (each settings lines records 1 Answered are.reads are.whole)

-- a line of JSON depends on the limit alone
pub line_under : (settings recorded : Settings) (it : Recorded) → settings.limit ≡ recorded.limit →
    outcome_line it.call (call_outcome settings it.call it.response) it.response
    ≡ response_line settings it.call it.response →
    outcome_line it.call (call_outcome settings it.call it.response) it.response
    ≡ response_line recorded it.call it.response
line_under settings recorded it same is =
    is ∙ ap (λ (limit : Option ℕ).
    response_line (record { credential = None; limit = limit; buffered = false }) it.call it.response) same

pub outcome_same : (payload : RequestPayload) (call : Call) → IsRequestOf payload call →
    (settings : Settings) (rest : List ℕ)
    → call_outcome settings call rest ≡ call_outcome settings (Request payload) rest
outcome_same payload call same settings rest =
    ap (λ (asked : Asked). outcome_of asked.message asked.operation settings.limit rest)
    (sym (same settings.credential))
