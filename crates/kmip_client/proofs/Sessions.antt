-- Several calls, one after the other.
use Rattle.std.proofs.Common.{◌≡◌, ℕ, ◌+◌, ◌-◌, List, [], ◌∷◌, ◌++◌, length, take, drop, map, refl, ◌∙◌, ap, sym, arith, append_assoc, IsTrue, subst, Bool, true, false, Option, Result, Ok, Err, OnErr, codes, cond}
use Rattle.std.proofs.lemmas.Grind.{common_steps}
use Rattle.std.proofs.lemmas.List.{drop-drop, length-append, map-append}
use Rattle.kmip_shape.specs.Val.{Val}
use Rattle.kmip_types.specs.declared.auth.CredentialType.{CredentialType}
use Rattle.kmip_request.specs.Message.{request_bytes}
use Rattle.kmip_request.specs.declared.payload.RequestPayload.{RequestPayload}
use Rattle.kmip_link.specs.State.{LinkState, left, Keeps}
use Rattle.kmip_client.specs.declared.error.Error.{Error}
use Rattle.kmip_client.specs.declared.error.Error.TheVariants.{ConfigurationError, SerializeError, RequestWriteError, ResponseReadError, DeserializeError, ServerError, InternalError, ItemNotFound, Unknown, OutOfMemory}
use Rattle.kmip_client.specs.declared.session.Exchange.{Exchange}
use Rattle.kmip_client.specs.Transfer.{Grows}
use Rattle.kmip_client.specs.Outcome.{Answer, seen_by, OutcomeOf, outcome, left_for, Moves, Exchanged, completed, write_failed, read_failed, sending_cut, reading_cut, FailsReading, reading_failed, FailsWriting, writing_failed}
use Rattle.kmip_client.specs.Client.{ClientState, loses_connection, lacks_memory}
use Rattle.kmip_client.specs.Calls.{IsCall}
use Rattle.kmip_client.specs.Diagnostics.{diagnostic_of, IsRequestText, IsResponseText}
use Rattle.kmip_client.specs.Session.{Turn, turn_of, then_on, session, CallReport, exchange_report, call_report, turn_report, all_sent, all_taken, writing, reading, Ran, whole, broken, GoesOn, GoOn, Stops, at_end, later, client_report, Calls, CutOff, held_texts, last_texts, AreRequestTexts, ends_lost}
use Rattle.kmip_client.proofs.Helped.{seen_same}

append_none : {A : Type 0} (xs : List A) → xs ≡ xs ++ []
append_none xs = grind (arith, common_steps)

pub grows_none : (a : LinkState) → Grows a a
grows_none a = record { more = []; is = append_none a.ever }

pub grows_on : {a b c : LinkState} → Grows a b → Grows b c → Grows a c
grows_on {a = a} ab bc = record {
  more = ab.more ++ bc.more;
  is = bc.is ∙ ap (λ l. l ++ bc.more) ab.is
      ∙ append_assoc a.ever ab.more bc.more;
}

pub exchanged_grows : {A : Type 0} {o : OutcomeOf A} {before after : LinkState}
    {answer : Result A Error} → Exchanged o before after answer → Grows before after
exchanged_grows (completed is moves) = moves.ever
exchanged_grows (write_failed is rose n h moves) = moves.ever
exchanged_grows (read_failed is rose n h moves) = moves.ever
exchanged_grows (sending_cut is n h moves) = moves.ever
exchanged_grows (reading_cut is n h moves) = moves.ever

pub empty_of : {A : Type 0} (xs : List A) → length xs ≡ 0 → xs ≡ []
empty_of [] h = refl
empty_of (x ∷ xs) h = absurd (omega arith)

-- where nothing came in the end, nothing came on the way
pub same_before : {a b c : LinkState} → Grows a b → Grows b c → c.ever ≡ a.ever → b.ever ≡ a.ever
same_before {a = a} {b = b} {c = c} ab bc same =
    let l1 : length b.ever ≡ length a.ever + length ab.more = ap length ab.is ∙ length-append a.ever ab.more in
    let l2 : length c.ever ≡ length b.ever + length bc.more = ap length bc.is ∙ length-append b.ever bc.more in
    let l3 : length c.ever ≡ length a.ever = ap length same in
    let none : ab.more ≡ [] = empty_of ab.more (omega arith) in
    ab.is ∙ ap (λ l. a.ever ++ l) none ∙ sym (append_none a.ever)

moves_on : {a b c : LinkState} {xs ys : List ℕ} {n m : ℕ} → Keeps a b → Moves a b xs n
    → Moves b c ys m → Moves a c (xs ++ ys) (n + m)
moves_on {a = a} {xs = xs} {ys = ys} keeps ab bc = record {
  sent_is = bc.sent_is ∙ ap (λ l. l ++ ys) ab.sent_is ∙ append_assoc a.sent xs ys;
  pos = omega (arith, ab.pos, bc.pos);
  ever = grows_on ab.ever bc.ever;
  still = λ h. bc.still (rw keeps.still h) ∙ ab.still h;
}

-- a call by the value of its payload for any operation
pub call_whole : {T P : Type 0} {state : T → LinkState} {payload : RequestPayload}
    {before after : ClientState T} (val all : P → Val) (answer : Result P Error) →
    IsCall state payload before after (seen_by val answer) → ((p : P) → val p ≡ all p)
    → IsCall state payload before after (seen_by all answer)
call_whole {state = state} {payload = payload} {before = before} {after = after} val all answer call same =
    let P : Answer → Type 0 = λ seen. IsCall state payload before after seen in
    subst P (seen_same val all answer same) call

abbrev pub report_with : Answer → Option (List ℕ) → Option (List ℕ) → CallReport
report_with answer request_text response_text =
    record { answer = answer; request_text = request_text; response_text = response_text }

-- one exchange more
pub pushed : {P : Type 0} (val : P → Val) (xs : List (Exchange P)) (x : Exchange P)
    (told : CallReport) → exchange_report val x ≡ told
    → map (exchange_report val) (xs ++ x ∷ []) ≡ map (exchange_report val) xs ++ told ∷ []
pushed val xs x told is = map-append (exchange_report val) xs (x ∷ [])
    ∙ ap (λ t. map (exchange_report val) xs ++ t ∷ []) is

-- what a call did where nothing came to its link
pub record Step {T : Type 0} (state : T → LinkState) (buffered : Bool)
    (credential : Option CredentialType) (limit : Option ℕ) (payload : RequestPayload)
    (now after : T) (answer : Answer) (asked said : Option (List ℕ)) : Type 0 where
  pub exchanged : Exchanged (outcome payload credential limit (left (state now))) (state now) (state after) answer
  pub writing : answer ≡ writing_failed → FailsWriting state (request_bytes payload credential) now after
  pub reading : answer ≡ reading_failed
      → FailsReading state (request_bytes payload credential)
      (outcome payload credential limit (left (state now))).taken now after
  pub keeps : Keeps (state now) (state after)
  pub request_text : IsRequestText buffered (request_bytes payload credential) answer asked
  pub response_text : IsResponseText buffered
      (take ((state after).pos - (state now).pos) (left (state now))) answer said
  pub same : (state after).ever ≡ (state now).ever
  pub room : lacks_memory answer ≡ false

left_is : (now after : LinkState) → after.ever ≡ now.ever → left_for now after ≡ left now
left_is now after same = ap (λ l. drop now.pos l) same

pub step_of : {T : Type 0} {state : T → LinkState} {payload : RequestPayload}
    {before after : ClientState T} {answer : Answer} →
    IsCall state payload before after answer → IsTrue (state before.link).tells
    → (state after.link).ever ≡ (state before.link).ever → lacks_memory answer ≡ false →
    Step state before.buffered before.credential before.limit payload before.link after.link answer after.request_text after.response_text
step_of {state = state} {payload = payload} {before = before} {after = after} {answer = answer} call tells same room =
    let P : List ℕ → Type 0 = λ rest. Exchanged
    (outcome payload before.credential before.limit rest) (state before.link)
    (state after.link) answer in
    let R : List ℕ → Type 0 = λ rest. FailsReading state (request_bytes payload before.credential)
    (outcome payload before.credential before.limit rest).taken before.link after.link in
    let Q : List ℕ → Type 0 = λ rest. IsResponseText before.buffered
    (take ((state after.link).pos - (state before.link).pos) rest) answer after.response_text in
    record {
      exchanged = subst P (left_is (state before.link) (state after.link) same) (call.exchange tells);
      writing = call.writing tells;
      reading = λ is. subst R (left_is (state before.link) (state after.link) same) (call.reading tells is);
      keeps = call.keeps;
      request_text = call.request_text;
      response_text = subst Q (left_is (state before.link) (state after.link) same) (call.response_text tells);
      same = same;
      room = room;
    }

same_reports : (answer : Answer) (a b c d : Option (List ℕ)) → a ≡ c → b ≡ d
    → report_with answer a b ≡ report_with answer c d
same_reports answer a b c d p q = rw (p, q) refl

report_is : (buffered : Bool) (request : Option (List ℕ)) (taken : List ℕ) (answer : Answer)
    (a b : Option (List ℕ)) → IsRequestText buffered request answer a
    → IsResponseText buffered taken answer b → lacks_memory answer ≡ false →
    report_with answer a b ≡ call_report buffered request answer taken
report_is buffered request taken (Ok payload) a b p q room = same_reports _ a b _ _ p q
report_is buffered request taken (Err (ConfigurationError t)) a b p q room = same_reports _ a b _ _ p q
report_is buffered request taken (Err (SerializeError t)) a b p q room = same_reports _ a b _ _ p q
report_is buffered request taken (Err (RequestWriteError t)) a b p q room = same_reports _ a b _ _ p q
report_is buffered request taken (Err (ResponseReadError t)) a b p q room = same_reports _ a b _ _ p q
report_is buffered request taken (Err (DeserializeError t)) a b p q room = same_reports _ a b _ _ p q
report_is buffered request taken (Err (ServerError t)) a b p q room = same_reports _ a b _ _ p q
report_is buffered request taken (Err (InternalError t)) a b p q room = same_reports _ a b _ _ p q
report_is buffered request taken (Err (ItemNotFound t)) a b p q room = same_reports _ a b _ _ p q
report_is buffered request taken (Err (Unknown t)) a b p q room = same_reports _ a b _ _ p q
report_is buffered request taken (Err OutOfMemory) a b p q room = absurd (let e : true ≡ false = room in cc)

-- the texts of a call are those of its answer and of the bytes that it took
step_report : {T : Type 0} {state : T → LinkState} {buffered : Bool}
    {credential : Option CredentialType} {limit : Option ℕ} {payload : RequestPayload}
    {now after : T} {answer : Answer} {asked said : Option (List ℕ)} {sent : List ℕ} {n : ℕ}
    (expected : Answer) →
    Step state buffered credential limit payload now after answer asked said → answer ≡ expected
    → Moves (state now) (state after) sent n →
    report_with answer asked said ≡ call_report buffered (request_bytes payload credential) expected
    (take n (left (state now)))
step_report {state = state} {buffered = buffered} {credential = credential} {payload = payload}
    {now = now} {after = after} {answer = answer} {asked = asked} {said = said}
    {n = n} expected step is moves =
    let passed : (state after).pos - (state now).pos ≡ n = omega (arith, moves.pos) in
    report_is buffered (request_bytes payload credential)
    (take ((state after).pos - (state now).pos) (left (state now)))
    answer asked said step.request_text step.response_text step.room
    ∙ ap (λ k. call_report buffered (request_bytes payload credential) answer (take k (left (state now)))) passed
    ∙ ap (λ a. call_report buffered (request_bytes payload credential) a (take n (left (state now)))) is

pub record SoFar (buffered : Bool) (all : List Turn) (before now : LinkState)
    (exchanges : List CallReport) (rest : List Turn) : Type 0 where
  pub done : List Turn
  pub split : all ≡ done ++ rest
  pub reports_are : exchanges ≡ map (turn_report buffered) done
  pub moves : Moves before now (all_sent done) (all_taken done)

pub nothing_yet : (buffered : Bool) (all : List Turn) (a : LinkState) → SoFar buffered all a a [] all
nothing_yet buffered all a = record {
  done = [];
  split = refl;
  reports_are = refl;
  moves =
      record {
        sent_is = append_none a.sent;
        pos = omega arith;
        ever = grows_none a;
        still =
            λ h. refl;
      };
}

sent_one : (done : List Turn) (t : Turn) → all_sent (done ++ t ∷ []) ≡ all_sent done ++ t.outcome.sent
sent_one [] t = sym (append_none t.outcome.sent)
sent_one (d ∷ done) t = ap (λ l. d.outcome.sent ++ l) (sent_one done t)
    ∙ sym (append_assoc d.outcome.sent (all_sent done) t.outcome.sent)

taken_one : (done : List Turn) (t : Turn) → all_taken (done ++ t ∷ []) ≡ all_taken done + t.outcome.taken
taken_one [] t = omega arith
taken_one (d ∷ done) t = omega (arith, taken_one done t)

split_one : (done : List Turn) (t : Turn) (rest : List Turn) → done ++ t ∷ rest ≡ (done ++ t ∷ []) ++ rest
split_one [] t rest = refl
split_one (d ∷ done) t rest = ap (λ l. d ∷ l) (split_one done t rest)

-- one turn more
one_more : {buffered : Bool} {all : List Turn} {before now after : LinkState}
    {exchanges : List CallReport} {t : Turn} {told : CallReport} (rest : List Turn) →
    Keeps before now → SoFar buffered all before now exchanges (t ∷ rest)
    → told ≡ turn_report buffered t → Moves now after t.outcome.sent t.outcome.taken →
    SoFar buffered all before after (exchanges ++ told ∷ []) rest
one_more {buffered = buffered} {before = before} {after = after} {t = t}
    {told = told} rest keeps so_far is moves = record {
      done = so_far.done ++ t ∷ [];
      split = so_far.split ∙ split_one so_far.done t rest;
      reports_are = ap (λ l. l ++ told ∷ []) so_far.reports_are
          ∙ ap (λ v. map (turn_report buffered) so_far.done ++ v ∷ []) is
          ∙ sym (map-append (turn_report buffered) so_far.done (t ∷ []));
      moves =
          let P : List ℕ → Type 0 = λ l. Moves before after l (all_taken (so_far.done ++ t ∷ [])) in
          let Q : ℕ → Type 0 = λ n. Moves before after (all_sent so_far.done ++ t.outcome.sent) n in
          subst P (sym (sent_one so_far.done t))
          (subst Q (sym (taken_one so_far.done t)) (moves_on keeps so_far.moves moves));
    }

-- the session goes on with the next request's turn
session_next : (payload : RequestPayload) (payloads : List RequestPayload)
    (credential : Option CredentialType) (limit : Option ℕ) (rest : List ℕ) →
    session (payload ∷ payloads) credential limit rest
    ≡ then_on (turn_of payload credential limit rest)
    (session payloads credential limit
    (drop (outcome payload credential limit rest).taken rest))
unfolding session
session_next payload payloads credential limit rest = refl

left_on : {now after : LinkState} {sent : List ℕ} {n : ℕ} → after.ever ≡ now.ever
    → Moves now after sent n → drop n (left now) ≡ left after
left_on {now = now} {n = n} same moves = drop-drop n now.pos now.ever ∙ sym (rw (same, moves.pos) refl)

keeps_on_loss : (t : Turn) (turns : List Turn) → loses_connection t.outcome.answer ≡ false → then_on t turns ≡ t ∷ turns
keeps_on_loss t turns kept = rw kept refl

loss_ends : (t : Turn) (turns : List Turn) → loses_connection t.outcome.answer ≡ true → then_on t turns ≡ t ∷ []
loss_ends t turns lost = rw lost refl

begins : (t : Turn) (turns : List Turn) (b : Bool) → (more : List Turn) × (cond b (t ∷ []) (t ∷ turns) ≡ t ∷ more)
begins t turns true = ([], refl)
begins t turns false = (turns, refl)

-- an answer that keeps the connection
pub turn : {T : Type 0} {state : T → LinkState} {buffered : Bool} {all : List Turn}
    {before : LinkState} {now after : T} {asked said : Option (List ℕ)}
    (exchanges : List CallReport) (credential : Option CredentialType) (limit : Option ℕ)
    (payload : RequestPayload) (payloads : List RequestPayload) (answer : Answer) →
    Keeps before (state now) → SoFar buffered all before (state now) exchanges
    (session (payload ∷ payloads) credential limit (left (state now))) →
    Step state buffered credential limit payload now after answer asked said
    → Exchanged (outcome payload credential limit (left (state now))) (state now)
    (state after) answer → loses_connection answer ≡ false →
    SoFar buffered all before (state after) (exchanges ++ report_with answer asked said ∷ [])
    (session payloads credential limit (left (state after)))
turn {state = state} {buffered = buffered} {all = all} {before = before} {now = now} {after = after}
    {asked = asked} {said = said}
    exchanges credential limit payload payloads answer keeps so_far step (completed is moves) kept =
    let t : Turn = turn_of payload credential limit (left (state now)) in
    let P : List Turn → Type 0 = λ l. SoFar buffered all before (state now) exchanges l in
    let Q : List ℕ → Type 0 = λ rest. SoFar buffered all before (state after)
    (exchanges ++ report_with answer asked said ∷ [])
    (session payloads credential limit rest) in
    let begun = subst P (session_next payload payloads credential limit (left (state now))
    ∙ keeps_on_loss t _ (ap loses_connection (sym is) ∙ kept)) so_far in
    subst Q (left_on step.same moves)
    (one_more {t = t} _ keeps begun (step_report t.outcome.answer step is moves) moves)
turn exchanges credential limit payload payloads answer keeps so_far step
    (write_failed is rose n h moves) kept = absurd (let e : true ≡ false = rw is at kept in cc)
turn exchanges credential limit payload payloads answer keeps so_far step
    (read_failed is rose n h moves) kept = absurd (let e : true ≡ false = rw is at kept in cc)
turn exchanges credential limit payload payloads answer keeps so_far step
    (sending_cut is n h moves) kept = absurd (let e : true ≡ false = rw is at step.room in cc)
turn exchanges credential limit payload payloads answer keeps so_far step
    (reading_cut is n h moves) kept = absurd (let e : true ≡ false = rw is at step.room in cc)

-- all turns are there
all_done : {T : Type 0} {state : T → LinkState} {buffered : Bool} {all : List Turn} {before now : T}
    {exchanges : List CallReport} → SoFar buffered all (state before) (state now) exchanges []
    → Ran state buffered all before now exchanges
all_done {state = state} {buffered = buffered} {all = all} {before = before} {now = now} so_far =
    let is : all ≡ so_far.done = so_far.split ∙ sym (append_none so_far.done) in
    let P : List Turn → Type 0 = λ l. Moves (state before) (state now) (all_sent l) (all_taken l) in
    whole (so_far.reports_are ∙ ap (λ l. map (turn_report buffered) l) (sym is)) (subst P (sym is) so_far.moves)

pub end : {T : Type 0} (state : T → LinkState) {buffered : Bool} {all : List Turn} (before now : T)
    {exchanges : List CallReport} (credential : Option CredentialType) (limit : Option ℕ)
    (rest : List ℕ) →
    SoFar buffered all (state before) (state now) exchanges (session [] credential limit rest)
    → Ran state buffered all before now exchanges
unfolding session
end state before now credential limit rest so_far = all_done {state = state} {before = before} {now = now} so_far

not_reading : {R : Type 0} (text : List ℕ) → ◌≡◌ {A = Answer} (Err (RequestWriteError text)) reading_failed → R
not_reading text is = absurd (cc)

not_writing : {R : Type 0} (text : List ℕ) → ◌≡◌ {A = Answer} (Err (ResponseReadError text)) writing_failed → R
not_writing text is = absurd (cc)

-- an answer that ends the session
pub stop : {T : Type 0} {state : T → LinkState} {buffered : Bool} {all : List Turn}
    {before now after : T} {asked said : Option (List ℕ)} (exchanges : List CallReport)
    (credential : Option CredentialType) (limit : Option ℕ) (payload : RequestPayload)
    (payloads : List RequestPayload) (answer : Answer) →
    Keeps (state before) (state now) → SoFar buffered all (state before) (state now) exchanges
    (session (payload ∷ payloads) credential limit (left (state now))) →
    Step state buffered credential limit payload now after answer asked said
    → Exchanged (outcome payload credential limit (left (state now))) (state now)
    (state after) answer → loses_connection answer ≡ true →
    Ran state buffered all before after (exchanges ++ report_with answer asked said ∷ [])
stop {state = state} {buffered = buffered} {all = all} {before = before} {now = now}
    {after = after} exchanges credential limit payload payloads answer keeps so_far step
    (completed is moves) lost =
    let t : Turn = turn_of payload credential limit (left (state now)) in
    let P : List Turn → Type 0 = λ l. SoFar buffered all (state before) (state now) exchanges l in
    let begun = subst P (session_next payload payloads credential limit (left (state now))
    ∙ loss_ends t _ (ap loses_connection (sym is) ∙ lost)) so_far in
    all_done {state = state} {before = before} {now = after}
    (one_more {t = t} [] keeps begun (step_report t.outcome.answer step is moves) moves)
stop {state = state} {buffered = buffered} {all = all} {before = before} {now = now} {after = after}
    {asked = asked} {said = said}
    exchanges credential limit payload payloads answer keeps so_far step
    (write_failed is rose n h moves) lost =
    let t : Turn = turn_of payload credential limit (left (state now)) in
    let last : Answer = Err (RequestWriteError (codes "link failed")) in
    let first = begins t (session payloads credential limit
    (drop t.outcome.taken (left (state now)))) (loses_connection t.outcome.answer) in
    broken so_far.done t first.0 last (take n t.outcome.sent) 0
    (so_far.split ∙ ap (λ l. so_far.done ++ l)
    (session_next payload payloads credential limit (left (state now)) ∙ first.1))
    (ap (λ l. l ++ report_with answer asked said ∷ []) so_far.reports_are
    ∙ ap (λ v. map (turn_report buffered) so_far.done ++ v ∷ [])
    (step_report last step is moves))
    (writing n h) (omega (arith, keeps.faults)) (moves_on keeps so_far.moves moves)
    (record {
      between = now;
      keeps = keeps;
      moves = so_far.moves;
      later = step.keeps;
      last_moves =
          moves;
      rose = rose;
      writing = λ _. step.writing is;
      reading = not_reading _;
    })
stop {state = state} {buffered = buffered} {all = all} {before = before} {now = now} {after = after}
    {asked = asked} {said = said}
    exchanges credential limit payload payloads answer keeps so_far step
    (read_failed is rose n h moves) lost =
    let t : Turn = turn_of payload credential limit (left (state now)) in
    let last : Answer = Err (ResponseReadError (codes "link failed")) in
    let first = begins t (session payloads credential limit
    (drop t.outcome.taken (left (state now)))) (loses_connection t.outcome.answer) in
    broken so_far.done t first.0 last t.outcome.sent n
    (so_far.split ∙ ap (λ l. so_far.done ++ l)
    (session_next payload payloads credential limit (left (state now)) ∙ first.1))
    (ap (λ l. l ++ report_with answer asked said ∷ []) so_far.reports_are
    ∙ ap (λ v. map (turn_report buffered) so_far.done ++ v ∷ [])
    (step_report last step is moves))
    (reading n h) (omega (arith, keeps.faults)) (moves_on keeps so_far.moves moves)
    (record {
      between = now;
      keeps = keeps;
      moves = so_far.moves;
      later = step.keeps;
      last_moves =
          moves;
      rose = rose;
      writing = not_writing _;
      reading = λ _. step.reading is;
    })
stop exchanges credential limit payload payloads answer keeps so_far step
    (sending_cut is n h moves) lost = absurd (let e : true ≡ false = rw is at step.room in cc)
stop exchanges credential limit payload payloads answer keeps so_far step
    (reading_cut is n h moves) lost = absurd (let e : true ≡ false = rw is at step.room in cc)

-- whatever stops the rest of the requests so stops all of them so
abbrev pub StopsOn : List RequestPayload → List CallReport → List RequestPayload → Type 0
StopsOn payloads exchanges rest = (more : List CallReport) → Stops rest more → Stops payloads (exchanges ++ more)

pub stops_on : (payloads : List RequestPayload) (exchanges : List CallReport)
    (payload : RequestPayload) (rest : List RequestPayload) (told : CallReport)
    → GoesOn told.answer →
    StopsOn payloads exchanges (payload ∷ rest) → StopsOn payloads (exchanges ++ told ∷ []) rest
stops_on payloads exchanges payload rest told on so_far more stops =
    let P : List CallReport → Type 0 = λ l. Stops payloads l in
    subst P (sym (append_assoc exchanges (told ∷ []) more))
    (so_far (told ∷ more) (later payload rest told more on stops))

pub stops_end : (payloads : List RequestPayload) (exchanges : List CallReport)
    → StopsOn payloads exchanges [] → Stops payloads exchanges
stops_end payloads exchanges so_far =
    let P : List CallReport → Type 0 = λ l. Stops payloads l in
    subst P (sym (append_none exchanges)) (so_far [] at_end)

-- whatever calls are made for the rest of the requests, with those so far they are the calls of all
abbrev pub CallsOn : {T : Type 0} → (T → LinkState) → List RequestPayload → ClientState T
    → List CallReport → ClientState T → List RequestPayload → Type 0
CallsOn {T} state payloads before exchanges now rest =
    (after : ClientState T) (more : List CallReport) → Calls state rest now more after
    → Calls state payloads before (exchanges ++ more) after

pub calls_on : {T : Type 0} (state : T → LinkState) (payloads : List RequestPayload)
    (before : ClientState T) (exchanges : List CallReport) (now next : ClientState T)
    (payload : RequestPayload) (rest : List RequestPayload) (answer : Answer) →
    IsCall state payload now next answer
    → CallsOn state payloads before exchanges now (payload ∷ rest)
    → CallsOn state payloads before (exchanges ++ client_report answer next ∷ []) next rest
calls_on {T} state payloads before exchanges now next payload rest answer call so_far after more calls =
    let P : List CallReport → Type 0 = λ l. Calls state payloads before l after in
    subst P (sym (append_assoc exchanges (client_report answer next ∷ []) more))
    (so_far after (client_report answer next ∷ more) (next, call, refl, calls))

pub calls_end : {T : Type 0} (state : T → LinkState) (payloads : List RequestPayload)
    (before : ClientState T) (exchanges : List CallReport) (now : ClientState T)
    (rest : List RequestPayload) →
    CallsOn state payloads before exchanges now rest → Calls state payloads before exchanges now
calls_end state payloads before exchanges now rest so_far =
    let P : List CallReport → Type 0 = λ l. Calls state payloads before l now in
    subst P (sym (append_none exchanges)) (so_far now [] refl)

-- no answer so far lacked memory or lost the connection
abbrev pub AllGoOn : List CallReport → Type 0
AllGoOn [] = Unit {0}
AllGoOn (exchange ∷ exchanges) = GoesOn exchange.answer × AllGoOn exchanges

pub all_one : (exchanges : List CallReport) (told : CallReport) → AllGoOn exchanges
    → GoesOn told.answer → AllGoOn (exchanges ++ told ∷ [])
all_one [] told all on = (on, tt)
all_one (x ∷ exchanges) told all on = (all.0, all_one exchanges told all.1 on)

pub all_but_last : (exchanges : List CallReport) (told : CallReport) → AllGoOn exchanges → GoOn (exchanges ++ told ∷ [])
all_but_last [] told all = tt
all_but_last (x ∷ []) told all = (all.0, tt)
all_but_last (x ∷ y ∷ exchanges) told all = (all.0, all_but_last (y ∷ exchanges) told all.1)

-- the calls so far, and one whose answer is lost
pub cut_off : {T : Type 0} (state : T → LinkState) (payloads : List RequestPayload)
    (before : ClientState T) (exchanges : List CallReport) (now next : ClientState T)
    (payload : RequestPayload) (rest : List RequestPayload) (answer : Answer) →
    IsCall state payload now next answer
    → CallsOn state payloads before exchanges now (payload ∷ rest) → AllGoOn exchanges
    → CutOff state payloads before next
cut_off state payloads before exchanges now next payload rest answer call so_far all = record {
  exchanges = exchanges ++ client_report answer next ∷ [];
  made = calls_end state payloads before (exchanges ++ client_report answer next ∷ []) next rest
      (calls_on state payloads before exchanges now next payload rest answer call so_far);
  on = all_but_last exchanges (client_report answer next) all;
}

pub on_err : {A E P : Type 0} (r : Result A E) → P → OnErr r P
on_err (Ok a) p = tt
on_err (Err e) p = p

-- the client holds the texts of the last of its calls
pub calls_texts : {T : Type 0} (state : T → LinkState) (payloads : List RequestPayload)
    (before : ClientState T) (exchanges : List CallReport) (after : ClientState T) →
    Calls state payloads before exchanges after → held_texts after ≡ last_texts (held_texts before) exchanges
calls_texts state payloads before [] after calls = ap held_texts calls
calls_texts state [] before (x ∷ exchanges) after calls = absurd calls
calls_texts state (payload ∷ payloads) before (x ∷ exchanges) after calls =
    let later = calls_texts state payloads calls.0 exchanges after calls.3 in
    later ∙ ap (λ (t : CallReport). last_texts (t.request_text, t.response_text) exchanges) (sym calls.2)

-- the diagnostic of a request whose call did not lack memory
request_reported : (buffered : Bool) (request : Option (List ℕ)) (answer : Answer)
    (text : Option (List ℕ)) → lacks_memory answer ≡ false
    → IsRequestText buffered request answer text → text ≡ diagnostic_of buffered request
request_reported buffered request (Ok payload) text room is = is
request_reported buffered request (Err OutOfMemory) text room is = absurd (let e : true ≡ false = room in cc)
request_reported buffered request (Err error) text room is = is

abbrev pub HaveRoom : List CallReport → Type 0
HaveRoom [] = Unit {0}
HaveRoom (exchange ∷ exchanges) = (lacks_memory exchange.answer ≡ false) × HaveRoom exchanges

pub have_room : (exchanges : List CallReport) → AllGoOn exchanges → HaveRoom exchanges
have_room [] all = tt
have_room (x ∷ exchanges) all = (all.0.1, have_room exchanges all.1)

pub room_one : (exchanges : List CallReport) (told : CallReport) → AllGoOn exchanges
    → lacks_memory told.answer ≡ false → HaveRoom (exchanges ++ told ∷ [])
room_one [] told all room = (room, tt)
room_one (x ∷ exchanges) told all room = (all.0.1, room_one exchanges told all.1 room)

-- each exchange has the diagnostic of its request
pub calls_requests : {T : Type 0} (state : T → LinkState) (buffered : Bool)
    (credential : Option CredentialType) (payloads : List RequestPayload) (before : ClientState T)
    (exchanges : List CallReport) (after : ClientState T) →
    before.buffered ≡ buffered → before.credential ≡ credential → HaveRoom exchanges
    → Calls state payloads before exchanges after
    → AreRequestTexts buffered credential payloads exchanges
calls_requests state buffered credential payloads before [] after same own room calls = tt
calls_requests state buffered credential [] before (x ∷ exchanges) after same own room calls = absurd calls
calls_requests state buffered credential (payload ∷ payloads) before (x ∷ exchanges) after same own room calls =
    let call = calls.1 in
    let told : calls.0.request_text ≡ diagnostic_of before.buffered
    (request_bytes payload before.credential) =
    request_reported before.buffered (request_bytes payload before.credential)
    x.answer calls.0.request_text room.0 call.request_text in (
      ap (λ (t : CallReport). t.request_text) calls.2 ∙ told
          ∙ ap (λ (b : Bool). diagnostic_of b (request_bytes payload before.credential)) same
          ∙ ap (λ (c : Option CredentialType). diagnostic_of buffered (request_bytes payload c))
          own,
      calls_requests state buffered credential payloads calls.0 exchanges after
          (call.buffered ∙ same) (call.credential ∙ own) room.1 calls.3,
    )

pub ends_one : (exchanges : List CallReport) (told : CallReport)
    → ends_lost (exchanges ++ told ∷ []) ≡ loses_connection told.answer
ends_one [] told = refl
ends_one (x ∷ []) told = refl
ends_one (x ∷ y ∷ exchanges) told = ends_one (y ∷ exchanges) told
