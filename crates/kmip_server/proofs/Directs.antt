-- What is expected of calls over a server that starts with nothing to read is what the object map answers.
use Rattle.std.proofs.Common.{◌≡◌, ℕ, ℤ, List, [], ◌∷◌, ◌++◌, drop, map, refl, ◌∙◌, ap, sym, subst, Option, Some, None, true, false, Result, Ok, Err}
use Rattle.std.specs.Prelude.{IfOk}
use Rattle.std.proofs.Math.Seq.{drop-length}
use Rattle.kmip_response.specs.Values.{response_message_val}
use Rattle.kmip_request_read.specs.Reading.{request_read, request_for}
use Rattle.kmip_server.proofs.Responses.{AreReadBack, ReadsBack, reads_back}
use Rattle.kmip_server.proofs.Readings.{answer_is, taken_is}
use Rattle.kmip_response_write.specs.Settled.{IsHeld as IsHeldResponse, IsSettled, response_bytes}
use Rattle.kmip_request.specs.Message.{operation_of}
use Rattle.kmip_response.specs.declared.message.ResponseMessage.{ResponseMessage}
use Rattle.kmip_client.specs.Check.{check_response, check_item}
use Rattle.kmip_client.specs.Client.{ClientState, loses_connection, count_after}
use Rattle.kmip_client.specs.Outcome.{Answer}
use Rattle.kmip_store.specs.declared.call.Call.{Call}
use Rattle.kmip_store.specs.declared.call.Call.TheVariants.{Query, CreateRsaKeyPair, RngRetrieve, Sign, ActivateKey, RevokeKey, DestroyKey, RenameKey, GetKey}
use Rattle.kmip_store.specs.declared.object.Object.{Object}
use Rattle.kmip_store.specs.declared.maker.Made.{Made}
use Rattle.kmip_store.specs.declared.maker.Asked.{Asked}
use Rattle.std.specs.Option.{option_to_list}
use Rattle.kmip_store.specs.Steps.{Answer as Reply, NotFound, Denied, Failed, Done, Supports, Created, Random, Signed, Got, question, step}
use Rattle.kmip_server_core.specs.Served.{Served, served_call, served, asks}
use Rattle.kmip_server_core.specs.Requests.{request_of, call_of, is_served, call_operation}
use Rattle.kmip_response.specs.declared.batch_item.BatchItem.{BatchItem}
use Rattle.kmip_response.specs.declared.payload.ResponsePayload.{ResponsePayload}
use Rattle.kmip_server_core.specs.Items.{payload_for, done_item, item_for, message_with}
use Rattle.kmip_server.specs.Machine.{first_for, rest_for}
use Rattle.kmip_server.specs.Joined.{CallSettings, Between, JoinedReport, Reported, Next, IsHeldNext, Unless, AreHeldNext, helper_answer, joined_report, turn_with, next, expected_calls, ReportsMatch, finish, last_is_lost}
use Rattle.kmip_server.specs.Direct.{done_answer, reply_answer, direct, answered_calls, OneFits, AllFit, answers_of}
use Rattle.kmip_server.proofs.Steps.{after_bytes, next_formed, same_next, same_between}
use Rattle.kmip_client.specs.declared.error.Error.{Error}
use Rattle.kmip_store.specs.Makers.{MakerState}
use Rattle.kmip_store.specs.Runs.{objects_after}
use Rattle.kmip_server.proofs.CallSteps.{finish_cons, finish_end, between_new, open_new}
use Rattle.kmip_server.proofs.Chain.{ran_texts, ran_requests}
use Rattle.kmip_server.specs.Link.{ServerLinkState, server_link_state, IsOpen}
use Rattle.kmip_server.specs.OneCall.{between, CallsEnd}
use Rattle.kmip_server.specs.Calls.{report_of, call_settings}
use Rattle.kmip_server.specs.Session.{CallsRan, IsCallSession}
use Rattle.kmip_server.specs.declared.answers.CallAnswer.{CallAnswer}

-- what the crates below promise
pub record Laws : Type 0 where
  pub own : (call : Call) → call_of (request_for (request_of call)) ≡ Some call
  pub settled : (objects : List Object) (call : Call) (made : Option Made) (t : ℤ)
      → IsHeldResponse (served_call objects call made t).message
      → IsSettled (served_call objects call made t).message
  pub back : AreReadBack

-- ---- a helper's request is that helper's call

own_served : (call : Call) → is_served (operation_of (request_of call)) ≡ true
own_served Query = refl
own_served (CreateRsaKeyPair bits private public) = refl
own_served (RngRetrieve n) = refl
own_served (Sign id bytes) = refl
own_served (ActivateKey id) = refl
own_served (RevokeKey id) = refl
own_served (DestroyKey id) = refl
own_served (RenameKey id name) = refl
own_served (GetKey id) = refl

pub served_own : Laws → (objects : List Object) (call : Call) (b : List ℕ) (made : Option Made)
    (t : ℤ) → request_read b ≡ Some (request_for (request_of call))
    → served objects b made t ≡ served_call objects call made t
unfolding served
served_own laws objects call b made t read = rw (read, own_served call, laws.own call) refl

pub asks_own : Laws → (objects : List Object) (call : Call) (b : List ℕ)
    → request_read b ≡ Some (request_for (request_of call)) → asks objects b ≡ question objects call
unfolding asks
asks_own laws objects call b read = rw (read, own_served call, laws.own call) refl

-- ---- what the client answers to what the server says

abbrev said : Call → BatchItem → ℤ → Answer
said call item t = check_response (call_operation call) (response_message_val (message_with t item))

-- a call that was done
done_is : (call : Call) (payload : Option ResponsePayload) (t : ℤ)
    → helper_answer call (said call (done_item (call_operation call) payload) t)
    ≡ done_answer call payload
unfolding check_item
done_is Query None t = refl
done_is Query (Some payload) t = refl
done_is (CreateRsaKeyPair bits private public) None t = refl
done_is (CreateRsaKeyPair bits private public) (Some payload) t = refl
done_is (RngRetrieve n) None t = refl
done_is (RngRetrieve n) (Some payload) t = refl
done_is (Sign id bytes) None t = refl
done_is (Sign id bytes) (Some payload) t = refl
done_is (ActivateKey id) None t = refl
done_is (ActivateKey id) (Some payload) t = refl
done_is (RevokeKey id) None t = refl
done_is (RevokeKey id) (Some payload) t = refl
done_is (DestroyKey id) None t = refl
done_is (DestroyKey id) (Some payload) t = refl
done_is (RenameKey id name) None t = refl
done_is (RenameKey id name) (Some payload) t = refl
done_is (GetKey id) None t = refl
done_is (GetKey id) (Some payload) t = refl

pub said_is : (call : Call) (reply : Reply) (t : ℤ)
    → helper_answer call (said call (item_for call reply) t) ≡ reply_answer call reply
unfolding check_item
said_is call NotFound t = refl
said_is call Denied t = refl
said_is call Failed t = refl
said_is call Done t = done_is call (payload_for call Done) t
said_is call (Supports operations types) t = done_is call (payload_for call (Supports operations types)) t
said_is call (Created private public) t = done_is call (payload_for call (Created private public)) t
said_is call (Random bytes) t = done_is call (payload_for call (Random bytes)) t
said_is call (Signed bytes) t = done_is call (payload_for call (Signed bytes)) t
said_is call (Got object) t = done_is call (payload_for call (Got object)) t

-- such an answer keeps the connection
done_keeps : (call : Call) (payload : Option ResponsePayload) → loses_connection (done_answer call payload) ≡ false
done_keeps call None = refl
done_keeps call (Some payload) = refl

replies_keep : (call : Call) (reply : Reply) → loses_connection (reply_answer call reply) ≡ false
replies_keep call NotFound = refl
replies_keep call Denied = refl
replies_keep call Failed = refl
replies_keep call Done = done_keeps call (payload_for call Done)
replies_keep call (Supports operations types) = done_keeps call (payload_for call (Supports operations types))
replies_keep call (Created private public) = done_keeps call (payload_for call (Created private public))
replies_keep call (Random bytes) = done_keeps call (payload_for call (Random bytes))
replies_keep call (Signed bytes) = done_keeps call (payload_for call (Signed bytes))
replies_keep call (Got object) = done_keeps call (payload_for call (Got object))

helped_keeps : (call : Call) (answer : Answer) → loses_connection (helper_answer call answer) ≡ loses_connection answer
helped_keeps call (Ok val) = refl
helped_keeps call (Err error) = refl

-- ---- one call

-- no answer is left to read
abbrev starts : List Object → List Made → List Asked → Between
starts objects given asked = record { objects = objects; given = given; asked = asked; rest = [] }

-- what a call is told as, whose answer is the object map's
record Own (settings : CallSettings) (objects : List Object) (given : List Made)
    (asked : List Asked) (call : Call) : Type 0 where
  pub told : JoinedReport
  pub answer : told.answer ≡ reply_answer call (step objects call (first_for (question objects call) given)).answer
  pub next_is : next settings (starts objects given asked) call ≡ record {
    expected = Reported told;
    stops = false;
    after = starts (step objects call (first_for (question objects call) given)).objects
        (rest_for (question objects call) given) (asked ++ option_to_list (question objects call));
  }

served_call_objects : (objects : List Object) (call : Call) (made : Option Made) (t : ℤ)
    → (served_call objects call made t).objects ≡ (step objects call made).objects
unfolding served_call
served_call_objects objects call made t = refl

served_call_message : (objects : List Object) (call : Call) (made : Option Made) (t : ℤ)
    → (served_call objects call made t).message
    ≡ message_with t (item_for call (step objects call made).answer)
unfolding served_call
served_call_message objects call made t = refl

own_next : Laws → (settings : CallSettings) (objects : List Object) (given : List Made)
    (askeds : List Asked) (call : Call)
    → OneFits settings objects call (first_for (question objects call) given) →
    IsHeldNext settings (starts objects given askeds) call → Own settings objects given askeds call
own_next laws settings objects given askeds call fits held =
    let t : ℤ = settings.time in
    let b : List ℕ = fits.request in
    let r : List ℕ = fits.response in
    let made : Option Made = first_for (question objects call) given in
    let now : Between = starts objects given askeds in
    let read : request_read b ≡ Some (request_for (request_of call)) = held.reads b fits.valid in
    let asked = asks_own laws objects call b read in
    let mades : first_for (asks objects b) given ≡ made = ap (λ q. first_for q given) asked in
    let is_served_so : served objects b (first_for (asks objects b) given) t
    ≡ served_call objects call made t =
    ap (λ a. served objects b a t) mades ∙ served_own laws objects call b made t read in
    let m : ResponseMessage = (served_call objects call made t).message in
    let formed : response_bytes (served objects b (first_for (asks objects b) given) t).message
    ≡ Some r = ap (λ (s : Served). response_bytes s.message) is_served_so ∙ fits.formed in
    let holds : IsHeldResponse m = subst (λ (s : Served). IsHeldResponse s.message) is_served_so
    (held.holds b r fits.valid formed) in
    let back : ReadsBack m r = reads_back laws.back m r holds (laws.settled objects call made t holds) fits.formed in
    let turn = turn_with settings call (Some b) r in
    let message : m ≡ message_with t (item_for call (step objects call made).answer) =
    served_call_message objects call made t in
    let answered : turn.outcome.answer
    ≡ check_response (call_operation call)
    (response_message_val (message_with t (item_for call (step objects call made).answer))) =
    answer_is (call_operation call) m r settings.limit back fits.within
    ∙ ap (λ (x : ResponseMessage). check_response (call_operation call)
    (response_message_val x)) message in
    let helped_is : helper_answer call turn.outcome.answer
    ≡ reply_answer call (step objects call made).answer =
    ap (helper_answer call) answered ∙ said_is call (step objects call made).answer t in
    let stops : loses_connection turn.outcome.answer ≡ false =
    sym (helped_keeps call turn.outcome.answer) ∙ ap loses_connection helped_is
    ∙ replies_keep call (step objects call made).answer in
    let rests : drop turn.outcome.taken r ≡ [] =
    ap (λ n. drop n r) (taken_is r settings.limit m back fits.within) ∙ drop-length r in
    let objects_is : (after_bytes settings now b).objects ≡ (step objects call made).objects =
    ap (λ (s : Served). s.objects) is_served_so ∙ served_call_objects objects call made t in
    let given_is : (after_bytes settings now b).given ≡ rest_for (question objects call) given =
    ap (λ q. rest_for q given) asked in
    let asked_is : (after_bytes settings now b).asked
    ≡ askeds ++ option_to_list (question objects call) =
    ap (λ q. askeds ++ option_to_list q) asked in
    record {
      told = joined_report settings call turn;
      answer = helped_is;
      next_is = next_formed settings now call b r fits.valid formed
          ∙ same_next _ _ _ _ _ _ refl stops
          (same_between _ _ _ _ _ _ _ _ objects_is given_is asked_is rests);
    }

-- ---- all calls

expected_on : (settings : CallSettings) (now : Between) (call : Call) (calls : List Call)
    (told : JoinedReport) (after : Between)
    → next settings now call ≡ record { expected = Reported told; stops = false; after = after } →
    expected_calls settings now (call ∷ calls) ≡ Reported told ∷ expected_calls settings after calls
unfolding expected_calls
expected_on settings now call calls told after e = rw e refl

expected_end : (settings : CallSettings) (now : Between) → expected_calls settings now [] ≡ []
unfolding expected_calls
expected_end settings now = refl

held_first : (settings : CallSettings) (now : Between) (call : Call) (calls : List Call)
    → AreHeldNext settings now (call ∷ calls) → IsHeldNext settings now call
unfolding AreHeldNext
held_first settings now call calls held = held.0

held_later : (settings : CallSettings) (now : Between) (call : Call) (calls : List Call)
    (told : JoinedReport) (after : Between)
    → next settings now call ≡ record { expected = Reported told; stops = false; after = after } →
    AreHeldNext settings now (call ∷ calls) → AreHeldNext settings after calls
unfolding AreHeldNext
held_later settings now call calls told after e held =
    let later : Unless (next settings now call).stops
    (AreHeldNext settings (next settings now call).after calls) = held.1 in
    subst (λ (n : Next). Unless n.stops (AreHeldNext settings n.after calls)) e later

-- Client and server joined answer as the object map.
pub joined_is_direct : Laws → (settings : CallSettings) (objects : List Object) (given : List Made)
    (asked : List Asked) (calls : List Call) (xs : List JoinedReport)
    → AllFit settings objects given calls →
    AreHeldNext settings (starts objects given asked) calls
    → ReportsMatch settings (expected_calls settings (starts objects given asked) calls) xs
    → answers_of xs ≡ direct objects given calls
joined_is_direct laws settings objects given asked [] xs fit held meet =
    go xs (subst (λ es. ReportsMatch settings es xs) (expected_end settings _) meet)
  where
    go : (ys : List JoinedReport) → ReportsMatch settings [] ys → answers_of ys ≡ []
    go [] m = refl
    go (y ∷ ys) m = absurd m
joined_is_direct laws settings objects given asked (call ∷ calls) xs fit held meet =
    go (λ ys m. joined_is_direct laws settings
    (step objects call (first_for (question objects call) given)).objects
    (rest_for (question objects call) given)
    (asked ++ option_to_list (question objects call)) calls ys fit.1
    (held_later settings _ call calls own.told _ own.next_is held) m)
    xs (subst (λ es. ReportsMatch settings es xs) (expected_on settings _ call calls own.told _ own.next_is) meet)
  where
    own : Own settings objects given asked call
    own = own_next laws settings objects given asked call fit.0 (held_first settings _ call calls held)

    go : ((ys : List JoinedReport) → ReportsMatch settings
        (expected_calls settings (starts (step objects call
        (first_for (question objects call) given)).objects (rest_for (question objects call) given)
        (asked ++ option_to_list (question objects call))) calls) ys →
        answers_of ys ≡ direct (step objects call (first_for (question objects call) given)).objects
        (rest_for (question objects call) given) calls) →
        (ys : List JoinedReport) → ReportsMatch settings
        (Reported own.told ∷ expected_calls settings
        (starts (step objects call (first_for (question objects call) given)).objects
        (rest_for (question objects call) given)
        (asked ++ option_to_list (question objects call))) calls) ys →
        answers_of ys ≡ direct objects given (call ∷ calls)
    go hypothesis [] m = absurd m
    go hypothesis (y ∷ ys) m =
        let first : y.answer ≡ reply_answer call
        (step objects call (first_for (question objects call) given)).answer =
        ap (λ (x : JoinedReport). x.answer) m.0 ∙ own.answer in
        let later = hypothesis ys m.1 in
        ap (λ a. a ∷ answers_of ys) first
        ∙ ap (λ as'. reply_answer call
        (step objects call (first_for (question objects call) given)).answer ∷ as') later

-- over a link that was just made
pub direct_new : Laws → (settings : CallSettings) (now : Between) (given : List Made)
    (calls : List Call) (xs : List JoinedReport)
    → now ≡ record { objects = []; given = given; asked = []; rest = [] }
    → AllFit settings [] given calls →
    AreHeldNext settings now calls → ReportsMatch settings (expected_calls settings now calls) xs
    → answers_of xs ≡ direct [] given calls
direct_new laws settings now given calls xs is fit held meet =
    joined_is_direct laws settings [] given [] calls xs fit
    (subst (λ n. AreHeldNext settings n calls) is held)
    (subst (λ n. ReportsMatch settings (expected_calls settings n calls) xs) is meet)

-- the objects are those of the object map too
objects_are_direct : Laws → (settings : CallSettings) (objects : List Object) (given : List Made)
    (asked : List Asked) (calls : List Call) → AllFit settings objects given calls →
    AreHeldNext settings (starts objects given asked) calls
    → (finish settings (starts objects given asked) calls).objects
    ≡ objects_after objects (answered_calls objects given calls)
objects_are_direct laws settings objects given asked [] fit held =
    ap (λ (b : Between). b.objects) (finish_end settings (starts objects given asked))
objects_are_direct laws settings objects given asked (call ∷ calls) fit held =
    let own : Own settings objects given asked call =
    own_next laws settings objects given asked call fit.0
    (held_first settings _ call calls held) in
    ap (λ (b : Between). b.objects) (finish_cons settings _ call calls (Reported own.told) false _ own.next_is)
    ∙ objects_are_direct laws settings
    (step objects call (first_for (question objects call) given)).objects
    (rest_for (question objects call) given)
    (asked ++ option_to_list (question objects call)) calls fit.1
    (held_later settings _ call calls own.told _ own.next_is held)

objects_new : Laws → (settings : CallSettings) (now : Between) (given : List Made)
    (calls : List Call) → now ≡ record { objects = []; given = given; asked = []; rest = [] }
    → AllFit settings [] given calls →
    AreHeldNext settings now calls → (finish settings now calls).objects
    ≡ objects_after [] (answered_calls [] given calls)
objects_new laws settings now given calls is fit held =
    ap (λ n. (finish settings n calls).objects) is
    ∙ objects_are_direct laws settings [] given [] calls fit
    (subst (λ n. AreHeldNext settings n calls) is held)

-- ---- all that is promised of calls

session_of : Laws → {M : Type 0} (state : M → MakerState) (calls : List Call)
    (before after : ClientState (ServerLinkState M)) (reports : List CallAnswer)
    → CallsRan state calls before reports after →
    (IsOpen state before.link → CallsEnd state (call_settings before)
    (server_link_state state before.link) after.link calls (map report_of reports)) →
    after.errors ≡ count_after before.errors (last_is_lost (map report_of reports))
    → IsCallSession state calls before after reports
session_of laws state calls before after reports ran ended count =
    let settings : CallSettings = call_settings before in
    let given : List Made = (state after.link.server.maker).given in
    let now : Between = between before.link.server.time given (server_link_state state before.link) in
    record {
      ran = ran;
      texts = ran_texts ran;
      requests = ran_requests state before.buffered before.credential refl refl ran;
      count = count;
      joined = λ opened. (ended opened).meet;
      finished = λ opened. (ended opened).ends;
      opened = λ opened. (ended opened).opened;
      faulted = λ opened. (ended opened).faulted;
      direct_answers = λ new fit.
          let end = ended (open_new state before.link new) in
          direct_new laws settings now given calls (map report_of reports)
          (between_new before.link.server.time given
          (server_link_state state before.link) new.sent new.ever new.pos)
          fit end.held end.meet;
      direct_objects = λ new fit.
          let end = ended (open_new state before.link new) in
          ap (λ (b : Between). b.objects) end.ends
          ∙ objects_new laws settings now given calls
          (between_new before.link.server.time given
          (server_link_state state before.link) new.sent new.ever new.pos) fit end.held;
    }

pub session_if : Laws → {M : Type 0} (state : M → MakerState) (calls : List Call)
    (before after : ClientState (ServerLinkState M)) (result : Result (List CallAnswer) Error)
    → IfOk result (λ reports. CallsRan state calls before reports after) →
    IfOk result (λ reports. IsOpen state before.link
    → CallsEnd state (call_settings before)
    (server_link_state state before.link) after.link calls (map report_of reports)) →
    IfOk result (λ reports. after.errors
    ≡ count_after before.errors (last_is_lost (map report_of reports)))
    → IfOk result (λ reports. IsCallSession state calls before after reports)
session_if laws state calls before after (Ok reports) ran ended count =
    session_of laws state calls before after reports ran ended count
session_if laws state calls before after (Err error) ran ended count = ran
