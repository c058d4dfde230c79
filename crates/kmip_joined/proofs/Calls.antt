-- One call over a server with a plain maker: what is expected of it is what the program's definitions say.
use Rattle.std.proofs.Common.{◌≡◌, ℕ, ℤ, pos, ◌<◌, List, [], ◌∷◌, ◌++◌, length, drop, map, length-append, refl, ◌∙◌, ap, sym, subst, arith, Bool, true, false, cond, Option, Some, None, Result, IfOk, slice_get}
use Rattle.kmip_link.specs.State.{LinkState}
use Rattle.kmip_types.specs.declared.auth.CredentialType.{CredentialType}
use Rattle.kmip_request.specs.Message.{request_bytes}
use Rattle.kmip_response_write.specs.Settled.{response_bytes}
use Rattle.kmip_shape.specs.declared.style.Style.TheVariants.{Bare}
use Rattle.kmip_client.specs.Client.{ClientState}
use Rattle.kmip_client.specs.declared.error.Error.{Error}
use Rattle.kmip_client.specs.Outcome.{outcome_of}
use Rattle.kmip_store.specs.Makers.{MakerState}
use Rattle.kmip_store.specs.Plain.{PlainMemory, plain_state, plain_answers}
use Rattle.kmip_store.specs.declared.call.Call.{Call}
use Rattle.kmip_store.specs.declared.call.Call.TheVariants.{Query, CreateRsaKeyPair, RngRetrieve, Sign, ActivateKey, RevokeKey, DestroyKey, RenameKey, GetKey}
use Rattle.kmip_store.specs.declared.maker.Asked.{Asked}
use Rattle.kmip_store.specs.declared.maker.Made.{Made}
use Rattle.kmip_store.proofs.Plains.{as_many}
use Rattle.std.specs.Option.{option_to_list}
use Rattle.kmip_server_core.specs.Requests.{request_of, call_operation}
use Rattle.kmip_server_core.specs.Served.{served, asks}
use Rattle.kmip_server.specs.Calls.{HelperRan, called, not_made, IsOfCall, report_of, call_settings, before_all}
use Rattle.kmip_server.specs.OneCall.{standing}
use Rattle.kmip_server.specs.Joined.{CallSettings, Between, Expected, Reported, Unsent, JoinedReport, Next, turn_with, joined_report, answered_with, sent_with, next, expected_calls, finish, has_unsent, ReportsMatch}
use Rattle.kmip_server.specs.Link.{ServerLinkState, IsOpen}
use Rattle.kmip_server.specs.Machine.{first_for}
use Rattle.kmip_server.specs.Session.{CallsRan}
use Rattle.kmip_server.specs.declared.answers.Answered.{Answered}
use Rattle.kmip_server.specs.declared.answers.CallAnswer.{CallAnswer}
use Rattle.kmip_words.specs.Exchange.{Settings as LineSettings, Asked as LineAsked, Step, step_of, request_asked, asked_of, value_in_style, or_empty}
use Rattle.kmip_joined.specs.Lines.{line_call}
use Rattle.kmip_joined.specs.World.{World, Joined, next_made, after_request, after_sending, joined_step, world_of}
use Rattle.kmip_joined.specs.Reports.{IsJoined, HasPlainAnswers, IsMade, ReportsStep}
use Rattle.kmip_joined.proofs.AfterCall.{IsMadeSo}
use Rattle.kmip_joined.proofs.PlainServer.{append_none, first_is}
use Rattle.kmip_joined.proofs.Plain.{world_same, world_at, Stands, stands}
use Rattle.kmip_joined.proofs.ReportedCalls.{told_as}

-- ---- what the server's definitions expect

-- what the maker is asked for a request
abbrev pub extra_of : Between → Option (List ℕ) → List Asked
extra_of now None = []
extra_of now (Some request) = option_to_list (asks now.objects request)

asked_with : (settings : CallSettings) (call : Call) (now after : Between) (request : List ℕ)
    (response : Option (List ℕ))
    → (answered_with settings call now after request response).after.asked ≡ after.asked
asked_with settings call now after request None = refl
asked_with settings call now after request (Some response) = refl

after_asked : (settings : CallSettings) (call : Call) (now : Between) (request : Option (List ℕ))
    → (sent_with settings call now request).after.asked ≡ now.asked ++ extra_of now request
after_asked settings call now None = sym (append_none now.asked)
after_asked settings call now (Some request) = asked_with settings call now _ request _

told_same : (a b : JoinedReport) → Reported a ≡ Reported b → b ≡ a
told_same a b e = cc

-- a response was made
record Formed (settings : CallSettings) (call : Call) (now after : Between) (request : List ℕ)
    (response : Option (List ℕ)) (x : JoinedReport) : Type 0 where
  told : x ≡ joined_report settings call (turn_with settings call (Some request) (after.rest ++ or_empty response))
  objects : (answered_with settings call now after request response).after.objects ≡ after.objects
  rest : (answered_with settings call now after request response).after.rest
      ≡ drop (outcome_of (Some request) (call_operation call) settings.limit
      (after.rest ++ or_empty response)).taken (after.rest ++ or_empty response)

formed : (settings : CallSettings) (call : Call) (now after : Between) (request : List ℕ)
    (response : Option (List ℕ)) (x : JoinedReport)
    → (answered_with settings call now after request response).expected ≡ Reported x →
    Formed settings call now after request response x
formed settings call now after request None x is = absurd (cc)
formed settings call now after request (Some response) x is =
    record { told = told_same _ _ is; objects = refl; rest = refl }

-- what the program's definitions say of a call that is told so
record Comes (settings : CallSettings) (call : Call) (now : Between) (request : Option (List ℕ))
    (after : World) (x : JoinedReport) : Type 0 where
  told : x ≡ joined_report settings call (turn_with settings call request after.rest)
  objects : (sent_with settings call now request).after.objects ≡ after.objects
  rest : (sent_with settings call now request).after.rest
      ≡ drop (outcome_of request (call_operation call) settings.limit after.rest).taken after.rest
  answers : length (sent_with settings call now request).after.asked ≡ after.answers

-- the maker's answer to come is its answer by its number
abbrev IsNext : Between → Option (List ℕ) → Type 0
IsNext now request = now.given ≡ plain_answers (length now.asked) (extra_of now request)

comes : (settings : CallSettings) (call : Call) (now : Between) (request : Option (List ℕ))
    (x : JoinedReport) → settings.time ≡ pos 0 → IsNext now request
    → (sent_with settings call now request).expected ≡ Reported x →
    Comes settings call now request (after_sending (world_at now) request) x
comes settings call now None x time made is =
    record { told = told_same _ _ is; objects = refl; rest = refl; answers = refl }
comes settings call now (Some request) x time made is =
    let q : Option Asked = asks now.objects request in
    let first : first_for q now.given ≡ next_made (world_at now) q =
    first_is q (length now.asked) now.given []
    (made ∙ ap (λ (l : List Asked). plain_answers (length now.asked) l)
    (sym (append_none (option_to_list q)))) in
    let same : served now.objects request (first_for q now.given) settings.time
    ≡ served now.objects request (next_made (world_at now) q) (pos 0) =
    ap (λ (m : Option Made). served now.objects request m settings.time) first
    ∙ ap (λ (t : ℤ). served now.objects request (next_made (world_at now) q) t) time in
    let bytes : response_bytes (served now.objects request (first_for q now.given)
    settings.time).message ≡ response_bytes
    (served now.objects request (next_made (world_at now) q) (pos 0)).message =
    ap (λ s. response_bytes s.message) same in
    let f = formed settings call now _ request
    (response_bytes (served now.objects request (first_for q now.given) settings.time).message)
    x is in
    let rest : now.rest ++ or_empty
    (response_bytes (served now.objects request (first_for q now.given) settings.time).message)
    ≡ (after_request (world_at now) request).rest =
    ap (λ (b : Option (List ℕ)). now.rest ++ or_empty b) bytes in
    record {
      told = f.told ∙ ap (λ (l : List ℕ). joined_report settings call (turn_with settings call (Some request) l)) rest;
      objects = f.objects ∙ ap (λ s. s.objects) same;
      rest = f.rest ∙ ap (λ (l : List ℕ).
          drop (outcome_of (Some request) (call_operation call) settings.limit l).taken l) rest;
      answers = ap length (after_asked settings call now (Some request)) ∙ length-append now.asked (option_to_list q);
    }

-- ---- one call of a list

next_is : (settings : CallSettings) (now : Between) (call : Call)
    → next settings now call ≡ sent_with settings call now
    (request_bytes (request_of call) settings.credential)
unfolding next
next_is settings now call = refl

abbrev no_later : List Expected
no_later = []

cond_none : (b : Bool) → cond b no_later no_later ≡ no_later
cond_none true = refl
cond_none false = refl

cond_same : (b : Bool) (x : Between) → cond b x x ≡ x
cond_same true x = refl
cond_same false x = refl

expected_one : (settings : CallSettings) (now : Between) (call : Call)
    → expected_calls settings now (call ∷ []) ≡ (next settings now call).expected ∷ []
unfolding expected_calls
expected_one settings now call = ap (λ (l : List Expected). (next settings now call).expected ∷ l)
    (cond_none (next settings now call).stops)

finish_one : (settings : CallSettings) (now : Between) (call : Call)
    → finish settings now (call ∷ []) ≡ (next settings now call).after
unfolding finish
finish_one settings now call = cond_same (next settings now call).stops (next settings now call).after

-- the one answer, told as expected
pub record Only (e : Expected) (xs : List CallAnswer) : Type 0 where
  pub x : CallAnswer
  pub is : xs ≡ x ∷ []
  pub told : e ≡ Reported (report_of x)

only : (settings : CallSettings) (e : Expected) (xs : List CallAnswer)
    → ReportsMatch settings (e ∷ []) (map report_of xs) → (has_unsent (e ∷ []) ≡ true → ⊥)
    → Only e xs
only settings (Reported told) [] meet sound = absurd meet
only settings (Reported told) (x ∷ []) meet sound = record { x = x; is = refl; told = ap Reported (sym meet.0) }
only settings (Reported told) (x ∷ y ∷ xs) meet sound = absurd meet.1
only settings (Unsent request) xs meet sound = absurd (sound refl)

-- ---- the program's step

asked_line : (call : Call) (credential : Option CredentialType)
    → request_asked (line_call call) credential ≡ asked_of (request_of call) credential
asked_line Query credential = refl
asked_line (CreateRsaKeyPair bits private public) credential = refl
asked_line (RngRetrieve count) credential = refl
asked_line (Sign id bytes) credential = refl
asked_line (ActivateKey id) credential = refl
asked_line (RevokeKey id) credential = refl
asked_line (DestroyKey id) credential = refl
asked_line (RenameKey id name) credential = refl
asked_line (GetKey id) credential = refl

abbrev line_settings : CallSettings → LineSettings
line_settings settings = record
    { credential = settings.credential; limit = settings.limit; buffered = settings.buffered }

-- the step of what is asked
abbrev step_for : LineSettings → Call → World → LineAsked → Joined
step_for settings call world it =
    let now : World = after_sending world it.message in
    let s : Step = step_of (λ payload. value_in_style (line_call call) payload Bare)
    Bare settings.buffered now.rest (outcome_of it.message it.operation settings.limit now.rest)
    in
    record { step = s; after = record now { rest = drop s.taken now.rest } }

step_is : (settings : LineSettings) (call : Call) (world : World)
    → joined_step settings (line_call call) world
    ≡ step_for settings call world (asked_of (request_of call) settings.credential)
unfolding joined_step
step_is settings call world = ap (λ (it : LineAsked). step_for settings call world it)
    (asked_line call settings.credential)

-- ---- a call that was made

pub record MadeSo (settings : LineSettings) (call : Call)
    (before after : ServerLinkState PlainMemory) (x : CallAnswer) : Type 0 where
  pub world : world_of after ≡ (joined_step settings (line_call call) (world_of before)).after
  pub told : ReportsStep (joined_step settings (line_call call) (world_of before)).step settings.buffered x

-- what is known of a call before and after it, with what stood before it by the maker's answers in the end
pub record Known (settings : CallSettings) (call : Call)
    (before after : ServerLinkState PlainMemory) (now : Between) (x : CallAnswer) : Type 0 where
  pub time : settings.time ≡ pos 0
  pub plain_after : HasPlainAnswers after
  pub stood : (extra : List Asked) → after.server.maker.asked ≡ now.asked ++ extra → Stands before now extra
  pub ends : standing plain_state after ≡ (next settings now call).after
  pub told : (next settings now call).expected ≡ Reported (report_of x)
  pub fits : IfOk x.answer (IsOfCall call)

made_known : (settings : CallSettings) (call : Call) (before after : ServerLinkState PlainMemory)
    (now : Between) (x : CallAnswer) → Known settings call before after now x
    → MadeSo (line_settings settings) call before after x
made_known settings call before after now x known =
    let request : Option (List ℕ) = request_bytes (request_of call) settings.credential in
    let n : Next = sent_with settings call now request in
    let e : next settings now call ≡ n = next_is settings now call in
    let ends : standing plain_state after ≡ n.after = known.ends ∙ ap (λ (it : Next). it.after) e in
    let asked : after.server.maker.asked ≡ now.asked ++ extra_of now request =
    ap (λ (b : Between). b.asked) ends ∙ after_asked settings call now request in
    let stood : Stands before now (extra_of now request) = known.stood (extra_of now request) asked in
    let it = comes settings call now request (report_of x) known.time stood.given
    (sym (ap (λ (it : Next). it.expected) e) ∙ known.told) in
    let step : joined_step (line_settings settings) (line_call call) (world_of before)
    ≡ step_for (line_settings settings) call (world_at now)
    (asked_of (request_of call) settings.credential) =
    step_is (line_settings settings) call (world_of before)
    ∙ ap (λ (w : World). step_for (line_settings settings) call w
    (asked_of (request_of call) settings.credential)) stood.world in
    record {
      world = world_same _ _ _ _ _ _ (ap (λ (b : Between). b.objects) ends ∙ it.objects)
          (ap length known.plain_after ∙ as_many 0 after.server.maker.asked
          ∙ ap (λ (b : Between). length b.asked) ends ∙ it.answers)
          (ap (λ (b : Between). b.rest) ends ∙ it.rest)
          ∙ ap (λ (j : Joined). j.after) (sym step);
      told = subst (λ (j : Joined). ReportsStep j.step settings.buffered x) (sym step)
          (told_as settings call request
          (after_sending (world_at now) request).rest x it.told known.fits);
    }

-- ---- the answer is of the variant of its call

ran_fits : {T : Type 0} {state : T → LinkState} {call : Call} {before after : ClientState T}
    {result : Result Answered Error} → HelperRan state call before after result
    → IfOk result (IsOfCall call)
ran_fits (called answer is_call is fits) = fits
ran_fits {call = call} (not_made is stays) = subst (λ r. IfOk r (IsOfCall call)) (sym is) tt

abbrev FirstFits : List Call → List CallAnswer → Type 0
FirstFits (call ∷ calls) (x ∷ xs) = IfOk x.answer (IsOfCall call)
FirstFits calls xs = Unit {0}

first_fits : {M : Type 0} {state : M → MakerState} {calls : List Call}
    {before after : ClientState (ServerLinkState M)} {xs : List CallAnswer}
    → CallsRan state calls before xs after → FirstFits calls xs
first_fits (CallsRan.at_end client) = tt
first_fits (CallsRan.at_loss call calls before after report ran lost) = ran_fits ran.ran
first_fits (CallsRan.later call calls before between after report reports ran on more) = ran_fits ran.ran

-- the first answer of a list of one
popped : (rest : List CallAnswer) (x y : CallAnswer) → y ∷ [] ≡ x ∷ rest → y ≡ x
popped rest x y e = cc

abbrev Clients : Type 0
Clients = ClientState (ServerLinkState PlainMemory)

one_of : (old new : Clients) (call : Call) (xs : List CallAnswer) → IsOpen plain_state old.link
    → IsMade old new call xs →
    Only (next (call_settings old) (before_all plain_state old new.link) call).expected xs
one_of old new call xs opened said =
    let s : CallSettings = call_settings old in
    let now : Between = before_all plain_state old new.link in
    let one : expected_calls s now (call ∷ []) ≡ (next s now call).expected ∷ [] = expected_one s now call in
    only s (next s now call).expected xs
    (subst (λ (es : List Expected). ReportsMatch s es (map report_of xs)) one
    (said.session.joined opened))
    (λ cut. let above : 0 < new.link.faults =
    said.session.faulted opened (ap has_unsent one ∙ cut) in
    let sound : new.link.faults ≡ 0 = said.sound in omega (arith, above, sound))

came_so : (old new : Clients) (call : Call) (xs rest : List CallAnswer) (x : CallAnswer)
    → IsJoined old.link → IsMade old new call xs → xs ≡ x ∷ rest →
    MadeSo (line_settings (call_settings old)) call old.link new.link x
came_so old new call xs rest x joined said last =
    let s : CallSettings = call_settings old in
    let now : Between = before_all plain_state old new.link in
    let it = one_of old new call xs joined.is_open said in
    let same : it.x ≡ x = popped rest x it.x (sym it.is ∙ last) in
    made_known s call old.link new.link now x (record {
      time = joined.time;
      plain_after = said.plain_after;
      stood = λ extra asked.
          stands old.link new.link.server.maker.given new.link.server.maker.asked extra joined.is_open said.known said.plain said.plain_after asked;
      ends = said.session.finished joined.is_open ∙ finish_one s now call;
      told = it.told ∙ ap (λ (a : CallAnswer). Reported (report_of a)) same;
      fits = subst (λ (l : List CallAnswer). FirstFits (call ∷ []) l) last (first_fits said.session.ran);
    })

-- ---- what stays

not_true : (b : Bool) → (b ≡ true → ⊥) → b ≡ false
not_true true not = absurd (not refl)
not_true false not = refl

pub still_joined : (old new : Clients) (call : Call) (xs : List CallAnswer) → IsJoined old.link
    → IsMade old new call xs → IsJoined new.link
still_joined old new call xs joined made = record {
  is_open = made.session.opened joined.is_open
      (not_true _ (λ cut. let above : 0 < new.link.faults =
      made.session.faulted joined.is_open cut in let sound : new.link.faults ≡ 0 = made.sound in
      omega (arith, above, sound)));
  time = ap (λ (s : CallSettings). s.time) made.settings ∙ joined.time;
}

pub same_settings : (old new : Clients) (call : Call) (xs : List CallAnswer)
    → IsMade old new call xs → line_settings (call_settings new) ≡ line_settings (call_settings old)
same_settings old new call xs made = ap line_settings made.settings

-- ---- so a call was made

first_of : (xs : List CallAnswer) (x : CallAnswer) → slice_get xs 0 ≡ Some x
    → (rest : List CallAnswer) × (xs ≡ x ∷ rest)
first_of [] x is = absurd (cc)
first_of (y ∷ ys) x is = (ys, cc)

pub made_so : (old new : Clients) (call : Call) (xs : List CallAnswer) (x : CallAnswer)
    → IsJoined old.link → IsMade old new call xs → slice_get xs 0 ≡ Some x
    → IsMadeSo old new call x
made_so old new call xs x joined made is =
    let first = first_of xs x is in
    let it = came_so old new call xs first.0 x joined made first.1 in
    record {
      settings = same_settings old new call xs made;
      joined =
          still_joined old new call xs joined made;
      world = it.world;
      tells = it.told;
    }
