-- Calls one after the other: what is told so far, and what is still expected.
use Rattle.std.proofs.Common.{◌≡◌, ℕ, ℤ, ◌+◌, ◌<◌, ◌≤◌, suc, length, drop, get_or, add-one, drop-cons, arith, List, [], ◌∷◌, ◌++◌, refl, ◌∙◌, ap, sym, subst, append_assoc, Bool, true, false, cond, map}
use Rattle.std.proofs.lemmas.List.{map-append}
use Rattle.kmip_link.specs.State.{LinkState}
use Rattle.kmip_store.specs.declared.call.Call.{Call}
use Rattle.kmip_store.specs.declared.maker.Made.{Made}
use Rattle.std.proofs.lemmas.Grind.{common_steps}
use Rattle.kmip_store.specs.Makers.{MakerState}
use Rattle.kmip_client.specs.Client.{loses_connection}
use Rattle.kmip_server.specs.Link.{ServerLinkState, server_link_state, HasServed, LinkFacts, IsOpen, IsNew, IsUnused}
use Rattle.kmip_server.specs.Split.{messages_in}
use Rattle.kmip_server.specs.Machine.{Run, run_of}
use Rattle.kmip_server.specs.Joined.{CallSettings, Between, JoinedReport, Expected, Reported, Unsent, next, expected_calls, finish, has_unsent, IsHeldNext, Unless, AreHeldNext, ReportMatches, ReportsMatch, last_is_lost}
use Rattle.kmip_server.specs.OneCall.{between, standing, Agrees, CallMatches, CallAlwaysMatches, CallEffect, as_expected, cut_short, CallsEnd}
use Rattle.kmip_server.specs.Calls.{report_of}
use Rattle.kmip_server.specs.declared.answers.CallAnswer.{CallAnswer}
use Rattle.kmip_server.proofs.Steps.{same_between}
use Rattle.kmip_server.proofs.Opened.{serves_agree}

-- with these answers of the maker, what is expected of the calls that are left completes what was told
pub record GoesOn (settings : CallSettings) (start now : LinkState) (all later : List Call)
    (xs : List JoinedReport) (given : List Made) : Type 0 where
  pub agrees : Agrees settings.time given start
  pub meets : (ys : List JoinedReport)
      → ReportsMatch settings (expected_calls settings (between settings.time given now) later) ys
      → ReportsMatch settings (expected_calls settings (between settings.time given start) all)
      (xs ++ ys)
  pub ends : finish settings (between settings.time given now) later
      ≡ finish settings (between settings.time given start) all
  pub cuts : has_unsent (expected_calls settings (between settings.time given now) later)
      ≡ has_unsent (expected_calls settings (between settings.time given start) all)
  pub holds : AreHeldNext settings (between settings.time given now) later
      → AreHeldNext settings (between settings.time given start) all

-- whatever the maker's answers are in the end, where they agree with the link now
abbrev pub Going : CallSettings → LinkState → LinkState → List Call → List Call → List JoinedReport → Type 0
Going settings start now all later xs = (given : List Made) → Agrees settings.time given now
    → GoesOn settings start now all later xs given

pub going_none : (settings : CallSettings) (start : LinkState) (all : List Call) → Going settings start start all all []
going_none settings start all given agrees =
    record { agrees = agrees; meets = λ ys m. m; ends = refl; cuts = refl; holds = λ h. h }

expected_cons : (settings : CallSettings) (now : Between) (call : Call) (calls : List Call)
    (e : Expected) (stops : Bool) (after : Between)
    → next settings now call ≡ record { expected = e; stops = stops; after = after } →
    expected_calls settings now (call ∷ calls) ≡ e ∷ cond stops [] (expected_calls settings after calls)
unfolding expected_calls
expected_cons settings now call calls x stops after e = rw e refl

pub finish_cons : (settings : CallSettings) (now : Between) (call : Call) (calls : List Call)
    (x : Expected) (stops : Bool) (after : Between)
    → next settings now call ≡ record { expected = x; stops = stops; after = after } →
    finish settings now (call ∷ calls) ≡ cond stops after (finish settings after calls)
unfolding finish
finish_cons settings now call calls x stops after e = rw e refl

held_cons : (settings : CallSettings) (now : Between) (call : Call) (calls : List Call)
    (x : Expected) (stops : Bool) (after : Between)
    → next settings now call ≡ record { expected = x; stops = stops; after = after } →
    IsHeldNext settings now call → Unless stops (AreHeldNext settings after calls)
    → AreHeldNext settings now (call ∷ calls)
unfolding AreHeldNext
held_cons settings now call calls x stops after e one later = (one, rw e later)

pub finish_end : (settings : CallSettings) (now : Between) → finish settings now [] ≡ now
unfolding finish
finish_end settings now = refl

held_end : (settings : CallSettings) (now : Between) → AreHeldNext settings now []
unfolding AreHeldNext
held_end settings now = tt

pub going_more : (settings : CallSettings) (start now after : LinkState) (all : List Call)
    (call : Call) (later : List Call) (xs : List JoinedReport) (told : JoinedReport) →
    Going settings start now all (call ∷ later) xs
    → CallAlwaysMatches settings call now after told false
    → Going settings start after all later (xs ++ told ∷ [])
going_more settings start now after all call later xs told going came given agrees =
    let one : CallMatches settings call now after told false given = came.came given agrees in
    let before : GoesOn settings start now all (call ∷ later) xs given = going given one.agrees in
    let cons : expected_calls settings (between settings.time given now) (call ∷ later)
    ≡ Reported told ∷ expected_calls settings (between settings.time given after) later =
    expected_cons settings (between settings.time given now) call later (Reported told) false
    (between settings.time given after) one.next_is in
    record {
      agrees = before.agrees;
      meets = λ ys m.
          let m' : ReportsMatch settings
          (Reported told ∷ expected_calls settings (between settings.time given after) later)
          (told ∷ ys) = (refl, m) in
          let m'' : ReportsMatch settings
          (expected_calls settings (between settings.time given now) (call ∷ later))
          (told ∷ ys) = subst (λ es. ReportsMatch settings es (told ∷ ys)) (sym cons) m' in
          subst (λ zs. ReportsMatch settings
          (expected_calls settings (between settings.time given start) all) zs)
          (sym (append_assoc xs (told ∷ []) ys)) (before.meets (told ∷ ys) m'');
      ends = sym (finish_cons settings (between settings.time given now) call later
          (Reported told) false (between settings.time given after) one.next_is) ∙ before.ends;
      cuts = ap has_unsent (sym cons) ∙ before.cuts;
      holds = λ h. before.holds (held_cons settings (between settings.time given now) call later
          (Reported told) false (between settings.time given after) one.next_is one.held h);
    }

append_none : {A : Type 0} (xs : List A) → xs ++ [] ≡ xs
append_none [] = refl
append_none (x ∷ xs) = ap (λ l. x ∷ l) (append_none xs)

-- what the calls came to, with these answers of the maker
pub record Ended (settings : CallSettings) (start : LinkState) (all : List Call)
    (xs : List JoinedReport) (given : List Made) (after : Between) (cut : Bool) : Type 0 where
  pub meet : ReportsMatch settings (expected_calls settings (between settings.time given start) all) xs
  pub ends : after ≡ finish settings (between settings.time given start) all
  pub cuts : has_unsent (expected_calls settings (between settings.time given start) all) ≡ cut
  pub held : AreHeldNext settings (between settings.time given start) all

-- the last call, after which none is made
pub going_stop : (settings : CallSettings) (start now : LinkState) (all : List Call) (call : Call)
    (later : List Call) (xs : List JoinedReport) (told : JoinedReport) (given : List Made)
    (x : Expected) (after : Between) →
    Going settings start now all (call ∷ later) xs → Agrees settings.time given now
    → next settings (between settings.time given now) call
    ≡ record { expected = x; stops = true; after = after } →
    IsHeldNext settings (between settings.time given now) call → ReportMatches settings x told
    → Ended settings start all (xs ++ told ∷ []) given after (has_unsent (x ∷ []))
going_stop settings start now all call later xs told given x after going agrees next_is held meets =
    let before : GoesOn settings start now all (call ∷ later) xs given = going given agrees in
    let cons : expected_calls settings (between settings.time given now) (call ∷ later) ≡ x ∷ [] =
    expected_cons settings (between settings.time given now) call later x true after next_is in
    let m' : ReportsMatch settings (x ∷ []) (told ∷ []) = (meets, tt) in
    record {
      meet = before.meets (told ∷ []) (subst (λ es. ReportsMatch settings es (told ∷ [])) (sym cons) m');
      ends = sym (finish_cons settings (between settings.time given now) call later x true after next_is) ∙ before.ends;
      cuts = sym before.cuts ∙ ap has_unsent cons;
      held = before.holds (held_cons settings
          (between settings.time given now) call later x true after next_is held tt);
    }

expected_end : (settings : CallSettings) (now : Between) → expected_calls settings now [] ≡ []
unfolding expected_calls
expected_end settings now = refl

pub going_end : (settings : CallSettings) (start now : LinkState) (all : List Call)
    (xs : List JoinedReport) (given : List Made) → Going settings start now all [] xs
    → Agrees settings.time given now →
    Ended settings start all xs given (between settings.time given now) false
going_end settings start now all xs given going agrees =
    let before : GoesOn settings start now all [] xs given = going given agrees in
    let none = expected_end settings (between settings.time given now) in
    record {
      meet = subst (λ zs. ReportsMatch settings
          (expected_calls settings (between settings.time given start) all) zs) (append_none xs)
          (before.meets [] (subst (λ es. ReportsMatch settings es []) (sym none) tt));
      ends = sym (finish_end settings (between settings.time given now)) ∙ before.ends;
      cuts = sym before.cuts ∙ ap has_unsent none;
      held = before.holds (held_end settings (between settings.time given now));
    }

-- one call more was told
pub pushed : (xs : List CallAnswer) (x : CallAnswer)
    → map report_of (xs ++ x ∷ []) ≡ map report_of xs ++ report_of x ∷ []
pushed xs x = map-append report_of xs (x ∷ [])

-- over a link that was just made, the objects are none and nothing is left
pub between_new : (t : ℤ) (given : List Made) (link : LinkState) → link.sent ≡ [] → link.ever ≡ []
    → link.pos ≡ 0 → between t given link
    ≡ record { objects = []; given = given; asked = []; rest = [] }
unfolding messages_in run_of
between_new t given link sent ever pos = rw (sent, ever, pos) refl

-- ---- as the code makes them

pub rest_is : (items : List Call) (i : ℕ) (call : Call) → i < length items
    → call ≡ get_or items i call → drop i items ≡ call ∷ drop (i + 1) items
rest_is items i call h is = rw (add-one, drop-cons items i call) (ap (λ x. x ∷ drop (suc i) items) (sym is))

called_so : {M : Type 0} (state : M → MakerState) (settings settings' : CallSettings) (call : Call)
    (now after : ServerLinkState M) (told : JoinedReport) (stops stops' : Bool)
    → settings' ≡ settings → stops ≡ stops' →
    CallEffect state settings' call now after told stops → CallEffect state settings call now after told stops'
called_so state settings settings' call now after told stops stops' same is called =
    let P : CallSettings → Type 0 = λ s. CallEffect state s call now after told stops' in
    let Q : Bool → Type 0 = λ b. CallEffect state settings' call now after told b in
    subst P same (subst Q is called)

-- a call that does not stop came as expected, and left the link open
pub record Went {M : Type 0} (state : M → MakerState) (settings : CallSettings) (call : Call)
    (before after : ServerLinkState M) (told : JoinedReport) (stops : Bool) : Type 0 where
  pub opened : IsOpen state after
  pub came : CallAlwaysMatches settings call (server_link_state state before) (server_link_state state after) told stops

went_so : {M : Type 0} {state : M → MakerState} {settings : CallSettings} {call : Call}
    {now after : ServerLinkState M} {told : JoinedReport} {stops : Bool} → stops ≡ false
    → CallEffect state settings call now after told stops
    → Went state settings call now after told stops
went_so not (as_expected opened came) = record { opened = opened; came = came }
went_so not (cut_short so cut) = absurd (let e : false ≡ true = sym not ∙ so in cc)

told_on : (answers answers' : List CallAnswer) (x : CallAnswer) → answers' ≡ answers ++ x ∷ []
    → map report_of answers' ≡ map report_of answers ++ report_of x ∷ []
told_on answers answers' x is = ap (map report_of) is ∙ pushed answers x

-- one call more
pub going_called : {M : Type 0} (state : M → MakerState) (settings settings' : CallSettings)
    (start : LinkState) (now after : ServerLinkState M) (items : List Call) (i : ℕ) (call : Call)
    (answers answers' : List CallAnswer) (x : CallAnswer) (lost : Bool) →
    settings' ≡ settings → lost ≡ false → i < length items → call ≡ get_or items i call → answers' ≡ answers ++ x ∷ [] →
    CallEffect state settings' call now after (report_of x) lost →
    Going settings start (server_link_state state now) items (drop i items) (map report_of answers)
    → Going settings start (server_link_state state after) items (drop (i + 1) items)
    (map report_of answers')
going_called state settings settings' start now after items i call answers answers' x lost same not h is pushed_is called going =
    let came = (went_so refl (called_so state settings settings' call now after (report_of x)
    lost false same not called)).came in
    let going' : Going settings start (server_link_state state now) items
    (call ∷ drop (i + 1) items) (map report_of answers) =
    subst (λ l. Going settings start (server_link_state state now) items l (map report_of answers))
    (rest_is items i call h is) going in
    subst (λ xs. Going settings start (server_link_state state after) items (drop (i + 1) items) xs)
    (sym (told_on answers answers' x pushed_is))
    (going_more settings start (server_link_state state now)
    (server_link_state state after) items call (drop (i + 1) items) (map report_of answers)
    (report_of x) going' came)

pub still_open : {M : Type 0} (state : M → MakerState) (settings : CallSettings) (call : Call)
    (now after : ServerLinkState M) (told : JoinedReport) (stops : Bool) → stops ≡ false
    → CallEffect state settings call now after told stops → IsOpen state after
still_open state settings call now after told stops not called = (went_so not called).opened

agreed : {M : Type 0} (state : M → MakerState) (t : ℤ) (link : ServerLinkState M)
    → IsOpen state link → LinkFacts state link → t ≡ link.server.time
    → Agrees t (state link.server.maker).given (server_link_state state link)
agreed state t link opened known same =
    subst (λ x. Agrees x (state link.server.maker).given (server_link_state state link)) (sym same)
    (serves_agree link.server.time (server_link_state state link) link.server.objects
    (state link.server.maker) (known.serves opened.fed opened.tells opened.sound))

-- an open link holds itself what stands between two calls
standing_is : {M : Type 0} (state : M → MakerState) (t : ℤ) (link : ServerLinkState M)
    → IsOpen state link → LinkFacts state link → t ≡ link.server.time →
    standing state link ≡ between t (state link.server.maker).given (server_link_state state link)
standing_is state t link opened known same =
    let serves : HasServed t link.server.objects (state link.server.maker) link.ever link.sent =
    subst (λ x. HasServed x link.server.objects (state link.server.maker) link.ever link.sent)
    (sym same) (known.serves opened.fed opened.tells opened.sound) in
    let none : (state link.server.maker).given ++ [] ≡ (state link.server.maker).given =
    append_none (state link.server.maker).given in
    let run = ap (λ l. run_of t l (messages_in link.sent).whole) (sym none) ∙ serves.run [] in
    same_between _ _ _ _ _ _ _ _ (ap (λ (r : Run). r.objects) (sym run))
    (ap (λ (r : Run). r.given) (sym run)) (ap (λ (r : Run). r.asked) (sym run)) refl

ended_open : {M : Type 0} (state : M → MakerState) (settings : CallSettings) (start : LinkState)
    (now : ServerLinkState M) (all : List Call) (xs : List JoinedReport) → IsOpen state now
    → LinkFacts state now → settings.time ≡ now.server.time →
    Ended settings start all xs (state now.server.maker).given
    (between settings.time (state now.server.maker).given (server_link_state state now)) false
    → CallsEnd state settings start now all xs
ended_open state settings start now all xs opened known time ended = record {
  meet = ended.meet;
  ends = standing_is state settings.time now opened known time ∙ ended.ends;
  opened = λ _. opened;
  faulted = λ so. absurd (let e : false ≡ true = sym ended.cuts ∙ so in cc);
  held = ended.held;
}

ended_cut : {M : Type 0} (state : M → MakerState) (settings : CallSettings) (start : LinkState)
    (now : ServerLinkState M) (all : List Call) (xs : List JoinedReport) → 0 < now.faults →
    Ended settings start all xs (state now.server.maker).given (standing state now) true
    → CallsEnd state settings start now all xs
ended_cut state settings start now all xs faults ended = record {
  meet = ended.meet;
  ends = ended.ends;
  opened = λ so. absurd (let e : true ≡ false = sym ended.cuts ∙ so in cc);
  faulted = λ _. faults;
  held = ended.held;
}

stopped : {M : Type 0} (state : M → MakerState) (settings : CallSettings) (start : LinkState)
    (now after : ServerLinkState M) (all : List Call) (call : Call) (later : List Call)
    (xs : List JoinedReport) (told : JoinedReport) →
    LinkFacts state after → settings.time ≡ after.server.time
    → Going settings start (server_link_state state now) all (call ∷ later) xs
    → CallEffect state settings call now after told true →
    CallsEnd state settings start after all (xs ++ told ∷ [])
stopped state settings start now after all call later xs told known time going (as_expected opened came) =
    let given = (state after.server.maker).given in
    let one = came.came given (agreed state settings.time after opened known time) in
    ended_open state settings start after all (xs ++ told ∷ []) opened known time
    (going_stop settings start (server_link_state state now) all call later xs told given
    (Reported told) (between settings.time given (server_link_state state after))
    going one.agrees one.next_is one.held refl)
stopped state settings start now after all call later xs told known time going (cut_short so cut) =
    ended_cut state settings start after all (xs ++ told ∷ []) cut.faults
    (going_stop settings start (server_link_state state now) all call later xs told
    (state after.server.maker).given (Unsent cut.request)
    (standing state after) going cut.agrees cut.next_is cut.held cut.unsent)

-- the last call, after which the connection is lost
pub going_lost : {M : Type 0} (state : M → MakerState) (settings settings' : CallSettings)
    (start : LinkState) (now after : ServerLinkState M) (items : List Call) (i : ℕ) (call : Call)
    (answers answers' : List CallAnswer) (x : CallAnswer) (lost : Bool) →
    settings' ≡ settings → lost ≡ true → i < length items → call ≡ get_or items i call → answers' ≡ answers ++ x ∷ [] →
    CallEffect state settings' call now after (report_of x) lost → LinkFacts state after
    → settings.time ≡ after.server.time →
    Going settings start (server_link_state state now) items (drop i items) (map report_of answers) →
    CallsEnd state settings start after items (map report_of answers')
going_lost state settings settings' start now after items i call answers answers' x lost same not h is pushed_is called known time going =
    let called' = called_so state settings settings' call now after (report_of x) lost true same not called in
    let going' : Going settings start (server_link_state state now) items
    (call ∷ drop (i + 1) items) (map report_of answers) =
    subst (λ l. Going settings start (server_link_state state now) items l (map report_of answers))
    (rest_is items i call h is) going in
    subst (λ xs. CallsEnd state settings start after items xs) (sym (told_on answers answers' x pushed_is))
    (stopped state settings start now after items call (drop (i + 1) items) (map report_of answers)
    (report_of x) known time going' called')

-- after all calls
pub going_all : {M : Type 0} (state : M → MakerState) (settings : CallSettings) (start : LinkState)
    (now : ServerLinkState M) (items : List Call) (i : ℕ) (answers : List CallAnswer) →
    length items ≤ i → IsOpen state now → LinkFacts state now → settings.time ≡ now.server.time →
    Going settings start (server_link_state state now) items (drop i items) (map report_of answers) →
    CallsEnd state settings start now items (map report_of answers)
going_all state settings start now items i answers h opened known time going =
    let none : drop i items ≡ [] = drop_all items i h in
    let going' : Going settings start (server_link_state state now) items []
    (map report_of answers) = subst
    (λ l. Going settings start (server_link_state state now) items l (map report_of answers))
    none going in
    ended_open state settings start now items (map report_of answers) opened known time
    (going_end settings start (server_link_state state now) items (map report_of answers)
    (state now.server.maker).given going' (agreed state settings.time now opened known time))
  where
    drop_all : (xs : List Call) (n : ℕ) → length xs ≤ n → drop n xs ≡ []
    drop_all xs n k = grind (arith, common_steps)

pub open_new : {M : Type 0} (state : M → MakerState) (link : ServerLinkState M) → IsNew state link → IsOpen state link
unfolding messages_in
open_new state link n = record { fed = n.fed; sound = n.sound; whole = rw n.sent refl; tells = n.tells }

-- the last answer told is that of the last call
ends_one : (xs : List JoinedReport) (x : JoinedReport) → last_is_lost (xs ++ x ∷ []) ≡ loses_connection x.answer
ends_one [] x = refl
ends_one (y ∷ []) x = refl
ends_one (y ∷ z ∷ xs) x = ends_one (z ∷ xs) x

pub ends_with : (answers answers' : List CallAnswer) (x : CallAnswer) (lost : Bool)
    → answers' ≡ answers ++ x ∷ [] → lost ≡ loses_connection (report_of x).answer
    → last_is_lost (map report_of answers') ≡ lost
ends_with answers answers' x lost is lost_is =
    ap last_is_lost (told_on answers answers' x is) ∙ ends_one (map report_of answers) (report_of x)
    ∙ sym lost_is

-- nothing was served over a link that was just made
pub serves_none : (t : ℤ) (maker : MakerState) (ever sent : List ℕ) → IsUnused maker → ever ≡ []
    → sent ≡ [] → HasServed t [] maker ever sent
unfolding messages_in run_of
serves_none t maker ever sent unused e s = record {
  run = λ more. rw (e, s, unused.given, unused.asked) refl;
  held = λ more. rw s tt;
}

pub begun_none : (begun sent : List ℕ) → begun ≡ [] → sent ≡ [] → begun ≡ (messages_in sent).begun
unfolding messages_in
begun_none begun sent e s = rw (e, s) refl
