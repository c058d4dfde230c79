-- One call over a server: from what the client did to its link, to what was expected of the call.
use Rattle.std.proofs.Common.{◌≡◌, ℕ, ℤ, ◌+◌, ◌≤◌, List, [], ◌∷◌, ◌++◌, length, drop, refl, ◌∙◌, ap, sym, subst, Some, None, Bool, true}
use Rattle.std.proofs.lemmas.List.{drop-append-le, drop-drop}
use Rattle.kmip_server.specs.Split.{IsMessage, Split, messages_in}
use Rattle.kmip_request.specs.Message.{request_bytes, operation_of}
use Rattle.kmip_response_write.specs.Settled.{response_bytes}
use Rattle.kmip_link.specs.State.{LinkState, left}
use Rattle.kmip_client.specs.Outcome.{outcome_of, left_for, Moves}
use Rattle.kmip_client.specs.Client.{loses_connection}
use Rattle.kmip_client.specs.Session.{Turn}
use Rattle.kmip_store.specs.declared.call.Call.{Call}
use Rattle.kmip_store.specs.declared.object.Object.{Object}
use Rattle.kmip_store.specs.declared.maker.Asked.{Asked}
use Rattle.kmip_store.specs.declared.maker.Made.{Made}
use Rattle.std.specs.Option.{option_to_list}
use Rattle.kmip_server_core.specs.Served.{served, asks}
use Rattle.kmip_server_core.specs.Requests.{request_of}
use Rattle.kmip_server.specs.Machine.{Run, first_for, rest_for, serve, fresh, run_of}
use Rattle.kmip_server.specs.Serving.{IsHeldTo, AreResponsesHeld}
use Rattle.kmip_server.specs.Joined.{CallSettings, Between, Expected, Next, IsReadBack, IsHeldNext, joined_report, turn_with, next_with, next}
use Rattle.kmip_server.specs.OneCall.{between, Agrees, CallAlwaysMatches}
use Rattle.kmip_server.proofs.Splits.{split_message}
use Rattle.kmip_server.proofs.Frames.{AreMessages, same_frames, run_framed, run_on, serve_objects, serve_given, serve_asked, Back, back_from}
use Rattle.kmip_server.proofs.Helds.{held_last}

append_none : (xs : List ℕ) → xs ≡ xs ++ []
append_none [] = refl
append_none (x ∷ xs) = ap (λ l. x ∷ l) (append_none xs)

pub next_invalid : (settings : CallSettings) (now : Between) (call : Call)
    → request_bytes (request_of call) settings.credential ≡ None →
    next settings now call ≡ next_with settings call (turn_with settings call None now.rest) now
unfolding next
next_invalid settings now call none = rw none refl

-- the objects and the answers to come once these bytes were served
abbrev pub after_bytes : CallSettings → Between → List ℕ → Between
after_bytes settings now b = record {
  objects = (served now.objects b (first_for (asks now.objects b) now.given) settings.time).objects;
  given = rest_for (asks now.objects b) now.given;
  asked = now.asked ++ option_to_list (asks now.objects b);
  rest = now.rest;
}

pub next_formed : (settings : CallSettings) (now : Between) (call : Call) (b response : List ℕ)
    → request_bytes (request_of call) settings.credential ≡ Some b →
    response_bytes (served now.objects b
    (first_for (asks now.objects b) now.given) settings.time).message ≡ Some response →
    next settings now call ≡ next_with settings call
    (turn_with settings call (Some b) (now.rest ++ response)) (after_bytes settings now b)
unfolding next
next_formed settings now call b response valid formed = rw (valid, formed) refl

pub next_unformed : (settings : CallSettings) (now : Between) (call : Call) (b : List ℕ)
    → request_bytes (request_of call) settings.credential ≡ Some b →
    response_bytes (served now.objects b (first_for (asks now.objects b) now.given) settings.time).message ≡ None →
    next settings now call ≡ record {
      expected = Expected.Unsent b;
      stops = true;
      after =
          record (after_bytes settings now b) { objects = now.objects };
    }
unfolding next
next_unformed settings now call b valid none = rw (valid, none) refl

-- what is known of the link before a call
pub record IsReady (t : ℤ) (link : LinkState) : Type 0 where
  pub whole : (messages_in link.sent).begun ≡ []
  pub given : List Made
  pub agrees : Agrees t given link
  pub within : link.pos ≤ length link.ever

-- the bytes left for a call, where more came
left_more : (before after : LinkState) (more : List ℕ) → before.pos ≤ length before.ever
    → after.ever ≡ before.ever ++ more → left_for before after ≡ left before ++ more
left_more before after more h e = ap (λ l. drop before.pos l) e ∙ drop-append-le before.pos before.ever more h

-- what is left after a call
left_after : (before after : LinkState) (taken : ℕ) → after.pos ≡ before.pos + taken
    → left after ≡ drop taken (left_for before after)
left_after before after taken e = ap (λ n. drop n after.ever) e ∙ sym (drop-drop taken before.pos after.ever)

pub same_next : (e e' : Expected) (s s' : Bool) (a a' : Between) → e ≡ e' → s ≡ s' → a ≡ a'
    → let x : Next = record { expected = e; stops = s; after = a } in
    let y : Next = record { expected = e'; stops = s'; after = a' } in x ≡ y
same_next e e' s s' a a' p q r = rw (p, q, r) refl

pub same_between : (o o' : List Object) (g g' : List Made) (a a' : List Asked) (r r' : List ℕ)
    → o ≡ o' → g ≡ g' → a ≡ a' → r ≡ r' →
    let x : Between = record { objects = o; given = g; asked = a; rest = r } in
    let y : Between = record { objects = o'; given = g'; asked = a'; rest = r' } in x ≡ y
same_between o o' g g' a a' r r' p q k s = rw (p, q, k, s) refl

-- the response to the request of a call was a message that Rust can hold
held_next : (settings : CallSettings) (call : Call) (b : List ℕ) (t : ℤ) (given : List Made)
    (link : LinkState) → t ≡ settings.time
    → request_bytes (request_of call) settings.credential ≡ Some b →
    IsReadBack call settings.credential
    → IsHeldTo t (run_of t given (messages_in link.sent).whole) b
    → IsHeldNext settings (between t given link) call
held_next settings call b t given link time valid reads one = record {
  reads = reads;
  holds = λ request response valid' formed.
      let same : b ≡ request = let e : Some b ≡ Some request = sym valid ∙ valid' in cc in
      let one' : IsHeldTo settings.time (run_of t given (messages_in link.sent).whole) request =
      subst (λ x. IsHeldTo x (run_of t given (messages_in link.sent).whole) request) time
      (subst (IsHeldTo t (run_of t given (messages_in link.sent).whole)) same one) in
      one' response formed;
}

-- a call with a valid request
pub valid_call : AreMessages → (settings : CallSettings) (call : Call) (before after : LinkState)
    (b : List ℕ) → request_bytes (request_of call) settings.credential ≡ Some b → IsMessage b
    → IsReadBack call settings.credential →
    IsReady settings.time before → Moves before after b
    (outcome_of (Some b) (operation_of (request_of call)) settings.limit
    (left_for before after)).taken →
    let turn = turn_with settings call (Some b) (left_for before after) in
    CallAlwaysMatches settings call before after (joined_report settings call turn)
    (loses_connection turn.outcome.answer)
valid_call law settings call before after b valid message reads ready moves =
    let t : ℤ = settings.time in
    let w : List (List ℕ) = (messages_in before.sent).whole in
    let more : List ℕ = moves.ever.more in
    let split_is : messages_in after.sent ≡ record { whole = w ++ b ∷ []; begun = [] } =
    ap messages_in moves.sent_is ∙ split_message before.sent b ready.whole message in
    let turn : Turn = turn_with settings call (Some b) (left_for before after) in
    let rests : left_for before after ≡ left before ++ more = left_more before after more ready.within moves.ever.is in
    record {
      whole = ap (λ (s : Split). s.begun) split_is;
      came = λ given agrees.
          let runs : run_of t given (messages_in after.sent).whole ≡ serve t (run_of t given w) b =
          ap (λ (s : Split). run_of t given s.whole) split_is ∙ run_on t given w b in
          let back : Back t (run_of t given w) b before.ever more =
          back_from law t given w b before.ever more
          (run_framed law t ready.given w before.ever ready.agrees.ever)
          (ap (λ (r : Run). r.ever) (sym runs) ∙ agrees.ever ∙ ap Some moves.ever.is) in
          let holds : AreResponsesHeld t (fresh given) w × IsHeldTo t (run_of t given w) b =
          held_last t given w b (subst (λ (s : Split). AreResponsesHeld t (fresh given) s.whole)
          split_is agrees.held) in
          let now : Between = between t given before in
          let objects : (run_of t given (messages_in after.sent).whole).objects
          ≡ (after_bytes settings now b).objects =
          ap (λ (r : Run). r.objects) runs ∙ serve_objects t (run_of t given w) b in
          let givens : (run_of t given (messages_in after.sent).whole).given
          ≡ (after_bytes settings now b).given =
          ap (λ (r : Run). r.given) runs ∙ serve_given t (run_of t given w) b in
          let askeds : (run_of t given (messages_in after.sent).whole).asked
          ≡ (after_bytes settings now b).asked =
          ap (λ (r : Run). r.asked) runs ∙ serve_asked t (run_of t given w) b in
          let after_is : record (after_bytes settings now b)
          { rest = drop turn.outcome.taken turn.rest } ≡ between t given after =
          same_between _ _ _ _ _ _ _ _ (sym objects) (sym givens) (sym askeds)
          (sym (left_after before after turn.outcome.taken moves.pos)) in
          record {
            agrees = record { ever = back.ever_is; held = holds.0 };
            next_is = next_formed settings now call b more valid back.response
                ∙ ap (λ (r : List ℕ). next_with settings call (turn_with settings call (Some b) r)
                (after_bytes settings now b)) (sym rests)
                ∙ same_next _ _ _ _ _ _ refl refl after_is;
            held = held_next settings call b t given before refl valid reads holds.1;
          };
    }

-- a call whose request is not valid: nothing was sent, so nothing came
pub invalid_call : AreMessages → (settings : CallSettings) (call : Call) (before after : LinkState)
    → request_bytes (request_of call) settings.credential ≡ None →
    IsReady settings.time before → IsReady settings.time (record after { sent = before.sent })
    → Moves before after [] 0 →
    let turn = turn_with settings call None (left_for before after) in
    CallAlwaysMatches settings call before after (joined_report settings call turn)
    (loses_connection turn.outcome.answer)
invalid_call law settings call before after none ready now_ready moves =
    let t : ℤ = settings.time in
    let w : List (List ℕ) = (messages_in before.sent).whole in
    let more : List ℕ = moves.ever.more in
    let sent : after.sent ≡ before.sent = moves.sent_is ∙ sym (append_none before.sent) in
    let ever : before.ever ≡ after.ever =
    same_frames (length w) before.ever after.ever more []
    (run_framed law t ready.given w before.ever ready.agrees.ever)
    (run_framed law t now_ready.given w after.ever now_ready.agrees.ever)
    (sym moves.ever.is ∙ append_none after.ever) in
    let rests : left_for before after ≡ left before = ap (λ l. drop before.pos l) (sym ever) in
    record {
      whole = ap (λ l. (messages_in l).begun) sent ∙ ready.whole;
      came = λ given agrees.
          let runs : run_of t given (messages_in after.sent).whole ≡ run_of t given w =
          ap (λ l. run_of t given (messages_in l).whole) sent in
          let now : Between = between t given before in
          let after_is : record now { rest = left_for before after } ≡ between t given after =
          same_between _ _ _ _ _ _ _ _ (ap (λ (r : Run). r.objects) (sym runs))
          (ap (λ (r : Run). r.given) (sym runs)) (ap (λ (r : Run). r.asked) (sym runs))
          (sym (left_after before after 0 moves.pos)) in
          record {
            agrees = record {
              ever = ap (λ (r : Run). r.ever) (sym runs) ∙ agrees.ever
                  ∙ ap Some (sym ever);
              held = subst
                  (λ l. AreResponsesHeld t (fresh given) (messages_in l).whole) sent agrees.held;
            };
            next_is = next_invalid settings now call none
                ∙ ap (λ (r : List ℕ). next_with settings call (turn_with settings call None r) now) (sym rests)
                ∙ same_next _ _ _ _ _ _ refl refl after_is;
            held = record {
              reads = λ request valid. absurd (let e : None ≡ Some request = sym none ∙ valid in cc);
              holds = λ request response valid formed. absurd (let e : None ≡ Some request = sym none ∙ valid in cc);
            };
          };
    }
