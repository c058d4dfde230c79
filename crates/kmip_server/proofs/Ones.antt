-- One call, as the code makes it.
use Rattle.std.proofs.Common.{◌≡◌, ◌⊎◌, inl, inr, ℕ, ◌<◌, drop, length, refl, ◌∙◌, ap, sym, subst, Bool, true, false, Result, Ok, Err}
use Rattle.kmip_link.specs.State.{LinkState, Keeps}
use Rattle.kmip_client.specs.Calls.{IsCall}
use Rattle.kmip_client.specs.Client.{ClientState, loses_connection, lacks_memory, count_after}
use Rattle.kmip_client.specs.Outcome.{Answer}
use Rattle.kmip_client.proofs.Transfers.{keeps_self}
use Rattle.kmip_client.specs.declared.error.Error.{Error}
use Rattle.kmip_store.specs.declared.call.Call.{Call}
use Rattle.kmip_store.specs.Makers.{MakerState}
use Rattle.kmip_server_core.specs.Requests.{request_of}
use Rattle.kmip_server.specs.Joined.{IsReadBack, helper_answer}
use Rattle.kmip_server.specs.Link.{ServerLinkState, server_link_state, LinkFacts, IsOpen}
use Rattle.kmip_server.specs.OneCall.{CallEffect, IsLinkAfterCall, IsRequestOf, fails_writing}
use Rattle.kmip_server.specs.Calls.{HelperRan, called, not_made, answered_seen, report_of, call_settings}
use Rattle.kmip_server.specs.declared.answers.Answered.{Answered}
use Rattle.kmip_server.specs.declared.answers.CallAnswer.{CallAnswer}
use Rattle.kmip_server.proofs.Frames.{AreMessages}
use Rattle.kmip_server.proofs.Opened.{AreRequests, code_told, called_of, time_same}
use Rattle.kmip_server.proofs.Cuts.{cut_called}

helped_keeps : (call : Call) (answer : Answer) → loses_connection (helper_answer call answer) ≡ loses_connection answer
helped_keeps call (Ok val) = refl
helped_keeps call (Err error) = refl

pub helped_room : (call : Call) (answer : Answer) → lacks_memory (helper_answer call answer) ≡ lacks_memory answer
helped_room call (Ok val) = refl
helped_room call (Err error) = refl

helped_fails : (call : Call) (answer : Answer) → fails_writing (helper_answer call answer) ≡ fails_writing answer
helped_fails call (Ok val) = refl
helped_fails call (Err error) = refl

called_by : AreMessages → AreRequests
    → {M : Type 0} (state : M → MakerState) (before after : ClientState (ServerLinkState M))
    (call : Call) (answer : Answer) → IsReadBack call before.credential →
    IsCall (server_link_state state) (request_of call) before after answer
    → lacks_memory answer ≡ false → IsOpen state before.link → LinkFacts state before.link
    → LinkFacts state after.link →
    IsLinkAfterCall call answer after.link →
    CallEffect state (call_settings before) call before.link after.link
    (code_told (server_link_state state before.link) (server_link_state state after.link)
    (helper_answer call answer) after.request_text after.response_text)
    (loses_connection answer)
called_by responses requests state before after call answer reads is_call room opened known known'
    (fed, inl sound)
    = called_of responses requests state before after call answer reads is_call room opened known known' fed sound
called_by responses requests state before after call answer reads is_call room opened known known'
    (fed, inr cut)
    = cut_called responses requests state before after call answer reads is_call cut.1.0 opened known known' fed cut.0 cut.1.1

pub called_as : AreMessages → AreRequests
    → {M : Type 0} (state : M → MakerState) (before after : ClientState (ServerLinkState M))
    (call : Call) (result : Result Answered Error) → IsReadBack call before.credential →
    HelperRan (server_link_state state) call before after result
    → lacks_memory (answered_seen result) ≡ false → IsOpen state before.link
    → LinkFacts state before.link → LinkFacts state after.link →
    IsLinkAfterCall call (answered_seen result) after.link →
    CallEffect state (call_settings before) call before.link after.link
    (record {
      sent = drop (length before.link.sent) after.link.sent;
      answer =
          answered_seen result;
      request_text = after.request_text;
      response_text =
          after.response_text;
    }) (loses_connection (answered_seen result))
called_as responses requests state before after call result reads
    (called answer is_call is fits) room opened known known' settled =
    let room' : lacks_memory answer ≡ false = sym (helped_room call answer) ∙ ap lacks_memory (sym is) ∙ room in
    let fails : fails_writing (answered_seen result) ≡ fails_writing answer =
    ap fails_writing is ∙ helped_fails call answer in
    let R : Bool → Type 0 = λ f. (after.link.starved ≡ false)
    × ((after.link.faults ≡ 0) ⊎ ((0 < after.link.faults) ×
    ((f ≡ true) × IsRequestOf call after.link.kept))) in
    let got =
    called_by responses requests state before after call answer reads is_call room' opened known known' (subst R fails settled) in
    let P : Answer → Type 0 = λ a. CallEffect state
    (call_settings before) call before.link after.link
    (code_told (server_link_state state before.link)
    (server_link_state state after.link) a after.request_text after.response_text)
    (loses_connection a) in
    let Q : Bool → Type 0 = λ s. CallEffect state (call_settings before) call before.link after.link
    (code_told (server_link_state state before.link) (server_link_state state after.link)
    (helper_answer call answer) after.request_text after.response_text) s in
    subst P (sym is) (subst Q (sym (helped_keeps call answer)) got)
called_as responses requests state before after call result reads (not_made is stays) room opened known known' settled =
    absurd (let e : lacks_memory (answered_seen result) ≡ true = ap (λ r. lacks_memory (answered_seen r)) is in cc)

-- the same, where the code looked at the client on the way
pub called_so : AreMessages → AreRequests
    → {M : Type 0} (state : M → MakerState)
    (before looked after settled_client told_client : ClientState (ServerLinkState M)) (call : Call)
    (result : Result Answered Error) (from : ℕ) (x : CallAnswer) (lost lacks : Bool) →
    IsReadBack call before.credential → looked ≡ before
    → HelperRan (server_link_state state) call looked after result
    → from ≡ length before.link.sent →
    lacks ≡ lacks_memory (answered_seen result) → lacks ≡ false → LinkFacts state before.link
    → LinkFacts state after.link →
    IsLinkAfterCall call (answered_seen result) after.link → settled_client ≡ after → told_client ≡ settled_client →
    lost ≡ loses_connection (answered_seen result) →
    x ≡ record {
      sent = drop from settled_client.link.sent;
      answer = result;
      req_diag =
          settled_client.request_text;
      res_diag = settled_client.response_text;
    }
    → IsOpen state before.link →
    CallEffect state (call_settings before) call before.link told_client.link (report_of x) lost
called_so responses requests state before looked after settled_client told_client call result from x lost lacks reads same asked is lacks_is room known known' settled settled_is told_is lost_is x_is opened =
    let asked' : HelperRan (server_link_state state) call before after result =
    subst (λ (b : ClientState (ServerLinkState _)).
    HelperRan (server_link_state state) call b after result) same asked in
    rw (told_is, x_is, settled_is, lost_is, is)
    (called_as responses requests state before after call result reads asked'
    (sym lacks_is ∙ room) opened known known' settled)

-- the count of connection errors, and whether this call raised it
pub counted_so : {T : Type 0} {state : T → LinkState}
    (before looked after closed told_client : ClientState T) (call : Call)
    (result : Result Answered Error) (lost lacks : Bool) →
    looked ≡ before → HelperRan state call looked after result
    → lacks ≡ lacks_memory (answered_seen result) → lacks ≡ false → closed ≡ after
    → told_client ≡ closed → lost ≡ loses_connection (answered_seen result) →
    told_client.errors ≡ count_after before.errors lost
counted_so before looked after closed told_client call result lost lacks same
    (called answer is_call is fits) lacks_is room closed_is told_is lost_is =
    ap (λ (c : ClientState _). c.errors) (told_is ∙ closed_is) ∙ is_call.count
    ∙ ap (λ (b : Bool). count_after looked.errors b)
    (sym (helped_keeps call answer) ∙ ap loses_connection (sym is) ∙ sym lost_is)
    ∙ ap (λ (c : ClientState _). count_after c.errors lost) same
counted_so before looked after closed told_client call result lost lacks same
    (not_made is stays) lacks_is room closed_is told_is lost_is =
    absurd (let e : lacks_memory (answered_seen result) ≡ true =
    ap (λ r. lacks_memory (answered_seen r)) is in
    let f : lacks_memory (answered_seen result) ≡ false = sym lacks_is ∙ room in cc)

-- ---- what a call leaves of its client, whatever it answered

same_settings : {M : Type 0} (x y : ClientState (ServerLinkState M)) → x.credential ≡ y.credential
    → x.limit ≡ y.limit → x.buffered ≡ y.buffered → x.link.server.time ≡ y.link.server.time
    → call_settings x ≡ call_settings y
same_settings x y a b c d = rw (a, b, c, d) refl

asked_settings : {M : Type 0} (state : M → MakerState)
    (before after : ClientState (ServerLinkState M)) (call : Call) (result : Result Answered Error)
    → HelperRan (server_link_state state) call before after result →
    call_settings after ≡ call_settings before
asked_settings state before after call result (called answer is_call is fits) =
    same_settings after before is_call.credential is_call.limit is_call.buffered
    (time_same state before.link after.link is_call.keeps.mark)
asked_settings state before after call result (not_made is stays) = ap call_settings stays

asked_keeps : {M : Type 0} (state : M → MakerState) (before after : ClientState (ServerLinkState M))
    (call : Call) (result : Result Answered Error)
    → HelperRan (server_link_state state) call before after result →
    Keeps (server_link_state state before.link) (server_link_state state after.link)
asked_keeps state before after call result (called answer is_call is fits) = is_call.keeps
asked_keeps state before after call result (not_made is stays) = rw stays (keeps_self _)

-- where the code looked at the client before and after
pub settings_so : {M : Type 0} (state : M → MakerState)
    (before looked after last : ClientState (ServerLinkState M)) (call : Call)
    (result : Result Answered Error) → looked ≡ before
    → HelperRan (server_link_state state) call looked after result → last ≡ after →
    call_settings last ≡ call_settings before
settings_so state before looked after last call result same asked last_is =
    ap call_settings last_is ∙ asked_settings state looked after call result asked
    ∙ ap call_settings same

pub keeps_so : {M : Type 0} (state : M → MakerState)
    (before looked after last : ClientState (ServerLinkState M)) (call : Call)
    (result : Result Answered Error) → looked ≡ before
    → HelperRan (server_link_state state) call looked after result → last ≡ after →
    Keeps (server_link_state state before.link) (server_link_state state last.link)
keeps_so state before looked after last call result same asked last_is =
    rw (last_is, ← same) (asked_keeps state looked after call result asked)
