-- A call whose response has no wire form: its request is not sent whole, and the link keeps it.
use Rattle.std.proofs.Common.{◌≡◌, ℕ, ℤ, pos, not, ◌+◌, ◌<◌, List, [], ◌∷◌, ◌++◌, length, take, drop, refl, ◌∙◌, ap, sym, subst, arith, Option, Some, None, Bool, true, false, cond, Err, IsTrue, codes}
use Rattle.std.proofs.Math.Seq.{drop-append_seam}
use Rattle.kmip_shape.specs.Val.{Val, Vals, NoVal, AndVal}
use Rattle.kmip_server.specs.Split.{Split, messages_in}
use Rattle.kmip_wire.specs.Tree.{Tree}
use Rattle.kmip_request.specs.Message.{request_bytes, operation_of}
use Rattle.kmip_request_read.specs.Reading.{request_read}
use Rattle.kmip_response_write.specs.Settled.{response_bytes}
use Rattle.kmip_wire.specs.Reading.{item_of}
use Rattle.kmip_shape.specs.Reads.{root_read}
use Rattle.kmip_enums.specs.declared.operation.Operation.{Operation}
use Rattle.kmip_link.specs.State.{LinkState, left}
use Rattle.kmip_enums.specs.ResultReasons.{result_reason_line}
use Rattle.kmip_enums.specs.declared.result_status.ResultStatus.TheVariants.{OperationFailed, OperationPending, OperationUndone}
use Rattle.kmip_enums.specs.declared.result_reason.ResultReason.TheVariants as reasons
use Rattle.kmip_client.specs.Calls.{IsCall}
use Rattle.kmip_client.specs.Check.{batch_count, batch_items, check_items, check_item, failure, payload_answer, is_number, has_status, has_operation, one_of, field_at, text_in, failed_text, mismatch_text, operation_shown}
use Rattle.kmip_client.specs.Client.{ClientState, loses_connection}
use Rattle.kmip_client.specs.Diagnostics.{IsRequestText, IsResponseText, diagnostic_of}
use Rattle.kmip_client.specs.Message.{Message, message_at}
use Rattle.kmip_response.specs.Tables.{response_message}
use Rattle.kmip_client.specs.Outcome.{Answer, response_tag, outcome_of, left_for, Moves, Exchanged, completed, write_failed, read_failed, sending_cut, reading_cut, answer_of, tree_answer, value_answer}
use Rattle.kmip_client.specs.declared.error.Error.TheVariants.{RequestWriteError, InternalError, ServerError, ItemNotFound}
use Rattle.kmip_store.specs.declared.call.Call.{Call}
use Rattle.kmip_store.specs.declared.object.Object.{Object}
use Rattle.kmip_store.specs.declared.maker.Made.{Made}
use Rattle.kmip_store.specs.Makers.{MakerState}
use Rattle.std.specs.Option.{option_to_list}
use Rattle.kmip_server_core.specs.Served.{Served, served, served_request, asks, asks_request}
use Rattle.kmip_server_core.specs.Requests.{request_of}
use Rattle.kmip_server.specs.Machine.{Run, first_for, rest_for, then_bytes, serve, fresh, run_of}
use Rattle.kmip_server.specs.Serving.{AreResponsesHeld}
use Rattle.kmip_server.specs.Joined.{CallSettings, JoinedReport, IsReadBack, next, helper_answer, IsUnsent}
use Rattle.kmip_server.specs.Link.{ServerLinkState, server_link_state, IsCut, LinkFacts, IsOpen}
use Rattle.kmip_server.specs.OneCall.{between, CutCall, CallEffect, IsRequestOf, fails_writing}
use Rattle.kmip_server.specs.Calls.{call_settings}
use Rattle.kmip_server.proofs.Splits.{with_begun, split_part}
use Rattle.kmip_server.proofs.Frames.{AreMessages, same_frames, response_to, run_framed, serve_ever, serve_given, serve_asked}
use Rattle.kmip_server.proofs.Steps.{IsReady, next_unformed, same_next, same_between}
use Rattle.kmip_server.proofs.Opened.{AreRequests, code_told, ready_of, time_same, tells_same}

-- ---- only a link answers that a request was not sent

failure_by : (b : Bool) (x y : Answer) → fails_writing x ≡ false → fails_writing y ≡ false
    → fails_writing (cond b x y) ≡ false
failure_by true x y p q = p
failure_by false x y p q = q

failure_not : (operation : Operation) (reason message : Option Val)
    → fails_writing (failure operation reason message) ≡ false
failure_not operation reason message =
    failure_by (is_number (pos (result_reason_line reasons.ItemNotFound).number) reason)
    (Err (ItemNotFound (failed_text operation (text_in message))))
    (Err (ServerError (failed_text operation (text_in message)))) refl refl

payload_not : (payload : Option Val) → fails_writing (payload_answer payload) ≡ false
payload_not None = refl
payload_not (Some payload) = refl

item_by : (failed pending undone other : Bool) (f p u o a : Answer) → fails_writing f ≡ false
    → fails_writing p ≡ false → fails_writing u ≡ false → fails_writing o ≡ false
    → fails_writing a ≡ false →
    fails_writing (cond failed f (cond pending p (cond undone u (cond other o a)))) ≡ false
item_by true pending undone other f p u o a hf hp hu ho ha = hf
item_by false true undone other f p u o a hf hp hu ho ha = hp
item_by false false true other f p u o a hf hp hu ho ha = hu
item_by false false false true f p u o a hf hp hu ho ha = ho
item_by false false false false f p u o a hf hp hu ho ha = ha

item_not : (operation : Operation) (item : Val) → fails_writing (check_item operation item) ≡ false
unfolding check_item
item_not operation item =
    item_by (has_status OperationFailed item) (has_status OperationPending item)
    (has_status OperationUndone item) (not (has_operation operation item))
    (failure operation (one_of (field_at 3 item)) (one_of (field_at 4 item)))
    (Err (InternalError (codes "Result status 'operation pending' is not supported")))
    (Err (InternalError (codes "Result status 'operation undone' is not supported")))
    (Err (InternalError (mismatch_text operation (operation_shown (one_of (field_at 0 item))))))
    (payload_answer (one_of (field_at 5 item)))
    (failure_not operation (one_of (field_at 3 item)) (one_of (field_at 4 item))) refl refl refl
    (payload_not (one_of (field_at 5 item)))

items_not : (operation : Operation) (one : Bool) (items : Vals)
    → fails_writing (check_items operation one items) ≡ false
items_not operation true (AndVal item NoVal) = item_not operation item
items_not operation true NoVal = refl
items_not operation true (AndVal item (AndVal next items)) = refl
items_not operation false items = refl

value_not : (operation : Operation) (value : Option Val) → fails_writing (value_answer operation value) ≡ false
value_not operation None = refl
value_not operation (Some message) = items_not operation (is_number (pos 1) (batch_count message)) (batch_items message)

tree_not : (operation : Operation) (tree : Option Tree) → fails_writing (tree_answer operation tree) ≡ false
tree_not operation None = refl
tree_not operation (Some tree) = value_not operation (root_read response_message response_tag tree)

answer_not : (operation : Operation) (message : Message) → fails_writing (answer_of operation message) ≡ false
answer_not operation Message.Ended = refl
answer_not operation (Message.Refused error) = refl
answer_not operation (Message.Whole m) = tree_not operation (item_of 64 m)

outcome_not : (request : Option (List ℕ)) (operation : Operation) (limit : Option ℕ) (rest : List ℕ)
    → fails_writing (outcome_of request operation limit rest).answer ≡ false
outcome_not None operation limit rest = refl
outcome_not (Some request) operation limit rest = answer_not operation (message_at rest limit)

-- ---- what a call did that was answered so

-- a part of the request was sent, and nothing was taken
pub record Broke (request : Option (List ℕ)) (before after : LinkState) (answer : Answer) : Type 0 where
  pub bytes : List ℕ
  pub valid : request ≡ Some bytes
  pub n : ℕ
  pub part : n < length bytes
  pub moves : Moves before after (take n bytes) 0
  pub answer_is : answer ≡ Err (RequestWriteError (codes "link failed"))

broke_by : (request : Option (List ℕ)) (operation : Operation) (limit : Option ℕ) (rest : List ℕ)
    (before after : LinkState) (answer : Answer) (n : ℕ)
    → n < length (outcome_of request operation limit rest).sent →
    Moves before after (take n (outcome_of request operation limit rest).sent) 0
    → answer ≡ Err (RequestWriteError (codes "link failed")) → Broke request before after answer
broke_by None operation limit rest before after answer n part moves is = absurd (omega (arith, part))
broke_by (Some bytes) operation limit rest before after answer n part moves is =
    record { bytes = bytes; valid = refl; n = n; part = part; moves = moves; answer_is = is }

not_so : (x : Answer) (answer : Answer) → answer ≡ x → fails_writing x ≡ false → fails_writing answer ≡ true → ⊥
not_so x answer is not so = let e : true ≡ false = sym so ∙ ap fails_writing is ∙ not in cc

broke_of : (request : Option (List ℕ)) (operation : Operation) (limit : Option ℕ) (rest : List ℕ)
    (before after : LinkState) (answer : Answer) → fails_writing answer ≡ true →
    Exchanged (outcome_of request operation limit rest) before after answer → Broke request before after answer
broke_of request operation limit rest before after answer so (completed is moves) =
    absurd (not_so _ answer is (outcome_not request operation limit rest) so)
broke_of request operation limit rest before after answer so (write_failed is rose n h moves) =
    broke_by request operation limit rest before after answer n h moves is
broke_of request operation limit rest before after answer so (read_failed is rose n h moves) =
    absurd (not_so _ answer is refl so)
broke_of request operation limit rest before after answer so (sending_cut is n h moves) =
    absurd (not_so _ answer is refl so)
broke_of request operation limit rest before after answer so (reading_cut is n h moves) =
    absurd (not_so _ answer is refl so)

-- ---- what is served of it

served_same : (objects : List Object) (b kept : List ℕ) (made : Option Made) (t : ℤ)
    → request_read kept ≡ request_read b → served objects kept made t ≡ served objects b made t
unfolding served
served_same objects b kept made t e = ap (λ r. served_request objects r made t) e

asks_same : (objects : List Object) (b kept : List ℕ) → request_read kept ≡ request_read b
    → asks objects kept ≡ asks objects b
unfolding asks
asks_same objects b kept e = ap (asks_request objects) e

response_same : (t : ℤ) (run : Run) (b kept : List ℕ) → request_read kept ≡ request_read b
    → response_to t run kept ≡ response_to t run b
response_same t run b kept e =
    ap (λ q. response_bytes (served run.objects kept (first_for q run.given) t).message)
    (asks_same run.objects b kept e)
    ∙ ap (λ (s : Served). response_bytes s.message)
    (served_same run.objects b kept (first_for (asks run.objects b) run.given) t e)

then_none : (first : List ℕ) (ever bytes : Option (List ℕ)) → ever ≡ Some first
    → then_bytes ever bytes ≡ None → bytes ≡ None
then_none first (Some e) (Some b) is h = absurd (cc)
then_none first (Some e) None is h = refl
then_none first None bytes is h = absurd (cc)

append_none : (xs : List ℕ) → xs ++ [] ≡ xs
append_none [] = refl
append_none (x ∷ xs) = ap (λ l. x ∷ l) (append_none xs)

-- ---- the call

unsent_of : (settings : CallSettings) (call : Call) (before after : LinkState) (answer : Answer)
    (a b : Option (List ℕ)) (request : Option (List ℕ))
    (broke : Broke request before after answer) →
    IsRequestText settings.buffered request answer a
    → ((taken : List ℕ) → IsResponseText settings.buffered taken answer b → b ≡ None)
    → (taken : List ℕ) → IsResponseText settings.buffered taken answer b →
    (answer ≡ Err (RequestWriteError (codes "link failed")) → a ≡ diagnostic_of settings.buffered request) →
    IsUnsent settings broke.bytes (code_told before after (helper_answer call answer) a b)
unsent_of settings call before after answer a b request broke p none taken q text = record {
  n = broke.n;
  part = broke.part;
  sent = ap (λ l. drop (length before.sent) l) broke.moves.sent_is
      ∙ drop-append_seam before.sent (take broke.n broke.bytes);
  answer = ap (helper_answer call) broke.answer_is;
  request_text = text broke.answer_is ∙ ap (diagnostic_of settings.buffered) broke.valid;
  response_text = none taken q;
}

request_text_is : (buffered : Bool) (request : Option (List ℕ)) (answer : Answer)
    (a : Option (List ℕ)) → IsRequestText buffered request answer a
    → answer ≡ Err (RequestWriteError (codes "link failed")) → a ≡ diagnostic_of buffered request
request_text_is buffered request answer a p is =
    let p' : IsRequestText {A = Val} buffered request
    (Err (RequestWriteError (codes "link failed"))) a =
    subst (λ (x : Answer). IsRequestText buffered request x a) is p in p'

response_text_is : (buffered : Bool) (answer : Answer) (b : Option (List ℕ))
    → answer ≡ Err (RequestWriteError (codes "link failed")) → (taken : List ℕ)
    → IsResponseText buffered taken answer b → b ≡ None
response_text_is buffered answer b is taken q =
    let q' : IsResponseText {A = Val} buffered taken
    (Err (RequestWriteError (codes "link failed"))) b =
    subst (λ (x : Answer). IsResponseText buffered taken x b) is q in q'

-- what serving came to before the message that was kept
pub cut_of : AreMessages → AreRequests
    → {M : Type 0} (state : M → MakerState) (settings : CallSettings) (call : Call)
    (before : LinkState) (after : ServerLinkState M) (told : JoinedReport) (b : List ℕ) (n : ℕ) →
    request_bytes (request_of call) settings.credential ≡ Some b
    → IsReadBack call settings.credential → n < length b
    → Moves before (server_link_state state after) (take n b) 0 → IsReady settings.time before →
    0 < after.faults → IsRequestOf call after.kept
    → IsCut settings.time after.server.objects
    (state after.server.maker) after.ever after.sent after.kept → IsUnsent settings b told →
    CutCall state settings call before after told
cut_of responses requests state settings call before after told b n valid reads part moves ready faults kept_is cut unsent =
    let t : ℤ = settings.time in
    let given : List Made = (state after.server.maker).given in
    let w : List (List ℕ) = (messages_in before.sent).whole in
    let run : Run = run_of t given w in
    let more : List ℕ = moves.ever.more in
    let split_is : messages_in after.sent ≡ with_begun w (take n b) =
    ap messages_in moves.sent_is ∙ split_part before.sent b n ready.whole
    (requests (request_of call) settings.credential b valid) part in
    let wholes : (messages_in after.sent).whole ≡ w = ap (λ (s : Split). s.whole) split_is in
    let runs : run_of t given (messages_in after.sent).whole ≡ run = ap (run_of t given) wholes in
    let ever : run.ever ≡ Some after.ever = ap (λ (r : Run). r.ever) (sym runs) ∙ cut.ever_is in
    let same : before.ever ≡ after.ever =
    same_frames (length w) before.ever after.ever more []
    (run_framed responses t ready.given w before.ever ready.agrees.ever)
    (run_framed responses t given w after.ever ever)
    (sym moves.ever.is ∙ sym (append_none after.ever)) in
    let reads_same : request_read after.kept ≡ request_read b = kept_is ∙ sym (reads b valid) in
    let none : response_to t run b ≡ None =
    sym (response_same t run b after.kept reads_same)
    ∙ then_none after.ever run.ever (response_to t run after.kept) ever
    (sym (serve_ever t run after.kept)
    ∙ ap (λ (r : Run). (serve t r after.kept).ever) (sym runs) ∙ cut.none) in
    let asked_same : asks run.objects after.kept ≡ asks run.objects b = asks_same run.objects b after.kept reads_same in
    let givens : rest_for (asks run.objects b) run.given ≡ [] =
    ap (λ q. rest_for q run.given) (sym asked_same) ∙ sym (serve_given t run after.kept)
    ∙ ap (λ (r : Run). (serve t r after.kept).given) (sym runs) ∙ cut.given in
    let askeds : run.asked ++ option_to_list (asks run.objects b) ≡ (state after.server.maker).asked =
    ap (λ q. run.asked ++ option_to_list q) (sym asked_same) ∙ sym (serve_asked t run after.kept)
    ∙ ap (λ (r : Run). (serve t r after.kept).asked) (sym runs) ∙ cut.asked in
    let objects : run.objects ≡ after.server.objects = ap (λ (r : Run). r.objects) (sym runs) ∙ cut.objects_are in
    let stays : after.pos ≡ before.pos = let e : after.pos ≡ before.pos + 0 = moves.pos in omega (arith, e) in
    let rest : left before ≡ left (server_link_state state after) =
    ap (λ l. drop before.pos l) same ∙ ap (λ p. drop p after.ever) (sym stays) in
    record {
      faults = faults;
      agrees = record {
        ever = ever ∙ ap Some (sym same);
        held =
            subst (AreResponsesHeld t (fresh given)) wholes cut.held;
      };
      request = b;
      next_is = next_unformed settings (between t given before) call b valid none
          ∙ same_next _ _ _ _ _ _ refl refl (same_between _ _ _ _ _ _ _ _ objects givens askeds rest);
      unsent = unsent;
      held = record {
        reads = reads;
        holds = λ request response valid' formed.
            let same_request : b ≡ request = let e : Some b ≡ Some request = sym valid ∙ valid' in cc in
            let none' : response_to t run request ≡ None = ap (response_to t run) (sym same_request) ∙ none in
            absurd (let e : None ≡ Some response = sym none' ∙ formed in cc);
      };
    }

pub cut_called : AreMessages → AreRequests
    → {M : Type 0} (state : M → MakerState) (before after : ClientState (ServerLinkState M))
    (call : Call) (answer : Answer) →
    IsReadBack call before.credential →
    IsCall (server_link_state state) (request_of call) before after answer
    → fails_writing answer ≡ true → IsOpen state before.link → LinkFacts state before.link
    → LinkFacts state after.link →
    after.link.starved ≡ false → 0 < after.link.faults → IsRequestOf call after.link.kept →
    CallEffect state (call_settings before) call before.link after.link
    (code_told (server_link_state state before.link) (server_link_state state after.link)
    (helper_answer call answer) after.request_text after.response_text)
    (loses_connection answer)
cut_called responses requests state before after call answer reads is_call so opened known known' fed faults kept_is =
    let settings : CallSettings = call_settings before in
    let lb : LinkState = server_link_state state before.link in
    let la : LinkState = server_link_state state after.link in
    let request : Option (List ℕ) = request_bytes (request_of call) before.credential in
    let broke : Broke request lb la answer =
    broke_of request (operation_of (request_of call)) before.limit
    (left_for lb la) lb la answer so (is_call.exchange refl) in
    let tells : IsTrue (state after.link.server.maker).tells =
    rw (tells_same state before.link after.link is_call.keeps.mark) opened.tells in
    let time : after.link.server.time ≡ before.link.server.time =
    time_same state before.link after.link is_call.keeps.mark in
    let cut : IsCut before.link.server.time after.link.server.objects
    (state after.link.server.maker) after.link.ever after.link.sent after.link.kept =
    rw (← time) (known'.cut fed tells faults) in
    let unsent : IsUnsent settings broke.bytes
    (code_told lb la (helper_answer call answer) after.request_text after.response_text) =
    unsent_of settings call lb la answer after.request_text after.response_text request broke is_call.request_text (response_text_is before.buffered answer after.response_text broke.answer_is) _ (is_call.response_text refl)
    (request_text_is before.buffered request answer after.request_text is_call.request_text) in
    CallEffect.cut_short (ap loses_connection broke.answer_is)
    (cut_of responses requests state settings call lb after.link _ broke.bytes broke.n broke.valid reads broke.part broke.moves (ready_of state before.link opened known) faults kept_is cut unsent)
