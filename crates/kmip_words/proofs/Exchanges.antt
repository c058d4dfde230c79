-- What a call of the client did, of its exchange over a link in memory.
use Rattle.std.proofs.Common.{◌≡◌, ◌≢◌, ℕ, ◌+◌, ◌-◌, zero, suc, length, Bool, true, false, cond, List, [], ◌∷◌, ◌++◌, take, drop, None, refl, ◌∙◌, ap, sym, subst, arith, zero-add, Result, Ok, Err, IfOk}
use Rattle.std.proofs.lemmas.List.{drop-drop, length-drop}
use Rattle.kmip_shape.specs.Val.{Val, Number, Text, Bytes, Truth, Record, Case}
use Rattle.kmip_shape.specs.declared.style.Style.{Style}
use Rattle.kmip_link.specs.Plan.{MemoryState, memory_state}
use Rattle.kmip_enums.specs.Operations.{operation_line}
use Rattle.kmip_enums.specs.declared.operation.Operation.{Operation}
use Rattle.kmip_request.specs.Message.{request_bytes, operation_of}
use Rattle.kmip_request.specs.declared.payload.RequestPayload.{RequestPayload}
use Rattle.kmip_response.specs.Values.{response_payload_val}
use Rattle.kmip_response.specs.declared.payload.ResponsePayload.{ResponsePayload}
use Rattle.kmip_client.specs.declared.error.Error.{Error}
use Rattle.kmip_client.specs.declared.error.Error.TheVariants.{OutOfMemory}
use Rattle.kmip_client.specs.Outcome.{Answer, Outcome, outcome, outcome_of, Moves, Exchanged}
use Rattle.kmip_client.specs.Calls.{IsCall}
use Rattle.kmip_client.specs.Client.{ClientState, IsOfOperation}
use Rattle.kmip_words.specs.Exchange.{Settings, Asked, asked_of, IsRequestOf, operation_asked, value_in_style, answer_line, is_error, loses_link, ending_of, fails, settings_of, call_outcome, step_in, step_of, diagnostic_lines, Shows, Answers}
use Rattle.kmip_words.specs.About.{IsReply}
use Rattle.kmip_words.specs.declared.ending.Ending.{Ending}
use Rattle.kmip_words.specs.declared.ending.Ending.TheVariants.{Lost, Refused}
use Rattle.kmip_words.specs.declared.call.Call.{Call}
use Rattle.kmip_words.proofs.Diagnostics.{told_of}

-- over a link in memory each answer but out of memory is the outcome's
finished : (o : Outcome) (before after : MemoryState) (answer : Answer)
    → Exchanged o (memory_state before) (memory_state after) answer → answer ≢ Err OutOfMemory →
    (answer ≡ o.answer) × Moves (memory_state before) (memory_state after) o.sent o.taken
finished o before after answer (Exchanged.completed is moves) some = (is, moves)
finished o before after answer (Exchanged.write_failed is rose n below moves) some = absurd (omega arith)
finished o before after answer (Exchanged.read_failed is rose n within moves) some = absurd (omega arith)
finished o before after answer (Exchanged.sending_cut is n within moves) some = absurd (some is)
finished o before after answer (Exchanged.reading_cut is n within moves) some = absurd (some is)

-- a call fails exactly where its answer is an error

fails_by : (lost : Bool) → fails (cond lost Lost Refused) ≡ true
fails_by true = refl
fails_by false = refl

fails_is : {R : Type 0} (answer : Result R Error) → fails (ending_of answer) ≡ is_error answer
fails_is (Ok payload) = refl
fails_is (Err error) = fails_by (loses_link error)

-- the text of a call's payload in a style
abbrev told_in : Style → Call → Val → List ℕ
told_in style call payload = value_in_style call payload style

-- so a call that makes this request did what its step says
answered : {before after : ClientState MemoryState} (style : Style) (call : Call)
    (payload : RequestPayload) (answer : Answer) (ending : Ending) (old new : List ℕ)
    → IsRequestOf payload call →
    IsCall memory_state payload before after answer → answer ≢ Err OutOfMemory →
    new ≡ old ++ answer_line (told_in style call) style answer → ending ≡ ending_of answer →
    Answers (step_in style (settings_of before) call (drop before.link.pos before.link.ever))
    before after ending old new
answered {before = before} {after = after} style call payload answer ending old new makes is_call some text ending_is =
    let o : List ℕ → Outcome = λ rest. outcome payload before.credential before.limit rest in
    let rest : List ℕ = drop before.link.pos after.link.ever in
    let left : List ℕ = drop before.link.pos before.link.ever in
    let done : (answer ≡ (o rest).answer)
    × Moves (memory_state before.link) (memory_state after.link) (o rest).sent (o rest).taken =
    finished (o rest) before.link after.link answer (is_call.exchange refl) some in
    let moves : Moves (memory_state before.link) (memory_state after.link) (o rest).sent (o rest).taken = done.1 in
    let same : after.link.ever ≡ before.link.ever = moves.still refl in
    let here : rest ≡ left = ap (λ (l : List ℕ). drop before.link.pos l) same in
    let is : answer ≡ (o left).answer = done.0 ∙ ap (λ (l : List ℕ). (o l).answer) here in
    let pos : after.link.pos ≡ before.link.pos + (o left).taken =
    moves.pos ∙ ap (λ (l : List ℕ). before.link.pos + (o l).taken) here in
    let taken : after.link.pos - before.link.pos ≡ (o rest).taken = omega (arith, moves.pos) in
    let told = told_of before.buffered (request_bytes payload before.credential)
    (operation_of payload) before.limit rest
    (after.link.pos - before.link.pos) answer after.request_text after.response_text
    done.0 some taken is_call.request_text (is_call.response_text refl) in
    let ends : ending ≡ ending_of (o left).answer = ending_is ∙ ap ending_of is in
    let P : Asked → Type 0 = λ it. Answers
    (step_of (told_in style call) style before.buffered left
    (outcome_of it.message it.operation before.limit left)) before after ending old new in
    subst P (makes before.credential) (record {
      settings = rw (is_call.credential, is_call.limit, is_call.buffered) refl;
      diagnostics = rw is_call.buffered (subst (λ (l : List ℕ).
          diagnostic_lines before.buffered after.request_text after.response_text
          ≡ (step_of (told_in style call) style before.buffered l (o l)).diagnostics) here told);
      shown = text ∙ ap (λ (a : Answer). old ++ answer_line (told_in style call) style a) is;
      failed_is = ap fails ends ∙ fails_is (o left).answer;
      ending_is = ends;
      ever = same;
      sent = moves.sent_is ∙ ap (λ (l : List ℕ). before.link.sent ++ (o l).sent) here;
      pos = pos;
      left = rw (pos, same) (sym (drop-drop (o left).taken before.link.pos before.link.ever));
    })

-- the payload of an operation is a case of its number
pub of_case : (operation : Operation) (payload : Val) (P : Val → Type 0)
    → ((n : ℕ) (v : Val) → n ≡ (operation_line operation).number → P (Case n v))
    → IsOfOperation operation payload → P payload
of_case operation (Case n v) P f own = f n v own
of_case operation (Number z) P f own = absurd own
of_case operation (Text s) P f own = absurd own
of_case operation (Bytes b) P f own = absurd own
of_case operation (Truth t) P f own = absurd own
of_case operation (Record fields) P f own = absurd own

-- the answer of a call was shown, unless memory ran out
pub answer_shown : {E : Type 0} {before after : ClientState MemoryState} (style : Style)
    (call : Call) (payload : RequestPayload) (answer : Answer) (shown : Result Ending E)
    (old new : List ℕ) →
    IsRequestOf payload call → IsCall memory_state payload before after answer →
    IfOk shown (λ ending. Shows (told_in style call) style answer ending old new) →
    IfOk shown (λ ending. Answers
    (step_in style (settings_of before) call (drop before.link.pos before.link.ever))
    before after ending old new)
answer_shown style call payload answer (Ok ending) old new makes did shows =
    answered style call payload answer ending old new makes did shows.some shows.shown shows.ending_is
answer_shown style call payload answer (Err error) old new makes did shows = tt

-- the request that was made is that of a call
pub request_made : {E : Type 0} (result : Result RequestPayload E) (wanted : RequestPayload)
    (call : Call) → IsRequestOf wanted call → IfOk result (λ made. made ≡ wanted) →
    IfOk result (λ made. IsRequestOf made call)
request_made (Ok made) wanted call same is = λ credential. ap (λ p. asked_of p credential) is ∙ same credential
request_made (Err error) wanted call same is = tt

-- its payload is of the call's operation
pub of_call : {E : Type 0} (payload : RequestPayload) (call : Call)
    (result : Result ResponsePayload E) → IsRequestOf payload call →
    IfOk result (λ answer. IsOfOperation (operation_of payload) (response_payload_val answer))
    → IfOk result (λ answer. IsOfOperation (operation_asked call) (response_payload_val answer))
of_call {E} payload call result makes own =
    let P : Operation → Type 0 = λ operation.
    IfOk {E = E} result (λ answer. IsOfOperation operation (response_payload_val answer)) in
    subst P (ap (λ (it : Asked). it.operation) (makes None)) own
