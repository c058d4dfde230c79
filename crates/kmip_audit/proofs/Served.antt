-- What a session over whole messages sent and took, and what is reported of it.
use Rattle.std.proofs.Common.{◌≡◌, ℕ, ◌+◌, ◌≤◌, ◌^◌, Bool, true, false, cond, List, [], ◌∷◌, ◌++◌, length, take, drop, map, refl, ◌∙◌, ap, sym, subst, arith, Option, Some, None, Ok}
use Rattle.std.specs.Prelude.{IsSome, nat_lt}
use Rattle.std.specs.Option.{option_map, option_and_then}
use Rattle.std.proofs.Math.Seq.{take-add}
use Rattle.std.proofs.lemmas.List.{get_or-take}
use Rattle.kmip_tags.specs.Tags.{BATCH_ITEM, OPERATION, REQUEST_MESSAGE, REQUEST_PAYLOAD}
use Rattle.kmip_wire.specs.Tree.{Tree, scalar, structure, trees_of, enumeration}
use Rattle.kmip_wire.specs.Head.{head_code, head_length}
use Rattle.kmip_wire.specs.Heads.{head_says}
use Rattle.kmip_wire.specs.Bytes.{bytes, all_bytes, structure_bytes, item_bytes}
use Rattle.kmip_wire.specs.Parses.{joined_texts}
use Rattle.kmip_shape.specs.Trees.{tree_of}
use Rattle.kmip_enums.specs.Operations.{operation_line}
use Rattle.kmip_enums.specs.declared.operation.Operation.{Operation}
use Rattle.kmip_types.specs.declared.auth.CredentialType.{CredentialType}
use Rattle.kmip_request.specs.declared.payload.RequestPayload.{RequestPayload}
use Rattle.kmip_request.specs.Tables.{request_payload}
use Rattle.kmip_request.specs.Values.{request_payload_val}
use Rattle.kmip_request.specs.Fits.{FitsRequest}
use Rattle.kmip_request.specs.Message.{operation_of, minor_of, authentication_trees, header_tree, message_tree, request_bytes}
use Rattle.kmip_request_read.specs.Matched.{IsMatched}
use Rattle.kmip_request_read.specs.Reading.{Request, request_for, request_read}
use Rattle.kmip_client.specs.Message.{message_at, taken_for, Whole}
use Rattle.kmip_client.specs.Client.{loses_connection}
use Rattle.kmip_client.specs.Outcome.{Answer, Outcome, outcome, outcome_of, answer_of, read_answer}
use Rattle.kmip_client.specs.Session.{Turn, turn_of, then_on, session, all_sent, all_taken}
use Rattle.kmip_client.specs.Order.{AreServed, answers_to}
use Rattle.kmip_client.proofs.MessageAnswers.{OfMessages, message_says}
use Rattle.kmip_client.proofs.Orders.{in_order}
use Rattle.kmip_audit.specs.Frames.{front_frame, Frames, frames}
use Rattle.kmip_audit.specs.Outcomes.{request_outcome}
use Rattle.kmip_audit.specs.Report.{entries_of, end_of}
use Rattle.kmip_audit.specs.Agreement.{Agree, AllAgree, AreMatched, IsReported}
use Rattle.kmip_audit.specs.declared.outcomes.Outcome.{Outcome as Came}
use Rattle.kmip_audit.specs.declared.reports.Entry.{Entry}
use Rattle.kmip_audit.proofs.Framing.{headed, headed_falls, take_all, front_whole, message_frame, AreFrames, frames_joined}
use Rattle.kmip_audit.proofs.Agreeing.{responses}

-- ---- the laws that this stands on

abbrev AreMessages : Type 0
AreMessages = (p : RequestPayload) (c : Option CredentialType) (b : List ℕ)
    → request_bytes p c ≡ Some b → (8 ≤ length b) × (length b ≡ 8 + head_length b)

abbrev AreRead : Type 0
AreRead = (p : RequestPayload) (c : Option CredentialType) (b : List ℕ) → FitsRequest p c
    → IsMatched p → request_bytes p c ≡ Some b → request_read b ≡ Some (request_for p)

-- ---- the bytes of a request are a frame

some_is : {A : Type 0} {x y : A} → Some x ≡ Some y → x ≡ y
some_is h = cc

none_is : {A B : Type 0} {x : A} → None ≡ Some x → B
none_is h = absurd (cc)

head_is : (tag : ℕ) (v : List ℕ) → head_code (item_bytes tag 1 v) ≡ 1
unfolding item_bytes
head_is tag v = refl

framed_by : (q : Bool) (tag : ℕ) (v b : List ℕ)
    → ◌≡◌ {A = Option (List ℕ)} (cond q (Some (item_bytes tag 1 v)) None) (Some b) → head_code b ≡ 1
framed_by true tag v b h = subst (λ (l : List ℕ). head_code l ≡ 1) (some_is h) (head_is tag v)
framed_by false tag v b h = none_is h

contents_head : (tag : ℕ) (contents : Option (List ℕ)) (b : List ℕ)
    → structure_bytes tag contents ≡ Some b → head_code b ≡ 1
contents_head tag None b h = none_is h
contents_head tag (Some v) b h = framed_by (nat_lt (length v) (2 ^ 32)) tag v b h

message_head : (header : Tree) (operation : ℕ) (payload : Option Tree) (b : List ℕ)
    → option_and_then bytes (option_map (message_tree header operation) payload) ≡ Some b
    → head_code b ≡ 1
message_head header operation None b h = none_is h
message_head header operation (Some t) b h =
    contents_head REQUEST_MESSAGE
    (all_bytes (trees_of (header ∷ structure BATCH_ITEM
    (trees_of (scalar OPERATION (enumeration operation) ∷ t ∷ [])) ∷ []))) b h

request_head : (p : RequestPayload) (c : Option CredentialType) (b : List ℕ)
    → request_bytes p c ≡ Some b → head_code b ≡ 1
request_head p c b h =
    message_head (header_tree (minor_of p) (authentication_trees c))
    (operation_line (operation_of p)).number
    (tree_of request_payload REQUEST_PAYLOAD (request_payload_val p)) b h

says_of : (b : List ℕ) → head_code b ≡ 1 → head_says (take 8 b) None ≡ Ok (head_length b)
unfolding head_length
says_of b code =
    let own : head_code (take 8 b) ≡ 1 = get_or-take 8 b 3 0 (omega arith) ∙ code in
    rw (
      own,
      get_or-take 8 b 4 0 (omega arith),
      get_or-take 8 b 5 0 (omega arith),
      get_or-take 8 b 6 0 (omega arith),
      get_or-take 8 b 7 0 (omega arith),
    ) refl

request_frame : AreMessages → (p : RequestPayload) (c : Option CredentialType) (b : List ℕ)
    → request_bytes p c ≡ Some b → front_frame b ≡ Some b
request_frame messages p c b h =
    let size = messages p c b h in
    front_whole b (head_length b) size.0 (says_of b (request_head p c b h)) (omega (arith, size.1))
    ∙ ap Some (take_all b (head_length b + 8) (omega (arith, size.1)))

-- ---- both streams of a session

abbrev AreRequests : List RequestPayload → Option CredentialType → List (List ℕ) → Type 0
AreRequests [] credential [] = Unit {0}
AreRequests [] credential (b ∷ bs) = ⊥
AreRequests (payload ∷ payloads) credential [] = ⊥
AreRequests (payload ∷ payloads) credential (b ∷ bs) = (request_bytes payload credential ≡ Some b)
    × AreRequests payloads credential bs

request_frames : AreMessages → (payloads : List RequestPayload) (credential : Option CredentialType)
    (bs : List (List ℕ)) → AreRequests payloads credential bs → AreFrames bs
request_frames messages [] credential [] are = tt
request_frames messages [] credential (b ∷ bs) are = absurd are
request_frames messages (p ∷ ps) credential [] are = absurd are
request_frames messages (p ∷ ps) credential (b ∷ bs) are =
    (request_frame messages p credential b are.0, request_frames messages ps credential bs are.1)

response_frames : (payloads : List RequestPayload) (credential : Option CredentialType)
    (limit : Option ℕ) (ms : List (List ℕ)) (rest : List ℕ)
    → AreServed payloads credential limit ms rest → AreFrames ms
response_frames [] credential limit [] rest served = tt
response_frames [] credential limit (m ∷ ms) rest served = absurd served
response_frames (p ∷ ps) credential limit [] rest served = absurd served
response_frames (p ∷ ps) credential limit (m ∷ ms) rest served = (
  message_frame rest m limit served.1,
  response_frames ps credential limit ms (drop (length m) rest) served.2,
)

pub record Streams (payloads : List RequestPayload) (credential : Option CredentialType)
    (limit : Option ℕ) (messages : List (List ℕ)) (rest : List ℕ) : Type 0 where
  pub requests : List (List ℕ)
  pub are : AreRequests payloads credential requests
  pub sent : all_sent (session payloads credential limit rest) ≡ joined_texts requests
  pub taken : take (all_taken (session payloads credential limit rest)) rest ≡ joined_texts messages

the_request : (request : Option (List ℕ)) → IsSome request → (b : List ℕ) × (request ≡ Some b)
the_request None valid = absurd (cc)
the_request (Some b) valid = (b, refl)

keeps_on : OfMessages (λ answer. loses_connection answer ≡ false)
keeps_on = record {
  ok = λ p. refl;
  malformed = λ t. refl;
  internal = λ t. refl;
  server =
      λ t. refl;
  not_found = λ t. refl;
}

goes_on : (turn : Turn) (later : List Turn) → loses_connection turn.outcome.answer ≡ false
    → then_on turn later ≡ turn ∷ later
goes_on turn later kept = rw kept refl

-- one turn over a whole message
record OnMessage (o : Outcome) (operation : Operation) (b m : List ℕ) : Type 0 where
  sent : o.sent ≡ b
  taken : o.taken ≡ length m
  answer : o.answer ≡ read_answer operation m

on_message : (request : Option (List ℕ)) (operation : Operation) (limit : Option ℕ)
    (b m rest : List ℕ) → request ≡ Some b → message_at rest limit ≡ Whole m →
    OnMessage (outcome_of request operation limit rest) operation b m
on_message request operation limit b m rest is front = record {
  sent = ap (λ r. (outcome_of r operation limit rest).sent) is;
  taken = ap (λ r. (outcome_of r operation limit rest).taken) is ∙ ap (taken_for rest) front;
  answer = ap (λ r. (outcome_of r operation limit rest).answer) is ∙ ap (answer_of operation) front;
}

-- what a turn and the later ones took
taken_on : (n k : ℕ) (rest m : List ℕ) (ms : List (List ℕ)) → n ≡ length m
    → m ≡ take (length m) rest → take k (drop n rest) ≡ joined_texts ms
    → take (n + k) rest ≡ m ++ joined_texts ms
taken_on n k rest m ms is front later =
    let own : take n rest ≡ m = ap (λ j. take j rest) is ∙ sym front in
    take-add n k rest ∙ ap (λ l. l ++ take k (drop n rest)) own ∙ ap (λ l. m ++ l) later

pub streams : (payloads : List RequestPayload) (credential : Option CredentialType)
    (limit : Option ℕ) (messages : List (List ℕ)) (rest : List ℕ) →
    AreServed payloads credential limit messages rest → Streams payloads credential limit messages rest
unfolding session
streams [] credential limit [] rest served = record { requests = []; are = tt; sent = refl; taken = refl }
streams [] credential limit (m ∷ ms) rest served = absurd served
streams (p ∷ ps) credential limit [] rest served = absurd served
streams (p ∷ ps) credential limit (m ∷ ms) rest served =
    let o : Outcome = outcome p credential limit rest in
    let own = the_request (request_bytes p credential) served.0 in
    let here : OnMessage o (operation_of p) own.0 m =
    on_message (request_bytes p credential)
    (operation_of p) limit own.0 m rest own.1 served.1 in
    let kept : loses_connection o.answer ≡ false =
    ap loses_connection here.answer ∙ message_says keeps_on (operation_of p) m in
    let later : List Turn = session ps credential limit (drop o.taken rest) in
    let turns : then_on (turn_of p credential limit rest) later
    ≡ turn_of p credential limit rest ∷ later =
    goes_on (turn_of p credential limit rest) later kept in
    let next : Streams ps credential limit ms (drop o.taken rest) =
    streams ps credential limit ms (drop o.taken rest)
    (subst (λ (n : ℕ). AreServed ps credential limit ms (drop n rest))
    (sym here.taken) served.2) in
    record {
      requests = own.0 ∷ next.requests;
      are = (own.1, next.are);
      sent = ap all_sent turns ∙ ap (λ l. l ++ all_sent later) here.sent ∙ ap (λ l. own.0 ++ l) next.sent;
      taken = ap (λ t. take (all_taken t) rest) turns
          ∙ taken_on o.taken (all_taken later) rest m ms here.taken
          (headed_falls (headed rest m limit served.1)).front next.taken;
    }

-- ---- the outcomes

abbrev came_in : List Entry → List Came
came_in entries = map (λ (e : Entry). e.outcome) entries

agree : AreRead → (payloads : List RequestPayload) (credential : Option CredentialType)
    (limit : Option ℕ) (bs ms : List (List ℕ)) (rest : List ℕ) →
    AreMatched payloads credential → AreRequests payloads credential bs → AreServed payloads credential limit ms rest →
    AllAgree (map operation_of payloads) (came_in (entries_of bs ms)) (answers_to payloads ms)
agree read [] credential limit [] [] rest matched are served = tt
agree read [] credential limit [] (m ∷ ms) rest matched are served = absurd served
agree read [] credential limit (b ∷ bs) ms rest matched are served = absurd are
agree read (p ∷ ps) credential limit [] ms rest matched are served = absurd are
agree read (p ∷ ps) credential limit (b ∷ bs) [] rest matched are served = absurd served
agree read (p ∷ ps) credential limit (b ∷ bs) (m ∷ ms) rest matched are served =
    let is : request_read b ≡ Some (request_for p) = read p credential b matched.0.0 matched.0.1 are.0 in
    let P : Option Request → Type 0 = λ r.
    Agree (operation_of p) (request_outcome r (Some m)) (read_answer (operation_of p) m) in (
      subst P (sym is) (responses (operation_of p) m),
      agree read ps credential limit bs ms (drop (length m) rest) matched.1 are.1 served.2,
    )

pub sessions_reported : AreMessages → AreRead
    → (payloads : List RequestPayload) (credential : Option CredentialType) (limit : Option ℕ)
    (messages : List (List ℕ)) (rest : List ℕ) →
    AreMatched payloads credential → AreServed payloads credential limit messages rest
    → IsReported payloads (session payloads credential limit rest) rest
sessions_reported are_messages read payloads credential limit messages rest matched served =
    let turns : List Turn = session payloads credential limit rest in
    let s : Streams payloads credential limit messages rest = streams payloads credential limit messages rest served in
    let sent : frames (all_sent turns) ≡ record { all = s.requests; rest = [] } =
    ap frames s.sent ∙ frames_joined s.requests
    (request_frames are_messages payloads credential s.requests s.are) in
    let received : frames (take (all_taken turns) rest) ≡ record { all = messages; rest = [] } =
    ap frames s.taken ∙ frames_joined messages
    (response_frames payloads credential limit messages rest served) in
    let both : AllAgree (map operation_of payloads) (came_in (entries_of s.requests messages))
    (answers_to payloads messages)
    = agree read payloads credential limit s.requests messages rest matched s.are served in
    let A : List (List ℕ) → List (List ℕ) → List Answer → Type 0 =
    λ bs ms answers. AllAgree (map operation_of payloads)
    (came_in (entries_of bs ms)) answers in
    let answers : map (λ (turn : Turn). turn.outcome.answer) turns ≡ answers_to payloads messages =
    in_order payloads credential limit messages rest served in
    record {
      sent_end = ap (λ (f : Frames). end_of (length (all_sent turns)) (length f.rest)) sent;
      received_end = ap (λ (f : Frames). end_of (length (take (all_taken turns) rest)) (length f.rest)) received;
      agree =
          subst (λ (l : List Answer). A (frames (all_sent turns)).all
          (frames (take (all_taken turns) rest)).all l) (sym answers)
          (subst (λ (f : Frames). A (frames (all_sent turns)).all f.all (answers_to payloads messages)) (sym received)
          (subst (λ (f : Frames). A f.all messages (answers_to payloads messages)) (sym sent) both));
    }
