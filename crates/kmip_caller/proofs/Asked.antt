-- What an order asks for.
use Rattle.std.proofs.Common.{◌≡◌, ℕ, List, take, refl, ◌∙◌, ap, sym, subst, Option, Some, None, Result}
use Rattle.std.specs.Option.{option_and_then}
use Rattle.std.proofs.Math.Seq.{take-length}
use Rattle.kmip_client.specs.Message.{Message, message_at}
use Rattle.kmip_wire.specs.Tree.{Tree}
use Rattle.kmip_client.specs.Operation.{TreeRequest, operation_bytes}
use Rattle.kmip_client.specs.WholeMessage.{whole_bytes, whole_answer}
use Rattle.kmip_client.specs.Outcome.{answer_by, answer_of}
use Rattle.kmip_client.specs.Untyped.{identified_answer}
use Rattle.kmip_client.specs.declared.error.Error.{Error}
use Rattle.kmip_words.specs.Calls.{typed_call}
use Rattle.kmip_words.specs.Exchange.{Settings, request_asked, operation_asked}
use Rattle.kmip_words.specs.About.{answer_about, ending_about, line_with}
use Rattle.kmip_words.specs.declared.call.Call.{Call}
use Rattle.kmip_plain.specs.declared.payload.PayloadForm.TheVariants.{Tree as AsTree, Plain as AsPlain}
use Rattle.kmip_operations.specs.Answers.{tree_line, answer_to, tree_ending}
use Rattle.kmip_operations.specs.AnyPayload.{fetched_payload, line_or, ending_or}
use Rattle.kmip_operations.specs.Calls.{Asks, IsMessageText, request_of}
use Rattle.kmip_operations.specs.declared.call.OperationCall.{OperationCall}
use Rattle.kmip_operations.proofs.Asked.{one_call, one_structure}
use Rattle.kmip_tags.specs.Tags.{REQUEST_MESSAGE}
use Rattle.kmip_caller.specs.Wire.{taken_at, IsOneAtMost}
use Rattle.kmip_caller.specs.TreeWords.{TreeText, an_operation, a_message, tree_words, item_id}
use Rattle.kmip_operation_words.specs.Calls.{table_request}
use Rattle.kmip_caller.specs.TableWords.{with_id, table_words}
use Rattle.kmip_caller.specs.Record.{words_kept}
use Rattle.kmip_caller.specs.Exchange.{Exchange, typed_exchange, operation_exchange, message_exchange}
use Rattle.kmip_caller.specs.Asked.{AsksTree, AsksFor, tree, typed, table, AsksForNone, exchange_of, Requests}
use Rattle.kmip_caller.specs.declared.command.Order.{Order}
use Rattle.kmip_caller.specs.declared.requested.Asked.{Asked}
use Rattle.kmip_caller.specs.declared.requested.Asked.TheVariants as found
use Rattle.kmip_caller.proofs.Apart.{table_untyped}
use Rattle.kmip_caller.proofs.Fronts.{same_message}

-- ---- the bytes that are taken answer what all the bytes left do

pub record IsReading (limit : Option ℕ) (exchange : Exchange) : Type 0 where
  pub line : (rest bytes : List ℕ) → bytes ≡ take (taken_at rest limit) rest → IsOneAtMost limit bytes
      → exchange.line bytes ≡ exchange.line rest
  pub ending : (rest bytes : List ℕ) → bytes ≡ take (taken_at rest limit) rest → IsOneAtMost limit bytes
      → exchange.ending bytes ≡ exchange.ending rest

same_from : {X : Type 0} (limit : Option ℕ) (f : Message → List ℕ → X) (rest bytes : List ℕ)
    → bytes ≡ take (taken_at rest limit) rest → IsOneAtMost limit bytes
    → f (message_at bytes limit) (take (taken_at bytes limit) bytes)
    ≡ f (message_at rest limit) (take (taken_at rest limit) rest)
same_from limit f rest bytes is one =
    let here : message_at bytes limit ≡ message_at rest limit =
    ap (λ l. message_at l limit) is ∙ same_message rest limit in
    ap (λ (m : Message). f m (take (taken_at bytes limit) bytes)) here
    ∙ ap (λ (l : List ℕ). f (message_at rest limit) l)
    (ap (λ n. take n bytes) one ∙ take-length bytes ∙ is)

same_by : {A X : Type 0} (reads : List ℕ → Result A Error) (limit : Option ℕ)
    (f : Result A Error → List ℕ → X) (rest bytes : List ℕ)
    → bytes ≡ take (taken_at rest limit) rest → IsOneAtMost limit bytes
    → f (answer_by reads (message_at bytes limit)) (take (taken_at bytes limit) bytes)
    ≡ f (answer_by reads (message_at rest limit)) (take (taken_at rest limit) rest)
same_by reads limit f = same_from limit (λ m first. f (answer_by reads m) first)

pub exchange_reading : (settings : Settings) (asked : Asked)
    → IsReading settings.limit (exchange_of settings asked)
exchange_reading settings (found.Typed call) = record {
  line = λ rest bytes is one. same_from settings.limit
      (λ m first. line_or
      (line_with call (answer_about call (answer_of (operation_asked call) m) first) first) call
      (fetched_payload call m) first) rest bytes is one;
  ending = λ rest bytes is one. same_from settings.limit
      (λ m first. ending_or (ending_about call (answer_of (operation_asked call) m) first) call
      (fetched_payload call m)) rest bytes is one;
}
exchange_reading settings (found.Operation call form) = record {
  line = λ rest bytes is one. same_by (identified_answer call.operation call.id) settings.limit
      (λ answer first. tree_line form (answer_to (Some (request_of call)) answer first) first)
      rest bytes is one;
  ending = λ rest bytes is one. same_by (identified_answer call.operation call.id) settings.limit
      (tree_ending (Some (request_of call))) rest bytes is one;
}
exchange_reading settings (found.Message message) = record {
  line = λ rest bytes is one. same_by whole_answer settings.limit
      (λ answer first. tree_line AsTree (answer_to None answer first) first) rest bytes is one;
  ending = λ rest bytes is one. same_by whole_answer settings.limit (tree_ending None) rest bytes
      is one;
}

-- ---- an order asks for one exchange at most

both_words : {G : Type 0} (order : Order) (text : TreeText) → tree_words order.words ≡ Some text
    → tree_words order.words ≡ None → G
both_words order text some none = absurd (cc)

call_clash : {G : Type 0} (found : Option Call) (call : Call) → found ≡ Some call → found ≡ None → G
call_clash found call some none = absurd (cc)

both_calls : {G : Type 0} (order : Order) (call : Call) → typed_call order.words ≡ Some call
    → typed_call order.words ≡ None → G
both_calls order call some none = call_clash (typed_call order.words) call some none

same_request : (order : Order) (a b : TreeRequest) → table_words order.words ≡ Some a
    → table_words order.words ≡ Some b → a ≡ b
same_request order a b first second = cc

same_call : (order : Order) (a b : Call) → typed_call order.words ≡ Some a
    → typed_call order.words ≡ Some b → a ≡ b
same_call order a b first second = cc

same_text : (order : Order) (a b : TreeText) → tree_words order.words ≡ Some a
    → tree_words order.words ≡ Some b → a ≡ b
same_text order a b first second = cc

same_id : (given a b : Option (List ℕ)) → item_id given ≡ Some a → item_id given ≡ Some b → a ≡ b
same_id given a b first second = cc

tree_once : (settings : Settings) (text : TreeText) (a b : Exchange) → AsksTree settings text a
    → AsksTree settings text b → a ≡ b
tree_once settings (an_operation name version hex payload) a b (request, given, asks, by)
    (wanted, found_is, asked, done) =
    let P : Option (List ℕ) → Type 0 = λ i. Asks name version i payload wanted in
    by ∙ ap (operation_exchange AsTree settings)
    (one_call name version request.id payload request wanted asks
    (subst P (same_id hex wanted.id request.id found_is given) asked)) ∙ sym done
tree_once settings (a_message text) a b (message, is, by) (wanted, are, done) =
    by ∙ ap (message_exchange settings) (one_structure REQUEST_MESSAGE text message wanted is are) ∙ sym done

pub asked_once : (order : Order) (a b : Exchange) → AsksFor order a → AsksFor order b → a ≡ b
asked_once order a b (tree text is asks) (tree other are asked) =
    let P : TreeText → Type 0 = λ t. AsksTree order.settings t a in
    tree_once order.settings other a b (subst P (same_text order text other is are) asks) asked
asked_once order a b (tree text is asks) (typed plain call found_is done) =
    both_words order text is plain
asked_once order a b (typed plain call is by) (tree text are asks) =
    both_words order text are plain
asked_once order a b (tree text is asks) (table plain request found_is done) =
    both_words order text is plain
asked_once order a b (typed plain call is by) (typed also other are done) =
    by ∙ ap (typed_exchange order.settings) (same_call order call other is are) ∙ sym done
asked_once order a b (typed plain call is by) (table also request found_is done) =
    both_calls order call is (table_untyped order.words request found_is)
asked_once order a b (table plain request is by) (tree text are asks) =
    both_words order text are plain
asked_once order a b (table plain request is by) (typed also call are done) =
    both_calls order call are (table_untyped order.words request is)
asked_once order a b (table plain request is by) (table also other are done) =
    by ∙ ap (operation_exchange AsPlain order.settings) (same_request order request other is are) ∙ sym done

-- ---- what the code finds

pub typed_asks : (order : Order) (call : Call) (asked : Asked) (request : Option (List ℕ))
    → tree_words order.words ≡ None → typed_call order.words ≡ Some call → asked ≡ found.Typed call →
    request ≡ (request_asked call order.settings.credential).message
    → Requests order asked request
typed_asks order call asked request none is found_is message = rw found_is (record {
  asks = typed none call is refl;
  message = message;
})

-- ---- calls of the table

pub words_of_table : (words rest : List (List ℕ)) (hex id : Option (List ℕ)) (asked : Option TreeRequest)
    → hex ≡ (with_id words).value → rest ≡ (with_id words).rest → item_id hex ≡ Some id
    → asked ≡ table_request rest id → table_words words ≡ asked
words_of_table words rest hex id asked hex_is rest_is given is =
    ap (option_and_then (table_request (with_id words).rest)) (ap item_id (sym hex_is) ∙ given)
    ∙ ap (λ (l : List (List ℕ)). table_request l id) (sym rest_is) ∙ sym is

pub words_of_none : (words : List (List ℕ)) (hex : Option (List ℕ)) → hex ≡ (with_id words).value
    → item_id hex ≡ None → table_words words ≡ None
words_of_none words hex hex_is none =
    ap (option_and_then (table_request (with_id words).rest)) (ap item_id (sym hex_is) ∙ none)

pub table_asks : (order : Order) (call : OperationCall) (request : Option (List ℕ))
    → tree_words order.words ≡ None → table_words order.words ≡ Some (request_of call)
    → request ≡ operation_bytes (request_of call) order.settings.credential
    → Requests order (found.Operation call AsPlain) request
table_asks order call request none is message = record {
  asks = table none (request_of call) is refl;
  message = message;
}

request_clash : {G : Type 0} (found : Option TreeRequest) (request : TreeRequest) → found ≡ Some request
    → found ≡ None → G
request_clash found request some none = absurd (cc)

-- words that are neither a typed call nor one of the table ask for none
pub none_of_table : (order : Order) → tree_words order.words ≡ None → typed_call order.words ≡ None
    → table_words order.words ≡ None → AsksForNone order
none_of_table order none untyped absent exchange (tree text is asks) = both_words order text is none
none_of_table order none untyped absent exchange (typed plain call is by) = both_calls order call is untyped
none_of_table order none untyped absent exchange (table plain request is by) =
    request_clash (table_words order.words) request is absent

-- ---- calls with JSON

pub operation_asks : (order : Order) (name version : List ℕ) (hex : Option (List ℕ)) (payload : List ℕ)
    (id : Option (List ℕ)) (call : OperationCall) (request : Option (List ℕ))
    → tree_words order.words ≡ Some (an_operation name version hex payload) →
    item_id hex ≡ Some id → Asks name version id payload (request_of call)
    → request ≡ operation_bytes (request_of call) order.settings.credential
    → Requests order (found.Operation call AsTree) request
operation_asks order name version hex payload id call request is given asks message =
    let P : Option (List ℕ) → Type 0 = λ i. Asks name version i payload (request_of call) in
    record {
      asks = tree (an_operation name version hex payload) is (
        request_of call,
        given ∙ ap (λ (i : Option (List ℕ)). Some i) asks.id_is,
        subst P asks.id_is asks,
        refl,
      );
      message = message;
    }

none_of_words : (settings : Settings) (name version : List ℕ) (hex : Option (List ℕ)) (payload : List ℕ)
    (id : Option (List ℕ)) (exchange : Exchange) → item_id hex ≡ Some id
    → ((request : TreeRequest) → Asks name version id payload request → ⊥)
    → AsksTree settings (an_operation name version hex payload) exchange → ⊥
none_of_words settings name version hex payload id exchange given none (request, found_is, asks, by) =
    let P : Option (List ℕ) → Type 0 = λ i. Asks name version i payload request in
    none request (subst P (same_id hex request.id id found_is given) asks)

-- words of an operation ask for none where its name, its version or its payload is none
pub none_with_id : (order : Order) (name version : List ℕ) (hex : Option (List ℕ)) (payload : List ℕ)
    (id : Option (List ℕ)) → tree_words order.words ≡ Some (an_operation name version hex payload) →
    item_id hex ≡ Some id → ((request : TreeRequest) → Asks name version id payload request → ⊥)
    → AsksForNone order
none_with_id order name version hex payload id is given none exchange (tree other are asks) =
    let P : TreeText → Type 0 = λ t. AsksTree order.settings t exchange in
    none_of_words order.settings name version hex payload id exchange given none
    (subst P (same_text order other (an_operation name version hex payload) are is) asks)
none_with_id order name version hex payload id is given none exchange (typed plain call found_is by) =
    both_words order (an_operation name version hex payload) is plain
none_with_id order name version hex payload id is given none exchange (table plain request found_is by) =
    both_words order (an_operation name version hex payload) is plain

id_clash : {G : Type 0} (hex id : Option (List ℕ)) → item_id hex ≡ Some id → item_id hex ≡ None → G
id_clash hex id some none = absurd (cc)

none_of_hex : (settings : Settings) (name version : List ℕ) (hex : Option (List ℕ)) (payload : List ℕ)
    (exchange : Exchange) → item_id hex ≡ None
    → AsksTree settings (an_operation name version hex payload) exchange → ⊥
none_of_hex settings name version hex payload exchange none (request, found_is, asks, by) =
    id_clash hex request.id found_is none

-- and where its Unique Batch Item ID is none
pub none_without_id : (order : Order) (name version : List ℕ) (hex : Option (List ℕ)) (payload : List ℕ)
    → tree_words order.words ≡ Some (an_operation name version hex payload) → item_id hex ≡ None
    → AsksForNone order
none_without_id order name version hex payload is none exchange (tree other are asks) =
    let P : TreeText → Type 0 = λ t. AsksTree order.settings t exchange in
    none_of_hex order.settings name version hex payload exchange none
    (subst P (same_text order other (an_operation name version hex payload) are is) asks)
none_without_id order name version hex payload is none exchange (typed plain call found_is by) =
    both_words order (an_operation name version hex payload) is plain
none_without_id order name version hex payload is none exchange (table plain request found_is by) =
    both_words order (an_operation name version hex payload) is plain

pub message_asks : (order : Order) (text : List ℕ) (whole : Tree) (request : Option (List ℕ))
    → tree_words order.words ≡ Some (a_message text) →
    IsMessageText text whole → request ≡ whole_bytes whole → Requests order (found.Message whole) request
message_asks order text whole request is means message = record {
  asks = tree (a_message text) is (whole, means, refl);
  message = message;
}

-- what an order asks for is not nothing
pub asked_clash : {G : Type 0} (order : Order) (asked : Asked) (request : Option (List ℕ))
    → Requests order asked request → AsksForNone order → G
asked_clash order asked request asks none =
    absurd (none (exchange_of order.settings asked) asks.asks)

-- the words that are recorded of what was found are those of what the order asks for
pub kept_for : (order : Order) (asked : Asked) (request : Option (List ℕ)) (words : Option (List (List ℕ)))
    → Requests order asked request →
    words ≡ words_kept order.file order.words (exchange_of order.settings asked).without_credential →
    (exchange : Exchange) → AsksFor order exchange →
    words ≡ words_kept order.file order.words exchange.without_credential
kept_for order asked request words asks is exchange given =
    is ∙ ap (λ (k : Exchange). words_kept order.file order.words k.without_credential)
    (asked_once order (exchange_of order.settings asked) exchange asks.asks given)
