-- Which messages answer a tree, and what the others answer.
use Rattle.std.proofs.Common.{◌≡◌, ℕ, List, [], ◌∷◌, refl, ◌∙◌, ap, Bool, true, false, cond, Option, Some, None, Result, Ok, Err}
use Rattle.std.specs.Prelude.{◌==◌}
use Rattle.std.proofs.lemmas.Bool.{eqb-true, eq-eqb}
use Rattle.kmip_tags.specs.Tags.{BATCH_ITEM, OPERATION, RESPONSE_MESSAGE, RESPONSE_PAYLOAD, RESULT_MESSAGE, RESULT_REASON, RESULT_STATUS}
use Rattle.kmip_wire.specs.Tree.{Tree}
use Rattle.kmip_wire.specs.Reading.{item_of}
use Rattle.kmip_shape.specs.Enumerations.{variant_at}
use Rattle.kmip_shape.specs.Shape.{has_tag}
use Rattle.kmip_enums.specs.Operations.{operation_line}
use Rattle.kmip_enums.specs.ResultReasons.{result_reason_line, result_reason_variants}
use Rattle.kmip_enums.specs.ResultStatuses.{result_status_line}
use Rattle.kmip_enums.specs.declared.operation.Operation.{Operation}
use Rattle.kmip_enums.specs.declared.result_reason.ResultReason.{ResultReason}
use Rattle.kmip_enums.specs.declared.result_reason.ResultReason.TheVariants as reasons
use Rattle.kmip_enums.specs.declared.result_status.ResultStatus.TheVariants.{Success, OperationFailed}
use Rattle.kmip_client.specs.declared.error.Error.{Error}
use Rattle.kmip_client.specs.declared.error.Error.TheVariants.{DeserializeError, InternalError, ServerError, ItemNotFound}
use Rattle.kmip_client.specs.Message.{message_at, Whole}
use Rattle.kmip_client.specs.Headline.{IsReadBy}
use Rattle.kmip_client.specs.Operation.{IsValidTree}
use Rattle.kmip_client.specs.Outcome.{reading_failed, writing_failed}
use Rattle.kmip_client.specs.Untyped.{IsSuccess, not_response, listed_failure, numbered_failure, failure_of, payload_of, names, success_of, status_answer, items_answer, counts_one, message_answer, parsed_answer, identified_answer, is_of_other_item, other_item, all_under, number_under, text_under, other_text, status_text}
use Rattle.kmip_client.proofs.Headlines.{parses_of, computed_of}
use Rattle.kmip_client.proofs.Tagged.{item_answers}

-- ---- what holds of each answer

-- it holds of each answer to a whole message
record OfTrees (P : Result Tree Error → Type 0) : Type 0 where
  ok : (payload : Tree) → P (Ok payload)
  malformed : (text : List ℕ) → P (Err (DeserializeError text))
  internal : (text : List ℕ) → P (Err (InternalError text))
  server : (text : List ℕ) → P (Err (ServerError text))
  not_found : (text : List ℕ) → P (Err (ItemNotFound text))

either : (P : Result Tree Error → Type 0) (b : Bool) (x y : Result Tree Error) → P x → P y → P (cond b x y)
either P true x y p q = p
either P false x y p q = q

listed_says : {P : Result Tree Error → Type 0} → OfTrees P
    → (operation : Operation) (message : List ℕ) (reason : ResultReason)
    → P (Err (listed_failure operation message reason))
listed_says all operation message reasons.ItemNotFound = all.not_found _
listed_says all operation message reason = all.server _

numbered_says : {P : Result Tree Error → Type 0} → OfTrees P
    → (operation : Operation) (message : List ℕ) (number : ℕ) (reason : Option ResultReason)
    → P (Err (numbered_failure operation message number reason))
numbered_says all operation message number None = all.server _
numbered_says all operation message number (Some reason) = listed_says all operation message reason

failure_says : {P : Result Tree Error → Type 0} → OfTrees P
    → (operation : Operation) (message : List ℕ) (reason : Option ℕ)
    → P (Err (failure_of operation message reason))
failure_says all operation message None = all.server _
failure_says all operation message (Some number) =
    numbered_says all operation message number
    (variant_at result_reason_line result_reason_variants number)

payload_says : {P : Result Tree Error → Type 0} → OfTrees P → (payloads : List Tree) → P (payload_of payloads)
payload_says all [] = all.ok _
payload_says all (payload ∷ []) = all.ok payload
payload_says all (payload ∷ next ∷ payloads) = all.internal _

status_says : {P : Result Tree Error → Type 0} → OfTrees P
    → (operation : Operation) (item : Tree) (status : Option ℕ)
    → P (status_answer operation item status)
status_says all operation item None = all.internal _
status_says {P} all operation item (Some status) =
    either P (status == (result_status_line Success).number) _ _
    (either P (names operation (number_under OPERATION item)) _ _
    (payload_says all (all_under RESPONSE_PAYLOAD item)) (all.internal _))
    (either P (status == (result_status_line OperationFailed).number) _ _
    (failure_says all operation (text_under RESULT_MESSAGE item)
    (number_under RESULT_REASON item)) (all.internal _))

items_say : {P : Result Tree Error → Type 0} → OfTrees P
    → (operation : Operation) (counted : Bool) (items : List Tree)
    → P (items_answer operation counted items)
items_say all operation true [] = all.internal _
items_say all operation true (item ∷ []) = status_says all operation item (number_under RESULT_STATUS item)
items_say all operation true (item ∷ next ∷ items) = all.internal _
items_say all operation false items = all.internal _

tree_says : {P : Result Tree Error → Type 0} → OfTrees P
    → (operation : Operation) (message : Option Tree) → P (parsed_answer operation message)
tree_says all operation None = all.malformed _
tree_says {P} all operation (Some message) =
    either P (has_tag RESPONSE_MESSAGE message) _ _
    (items_say all operation (counts_one message) (all_under BATCH_ITEM message))
    (all.internal _)

identified_says : {P : Result Tree Error → Type 0} → OfTrees P
    → (operation : Operation) (id : Option (List ℕ)) (message : Option Tree)
    → P (cond (is_of_other_item id message) (Err other_item) (parsed_answer operation message))
identified_says {P} all operation id message =
    either P (is_of_other_item id message) _ _ (all.internal _) (tree_says all operation message)

none_fails : OfTrees (λ answer. answer ≡ reading_failed → ⊥)
none_fails = record {
  ok = λ p is. cc;
  malformed = λ t is. cc;
  internal = λ t is. cc;
  server =
      λ t is. cc;
  not_found = λ t is. cc;
}

pub never_fails : (operation : Operation) (id : Option (List ℕ)) (m : List ℕ)
    → identified_answer operation id m ≡ reading_failed → ⊥
never_fails operation id m = identified_says none_fails operation id (item_of 64 m)

none_writes : OfTrees (λ answer. answer ≡ writing_failed → ⊥)
none_writes = record {
  ok = λ p is. cc;
  malformed = λ t is. cc;
  internal = λ t is. cc;
  server = λ t is. cc;
  not_found = λ t is. cc;
}

pub never_writes : (operation : Operation) (id : Option (List ℕ)) (m : List ℕ)
    → identified_answer operation id m ≡ writing_failed → ⊥
never_writes operation id m = identified_says none_writes operation id (item_of 64 m)

-- ---- which messages answer a payload

error_payload : {error : Error} {payload : Tree} {G : Type 0} → ◌≡◌ {A = Result Tree Error} (Err error) (Ok payload) → G
error_payload e = absurd (cc)

-- the batch item that answers a payload
record IsGood (operation : Operation) (item payload : Tree) : Type 0 where
  status_is : number_under RESULT_STATUS item ≡ Some (result_status_line Success).number
  operation_is : number_under OPERATION item ≡ Some (operation_line operation).number
  payload_is : payload_of (all_under RESPONSE_PAYLOAD item) ≡ Ok payload

from_named : (operation : Operation) (item payload : Tree) (number : Option ℕ)
    → number_under RESULT_STATUS item ≡ Some (result_status_line Success).number
    → number_under OPERATION item ≡ number →
    cond (names operation number) (payload_of (all_under RESPONSE_PAYLOAD item))
    (Err (InternalError (other_text operation))) ≡ Ok payload → IsGood operation item payload
from_named operation item payload None status is answers = error_payload answers
from_named operation item payload (Some number) status is answers =
    named (number == (operation_line operation).number) refl answers
  where
    named : (b : Bool) → (number == (operation_line operation).number) ≡ b
        → cond b (payload_of (all_under RESPONSE_PAYLOAD item))
        (Err (InternalError (other_text operation))) ≡ Ok payload → IsGood operation item payload
    named false same answers = error_payload answers
    named true same answers = record {
      status_is = status;
      operation_is =
          is ∙ ap Some (eqb-true number (operation_line operation).number same);
      payload_is =
          answers;
    }

from_status : (operation : Operation) (item payload : Tree) (status : Option ℕ)
    → number_under RESULT_STATUS item ≡ status → status_answer operation item status ≡ Ok payload
    → IsGood operation item payload
from_status operation item payload None is answers = error_payload answers
from_status operation item payload (Some status) is answers =
    by_status (status == (result_status_line Success).number) refl answers
  where
    failed : (b : Bool) → cond b (Err (failure_of operation (text_under RESULT_MESSAGE item)
        (number_under RESULT_REASON item))) (Err (InternalError (status_text status))) ≡ Ok payload
        → IsGood operation item payload
    failed false answers = error_payload answers
    failed true answers = error_payload answers

    by_status : (b : Bool) → (status == (result_status_line Success).number) ≡ b →
        cond b (success_of operation item)
        (cond (status == (result_status_line OperationFailed).number)
        (Err (failure_of operation (text_under RESULT_MESSAGE item)
        (number_under RESULT_REASON item))) (Err (InternalError (status_text status))))
        ≡ Ok payload → IsGood operation item payload
    by_status false same answers = failed (status == (result_status_line OperationFailed).number) answers
    by_status true same answers = from_named operation item payload (number_under OPERATION item)
        (is ∙ ap Some (eqb-true status (result_status_line Success).number same)) refl answers

from_items : (operation : Operation) (message payload : Tree) (counted : Bool) (items : List Tree)
    → has_tag RESPONSE_MESSAGE message ≡ true → counts_one message ≡ counted
    → all_under BATCH_ITEM message ≡ items → items_answer operation counted items ≡ Ok payload
    → IsSuccess operation message payload
from_items operation message payload false items has counts is answers = error_payload answers
from_items operation message payload true [] has counts is answers = error_payload answers
from_items operation message payload true (item ∷ next ∷ items) has counts is answers = error_payload answers
from_items operation message payload true (item ∷ []) has counts is answers =
    let good : IsGood operation item payload =
    from_status operation item payload (number_under RESULT_STATUS item) refl answers in
    record {
      is_response = has;
      counts = counts;
      item = item;
      items = is;
      status_is =
          good.status_is;
      operation_is = good.operation_is;
      payload_is = good.payload_is;
    }

pub from_message : (operation : Operation) (message payload : Tree)
    → message_answer operation message ≡ Ok payload → IsSuccess operation message payload
from_message operation message payload answers = by_tag (has_tag RESPONSE_MESSAGE message) refl answers
  where
    by_tag : (b : Bool) → has_tag RESPONSE_MESSAGE message ≡ b
        → cond b (items_answer operation (counts_one message) (all_under BATCH_ITEM message))
        (Err not_response) ≡ Ok payload → IsSuccess operation message payload
    by_tag false has answers = error_payload answers
    by_tag true has answers = from_items operation message payload (counts_one message)
        (all_under BATCH_ITEM message) has refl refl answers

success_answers : (operation : Operation) (message payload : Tree)
    → IsSuccess operation message payload → message_answer operation message ≡ Ok payload
success_answers operation message payload it =
    let n : ℕ = (operation_line operation).number in
    item_answers operation message it.item it.is_response it.counts it.items
    ∙ (ap (λ status. status_answer operation it.item status) it.status_is
    ∙ (ap (λ (number : Option ℕ). cond (names operation number)
    (payload_of (all_under RESPONSE_PAYLOAD it.item))
    (Err (InternalError (other_text operation)))) it.operation_is
    ∙ (ap (λ (b : Bool). cond b (payload_of (all_under RESPONSE_PAYLOAD it.item))
    (Err (InternalError (other_text operation)))) (eq-eqb n n refl)
    ∙ it.payload_is)))

from_tree : (operation : Operation) (id : Option (List ℕ)) (limit : Option ℕ) (rest m : List ℕ)
    (payload : Tree) (message : Option Tree) (other : Bool)
    → message_at rest limit ≡ Whole m → item_of 64 m ≡ message → is_of_other_item id message ≡ other
    → cond other (Err other_item) (parsed_answer operation message) ≡ Ok payload
    → IsValidTree operation id limit rest m payload
from_tree operation id limit rest m payload message true front is own answers = error_payload answers
from_tree operation id limit rest m payload None false front is own answers = error_payload answers
from_tree operation id limit rest m payload (Some message) false front is own answers =
    record {
      message = message;
      front = front;
      parses = parses_of message m is;
      not_other = own;
      success =
          from_message operation message payload answers;
    }

identified_success : (operation : Operation) (id : Option (List ℕ)) (m : List ℕ) (message payload : Tree)
    → item_of 64 m ≡ Some message → is_of_other_item id (Some message) ≡ false
    → IsSuccess operation message payload → identified_answer operation id m ≡ Ok payload
identified_success operation id m message payload is own success =
    ap (λ (front : Option Tree). cond (is_of_other_item id front) (Err other_item) (parsed_answer operation front)) is
    ∙ (ap (λ (other : Bool). cond other (Err other_item) (message_answer operation message)) own
    ∙ success_answers operation message payload success)

pub tree_valid : (operation : Operation) (id : Option (List ℕ)) (limit : Option ℕ)
    → IsReadBy (identified_answer operation id) limit (IsValidTree operation id limit)
tree_valid operation id limit = record {
  valid = λ rest m payload front answers.
      from_tree operation id limit rest m payload (item_of 64 m) (is_of_other_item id (item_of 64 m)) front refl refl answers;
  front = λ rest m payload it. it.front;
  read = λ rest m payload it.
      identified_success operation id m it.message payload (computed_of it.message m it.parses) it.not_other it.success;
}
