-- The payload that a message answers by KMIP's tables is the reading of the tree that it answers without them.
use Rattle.std.proofs.Common.{◌≡◌, ℕ, filter, List, [], ◌∷◌, refl, ◌∙◌, ap, sym, subst, pos, Option, Some, None, Result, Ok, Err}
use Rattle.kmip_tags.specs.Tags.{BATCH_ITEM, RESPONSE_PAYLOAD}
use Rattle.kmip_wire.specs.Tree.{Tree}
use Rattle.kmip_wire.specs.Parts.{children_in}
use Rattle.kmip_wire.specs.Reading.{item_of}
use Rattle.kmip_shape.specs.Val.{Val, Number, One}
use Rattle.kmip_shape.specs.Shape.{NoCase, has_tag, chosen_by}
use Rattle.kmip_shape.specs.Reads.{read_in, root_read}
use Rattle.kmip_enums.specs.Operations.{operation_line}
use Rattle.kmip_enums.specs.declared.operation.Operation.{Operation}
use Rattle.kmip_response.specs.Tables.{response_message, response_payload}
use Rattle.kmip_client.specs.declared.error.Error.{Error}
use Rattle.kmip_client.specs.Outcome.{read_answer, tree_answer, value_answer, response_tag}
use Rattle.kmip_client.specs.Untyped.{IsSuccess, untyped_answer, parsed_answer, all_under, payload_of}
use Rattle.kmip_client.proofs.Variants.{IsHeld, held_in}
use Rattle.kmip_client.proofs.Successes.{from_message}

no_payload : {A T : Type 0} {error : Error} {payload : T} → ◌≡◌ {A = Result T Error} (Err error) (Ok payload) → A
no_payload e = absurd (cc)

under : (tag : ℕ) (tree : Tree) (children : List Tree) → children_in tree ≡ Some children
    → all_under tag tree ≡ filter (has_tag tag) children
under tag tree children is =
    ap (λ (o : Option (List Tree)). filter (has_tag tag) (elim o [ None ↦ [] | Some trees ↦ trees ])) is

first_is : {A : Type 0} {x y : A} {xs ys : List A} → x ∷ xs ≡ y ∷ ys → x ≡ y
first_is e = cc

answer_is : {x y : Tree} → ◌≡◌ {A = Result Tree Error} (Ok x) (Ok y) → x ≡ y
answer_is e = cc

-- of the same message
of_message : (operation : Operation) (message tree : Tree) (payload : Val)
    → IsHeld operation message payload → IsSuccess operation message tree →
    read_in response_payload NoCase (chosen_by (One (Number (pos (operation_line operation).number)))) tree
    ≡ Some payload
of_message operation message tree payload held success =
    let same : held.item ≡ success.item =
    first_is (sym held.items_are ∙ (sym (under BATCH_ITEM message held.children held.children_are) ∙ success.items)) in
    let under_item : all_under RESPONSE_PAYLOAD success.item ≡ held.read ∷ [] =
    ap (λ item. all_under RESPONSE_PAYLOAD item) (sym same)
    ∙ (under RESPONSE_PAYLOAD held.item held.item_children held.item_children_are ∙ held.payloads_are) in
    let is : held.read ≡ tree = answer_is (ap payload_of (sym under_item) ∙ success.payload_is) in
    subst (λ t. read_in response_payload NoCase
    (chosen_by (One (Number (pos (operation_line operation).number)))) t ≡ Some payload) is held.own

by_value : (operation : Operation) (message tree : Tree) (payload : Val) (value : Option Val)
    → root_read response_message response_tag message ≡ value → value_answer operation value ≡ Ok payload
    → IsSuccess operation message tree →
    read_in response_payload NoCase (chosen_by (One (Number (pos (operation_line operation).number)))) tree
    ≡ Some payload
by_value operation message tree payload None reads typed success = no_payload typed
by_value operation message tree payload (Some value) reads typed success =
    of_message operation message tree payload (held_in operation message value payload reads typed) success

by_message : (operation : Operation) (tree : Tree) (payload : Val) (message : Option Tree)
    → tree_answer operation message ≡ Ok payload → parsed_answer operation message ≡ Ok tree →
    read_in response_payload NoCase (chosen_by (One (Number (pos (operation_line operation).number)))) tree
    ≡ Some payload
by_message operation tree payload None typed untyped = no_payload typed
by_message operation tree payload (Some message) typed untyped =
    by_value operation message tree payload (root_read response_message response_tag message) refl typed
    (from_message operation message tree untyped)

pub typed_of_tree : (operation : Operation) (m : List ℕ) (payload : Val) (tree : Tree)
    → read_answer operation m ≡ Ok payload → untyped_answer operation m ≡ Ok tree →
    read_in response_payload NoCase (chosen_by (One (Number (pos (operation_line operation).number)))) tree
    ≡ Some payload
typed_of_tree operation m payload tree typed untyped =
    by_message operation tree payload (item_of 64 m) typed untyped
