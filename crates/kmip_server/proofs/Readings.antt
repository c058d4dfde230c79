-- A response that has a wire form within the limit is the message that a client takes, and answers what it says.
use Rattle.std.proofs.Common.{◌≡◌, ℕ, ◌+◌, ◌≤◌, List, length, take, drop, refl, ◌∙◌, ap, sym, arith, Option, Some, None, false, Ok, le-ltb}
use Rattle.std.specs.Prelude.{nat_lt}
use Rattle.std.proofs.Math.ListN.{get_or-append}
use Rattle.std.proofs.Math.Seq.{take-length}
use Rattle.std.proofs.lemmas.List.{take-append-drop, length-take-le}
use Rattle.kmip_response.specs.Values.{response_message_val}
use Rattle.kmip_wire.specs.Head.{head_code, head_length}
use Rattle.kmip_wire.specs.Heads.{head_says, within}
use Rattle.kmip_server.specs.Split.{IsMessage}
use Rattle.kmip_enums.specs.declared.operation.Operation.{Operation}
use Rattle.kmip_response.specs.declared.message.ResponseMessage.{ResponseMessage}
use Rattle.kmip_client.specs.Message.{Whole, message_at, taken_for}
use Rattle.kmip_client.specs.Outcome.{answer_of, tree_answer, value_answer}
use Rattle.kmip_client.specs.Check.{check_response}
use Rattle.kmip_server.specs.Direct.{IsWithinLimit}
use Rattle.kmip_server.proofs.Splits.{head_same}
use Rattle.kmip_server.proofs.Responses.{ReadsBack}

code_same : (b : List ℕ) → 8 ≤ length b → head_code (take 8 b) ≡ head_code b
code_same b h =
    let l : length (take 8 b) ≡ 8 = length-take-le 8 b h in
    sym (get_or-append (take 8 b) (drop 8 b) 0 3 (omega arith)) ∙ ap (λ x. head_code x) (take-append-drop 8 b)

length_same : (b : List ℕ) → 8 ≤ length b → head_length (take 8 b) ≡ head_length b
length_same b h =
    let l : length (take 8 b) ≡ 8 = length-take-le 8 b h in
    sym (head_same (take 8 b) (drop 8 b) (omega arith)) ∙ ap head_length (take-append-drop 8 b)

within_says : (n : ℕ) (limit : Option ℕ) (b : List ℕ) → length b ≡ 8 + n → IsWithinLimit limit b → within n limit ≡ Ok n
within_says n None b size h = refl
within_says n (Some limit) b size h = rw (le-ltb limit (n + 8) (omega arith)) refl

pub whole_is : (b : List ℕ) (limit : Option ℕ) → IsMessage b → head_code b ≡ 1
    → IsWithinLimit limit b → message_at b limit ≡ Whole b
unfolding message_at
whole_is b limit message structure h =
    let n : ℕ = head_length b in
    let long : nat_lt (length b) 8 ≡ false = le-ltb (length b) 8 message.head in
    let code : head_code (take 8 b) ≡ 1 = code_same b message.head ∙ structure in
    let says : head_says (take 8 b) limit ≡ Ok n =
    rw (code, length_same b message.head) (within_says n limit b message.size h) in
    let enough : nat_lt (length b) (n + 8) ≡ false =
    le-ltb (length b) (n + 8) (let s : length b ≡ 8 + n = message.size in omega arith) in
    let all : n + 8 ≡ length b = let s : length b ≡ 8 + n = message.size in omega arith in
    rw (long, says, enough) (ap (λ k. Whole (take k b)) all ∙ ap Whole (take-length b))

pub answer_is : (operation : Operation) (m : ResponseMessage) (b : List ℕ) (limit : Option ℕ)
    → ReadsBack m b → IsWithinLimit limit b
    → answer_of operation (message_at b limit) ≡ check_response operation (response_message_val m)
answer_is operation m b limit back h =
    ap (answer_of operation) (whole_is b limit back.message back.structure h)
    ∙ ap (tree_answer operation) back.parses
    ∙ ap (value_answer operation) back.reads

pub taken_is : (b : List ℕ) (limit : Option ℕ) (m : ResponseMessage) → ReadsBack m b
    → IsWithinLimit limit b → taken_for b (message_at b limit) ≡ length b
taken_is b limit m back h = ap (taken_for b) (whole_is b limit back.message back.structure h)
