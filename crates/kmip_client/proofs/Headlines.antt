-- From how an exchange ended to what it did for a valid request.
use Rattle.std.proofs.Common.{◌≡◌, ◌≢◌, ℕ, ◌+◌, List, length, refl, ◌∙◌, ap, sym, arith, Option, Some, None, Result, Ok, Err, IfOk}
use Rattle.kmip_wire.specs.Tree.{Tree}
use Rattle.kmip_wire.specs.Parses.{Parses}
use Rattle.kmip_wire.specs.Reading.{item_of}
use Rattle.kmip_wire.proofs.Computed.{tree_computed}
use Rattle.kmip_shape.specs.Val.{Val}
use Rattle.kmip_shape.specs.Reads.{root_read}
use Rattle.kmip_enums.specs.declared.operation.Operation.{Operation}
use Rattle.kmip_response.specs.Tables.{response_message}
use Rattle.kmip_link.specs.State.{LinkState, FaultCountRose}
use Rattle.kmip_client.specs.declared.error.Error.{Error}
use Rattle.kmip_client.specs.declared.error.Error.TheVariants.{OutOfMemory}
use Rattle.kmip_client.specs.Message.{Message, message_at, taken_for}
use Rattle.kmip_client.specs.Outcome.{Answer, outcome_by, answer_by, answer_of, tree_answer, value_answer, read_answer, response_tag, left_for, seen_by, Gives, Exchanged, completed, write_failed, read_failed, sending_cut, reading_cut, Caused, not_valid, given, no_memory}
use Rattle.kmip_client.specs.Client.{IsOfOperation}
use Rattle.kmip_client.proofs.Variants.{variant_of}
use Rattle.kmip_client.specs.Headline.{IsValidResponse, IsReadBy, IsSound, IsAnswered, Headline}

error_payload : {A : Type 0} {error : Error} {payload : A} {G : Type 0}
    → ◌≡◌ {A = Result A Error} (Err error) (Ok payload) → G
error_payload e = absurd (cc)

record IsTaken {A : Type 0} (IsValid : List ℕ → List ℕ → A → Type 0) (rest : List ℕ) (payload : A)
    (taken : ℕ) : Type 0 where
  m : List ℕ
  is_valid : IsValid rest m payload
  all : taken ≡ length m

-- a payload comes of a valid response alone, of which every byte is taken
from_message : {A : Type 0} (reads : List ℕ → Result A Error) (limit : Option ℕ)
    (IsValid : List ℕ → List ℕ → A → Type 0) (rest : List ℕ) (payload : A) (here : Message)
    → IsReadBy reads limit IsValid →
    message_at rest limit ≡ here → answer_by reads here ≡ Ok payload
    → IsTaken IsValid rest payload (taken_for rest here)
from_message reads limit IsValid rest payload Message.Ended by front answers = error_payload answers
from_message reads limit IsValid rest payload (Message.Refused error) by front answers = error_payload answers
from_message reads limit IsValid rest payload (Message.Whole m) by front answers =
    record { m = m; is_valid = by.valid rest m payload front answers; all = refl }

-- and wherever a valid response stands, its payload does
to_message : {A : Type 0} (reads : List ℕ → Result A Error) (limit : Option ℕ)
    (IsValid : List ℕ → List ℕ → A → Type 0) (rest m : List ℕ) (payload : A)
    → IsReadBy reads limit IsValid →
    IsValid rest m payload → answer_by reads (message_at rest limit) ≡ Ok payload
to_message reads limit IsValid rest m payload by it =
    ap (λ here. answer_by reads here) (by.front rest m payload it) ∙ by.read rest m payload it

not_rose : {before after : LinkState} {G : Type 0} → IsSound before after
    → FaultCountRose before.faults after.faults → G
not_rose sound rose = absurd (omega (arith, sound.same, sound.below, rose))

headline_of : {A : Type 0} {before after : LinkState} (bytes : List ℕ)
    (reads : List ℕ → Result A Error) (limit : Option ℕ) (IsValid : List ℕ → List ℕ → A → Type 0)
    (answer : Result A Error) → IsReadBy reads limit IsValid →
    Exchanged (outcome_by (Some bytes) reads limit (left_for before after)) before after answer
    → IsSound before after → answer ≢ Err OutOfMemory →
    IsAnswered bytes IsValid before after answer
headline_of {before = before} {after = after} bytes reads limit IsValid answer by
    (completed is moves) sound room = record {
      sent = moves.sent_is;
      only = λ payload ok.
          let it : IsTaken IsValid (left_for before after) payload
          (taken_for (left_for before after) (message_at (left_for before after) limit)) =
          from_message reads limit IsValid (left_for before after) payload
          (message_at (left_for before after) limit) by refl (sym is ∙ ok) in
          (it.m, it.is_valid, moves.pos ∙ ap (λ n. before.pos + n) it.all);
      whenever = λ m payload valid. is ∙ to_message reads limit IsValid (left_for before after) m payload by valid;
    }
headline_of bytes reads limit IsValid answer by (write_failed is rose n within moves) sound room = not_rose sound rose
headline_of bytes reads limit IsValid answer by (read_failed is rose n within moves) sound room = not_rose sound rose
headline_of bytes reads limit IsValid answer by (sending_cut is n within moves) sound room = absurd (room is)
headline_of bytes reads limit IsValid answer by (reading_cut is n within moves) sound room = absurd (room is)

pub headline : {A : Type 0} {before after : LinkState} (request : Option (List ℕ))
    (reads : List ℕ → Result A Error) (limit : Option ℕ) (IsValid : List ℕ → List ℕ → A → Type 0)
    (answer : Result A Error) → IsReadBy reads limit IsValid →
    Exchanged (outcome_by request reads limit (left_for before after)) before after answer
    → Headline request IsValid before after answer
headline request reads limit IsValid answer by exchanged = λ bytes has sound room.
    headline_of bytes reads limit IsValid answer by (rw has at exchanged) sound room

-- the tree that is computed is the one that the bytes parse as
pub parses_of : (tree : Tree) (m : List ℕ) → item_of 64 m ≡ Some tree → Parses tree 1 m
parses_of tree m is = (tree_computed tree 1 m (omega arith, omega arith)).0 is

pub computed_of : (tree : Tree) (m : List ℕ) → Parses tree 1 m → item_of 64 m ≡ Some tree
computed_of tree m parses = (tree_computed tree 1 m (omega arith, omega arith)).1 parses

-- ---- responses of KMIP's tables

-- a value that answers with a payload
from_value : (operation : Operation) (limit : Option ℕ) (rest m : List ℕ) (payload : Val)
    (tree : Tree) (value : Option Val) → message_at rest limit ≡ Message.Whole m → Parses tree 1 m →
    root_read response_message response_tag tree ≡ value → value_answer operation value ≡ Ok payload
    → IsValidResponse operation limit rest m payload
from_value operation limit rest m payload tree None front parses reads answers = error_payload answers
from_value operation limit rest m payload tree (Some value) front parses reads answers =
    record { tree = tree; value = value; front = front; parses = parses; reads = reads; checks = answers }

from_tree : (operation : Operation) (limit : Option ℕ) (rest m : List ℕ) (payload : Val)
    (tree : Option Tree) → message_at rest limit ≡ Message.Whole m →
    item_of 64 m ≡ tree → tree_answer operation tree ≡ Ok payload → IsValidResponse operation limit rest m payload
from_tree operation limit rest m payload None front is answers = error_payload answers
from_tree operation limit rest m payload (Some tree) front is answers =
    from_value operation limit rest m payload tree
    (root_read response_message response_tag tree) front (parses_of tree m is) refl answers

pub typed_valid : (operation : Operation) (limit : Option ℕ)
    → IsReadBy (read_answer operation) limit (IsValidResponse operation limit)
typed_valid operation limit = record {
  valid = λ rest m payload front answers. from_tree operation limit rest m payload (item_of 64 m) front refl answers;
  front = λ rest m payload it. it.front;
  read = λ rest m payload it.
      ap (λ tree. tree_answer operation tree) (computed_of it.tree m it.parses)
      ∙ ap (λ value. value_answer operation value) it.reads ∙ it.checks;
}

-- over any link, a payload has the variant of the operation
value_variant : (operation : Operation) (tree : Tree) (value : Option Val) (payload : Val)
    → root_read response_message response_tag tree ≡ value
    → value_answer operation value ≡ Ok payload → IsOfOperation operation payload
value_variant operation tree None payload reads answers = error_payload answers
value_variant operation tree (Some value) payload reads answers = variant_of operation tree value payload reads answers

read_variant : (operation : Operation) (tree : Option Tree) (payload : Val)
    → tree_answer operation tree ≡ Ok payload → IsOfOperation operation payload
read_variant operation None payload answers = error_payload answers
read_variant operation (Some tree) payload answers =
    value_variant operation tree (root_read response_message response_tag tree) payload refl answers

given_variant : (operation : Operation) (here : Message) (payload : Val)
    → answer_of operation here ≡ Ok payload → IsOfOperation operation payload
given_variant operation Message.Ended payload answers = error_payload answers
given_variant operation (Message.Refused error) payload answers = error_payload answers
given_variant operation (Message.Whole m) payload answers = read_variant operation (item_of 64 m) payload answers

pub front_variant : {P : Type 0} (val : P → Val) (operation : Operation) (here : Message) (result : Result P Error) →
    Gives (answer_of operation here) (seen_by val result)
    → IfOk result (λ payload. IsOfOperation operation (val payload))
front_variant val operation here (Ok payload) gives = given_variant operation here (val payload) (sym gives)
front_variant val operation here (Err error) gives = tt

caused_variant : {before after : ℕ} (request : Option (List ℕ)) (operation : Operation)
    (limit : Option ℕ) (answer : Answer) (payload : Val)
    → Caused request (read_answer operation) limit before after answer → answer ≡ Ok payload
    → IsOfOperation operation payload
caused_variant request operation limit answer payload (not_valid has is) ok = error_payload (sym is ∙ ok)
caused_variant request operation limit answer payload (Caused.write_failed has is rose) ok = error_payload (sym is ∙ ok)
caused_variant request operation limit answer payload (Caused.read_failed has is rose) ok = error_payload (sym is ∙ ok)
caused_variant request operation limit answer payload (given has rest is) ok =
    given_variant operation (message_at rest limit) payload (sym is ∙ ok)
caused_variant request operation limit answer payload (no_memory is) ok = error_payload (sym is ∙ ok)

pub seen_variant : {P : Type 0} {before after : ℕ} (val : P → Val) (request : Option (List ℕ))
    (operation : Operation) (limit : Option ℕ) (result : Result P Error) →
    Caused request (read_answer operation) limit before after (seen_by val result)
    → IfOk result (λ payload. IsOfOperation operation (val payload))
seen_variant val request operation limit (Ok payload) caused =
    caused_variant request operation limit (Ok (val payload)) (val payload) caused refl
seen_variant val request operation limit (Err error) caused = tt
