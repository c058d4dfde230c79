-- The promise of one exchange, link faults and lack of memory aside.
use Rattle.std.specs.Prelude.{◌≡◌, ◌≢◌, ℕ, ◌+◌, ◌-◌, ◌^◌, ◌<◌, List, ◌++◌, length, Option, Some, Result, Ok, Err}
use Rattle.kmip_wire.specs.Tree.{Tree}
use Rattle.kmip_wire.specs.Parses.{Parses}
use Rattle.kmip_shape.specs.Val.{Val}
use Rattle.kmip_shape.specs.Reads.{root_read}
use Rattle.kmip_enums.specs.declared.operation.Operation.{Operation}
use Rattle.kmip_response.specs.Tables.{response_message}
use Rattle.kmip_link.specs.State.{LinkState}
use Rattle.kmip_client.specs.declared.error.Error.{Error}
use Rattle.kmip_client.specs.declared.error.Error.TheVariants.{OutOfMemory}
use Rattle.kmip_client.specs.Message.{message_at, Whole}
use Rattle.kmip_client.specs.Check.{check_response}
use Rattle.kmip_client.specs.Outcome.{response_tag, left_for}

-- The bytes left begin with a valid response to a request of this operation, which is the message m
-- and reads as this payload.
pub record IsValidResponse (operation : Operation) (limit : Option ℕ) (rest m : List ℕ)
    (payload : Val) : Type 0 where
  pub tree : Tree
  pub value : Val
  pub front : message_at rest limit ≡ Whole m
  pub parses : Parses tree 1 m
  pub reads : root_read response_message response_tag tree ≡ Some value
  pub checks : check_response operation value ≡ Ok payload

-- A message is a valid response exactly where it stands at the front of the bytes left and reads
-- so.
pub record IsReadBy {A : Type 0} (reads : List ℕ → Result A Error) (limit : Option ℕ)
    (IsValid : List ℕ → List ℕ → A → Type 0) : Type 0 where
  pub valid : (rest m : List ℕ) (payload : A) → message_at rest limit ≡ Whole m →
      reads m ≡ Ok payload → IsValid rest m payload
  pub front : (rest m : List ℕ) (payload : A) → IsValid rest m payload →
      message_at rest limit ≡ Whole m
  pub read : (rest m : List ℕ) (payload : A) → IsValid rest m payload → reads m ≡ Ok payload

-- The link's count of faults did not rise, and is below its last value.
pub record IsSound (before after : LinkState) : Type 0 where
  pub same : after.faults ≡ before.faults
  pub below : before.faults < 2 ^ 64 - 1

-- What a call did for a request of these canonical bytes. `IsValid` says which message answers it
-- with which payload, of the bytes left.
pub record IsAnswered {A : Type 0} (request : List ℕ) (IsValid : List ℕ → List ℕ → A → Type 0)
    (before after : LinkState) (answer : Result A Error) : Type 0 where
  -- it sent exactly the request
  pub sent : after.sent ≡ before.sent ++ request
  -- it answers a payload only where a valid response stood next, of which it took every byte and no
  -- other
  pub only : (payload : A) → answer ≡ Ok payload →
      (m : List ℕ) × IsValid (left_for before after) m payload ×
      (after.pos ≡ before.pos + length m)
  -- and it does so wherever one stood next
  pub whenever : (m : List ℕ) (payload : A) →
      IsValid (left_for before after) m payload → answer ≡ Ok payload

-- For a valid request, no fault and no lack of memory, that is what it did.
abbrev pub Headline : {A : Type 0} → Option (List ℕ) → (List ℕ → List ℕ → A → Type 0) →
    LinkState → LinkState → Result A Error → Type 0
Headline request IsValid before after answer = (bytes : List ℕ) → request ≡ Some bytes →
    IsSound before after → answer ≢ Err OutOfMemory →
    IsAnswered bytes IsValid before after answer
