-- A message of the caller's as a tree, and a call that sends it.
use Rattle.std.specs.Prelude.{◌≡◌, ℕ, Bool, false, List, Option, Some, None, if◌then◌else◌, nat_le, Result, Ok, Err}
use Rattle.kmip_wire.specs.Tree.{Tree, scalar, structure}
use Rattle.kmip_wire.specs.Bytes.{bytes, levels}
use Rattle.kmip_wire.specs.Parses.{Parses}
use Rattle.kmip_wire.specs.Reading.{item_of}
use Rattle.kmip_link.specs.State.{LinkState}
use Rattle.kmip_client.specs.declared.error.Error.{Error}
use Rattle.kmip_client.specs.Message.{message_at, Whole}
use Rattle.kmip_client.specs.Untyped.{malformed}
use Rattle.kmip_client.specs.Client.{ClientState}
use Rattle.kmip_client.specs.Calls.{CallKind, IsCallOf}

-- a message is a structure of at most 64 levels
abbrev pub is_message : Tree → Bool
is_message (scalar tag s) = false
is_message (structure tag ts) = nat_le (levels (structure tag ts)) 64

-- the canonical bytes of a message, where the tree is one and has some
abbrev pub whole_bytes : Tree → Option (List ℕ)
whole_bytes message = if is_message message then bytes message else None

abbrev pub tree_of_message : Option Tree → Result Tree Error
tree_of_message None = Err malformed
tree_of_message (Some message) = Ok message

-- what a whole message answers: its tree
abbrev pub whole_answer : List ℕ → Result Tree Error
whole_answer m = tree_of_message (item_of 64 m)

-- the bytes left begin with the message m, which parses as this tree
pub record IsWholeTree (limit : Option ℕ) (rest m : List ℕ) (message : Tree) : Type 0 where
  pub front : message_at rest limit ≡ Whole m
  pub parses : Parses message 1 m

-- the calls that send a message of the caller's; the credential plays no part
abbrev pub message_calls : CallKind Tree Tree
message_calls = record {
  bytes_of = λ message credential. whole_bytes message;
  reads = λ message. whole_answer;
  IsValid = λ message. IsWholeTree;
}

-- what `do_message` promises of a call
abbrev pub IsMessageCall : {T : Type 0} → (T → LinkState) → Tree → ClientState T →
    ClientState T → Result Tree Error → Type 0
IsMessageCall state message before after answer =
    IsCallOf message_calls state message before after answer
