-- The bytes of a request are one structure: a head of eight bytes, and as many bytes as its length field says.
use Rattle.std.proofs.Common.{◌≡◌, ℕ, ◌+◌, ◌≤◌, ◌<◌, ◌^◌, ◌%◌, Bool, true, false, cond, nat_lt, ltb-true, length, List, [], ◌∷◌, Option, Some, None, refl, sym, ap, subst, arith}
use Rattle.kmip_tags.specs.Tags.{BATCH_ITEM, OPERATION, REQUEST_MESSAGE, REQUEST_PAYLOAD}
use Rattle.std.specs.Option.{option_map, option_and_then}
use Rattle.std.proofs.lemmas.Nat.{from_be_bytes-to_be_bytes_4}
use Rattle.kmip_wire.specs.Tree.{Tree, Trees, scalar, structure, trees_of, enumeration}
use Rattle.kmip_wire.specs.Head.{head_length}
use Rattle.kmip_wire.specs.Bytes.{bytes, all_bytes, structure_bytes, item_bytes}
use Rattle.kmip_shape.proofs.Aligned.{IsAligned, trees_aligned, item_len}
use Rattle.kmip_shape.proofs.Parts.{none_some, some_same}
use Rattle.kmip_shape.specs.Trees.{tree_of}
use Rattle.kmip_enums.specs.Operations.{operation_line}
use Rattle.kmip_types.specs.declared.auth.CredentialType.{CredentialType}
use Rattle.kmip_request.specs.declared.payload.RequestPayload.{RequestPayload}
use Rattle.kmip_request.specs.Tables.{request_payload}
use Rattle.kmip_request.specs.Values.{request_payload_val}
use Rattle.kmip_request.specs.Message.{operation_of, minor_of, authentication_trees, header_tree, message_tree, request_bytes}

-- the bytes are one message
abbrev IsMessage : List ℕ → Type 0
IsMessage b = (8 ≤ length b) × (length b ≡ 8 + head_length b)

head_of : (tag : ℕ) (v : List ℕ) → length v < 2 ^ 32 → head_length (item_bytes tag 1 v) ≡ length v
unfolding item_bytes head_length
head_of tag v h = from_be_bytes-to_be_bytes_4 (length v) h

item_is : (tag : ℕ) (v : List ℕ) → length v < 2 ^ 32 → length v % 8 ≡ 0 → IsMessage (item_bytes tag 1 v)
item_is tag v h even =
    let long = item_len tag 1 v in
    let says = head_of tag v h in
    (omega (arith, long), omega (arith, long, says, even))

contents_are : (tag : ℕ) (o : Option (List ℕ)) (b : List ℕ) → IsAligned o → structure_bytes tag o ≡ Some b → IsMessage b
contents_are tag None b even h = none_some _ h
contents_are tag (Some v) b even h = go (nat_lt (length v) (2 ^ 32)) refl h
  where
    go : (q : Bool) → nat_lt (length v) (2 ^ 32) ≡ q → cond q (Some (item_bytes tag 1 v)) None ≡ Some b → IsMessage b
    go true e k = subst IsMessage (some_same _ _ k) (item_is tag v (ltb-true (length v) (2 ^ 32) e) even)
    go false e k = none_some _ k

structure_is : (tag : ℕ) (ts : Trees) (b : List ℕ) → bytes (structure tag ts) ≡ Some b → IsMessage b
structure_is tag ts b h = contents_are tag (all_bytes ts) b (trees_aligned ts) h

message_is : (header : Tree) (operation : ℕ) (payload : Option Tree) (b : List ℕ)
    → option_and_then bytes (option_map (message_tree header operation) payload) ≡ Some b
    → IsMessage b
message_is header operation None b h = none_some _ h
message_is header operation (Some t) b h =
    structure_is REQUEST_MESSAGE (trees_of (header ∷ structure BATCH_ITEM
    (trees_of (scalar OPERATION (enumeration operation) ∷ t ∷ [])) ∷ [])) b h

pub request_is_message : (p : RequestPayload) (c : Option CredentialType) (b : List ℕ)
    → request_bytes p c ≡ Some b → (8 ≤ length b) × (length b ≡ 8 + head_length b)
request_is_message p c b h =
    message_is (header_tree (minor_of p) (authentication_trees c))
    (operation_line (operation_of p)).number
    (tree_of request_payload REQUEST_PAYLOAD (request_payload_val p)) b h
