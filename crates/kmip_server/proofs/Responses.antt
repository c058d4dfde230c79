-- The bytes of a response are one structure, which parses as its tree.
use Rattle.std.proofs.Common.{◌≡◌, ℕ, ◌≤◌, ◌<◌, ◌^◌, ◌%◌, Bool, true, false, cond, nat_lt, ltb-true, length, List, Option, Some, None, refl, ◌∙◌, ap, subst, arith}
use Rattle.std.specs.Option.{option_and_then}
use Rattle.std.proofs.lemmas.Nat.{from_be_bytes-to_be_bytes_4}
use Rattle.kmip_wire.specs.Tree.{Tree, trees_of}
use Rattle.kmip_wire.specs.Head.{head_length, head_code}
use Rattle.kmip_wire.specs.Bytes.{bytes, all_bytes, structure_bytes, item_bytes}
use Rattle.kmip_wire.specs.Reading.{item_of}
use Rattle.kmip_wire.specs.Parses.{Parses}
use Rattle.kmip_wire.proofs.Written.{written_parses}
use Rattle.kmip_wire.proofs.Computed.{tree_computed}
use Rattle.kmip_shape.specs.Reads.{root_read}
use Rattle.kmip_shape.specs.Trees.{structure_of}
use Rattle.kmip_shape.proofs.Aligned.{IsAligned, trees_aligned, item_len}
use Rattle.kmip_shape.proofs.Parts.{none_some, some_same}
use Rattle.kmip_shape.proofs.Ranges.{tags_in_range, depth, Keeps, fits_ranges}
use Rattle.kmip_response.specs.Tables.{response_message}
use Rattle.kmip_response.specs.Values.{response_message_val}
use Rattle.kmip_response.specs.declared.message.ResponseMessage.{ResponseMessage}
use Rattle.kmip_response_write.specs.Settled.{IsHeld, IsSettled, response_tree, response_bytes}
use Rattle.kmip_server.specs.Split.{IsMessage}

-- the bytes are one structure
record IsStructure (b : List ℕ) : Type 0 where
  message : IsMessage b
  code : head_code b ≡ 1

head_of : (tag : ℕ) (v : List ℕ) → length v < 2 ^ 32 → head_length (item_bytes tag 1 v) ≡ length v
unfolding item_bytes head_length
head_of tag v h = from_be_bytes-to_be_bytes_4 (length v) h

code_of_item : (tag : ℕ) (v : List ℕ) → head_code (item_bytes tag 1 v) ≡ 1
unfolding item_bytes
code_of_item tag v = refl

item_is : (tag : ℕ) (v : List ℕ) → length v < 2 ^ 32 → length v % 8 ≡ 0 → IsStructure (item_bytes tag 1 v)
item_is tag v h even =
    let long = item_len tag 1 v in
    let says = head_of tag v h in
    record {
      message = record {
        head = omega (arith, long);
        size = omega (arith, long, says, even);
      };
      code = code_of_item tag v;
    }

contents_are : (tag : ℕ) (o : Option (List ℕ)) (b : List ℕ) → IsAligned o
    → structure_bytes tag o ≡ Some b → IsStructure b
contents_are tag None b even h = none_some _ h
contents_are tag (Some v) b even h = go (nat_lt (length v) (2 ^ 32)) refl h
  where
    go : (q : Bool) → nat_lt (length v) (2 ^ 32) ≡ q → cond q (Some (item_bytes tag 1 v)) None ≡ Some b → IsStructure b
    go true e k = subst IsStructure (some_same _ _ k) (item_is tag v (ltb-true (length v) (2 ^ 32) e) even)
    go false e k = none_some _ k

some_bytes : (o : Option Tree) (b : List ℕ) → option_and_then bytes o ≡ Some b → (t : Tree)
    × (o ≡ Some t) × (bytes t ≡ Some b)
some_bytes None b h = none_some _ h
some_bytes (Some t) b h = (t, refl, h)

structure_is : (o : Option (List Tree)) (tag : ℕ) (t : Tree) (b : List ℕ)
    → structure_of tag o ≡ Some t → bytes t ≡ Some b → IsStructure b
structure_is None tag t b e h = none_some _ e
structure_is (Some ts) tag t b e h =
    contents_are tag (all_bytes (trees_of ts)) b (trees_aligned (trees_of ts))
    (ap bytes (some_same _ _ e) ∙ h)

response_is : (m : ResponseMessage) (b : List ℕ) → response_bytes m ≡ Some b → IsStructure b
response_is m b h =
    let s = some_bytes (response_tree m) b h in
    structure_is _ 0x42007B s.0 b s.1 s.2

pub response_is_message : (m : ResponseMessage) (b : List ℕ) → response_bytes m ≡ Some b → IsMessage b
response_is_message m b h = (response_is m b h).message

-- ---- and back

table_in_range : tags_in_range response_message ≡ true
table_in_range = refl

table_depth : depth response_message ≤ 64
table_depth = omega arith

-- the tree that a response's bytes are written of, as which they parse
written : (m : ResponseMessage) (b : List ℕ) → IsHeld m → response_bytes m ≡ Some b → (t : Tree)
    × (response_tree m ≡ Some t) × Parses t 1 b
written m b f h =
    let s = some_bytes (response_tree m) b h in
    let k : Keeps (Some s.0) (depth response_message) =
    subst (λ (o : Option Tree). Keeps o (depth response_message)) s.1
    (fits_ranges response_message (response_message_val m) 0x42007B table_in_range
    (omega arith) f) in
    (s.0, s.1, written_parses s.0 1 b k.0 (omega arith) (omega (arith, k.1, table_depth)) s.2)

-- what is promised of settled messages
abbrev pub AreReadBack : Type 0
AreReadBack = (m : ResponseMessage) (t : Tree) → IsHeld m → IsSettled m → response_tree m ≡ Some t
    → root_read response_message 0x42007B t ≡ Some (response_message_val m)

-- the bytes are one message that reads as this one
pub record ReadsBack (m : ResponseMessage) (b : List ℕ) : Type 0 where
  pub message : IsMessage b
  pub structure : head_code b ≡ 1
  pub tree : Tree
  pub parses : item_of 64 b ≡ Some tree
  pub reads : root_read response_message 0x42007B tree ≡ Some (response_message_val m)

pub reads_back : AreReadBack → (m : ResponseMessage) (b : List ℕ) → IsHeld m → IsSettled m
    → response_bytes m ≡ Some b → ReadsBack m b
reads_back law m b held settled h =
    let is = response_is m b h in
    let w = written m b held h in
    record {
      message = is.message;
      structure = is.code;
      tree = w.0;
      parses = (tree_computed w.0 1 b (omega arith, omega arith)).1 w.2;
      reads = law m w.0 held settled w.1;
    }
