-- What a settled message's bytes are read as.
use Rattle.std.proofs.Common.{◌≡◌, ℕ, ◌+◌, ◌%◌, ◌≤◌, ◌==◌, length, take, drop, length-take, length-drop, Bool, true, false, cond, List, Option, Some, None, refl, sym, ◌∙◌, ap, subst, eq-eqb, arith}
use Rattle.kmip_tags.specs.Tags.{RESPONSE_MESSAGE}
use Rattle.std.specs.Prelude.{IsSome, Result, Ok, Err, IfOk}
use Rattle.kmip_wire.specs.declared.error.WireError.{WireError}
use Rattle.kmip_wire.specs.Found.{GivesBytes}
use Rattle.std.specs.Option.{option_and_then}
use Rattle.kmip_wire.specs.Tree.{Tree, Trees, scalar, structure, none, more}
use Rattle.kmip_wire.specs.Parts.{tag_of}
use Rattle.kmip_wire.specs.Head.{size_at, head_length, value_of}
use Rattle.kmip_wire.specs.Bytes.{bytes}
use Rattle.kmip_wire.specs.Parses.{Parses, ParseAll}
use Rattle.kmip_wire.specs.Reading.{item_of, front_at}
use Rattle.kmip_wire.proofs.Written.{written_parses}
use Rattle.kmip_wire.proofs.Computed.{sized, tree_computed}
use Rattle.kmip_shape.specs.Val.{Val}
use Rattle.kmip_shape.specs.Shape.{Shape, NoCase, no_outer}
use Rattle.kmip_shape.specs.Trees.{structure_of}
use Rattle.std.proofs.lemmas.List.{take_all}
use Rattle.kmip_shape.specs.Reads.{read_of, root_read}
use Rattle.kmip_shape.specs.Fits.{tags_once}
use Rattle.kmip_shape.proofs.Parts.{none_some, some_same, tag_plain}
use Rattle.kmip_shape.proofs.ReadBack.{read_back}
use Rattle.kmip_shape.proofs.Selected.{selected}
use Rattle.kmip_shape.proofs.Ranges.{tags_in_range, depth, Keeps, fits_ranges}
use Rattle.kmip_response.specs.Tables.{response_message}
use Rattle.kmip_response.specs.Values.{response_message_val}
use Rattle.kmip_response.specs.Same.{response_message_same}
use Rattle.kmip_response.specs.Reading.{if_structure, front_structure}
use Rattle.kmip_response.specs.declared.message.ResponseMessage.{ResponseMessage}
use Rattle.kmip_response_write.specs.Settled.{IsHeld, IsSettled, response_tree, response_bytes, response_read}

-- ---- the table of a message

table_once : tags_once response_message ≡ true
table_once = refl

table_in_range : tags_in_range response_message ≡ true
table_in_range = refl

table_depth : depth response_message ≤ 64
table_depth = omega arith

-- ---- the tree of a settled message

root_reads : (shape : Shape) (tag : ℕ) (t : Tree) (val : Val) → tag_of t ≡ tag
    → read_of shape no_outer t ≡ Some val → root_read shape tag t ≡ Some val
root_reads shape tag t val e h =
    let k : (tag_of t == tag) ≡ true = eq-eqb (tag_of t) tag e in rw k h

root_of : (shape : Shape) (tag : ℕ) (t : Tree) (val : Val) → root_read shape tag t ≡ Some val
    → read_of shape no_outer t ≡ Some val
root_of shape tag t val h = go (tag_of t == tag) h
  where
    go : (b : Bool) → cond b (read_of shape no_outer t) None ≡ Some val → read_of shape no_outer t ≡ Some val
    go true h = h
    go false h = none_some _ h

-- the tree of a settled message reads as the message
pub tree_read : (m : ResponseMessage) (t : Tree) → IsHeld m → IsSettled m → response_tree m ≡ Some t
    → root_read response_message RESPONSE_MESSAGE t ≡ Some (response_message_val m)
tree_read m t f s e =
    root_reads response_message RESPONSE_MESSAGE t (response_message_val m)
    (tag_plain (response_message_val m) NoCase response_message RESPONSE_MESSAGE t refl e)
    (read_back (response_message_val m) NoCase response_message no_outer RESPONSE_MESSAGE t table_once f s.1 e)

is_there : (o : Option Tree) (t : Tree) → o ≡ Some t → IsSome o
is_there o t e = rw e refl

-- and what a message's tree reads as is no other message but a settled one
pub read_settled : (m : ResponseMessage) (t : Tree) → response_tree m ≡ Some t
    → root_read response_message RESPONSE_MESSAGE t ≡ Some (response_message_val m) → IsSettled m
read_settled m t e h = (
  is_there _ t e,
  selected (response_message_val m)
      NoCase response_message no_outer RESPONSE_MESSAGE t table_once e
      (root_of response_message RESPONSE_MESSAGE t (response_message_val m) h),
)

-- ---- the bytes of a message

some_bytes : (o : Option Tree) (b : List ℕ) → option_and_then bytes o ≡ Some b → (t : Tree)
    × (o ≡ Some t) × (bytes t ≡ Some b)
some_bytes None b h = none_some _ h
some_bytes (Some t) b h = (t, refl, h)

-- the tree that a message's bytes are written of, as which they parse
written : (m : ResponseMessage) (b : List ℕ) → IsHeld m → response_bytes m ≡ Some b → (t : Tree)
    × (response_tree m ≡ Some t) × Parses t 1 b
written m b f h =
    let s = some_bytes (response_tree m) b h in
    let k : Keeps (Some s.0) (depth response_message) =
    subst (λ (o : Option Tree). Keeps o (depth response_message)) s.1
    (fits_ranges response_message (response_message_val m) RESPONSE_MESSAGE table_in_range
    (omega arith) f) in
    (s.0, s.1, written_parses s.0 1 b k.0 (omega arith) (omega (arith, k.1, table_depth)) s.2)

-- a whole text is its own front
front_whole : (t : Tree) (b : List ℕ) → Parses t 1 b → front_at 1 b ≡ Some t
front_whole t b p =
    let i : item_of 64 b ≡ Some t = (tree_computed t 1 b (omega arith, omega arith)).1 p in
    let n : length b ≡ size_at b = (sized t 1 b p).whole in
    let w : take (size_at b) b ≡ b = take_all (size_at b) b (omega (arith, n)) in
    ap (λ (x : List ℕ). item_of 64 x) w ∙ i

structure_is : (o : Option (List Tree)) (tag : ℕ) (t : Tree) → structure_of tag o ≡ Some t → if_structure t ≡ Some t
structure_is None tag t e = none_some _ e
structure_is (Some ts) tag t e = subst (λ (x : Tree). if_structure x ≡ Some x) (some_same _ _ e) refl

-- a message's tree is the structure at the front of its bytes
front_is : (m : ResponseMessage) (t : Tree) (b : List ℕ) → response_tree m ≡ Some t → Parses t 1 b
    → front_structure b ≡ Some t
front_is m t b e p =
    ap (λ (o : Option Tree). option_and_then if_structure o) (front_whole t b p) ∙ structure_is _ RESPONSE_MESSAGE t e

pub bytes_read : (m : ResponseMessage) (b : List ℕ) → IsHeld m → IsSettled m
    → response_bytes m ≡ Some b → response_read b ≡ Some (response_message_val m)
bytes_read m b f s h =
    let w = written m b f h in
    ap (λ (o : Option Tree). option_and_then (root_read response_message RESPONSE_MESSAGE) o)
    (front_is m w.0 b w.1 w.2) ∙ tree_read m w.0 f s w.1

pub one_message : (m n : ResponseMessage) (b : List ℕ) → IsHeld m → IsHeld n → IsSettled m
    → IsSettled n → response_bytes m ≡ Some b → response_bytes n ≡ Some b → m ≡ n
one_message m n b f g s t h k =
    response_message_same m n (some_same _ _ (sym (bytes_read m b f s h) ∙ bytes_read n b g t k))

-- what is written of a settled message is read as it
pub written_read : (m : ResponseMessage) (r : Result (List ℕ) WireError) → IsHeld m
    → GivesBytes r (response_bytes m) → IfOk r
    (λ b. IsSettled m → response_read b ≡ Some (response_message_val m))
written_read m (Ok b) f w = λ s. bytes_read m b f s w
written_read m (Err e) f w = tt

-- ---- the bytes of a message are a head and what it tells

sums_even : (m n k : ℕ) → m % 8 ≡ 0 → n % 8 ≡ 0 → k ≡ m + n → k % 8 ≡ 0
sums_even m n k p q e = omega arith

size_even : (b : List ℕ) → size_at b % 8 ≡ 0
size_even b = omega arith

-- items one after another are as long as a multiple of 8
items_even : (ts : Trees) (level : ℕ) (b : List ℕ) → ParseAll ts level b → length b % 8 ≡ 0
items_even none level b h = rw h refl
items_even (more t ts) level b h =
    let first : length (take h.0 b) ≡ size_at (take h.0 b) = (sized t level (take h.0 b) h.2).whole in
    let front : length (take h.0 b) % 8 ≡ 0 = ap (λ n. n % 8) first ∙ size_even (take h.0 b) in
    let rest : length (drop h.0 b) % 8 ≡ 0 = items_even ts level (drop h.0 b) h.3 in
    let cut : length b ≡ length (take h.0 b) + length (drop h.0 b) =
    omega (arith, h.1, length-take h.0 b, length-drop h.0 b) in
    sums_even (length (take h.0 b)) (length (drop h.0 b)) (length b) front rest cut

-- so a structure has no pads
structure_whole : (t : Tree) (b : List ℕ) → if_structure t ≡ Some t → Parses t 1 b → (8 ≤ length b)
    × (length b ≡ 8 + head_length b)
structure_whole (scalar tag s) b e p = none_some _ e
structure_whole (structure tag ts) b e p =
    let value : length (value_of b) % 8 ≡ 0 = items_even ts 2 (value_of b) p.value in
    let whole : length b ≡ size_at b = p.whole in
    let inner : length (value_of b) ≡ head_length b =
    omega (arith, whole, length-take (head_length b) (drop 8 b), length-drop 8 b) in
    let even : head_length b % 8 ≡ 0 = ap (λ n. n % 8) (sym inner) ∙ value in
    (p.head, omega (arith, whole, even))

pub one_whole : (m : ResponseMessage) (b : List ℕ) → IsHeld m → response_bytes m ≡ Some b
    → (8 ≤ length b) × (length b ≡ 8 + head_length b)
one_whole m b f h = let w = written m b f h in structure_whole w.0 b (structure_is _ RESPONSE_MESSAGE w.0 w.1) w.2
