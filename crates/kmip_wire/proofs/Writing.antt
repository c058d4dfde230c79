-- The bytes of trees in order, one tree at a time, and their lengths.
use Rattle.std.proofs.Common.{◌≡◌, ℕ, zero, suc, ◌+◌, ◌-◌, ◌*◌, ◌%◌, ◌<◌, ◌≤◌, ◌^◌, ◌&&◌, Bool, true, false, cond, ltb, List, [], ◌∷◌, ◌++◌, length, take, drop, get_or, replicate, Option, Some, None, refl, sym, ap, subst, ◌∙◌, arith, append_assoc, length-append}
use Rattle.std.specs.Option.{option_map}
use Rattle.std.proofs.lemmas.Bool.{ltb-true, lt-ltb}
use Rattle.std.proofs.lemmas.Option.{cond_some, same_Some, none-some}
use Rattle.std.proofs.lemmas.Grind.{take_at_read}
use Rattle.std.proofs.lemmas.List.{take_all, length-replicate}
use Rattle.std.proofs.Math.Seq.{take-append-add, drop-append-add}
use Rattle.kmip_wire.specs.Tree.{Tree, Trees, Scalar, trees_of, scalar, structure, none, more}
use Rattle.kmip_wire.specs.declared.tree.Node.{Node}
use Rattle.kmip_wire.specs.declared.tree.Node.TheVariants as nodes
use Rattle.kmip_wire.specs.Sees.{tree_of_node}
use Rattle.std.specs.Int.{w32, w64, to_be_bytes}
use mir.Val.{bool_byte}
use Rattle.kmip_wire.specs.Kinds.{code_of, kind_of_scalar}
use Rattle.kmip_wire.specs.Head.{pads}
use Rattle.kmip_wire.specs.Sizes.{tree_size, trees_size}
use Rattle.kmip_wire.specs.Bytes.{value_bytes, has_form, head_bytes, item_bytes, structure_bytes, in_order, bytes, all_bytes}
use Rattle.kmip_wire.specs.Contents.{fitting, value_of_tree}
use Rattle.kmip_wire.specs.Parts.{tag_of, kind_of_tree}
use Rattle.kmip_wire.specs.Room.{Room, Appends, HasRoom, Puts}
use Rattle.kmip_wire.proofs.Computed.{mapped}

-- ---- an item's bytes and its value

pub item_bytes-length : (tag code : ℕ) (v : List ℕ) → length (item_bytes tag code v) ≡ 8 + (length v + pads (length v))
unfolding item_bytes
item_bytes-length tag code v = omega (
  arith,
  length-append v (replicate (pads (length v)) 0),
  length-replicate {A = ℕ} (pads (length v)) 0,
)

map_cond : {A B : Type 0} (f : A → B) (b : Bool) (x : A)
    → cond b (Some (f x)) None ≡ option_map f (cond b (Some x) None)
map_cond f true x = refl
map_cond f false x = refl

framed_is : (tag : ℕ) (o : Option (List ℕ)) → structure_bytes tag o ≡ option_map (item_bytes tag 1) (fitting o)
framed_is tag None = refl
framed_is tag (Some v) = map_cond (item_bytes tag 1) (ltb (length v) (2 ^ 32)) v

pub bytes_are : (t : Tree) → bytes t ≡ option_map (item_bytes (tag_of t) (code_of (kind_of_tree t))) (value_of_tree t)
bytes_are (scalar tag s) = map_cond (item_bytes tag (code_of (kind_of_scalar s)))
    (has_form s && ltb (length (value_bytes s)) (2 ^ 32)) (value_bytes s)
bytes_are (structure tag ts) = framed_is tag (all_bytes ts)

length_map : (tag code : ℕ) (o : Option (List ℕ))
    → option_map length (option_map (item_bytes tag code) o)
    ≡ option_map (λ n. 8 + n + pads n) (option_map length o)
length_map tag code None = refl
length_map tag code (Some v) = ap (λ n. Some n) (item_bytes-length tag code v ∙ eight (length v) (pads (length v)))
  where
    eight : (m n : ℕ) → 8 + (m + n) ≡ 8 + m + n
    eight m n = omega arith

pub bytes_length : (t : Tree) (o : Option ℕ) → o ≡ option_map length (value_of_tree t)
    → option_map (λ n. 8 + n + pads n) o ≡ option_map length (bytes t)
bytes_length t o e =
    ap (option_map (λ n. 8 + n + pads n)) e
    ∙ sym (length_map (tag_of t) (code_of (kind_of_tree t)) (value_of_tree t))
    ∙ sym (ap (option_map length) (bytes_are t))

-- the value of a tree has nothing of its tag
pub value_at : (tag : ℕ) (n : Node) → value_of_tree (tree_of_node 0 n) ≡ value_of_tree (tree_of_node tag n)
value_at tag (nodes.Structure x) = refl
value_at tag (nodes.Integer x) = refl
value_at tag (nodes.LongInteger x) = refl
value_at tag (nodes.BigInteger x) = refl
value_at tag (nodes.Enumeration x) = refl
value_at tag (nodes.Boolean x) = refl
value_at tag (nodes.TextString x) = refl
value_at tag (nodes.ByteString x) = refl
value_at tag (nodes.DateTime x) = refl
value_at tag (nodes.Interval x) = refl

pub truth_byte : (b : Bool) → bool_byte b ≡ cond b 1 0
truth_byte true = refl
truth_byte false = refl

-- ---- trees in order

pub child_smaller : (ts : List Tree) (i : ℕ) (t : Tree) → i < length ts → get_or ts i t ≡ t
    → 2 * tree_size t + 1 < 2 * trees_size (trees_of ts)
child_smaller [] i t h e = absurd (omega arith)
child_smaller (u ∷ ts) zero t h e = omega (arith, ap tree_size e)
child_smaller (u ∷ ts) (suc i) t h e = omega (arith, child_smaller ts i t (omega arith) e)

in_order-nil : (b : Option (List ℕ)) → in_order (Some []) b ≡ b
in_order-nil None = refl
in_order-nil (Some b) = refl

in_order-assoc : (a b c : Option (List ℕ)) → in_order a (in_order b c) ≡ in_order (in_order a b) c
in_order-assoc None b c = refl
in_order-assoc (Some a) None c = refl
in_order-assoc (Some a) (Some b) None = refl
in_order-assoc (Some a) (Some b) (Some c) = ap (λ x. Some x) (sym (append_assoc a b c))

append_nil : (b : List ℕ) → b ++ [] ≡ b
append_nil [] = refl
append_nil (x ∷ xs) = ap (λ ys. x ∷ ys) (append_nil xs)

last_one : (b : Option (List ℕ)) → in_order b (Some []) ≡ b
last_one None = refl
last_one (Some b) = ap (λ x. Some x) (append_nil b)

all_bytes-append : (xs ys : List Tree)
    → all_bytes (trees_of (xs ++ ys)) ≡ in_order (all_bytes (trees_of xs)) (all_bytes (trees_of ys))
all_bytes-append [] ys = sym (in_order-nil (all_bytes (trees_of ys)))
all_bytes-append (x ∷ xs) ys = ap (in_order (bytes x)) (all_bytes-append xs ys)
    ∙ in_order-assoc (bytes x) (all_bytes (trees_of xs)) (all_bytes (trees_of ys))

pub both_some : (a c : Option (List ℕ)) (b : List ℕ) → in_order a c ≡ Some b → (x : List ℕ)
    × (y : List ℕ) × (a ≡ Some x) × (c ≡ Some y) × (x ++ y ≡ b)
both_some None c b e = absurd (none-some b e)
both_some (Some x) None b e = absurd (none-some b e)
both_some (Some x) (Some y) b e = (x, y, refl, refl, same_Some (x ++ y) b e)

one_more : (ts : List Tree) (i : ℕ) (t : Tree) (out written : List ℕ) → i < length ts
    → get_or ts i t ≡ t → all_bytes (trees_of (take i ts)) ≡ Some out → bytes t ≡ Some written
    → all_bytes (trees_of (take (i + 1) ts)) ≡ Some (out ++ written)
one_more ts i t out written h e before now =
    let p = take_at_read ts i t h in
    ap (λ xs. all_bytes (trees_of xs)) (p.1 ∙ ap (λ u. take i ts ++ (u ∷ [])) e)
    ∙ all_bytes-append (take i ts) (t ∷ [])
    ∙ ap (λ b. in_order b (in_order (bytes t) (Some []))) before
    ∙ ap (λ b. in_order (Some out) b) (last_one (bytes t) ∙ now)

none_last : (b : Option (List ℕ)) → in_order b None ≡ None
none_last None = refl
none_last (Some b) = refl

one_none : (ts : List Tree) (i : ℕ) (t : Tree) → i < length ts → get_or ts i t ≡ t → bytes t ≡ None
    → all_bytes (trees_of ts) ≡ None
one_none [] i t h e n = absurd (omega arith)
one_none (u ∷ ts) zero t h e n = ap (λ b. in_order b (all_bytes (trees_of ts))) (ap bytes e ∙ n)
one_none (u ∷ ts) (suc i) t h e n = ap (in_order (bytes u)) (one_none ts i t (omega arith) e n) ∙ none_last (bytes u)

prefix : (ts : List Tree) (k : ℕ) (b : List ℕ) → all_bytes (trees_of ts) ≡ Some b → (a : List ℕ)
    × (all_bytes (trees_of (take k ts)) ≡ Some a) × (length a ≤ length b)
prefix ts zero b e = ([], refl, omega arith)
prefix [] (suc k) b e = (b, e, omega arith)
prefix (t ∷ ts) (suc k) b e =
    let p = both_some (bytes t) (all_bytes (trees_of ts)) b e in
    let q = prefix ts k p.1 p.3 in (
      p.0 ++ q.0,
      ap (λ o. in_order o (all_bytes (trees_of (take k ts)))) p.2
          ∙ ap (in_order (Some p.0)) q.1,
      omega
          (arith, q.2, length-append p.0 q.0, length-append p.0 p.1, ap length p.4),
    )

-- ---- the sum of their lengths

mapped_none : {A B : Type 0} (f : A → B) (o : Option A) → None ≡ option_map f o → o ≡ None
mapped_none f None e = refl
mapped_none f (Some x) e = absurd (none-some (f x) e)

pub sum_more : (ts : List Tree) (i : ℕ) (t : Tree) (total len : ℕ) → i < length ts
    → get_or ts i t ≡ t → Some total ≡ option_map length (all_bytes (trees_of (take i ts)))
    → Some len ≡ option_map length (bytes t)
    → Some (total + len) ≡ option_map length (all_bytes (trees_of (take (i + 1) ts)))
sum_more ts i t total len h e before now =
    let a = mapped length (all_bytes (trees_of (take i ts))) total (sym before) in
    let b = mapped length (bytes t) len (sym now) in
    ap (λ n. Some n) (omega (arith, a.2, b.2, length-append a.0 b.0))
    ∙ sym (ap (option_map length) (one_more ts i t a.0 b.0 h e a.1 b.1))

both_true : (x y : Bool) → (x && y) ≡ true → y ≡ true
both_true true y e = e
both_true false y e = absurd cc

fitting_short : (o : Option (List ℕ)) (v : List ℕ) → fitting o ≡ Some v → length v < 2 ^ 32
fitting_short None v e = absurd (none-some v e)
fitting_short (Some w) v e =
    let p = cond_some (ltb (length w) (2 ^ 32)) w v e in omega (arith, ltb-true (length w) (2 ^ 32) p.0, ap length p.1)

pub value_short : (t : Tree) (v : List ℕ) → value_of_tree t ≡ Some v → length v < 2 ^ 32
value_short (scalar tag s) v e =
    let p = cond_some (has_form s && ltb (length (value_bytes s)) (2 ^ 32)) (value_bytes s) v e in
    omega (
      arith,
      ltb-true (length (value_bytes s)) (2 ^ 32)
          (both_true (has_form s) (ltb (length (value_bytes s)) (2 ^ 32)) p.0),
      ap length p.1,
    )
value_short (structure tag ts) v e = fitting_short (all_bytes ts) v e

pub bytes_short : (t : Tree) (len : ℕ) → Some len ≡ option_map length (bytes t) → len < 2 ^ 33
bytes_short t len e =
    let b = mapped length (bytes t) len (sym e) in
    let p = mapped (item_bytes (tag_of t) (code_of (kind_of_tree t))) (value_of_tree t) b.0 (sym (bytes_are t) ∙ b.1) in
    omega (
      arith,
      b.2,
      ap length p.2,
      item_bytes-length (tag_of t) (code_of (kind_of_tree t)) p.0,
      value_short t p.0 p.1,
    )

never : {A : Type 0} (b : Bool) (x : A) → (b ≡ true → ⊥) → cond b (Some x) None ≡ None
never true x h = absurd (h refl)
never false x h = refl

over_at : (o : Option (List ℕ)) (n : ℕ) → ((b : List ℕ) → o ≡ Some b → n ≤ length b) → 2 ^ 32 ≤ n
    → None ≡ option_map length (fitting o)
over_at None n h le = refl
over_at (Some b) n h le = sym (ap (option_map length)
    (never (ltb (length b) (2 ^ 32)) b
    (λ t. omega (arith, ltb-true (length b) (2 ^ 32) t, h b refl, le))))

pub sum_over : (ts : List Tree) (k total : ℕ)
    → Some total ≡ option_map length (all_bytes (trees_of (take k ts))) → 2 ^ 32 ≤ total
    → None ≡ option_map length (fitting (all_bytes (trees_of ts)))
sum_over ts k total e le =
    over_at (all_bytes (trees_of ts)) total (λ b q.
    let p = prefix ts k b q in
    let a = mapped length (all_bytes (trees_of (take k ts))) total (sym e) in
    omega (arith, p.2, a.2, ap length (same_Some p.0 a.0 (sym p.1 ∙ a.1)))) le

pub sum_none : (ts : List Tree) (i : ℕ) (t : Tree) → i < length ts → get_or ts i t ≡ t
    → None ≡ option_map length (bytes t)
    → None ≡ option_map length (fitting (all_bytes (trees_of ts)))
sum_none ts i t h e n = sym (ap (λ o. option_map length (fitting o))
    (one_none ts i t h e (mapped_none length (bytes t) n)))

always : {A : Type 0} (b : Bool) (x : A) → b ≡ true → cond b (Some x) None ≡ Some x
always true x h = refl
always false x h = absurd cc

pub sum_all : (ts : List Tree) (k total : ℕ) → length ts ≤ k
    → Some total ≡ option_map length (all_bytes (trees_of (take k ts))) → total < 2 ^ 32
    → Some total ≡ option_map length (fitting (all_bytes (trees_of ts)))
sum_all ts k total le e h =
    let all : Some total ≡ option_map length (all_bytes (trees_of ts)) =
    e ∙ ap (λ xs. option_map length (all_bytes (trees_of xs))) (take_all k ts le) in
    let a = mapped length (all_bytes (trees_of ts)) total (sym all) in
    ap (λ n. Some n) (sym a.2) ∙ sym (ap (option_map length)
    (always (ltb (length a.0) (2 ^ 32)) a.0
    (lt-ltb (length a.0) (2 ^ 32) (omega (arith, a.2, h)))))
    ∙ sym (ap (λ o. option_map length (fitting o)) a.1)

-- ---- what is put into a buffer

-- a scalar's item
room_if : (b : Bool) (x : List ℕ) (n : ℕ) → HasRoom (cond b (Some x) None) n → (b ≡ true) × (length x ≤ n)
room_if true x n h = (refl, h)
room_if false x n h = absurd h

pub scalar_room : (tag : ℕ) (s : Scalar) (v : List ℕ) (n : ℕ) → v ≡ value_bytes s
    → HasRoom (bytes (scalar tag s)) n → (length v < 2 ^ 32) × (8 + length v + pads (length v) ≤ n)
scalar_room tag s v n e h =
    let r = room_if (has_form s && ltb (length (value_bytes s)) (2 ^ 32))
    (item_bytes tag (code_of (kind_of_scalar s)) (value_bytes s)) n h in
    let P : List ℕ → Type 0 = λ w. (length w < 2 ^ 32) × (8 + length w + pads (length w) ≤ n) in
    subst P (sym e) (
      ltb-true (length (value_bytes s)) (2 ^ 32)
          (both_true (has_form s) (ltb (length (value_bytes s)) (2 ^ 32)) r.0),
      omega (arith, r.1, item_bytes-length tag (code_of (kind_of_scalar s)) (value_bytes s)),
    )

writes_if : (b : Bool) (x : List ℕ) (old new : Room) → Appends old new x (length x)
    → Puts (cond b (Some x) None) old new
writes_if true x old new h = h
writes_if false x old new h = tt

pub scalar_written : (tag : ℕ) (s : Scalar) (v : List ℕ) (old new : Room) → v ≡ value_bytes s
    → Appends old new (item_bytes tag (code_of (kind_of_scalar s)) v)
    (8 + length v + pads (length v)) → Puts (bytes (scalar tag s)) old new
scalar_written tag s v old new e a =
    let code : ℕ = code_of (kind_of_scalar s) in
    let P : List ℕ → Type 0 = λ w. Appends old new (item_bytes tag code w) (length (item_bytes tag code w)) in
    writes_if (has_form s && ltb (length (value_bytes s)) (2 ^ 32)) (item_bytes tag code (value_bytes s)) old new
    (subst P e (record { bytes = a.bytes; spare = omega (arith, a.spare, item_bytes-length tag code v) }))

pub put_room : (t : Tree) (tag : ℕ) (s : Scalar) (v : List ℕ) (n : ℕ) → scalar tag s ≡ t
    → v ≡ value_bytes s → HasRoom (bytes t) n → (length v < 2 ^ 32)
    × (8 + length v + pads (length v) ≤ n)
put_room t tag s v n same e h =
    let P : Tree → Type 0 = λ u. HasRoom (bytes u) n in
    scalar_room tag s v n e (subst P (sym same) h)

pub put_done : (t : Tree) (tag : ℕ) (s : Scalar) (v : List ℕ) (old new : Room) → scalar tag s ≡ t
    → v ≡ value_bytes s → Appends old new (item_bytes tag (code_of (kind_of_scalar s)) v)
    (8 + length v + pads (length v)) → Puts (bytes t) old new
put_done t tag s v old new same e a =
    let P : Tree → Type 0 = λ u. Puts (bytes u) old new in
    subst P same (scalar_written tag s v old new e a)

-- a scalar of four bytes, or of eight, is 16 bytes
pub four_room : (t : Tree) (tag : ℕ) (s : Scalar) (x n : ℕ) → scalar tag s ≡ t
    → to_be_bytes w32 x ≡ value_bytes s → HasRoom (bytes t) n → 16 ≤ n
four_room t tag s x n same e h = (put_room t tag s (to_be_bytes w32 x) n same e h).1

pub four_done : (t : Tree) (tag : ℕ) (s : Scalar) (x : ℕ) (old new : Room) → scalar tag s ≡ t
    → to_be_bytes w32 x ≡ value_bytes s
    → Appends old new (item_bytes tag (code_of (kind_of_scalar s)) (to_be_bytes w32 x)) 16
    → Puts (bytes t) old new
four_done t tag s x old new same e a = put_done t tag s (to_be_bytes w32 x) old new same e a

pub eight_room : (t : Tree) (tag : ℕ) (s : Scalar) (x n : ℕ) → scalar tag s ≡ t
    → to_be_bytes w64 x ≡ value_bytes s → HasRoom (bytes t) n → 16 ≤ n
eight_room t tag s x n same e h = (put_room t tag s (to_be_bytes w64 x) n same e h).1

pub eight_done : (t : Tree) (tag : ℕ) (s : Scalar) (x : ℕ) (old new : Room) → scalar tag s ≡ t
    → to_be_bytes w64 x ≡ value_bytes s
    → Appends old new (item_bytes tag (code_of (kind_of_scalar s)) (to_be_bytes w64 x)) 16
    → Puts (bytes t) old new
eight_done t tag s x old new same e a = put_done t tag s (to_be_bytes w64 x) old new same e a

-- the items of a structure: what is written, and what still is to be, for which there is room
pub record Rest (ts : List Tree) (i : ℕ) (start now : Room) : Type 0 where
  pub front : List ℕ
  pub back : List ℕ
  pub all : Some (front ++ back) ≡ all_bytes (trees_of ts)
  pub to_come : all_bytes (trees_of (drop i ts)) ≡ Some back
  pub written : Appends start now front (length front)
  pub room : length back ≤ now.spare

drop_at_one : (ts : List Tree) (i : ℕ) (t : Tree) → i < length ts → get_or ts i t ≡ t → drop i ts ≡ t ∷ drop (i + 1) ts
drop_at_one [] i t h e = absurd (omega arith)
drop_at_one (u ∷ ts) zero t h e = ap (λ x. x ∷ ts) e
drop_at_one (u ∷ ts) (suc i) t h e = drop_at_one ts i t (omega arith) e ∙ ap (λ k. t ∷ drop k (u ∷ ts)) (next i)
  where
    next : (i : ℕ) → suc (i + 1) ≡ suc i + 1
    next i = omega arith

pub rest_first : (ts : List Tree) (i : ℕ) (t : Tree) (start now : Room) → i < length ts
    → get_or ts i t ≡ t → Rest ts i start now → HasRoom (bytes t) now.spare
rest_first ts i t start now h e r =
    let p = both_some (bytes t) (all_bytes (trees_of (drop (i + 1) ts))) r.back
    (sym (ap (λ xs. all_bytes (trees_of xs)) (drop_at_one ts i t h e)) ∙ r.to_come) in
    let P : Option (List ℕ) → Type 0 = λ o. HasRoom o now.spare in
    subst P (sym p.2) (omega (arith, r.room, ap length p.4, length-append p.0 p.1))

pub rest_next : (ts : List Tree) (i : ℕ) (t : Tree) (start now new : Room) → i < length ts
    → get_or ts i t ≡ t → Rest ts i start now → Puts (bytes t) now new → Rest ts (i + 1) start new
rest_next ts i t start now new h e r w =
    let p = both_some (bytes t) (all_bytes (trees_of (drop (i + 1) ts))) r.back
    (sym (ap (λ xs. all_bytes (trees_of xs)) (drop_at_one ts i t h e)) ∙ r.to_come) in
    let P : Option (List ℕ) → Type 0 = λ o. Puts o now new in
    let a : Appends now new p.0 (length p.0) = subst P p.2 w in
    record {
      front = r.front ++ p.0;
      back = p.1;
      all = ap (λ x. Some x) (append_assoc r.front p.0 p.1 ∙ ap (λ x. r.front ++ x) p.4) ∙ r.all;
      to_come = p.3;
      written = record {
        bytes = a.bytes ∙ ap (λ x. x ++ p.0) r.written.bytes
            ∙ append_assoc start.bytes r.front p.0;
        spare =
            omega (arith, a.spare, r.written.spare, length-append r.front p.0);
      };
      room = omega (arith, a.spare, r.room, ap length p.4, length-append p.0 p.1);
    }

-- a structure that has bytes
pub record Fits (tag : ℕ) (ts : Trees) (n : ℕ) : Type 0 where
  pub value : List ℕ
  pub all : all_bytes ts ≡ Some value
  pub short : length value < 2 ^ 32
  pub even : length value % 8 ≡ 0
  pub room : 8 + length value ≤ n

whole_items : (o : ℕ) → (8 + (o + pads o)) % 8 ≡ 0
whole_items o = omega arith

item_even : (t : Tree) (b : List ℕ) → bytes t ≡ Some b → length b % 8 ≡ 0
item_even t b e =
    let p = mapped (item_bytes (tag_of t) (code_of (kind_of_tree t))) (value_of_tree t) b (sym (bytes_are t) ∙ e) in
    ap (λ n. n % 8) (ap length (sym p.2)
    ∙ item_bytes-length (tag_of t) (code_of (kind_of_tree t)) p.0) ∙ whole_items (length p.0)

sums_even : (m n : ℕ) → m % 8 ≡ 0 → n % 8 ≡ 0 → (m + n) % 8 ≡ 0
sums_even m n p q = omega arith

all_even : (ts : Trees) (b : List ℕ) → all_bytes ts ≡ Some b → length b % 8 ≡ 0
all_even none b e = ap (λ x. length x % 8) (sym (same_Some [] b e))
all_even (more t ts) b e =
    let p = both_some (bytes t) (all_bytes ts) b e in
    ap (λ n. n % 8) (ap length (sym p.4) ∙ length-append p.0 p.1)
    ∙ sums_even (length p.0) (length p.1) (item_even t p.0 p.2) (all_even ts p.1 p.3)

fits_at : (tag : ℕ) (o : Option (List ℕ)) (n : ℕ) → HasRoom (structure_bytes tag o) n → (v : List ℕ)
    × (o ≡ Some v) × (length v < 2 ^ 32) × (8 + length v ≤ n)
fits_at tag None n h = absurd h
fits_at tag (Some v) n h =
    let r = room_if (ltb (length v) (2 ^ 32)) (item_bytes tag 1 v) n h in
    (v, refl, ltb-true (length v) (2 ^ 32) r.0, omega (arith, r.1, item_bytes-length tag 1 v))

pub fits : (tag : ℕ) (ts : Trees) (n : ℕ) → HasRoom (bytes (structure tag ts)) n → Fits tag ts n
fits tag ts n h =
    let f = fits_at tag (all_bytes ts) n h in
    record { value = f.0; all = f.1; short = f.2; even = all_even ts f.0 f.1; room = f.3 }

no_pads : (n : ℕ) → n % 8 ≡ 0 → pads n ≡ 0
no_pads n e = omega arith

item_of_items : (tag : ℕ) (v : List ℕ) → length v % 8 ≡ 0 → item_bytes tag 1 v ≡ head_bytes tag 1 (length v) ++ v
unfolding item_bytes
item_of_items tag v e = ap (λ k. head_bytes tag 1 (length v) ++ (v ++ replicate k 0))
    (no_pads (length v) e) ∙ ap (λ x. head_bytes tag 1 (length v) ++ x) (append_nil v)

pub rest_start : (ts : List Tree) (tag n : ℕ) (start : Room) → (f : Fits tag (trees_of ts) n)
    → length f.value ≤ start.spare → Rest ts 0 start start
rest_start ts tag n start f le =
    record {
      front = [];
      back = f.value;
      all = sym f.all;
      to_come = f.all;
      written =
          record { bytes = sym (append_nil start.bytes); spare = omega arith };
      room = le;
    }

none_to_come : (b : List ℕ) (ts : List Tree) (k : ℕ) → length ts ≤ k
    → all_bytes (trees_of (drop k ts)) ≡ Some b → b ≡ []
none_to_come b [] zero le e = sym (same_Some [] b e)
none_to_come b [] (suc k) le e = sym (same_Some [] b e)
none_to_come b (t ∷ ts) zero le e = absurd (omega arith)
none_to_come b (t ∷ ts) (suc k) le e = none_to_come b ts k (omega arith) e

-- once all were put, they are the value
pub all_put : (ts : List Tree) (tag n k : ℕ) (start now : Room) → (f : Fits tag (trees_of ts) n)
    → length ts ≤ k → Rest ts k start now → (front : List ℕ) × (front ≡ f.value)
    × Appends start now front (length front)
all_put ts tag n k start now f le r = (
  r.front,
  sym (append_nil r.front)
      ∙ ap (λ x. r.front ++ x) (sym (none_to_come r.back ts k le r.to_come))
      ∙ same_Some (r.front ++ r.back) f.value (r.all ∙ f.all),
  r.written,
)

-- the place of the length in a head
set_head : (a front : List ℕ) (tag code n len : ℕ) →
    take (length a + 4) (a ++ (head_bytes tag code n ++ front))
    ++ (to_be_bytes w32 len ++ drop (length a + 8) (a ++ (head_bytes tag code n ++ front)))
    ≡ a ++ (head_bytes tag code len ++ front)
set_head a front tag code n len =
    let whole : List ℕ = head_bytes tag code n ++ front in
    ap (λ x. x ++ (to_be_bytes w32 len ++ drop (length a + 8) (a ++ whole))) (take-append-add a whole 4)
    ∙ ap (λ y. (a ++ take 4 whole) ++ (to_be_bytes w32 len ++ y)) (drop-append-add a whole 8)
    ∙ append_assoc a (take 4 whole) (to_be_bytes w32 len ++ drop 8 whole)

pub structure_set : (ts : List Tree) (tag k len : ℕ) (old start now new : Room)
    → HasRoom (bytes (structure tag (trees_of ts))) old.spare
    → Appends old start (head_bytes tag 1 0) 8 → length ts ≤ k → Rest ts k start now
    → len ≡ length now.bytes - length old.bytes - 8
    → new.bytes ≡ take (length old.bytes + 4) now.bytes
    ++ (to_be_bytes w32 len ++ drop (length old.bytes + 8) now.bytes) → new.spare ≡ now.spare
    → Puts (bytes (structure tag (trees_of ts))) old new
structure_set ts tag k len old start now new h head le r e set spare =
    let f = fits tag (trees_of ts) old.spare h in
    let p = all_put ts tag old.spare k start now f le r in
    let whole : now.bytes ≡ old.bytes ++ (head_bytes tag 1 0 ++ p.0) =
    p.2.bytes ∙ ap (λ x. x ++ p.0) head.bytes
    ∙ append_assoc old.bytes (head_bytes tag 1 0) p.0 in
    let long : len ≡ length f.value =
    omega (
      arith,
      e,
      ap length head.bytes,
      length-append old.bytes (head_bytes tag 1 0),
      ap length p.2.bytes,
      length-append start.bytes p.0,
      ap length p.1,
    ) in
    let text : item_bytes tag 1 f.value ≡ head_bytes tag 1 len ++ p.0 =
    item_of_items tag f.value f.even ∙ ap (λ n. head_bytes tag 1 n ++ f.value) (sym long)
    ∙ ap (λ x. head_bytes tag 1 len ++ x) (sym p.1) in
    let all : Appends old new (item_bytes tag 1 f.value) (length (item_bytes tag 1 f.value)) =
    record {
      bytes = set ∙ ap (λ x. take (length old.bytes + 4) x
          ++ (to_be_bytes w32 len ++ drop (length old.bytes + 8) x)) whole
          ∙ set_head old.bytes p.0 tag 1 0 len ∙ ap (λ x. old.bytes ++ x) (sym text);
      spare = omega (
        arith,
        spare,
        p.2.spare,
        head.spare,
        ap length p.1,
        item_bytes-length tag 1 f.value,
        no_pads (length f.value) f.even,
      );
    } in
    let P : Option (List ℕ) → Type 0 = λ o. Puts (structure_bytes tag o) old new in
    subst P (sym f.all) (writes_if (ltb (length f.value) (2 ^ 32)) (item_bytes tag 1 f.value) old new all)
