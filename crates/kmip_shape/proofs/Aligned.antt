-- Canonical bytes come in eights, so a structure has no pads.
use Rattle.std.proofs.Common.{◌≡◌, ℕ, ◌+◌, ◌^◌, ◌%◌, Bool, true, false, cond, ◌&&◌, nat_lt, length, List, ◌++◌, Option, Some, None, refl, ap, arith, length-append, append-nil}
use Rattle.std.proofs.lemmas.List.{length-replicate}
use Rattle.kmip_wire.specs.Tree.{Tree, Trees, scalar, structure, none, more}
use Rattle.kmip_wire.specs.Kinds.{code_of, kind_of_scalar}
use Rattle.kmip_wire.specs.Head.{pads}
use Rattle.kmip_shape.specs.Writes.{structure_head}
use Rattle.kmip_wire.specs.Bytes.{bytes, all_bytes, structure_bytes, in_order, item_bytes, value_bytes, has_form}

pub item_len : (tag code : ℕ) (v : List ℕ) → length (item_bytes tag code v) ≡ 8 + length v + pads (length v)
unfolding item_bytes
item_len tag code v = grind (arith, length-append, length-replicate)

abbrev pub IsAligned : Option (List ℕ) → Type 0
IsAligned None = Unit {0}
IsAligned (Some b) = length b % 8 ≡ 0

item_aligned : (tag code : ℕ) (v : List ℕ) → length (item_bytes tag code v) % 8 ≡ 0
item_aligned tag code v =
    let e : length (item_bytes tag code v) ≡ 8 + length v + pads (length v) = item_len tag code v in
    rw e (omega arith)

if_aligned : (q : Bool) (b : List ℕ) → length b % 8 ≡ 0 → IsAligned (cond q (Some b) None)
if_aligned true b h = h
if_aligned false b h = tt

framed_aligned : (tag : ℕ) (o : Option (List ℕ)) → IsAligned (structure_bytes tag o)
framed_aligned tag None = tt
framed_aligned tag (Some v) = if_aligned (nat_lt (length v) (2 ^ 32)) (item_bytes tag 1 v) (item_aligned tag 1 v)

order_aligned : (a b : Option (List ℕ)) → IsAligned a → IsAligned b → IsAligned (in_order a b)
order_aligned None b g h = tt
order_aligned (Some a) None g h = tt
order_aligned (Some a) (Some b) g h =
    rw (length-append a b) (let x : length a % 8 ≡ 0 = g in let y : length b % 8 ≡ 0 = h in
    omega arith)

tree_aligned : (t : Tree) → IsAligned (bytes t)
tree_aligned (scalar tag s) = if_aligned (has_form s && nat_lt (length (value_bytes s)) (2 ^ 32))
    (item_bytes tag (code_of (kind_of_scalar s)) (value_bytes s))
    (item_aligned tag (code_of (kind_of_scalar s)) (value_bytes s))
tree_aligned (structure tag ts) = framed_aligned tag (all_bytes ts)

pub trees_aligned : (ts : Trees) → IsAligned (all_bytes ts)
trees_aligned none = refl
trees_aligned (more t ts) = order_aligned (bytes t) (all_bytes ts) (tree_aligned t) (trees_aligned ts)

-- what comes in eights has no pads as a value
pub flat : (tag : ℕ) (c : List ℕ) → length c % 8 ≡ 0 → item_bytes tag 1 c ≡ structure_head tag (length c) ++ c
unfolding item_bytes structure_head
flat tag c h =
    let e : pads (length c) ≡ 0 = omega arith in
    rw e (ap (λ (x : List ℕ). structure_head tag (length c) ++ x) (append-nil c))
