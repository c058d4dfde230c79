-- Tags, lists of trees, and the tests of a shape.
use Rattle.std.proofs.Common.{◌≡◌, ℕ, ◌<◌, ◌^◌, nat_lt, ltb-true, Bool, true, false, cond, ◌&&◌, ◌||◌, not, List, [], ◌∷◌, ◌++◌, nat_eq, refl, sym, ◌∙◌, ap, subst, append-nil, eqb→eq, eq-eqb, filter, ◌==◌}
use Rattle.kmip_wire.specs.Tree.{Tree}
use Rattle.kmip_wire.specs.Parts.{tag_of}
use Rattle.kmip_shape.specs.Shape.{Shape, OuterValue, Place, Under, ByCase, in_place, own_tags, among}
use Rattle.kmip_shape.specs.Fits.{apart}

pub and_left : (a b : Bool) → (a && b) ≡ true → a ≡ true
and_left true b h = refl
and_left false b h = h

pub and_right : (a b : Bool) → (a && b) ≡ true → b ≡ true
and_right true b h = h
and_right false b h = cc

pub not_true : (a : Bool) → not a ≡ true → a ≡ false
not_true true h = cc
not_true false h = refl

pub or_cases : (a b : Bool) (P : Type 0) → (a || b) ≡ true → (a ≡ true → P) → (a ≡ false → b ≡ true → P) → P
or_cases true b P h f g = f refl
or_cases false b P h f g = g refl h

pub or_right : (a b : Bool) → b ≡ true → (a || b) ≡ true
or_right true b h = refl
or_right false b h = h

pub or_false : (a b : Bool) → a ≡ false → b ≡ false → (a || b) ≡ false
or_false true b h g = h
or_false false b h g = g

pub or_false_left : (a b : Bool) → (a || b) ≡ false → a ≡ false
or_false_left true b h = h
or_false_left false b h = refl

pub or_false_right : (a b : Bool) → (a || b) ≡ false → b ≡ false
or_false_right true b h = cc
or_false_right false b h = h

-- the trees under one of the tags
abbrev pub with_tags : List ℕ → List Tree → List Tree
with_tags tags [] = []
with_tags tags (tree ∷ trees) =
    cond (among (tag_of tree) tags) (tree ∷ with_tags tags trees) (with_tags tags trees)

-- each tree stands under one of the tags
abbrev pub Inside : List ℕ → List Tree → Type 0
Inside tags [] = Unit {0}
Inside tags (t ∷ ts) = (among (tag_of t) tags ≡ true) × Inside tags ts

-- no tree stands under one of the tags
abbrev pub Outside : List ℕ → List Tree → Type 0
Outside tags [] = Unit {0}
Outside tags (t ∷ ts) = (among (tag_of t) tags ≡ false) × Outside tags ts

pub with_tags-inside : (tags : List ℕ) (ts : List Tree) → Inside tags ts → with_tags tags ts ≡ ts
with_tags-inside tags [] h = refl
with_tags-inside tags (t ∷ ts) h = rw h.0 (ap (λ xs. t ∷ xs) (with_tags-inside tags ts h.1))

pub with_tags-outside : (tags : List ℕ) (ts : List Tree) → Outside tags ts → with_tags tags ts ≡ []
with_tags-outside tags [] h = refl
with_tags-outside tags (t ∷ ts) h = rw h.0 (with_tags-outside tags ts h.1)

cond_append : (b : Bool) (t : Tree) (xs ys : List Tree) → cond b (t ∷ (xs ++ ys)) (xs ++ ys) ≡ cond b (t ∷ xs) xs ++ ys
cond_append true t xs ys = refl
cond_append false t xs ys = refl

pub with_tags-append : (tags : List ℕ) (ts us : List Tree)
    → with_tags tags (ts ++ us) ≡ with_tags tags ts ++ with_tags tags us
with_tags-append tags [] us = refl
with_tags-append tags (t ∷ ts) us =
    rw (with_tags-append tags ts us)
    (cond_append (among (tag_of t) tags) t (with_tags tags ts) (with_tags tags us))

pub Outside-append : (tags : List ℕ) (ts us : List Tree) → Outside tags ts → Outside tags us → Outside tags (ts ++ us)
Outside-append tags [] us h g = g
Outside-append tags (t ∷ ts) us h g = (h.0, Outside-append tags ts us h.1 g)

pub Inside-append : (tags : List ℕ) (ts us : List Tree) → Inside tags ts → Inside tags us → Inside tags (ts ++ us)
Inside-append tags [] us h g = g
Inside-append tags (t ∷ ts) us h g = (h.0, Inside-append tags ts us h.1 g)

pub among-left : (n : ℕ) (ns ms : List ℕ) → among n ns ≡ true → among n (ns ++ ms) ≡ true
among-left n [] ms h = cc
among-left n (m ∷ ns) ms h =
    or_cases (nat_eq m n) (among n ns) (among n (m ∷ (ns ++ ms)) ≡ true) h (λ e. rw e refl)
    (λ e g. or_right (nat_eq m n) (among n (ns ++ ms)) (among-left n ns ms g))

pub among-right : (n : ℕ) (ns ms : List ℕ) → among n ms ≡ true → among n (ns ++ ms) ≡ true
among-right n [] ms h = h
among-right n (m ∷ ns) ms h = or_right (nat_eq m n) (among n (ns ++ ms)) (among-right n ns ms h)

pub out_left : (n : ℕ) (ns ms : List ℕ) → among n (ns ++ ms) ≡ false → among n ns ≡ false
out_left n [] ms h = refl
out_left n (m ∷ ns) ms h =
    or_false (nat_eq m n) (among n ns) (or_false_left (nat_eq m n) (among n (ns ++ ms)) h)
    (out_left n ns ms (or_false_right (nat_eq m n) (among n (ns ++ ms)) h))

pub out_right : (n : ℕ) (ns ms : List ℕ) → among n (ns ++ ms) ≡ false → among n ms ≡ false
out_right n [] ms h = h
out_right n (m ∷ ns) ms h = out_right n ns ms (or_false_right (nat_eq m n) (among n (ns ++ ms)) h)

pub eq_same : (m n : ℕ) → nat_eq m n ≡ true → m ≡ n
eq_same m n h = eqb→eq m n (rw h tt)

-- what is among the first is not among the second
pub apart_out : (ns ms : List ℕ) (n : ℕ) → apart ns ms ≡ true → among n ns ≡ true → among n ms ≡ false
apart_out [] ms n h g = cc
apart_out (m ∷ ns) ms n h g =
    or_cases (nat_eq m n) (among n ns) (among n ms ≡ false) g
    (λ e. subst (λ (k : ℕ). among k ms ≡ false) (eq_same m n e)
    (not_true (among m ms) (and_left (not (among m ms)) (apart ns ms) h)))
    (λ e k. apart_out ns ms n (and_right (not (among m ms)) (apart ns ms) h) k)

-- and the other way
pub apart_in : (ns ms : List ℕ) (n : ℕ) → apart ns ms ≡ true → among n ms ≡ true → among n ns ≡ false
apart_in ns ms n h g = go (among n ns) refl
  where
    go : (b : Bool) → among n ns ≡ b → b ≡ false
    go true e = let f : among n ms ≡ false = apart_out ns ms n h e in cc
    go false e = refl

pub Outside-left : (ns ms : List ℕ) (ts : List Tree) → Outside (ns ++ ms) ts → Outside ns ts
Outside-left ns ms [] h = tt
Outside-left ns ms (t ∷ ts) h = (out_left (tag_of t) ns ms h.0, Outside-left ns ms ts h.1)

pub Outside-right : (ns ms : List ℕ) (ts : List Tree) → Outside (ns ++ ms) ts → Outside ms ts
Outside-right ns ms [] h = tt
Outside-right ns ms (t ∷ ts) h = (out_right (tag_of t) ns ms h.0, Outside-right ns ms ts h.1)

pub Outside-apart : (ns ms : List ℕ) (ts : List Tree) → apart ns ms ≡ true → Inside ms ts → Outside ns ts
Outside-apart ns ms [] h g = tt
Outside-apart ns ms (t ∷ ts) h g = (apart_in ns ms (tag_of t) h g.0, Outside-apart ns ms ts h g.1)

pub Outside-apart' : (ns ms : List ℕ) (ts : List Tree) → apart ns ms ≡ true → Inside ns ts → Outside ms ts
Outside-apart' ns ms [] h g = tt
Outside-apart' ns ms (t ∷ ts) h g = (apart_out ns ms (tag_of t) h g.0, Outside-apart' ns ms ts h g.1)

-- the tags of one are among those of the other
abbrev pub Within : List ℕ → List ℕ → Type 0
Within ns ms = (n : ℕ) → among n ns ≡ true → among n ms ≡ true

pub out_within : (ns ms : List ℕ) (n : ℕ) → Within ns ms → among n ms ≡ false → among n ns ≡ false
out_within ns ms n w h = go (among n ns) refl
  where
    go : (b : Bool) → among n ns ≡ b → b ≡ false
    go true e = let f : among n ms ≡ true = w n e in cc
    go false e = refl

pub Outside-within : (ns ms : List ℕ) (ts : List Tree) → Within ns ms → Outside ms ts → Outside ns ts
Outside-within ns ms [] w h = tt
Outside-within ns ms (t ∷ ts) w h = (out_within ns ms (tag_of t) w h.0, Outside-within ns ms ts w h.1)

pub Inside-within : (ns ms : List ℕ) (ts : List Tree) → Within ns ms → Inside ns ts → Inside ms ts
Inside-within ns ms [] w h = tt
Inside-within ns ms (t ∷ ts) w h = (w (tag_of t) h.0, Inside-within ns ms ts w h.1)

-- the trees of the tags, where what stands before and after is under other tags
pub with_tags-between : (tags : List ℕ) (before ts after : List Tree) → Outside tags before
    → Inside tags ts → Outside tags after → with_tags tags (before ++ (ts ++ after)) ≡ ts
with_tags-between tags before ts after b h a =
    with_tags-append tags before (ts ++ after)
    ∙ rw (
      with_tags-outside tags before b,
      with_tags-append tags ts after,
      with_tags-inside tags ts h,
      with_tags-outside tags after a,
    ) (append-nil ts)

-- the tags of a row's items
abbrev pub row_tags : Place → Shape → OuterValue → List ℕ
row_tags (Under tag) shape outer = tag ∷ []
row_tags ByCase shape outer = own_tags shape outer

pub turned : (m n : ℕ) → (m == n) ≡ among m (n ∷ [])
turned m n = go (m == n) (n == m) refl refl
  where
    go : (a b : Bool) → (m == n) ≡ a → (n == m) ≡ b → a ≡ (b || false)
    go true true e f = refl
    go false false e f = refl
    go true false e f = let h : (n == m) ≡ true = eq-eqb n m (sym (eq_same m n e)) in cc
    go false true e f = let h : (m == n) ≡ true = eq-eqb m n (sym (eq_same n m f)) in cc

pub filter_place : (place : Place) (shape : Shape) (outer : OuterValue) (ts : List Tree)
    → filter (in_place place shape outer) ts ≡ with_tags (row_tags place shape outer) ts
filter_place (Under tag) shape outer [] = refl
filter_place (Under tag) shape outer (t ∷ ts) = rw (turned (tag_of t) tag, filter_place (Under tag) shape outer ts) refl
filter_place ByCase shape outer [] = refl
filter_place ByCase shape outer (t ∷ ts) = rw (filter_place ByCase shape outer ts) refl

pub tag_first : (tag : ℕ) (rest : Bool) → (nat_lt tag (2 ^ 24) && rest) ≡ true → tag < 2 ^ 24
tag_first tag rest h =
    let e : nat_lt tag (2 ^ 24) ≡ true = and_left (nat_lt tag (2 ^ 24)) rest h in
    ltb-true tag (2 ^ 24) e

pub tags_rest : (tag : ℕ) (rest : Bool) → (nat_lt tag (2 ^ 24) && rest) ≡ true → rest ≡ true
tags_rest tag rest h = and_right (nat_lt tag (2 ^ 24)) rest h
