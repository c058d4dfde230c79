-- One more item of a row that holds several.
use Rattle.std.proofs.Common.{◌≡◌, Option, Some, None, List, [], ◌∷◌, ◌++◌, refl, ap, map, arith, length, ◌<◌}
use Rattle.std.proofs.lemmas.List.{map-append}
use Rattle.std.specs.Option.{option_map, option_and_then}
use Rattle.kmip_wire.specs.Tree.{Tree}
use Rattle.kmip_shape.specs.Val.{Val, Vals, Absent, Many, AndVal, vals_then, vals_of}
use Rattle.kmip_shape.specs.Shape.{AnyNumber, AtLeastOne, OptionalList}
use Rattle.kmip_shape.specs.Reads.{each, marked_field}
use Rattle.kmip_shape.specs.Resume.{values_with, many_field, resume_many}

pub vals_then-append : (vs : List Val) (v : Val) (more : Vals)
    → vals_then (vs ++ v ∷ []) more ≡ vals_then vs (AndVal v more)
vals_then-append [] v more = refl
vals_then-append (w ∷ vs) v more = ap (AndVal w) (vals_then-append vs v more)

after : (vs : List Val) (v : Val) (o : Option Vals)
    → option_map (vals_then vs) (option_map (AndVal v) o) ≡ option_map (vals_then (vs ++ v ∷ [])) o
after vs v None = refl
after vs v (Some more) = grind (arith, vals_then-append vs v more)

pub more : {A : Type 0} (f : A → Val) (r : Tree → Option Val) (items : List A) (a : A) (x : Tree) (xs : List Tree)
    → r x ≡ Some (f a) → values_with r (map f items) (x ∷ xs) ≡ values_with r (map f (items ++ a ∷ [])) xs
unfolding values_with
more f r items a x xs e = rw (e, map-append f items (a ∷ [])) (after (map f items) (f a) (each r xs))

pub more_none : (r : Tree → Option Val) (vs : List Val) (x : Tree) (xs : List Tree) → r x ≡ None
    → values_with r vs (x ∷ xs) ≡ None
unfolding values_with
more_none r vs x xs e = rw e

pub start : (r : Tree → Option Val) (xs : List Tree) → values_with r [] xs ≡ each r xs
unfolding values_with
start r xs = elim (each r xs) as (λ o. option_map (vals_then []) o ≡ o) [ None ↦ refl | Some v ↦ refl ]

pub end : (r : Tree → Option Val) (vs : List Val) → values_with r vs [] ≡ Some (vals_of vs)
unfolding values_with
end r vs = refl

pub start_list : (r : Tree → Option Val) (xs : List Tree) → resume_many AnyNumber r [] xs ≡ marked_field AnyNumber r xs
start_list r xs = rw (start r xs)
    (elim (each r xs) as (λ o. option_and_then (many_field AnyNumber) o ≡ option_map Many o)
    [ None ↦ refl | Some v ↦ refl ])

non_empty : (v : Option Val) (o : Option Vals)
    → option_and_then (many_field AtLeastOne) (option_and_then (λ w. option_map (AndVal w) o) v)
    ≡ option_map Many (option_and_then (λ w. option_map (AndVal w) o) v)
non_empty None o = refl
non_empty (Some v) None = refl
non_empty (Some v) (Some vs) = refl

pub start_non_empty : (r : Tree → Option Val) (xs : List Tree)
    → resume_many AtLeastOne r [] xs ≡ marked_field AtLeastOne r xs
start_non_empty r [] = rw (start r []) refl
start_non_empty r (x ∷ xs) = rw (start r (x ∷ xs)) (non_empty (r x) (each r xs))

optional : (v : Option Val) (o : Option Vals)
    → option_and_then (many_field OptionalList) (option_and_then (λ w. option_map (AndVal w) o) v)
    ≡ option_map Many (option_and_then (λ w. option_map (AndVal w) o) v)
optional None o = refl
optional (Some v) None = refl
optional (Some v) (Some vs) = refl

pub start_optional : (r : Tree → Option Val) (xs : List Tree)
    → resume_many OptionalList r [] xs ≡ marked_field OptionalList r xs
start_optional r [] = rw (start r []) refl
start_optional r (x ∷ xs) = rw (start r (x ∷ xs)) (optional (r x) (each r xs))

pub field_non_empty : {A : Type 0} (f : A → Val) (items : List A) → 0 < length items
    → many_field AtLeastOne (vals_of (map f items)) ≡ Some (Many (vals_of (map f items)))
field_non_empty f [] h = absurd (omega arith)
field_non_empty f (x ∷ xs) h = refl

pub field_optional : {A : Type 0} (f : A → Val) (items : List A) → 0 < length items
    → many_field OptionalList (vals_of (map f items)) ≡ Some (Many (vals_of (map f items)))
field_optional f [] h = absurd (omega arith)
field_optional f (x ∷ xs) h = refl

pub field_none : {A : Type 0} (f : A → Val) (items : List A) → length items ≡ 0
    → many_field AtLeastOne (vals_of (map f items)) ≡ None
field_none f [] h = refl
field_none f (x ∷ xs) h = absurd (omega arith)

pub field_absent : {A : Type 0} (f : A → Val) (items : List A) → length items ≡ 0
    → many_field OptionalList (vals_of (map f items)) ≡ Some Absent
field_absent f [] h = refl
field_absent f (x ∷ xs) h = absurd (omega arith)

pub ruleset gathering = (
  more,
  more_none,
  end,
  start_list,
  start_non_empty,
  start_optional,
  field_non_empty,
  field_optional,
  field_none,
  field_absent,
)
