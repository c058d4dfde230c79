-- What follows from a step that gave a value.
use Rattle.std.proofs.Common.{◌≡◌, ◌⊎◌, inl, inr, ℕ, ◌==◌, Bool, true, false, ◌||◌, List, Option, Some, None, refl, sym, ◌∙◌, ap}
use Rattle.std.specs.Option.{option_and_then, option_map, is_some}
use Rattle.std.proofs.lemmas.Bool.{eqb-true, eq-eqb}
use Rattle.std.proofs.lemmas.Option.{cond_some, same_Some, none-some}
use Rattle.kmip_der.specs.Der.{Element, element_in, with_tag, tagged}

pub stepped : {A B : Type 0} (f : A → Option B) (o : Option A) (y : B) → option_and_then f o ≡ Some y → (x : A)
    × (o ≡ Some x) × (f x ≡ Some y)
stepped f (Some x) y e = (x, refl, e)
stepped f None y e = absurd (none-some y e)

pub mapped : {A B : Type 0} (f : A → B) (o : Option A) (y : B) → option_map f o ≡ Some y → (x : A)
    × (o ≡ Some x) × (f x ≡ y)
mapped f (Some x) y e = (x, refl, same_Some (f x) y e)
mapped f None y e = absurd (none-some y e)

pub some_of : {A : Type 0} (o : Option A) → is_some o ≡ true → (x : A) × (o ≡ Some x)
some_of (Some x) e = (x, refl)
some_of None e = absurd (cc)

pub either_true : (a b : Bool) → (a || b) ≡ true → (a ≡ true) ⊎ (b ≡ true)
either_true true b e = inl refl
either_true false b e = inr e

pub false_by : (b : Bool) → (b ≡ true → ⊥) → b ≡ false
false_by true h = absurd (h refl)
false_by false h = refl

pub tag_is : (tag : ℕ) (bytes : List ℕ) (e : Element) → tagged tag bytes ≡ Some e → (element_in bytes ≡ Some e)
    × (e.tag ≡ tag)
tag_is tag bytes e h =
    let found = stepped (with_tag tag) (element_in bytes) e h in
    let c = cond_some (found.0.tag == tag) found.0 e found.2 in
    (found.1 ∙ ap Some c.1, ap (λ (x : Element). x.tag) (sym c.1) ∙ eqb-true _ _ c.0)

two_tags : (t u : ℕ) (bytes : List ℕ) (e f : Element) → tagged t bytes ≡ Some e → tagged u bytes ≡ Some f → t ≡ u
two_tags t u bytes e f h k =
    let p = tag_is t bytes e h in
    let q = tag_is u bytes f k in
    let same : e ≡ f = same_Some e f (sym p.0 ∙ q.0) in
    sym p.1 ∙ (ap (λ (x : Element). x.tag) same ∙ q.1)

pub other_tag : (t u : ℕ) (bytes : List ℕ) (e f : Element) → t == u ≡ false → tagged t bytes ≡ Some e
    → tagged u bytes ≡ Some f → ⊥
other_tag t u bytes e f d h k =
    let same : true ≡ false = sym (eq-eqb t u (two_tags t u bytes e f h k)) ∙ d in
    absurd cc
