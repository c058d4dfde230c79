-- What items lack, and which are strays, by where they stand alone.
use Rattle.std.proofs.Common.{◌≡◌, ℕ, zero, suc, Bool, true, false, ◌==◌, ◌&&◌, ◌||◌, not, cond, List, [], ◌∷◌, ◌++◌, map, Option, Some, None, option_map, slice_get, refl, sym, ap, ◌∙◌}
use Rattle.std.specs.List.{flat_map, list_all, last_or}
use Rattle.std.proofs.lemmas.Bool.{false≢true}
use Rattle.kmip_wire.specs.Tree.{Tree}
use Rattle.kmip_wire.specs.Parts.{tag_of}
use Rattle.kmip_rows.specs.declared.rows.Place.{Place}
use Rattle.kmip_rows.specs.declared.rows.Place.TheVariants.{Tag, Object}
use Rattle.kmip_rows.specs.Rows.{Field, Structure, Row, structure_in}
use Rattle.kmip_rows.specs.Structures.{structures, objects}
use Rattle.kmip_payloads.specs.Items.{Item, item_at}
use Rattle.kmip_payloads.specs.Payload.{Walk, kept, here_of, below_of, here, below, are_none, is_needed, LEVELS}
use Rattle.kmip_payloads.specs.Lacks.{structure_lacks, tag_lacks, place_lacks, all_lacks}
use Rattle.kmip_payloads.specs.Strays.{has_place, is_taken, first_stray}
use Rattle.kmip_payloads.specs.declared.refusal.Refusal.TheVariants.{Stray, Lacks}
use Rattle.kmip_payloads.specs.Refusals.{stray, refusal_of}
use Rattle.kmip_payloads.specs.Laws.{Spot, spot_of}
use Rattle.kmip_payloads.proofs.Views.{none_kept}

-- ---- lists of items

none_of_spots : (xs ys : List Item) → map spot_of xs ≡ map spot_of ys → are_none xs ≡ are_none ys
none_of_spots [] [] e = refl
none_of_spots [] (y ∷ ys) e = absurd (cc)
none_of_spots (x ∷ xs) [] e = absurd (cc)
none_of_spots (x ∷ xs) (y ∷ ys) e = refl

one_here :
    (tag : ℕ) (p q : List ℕ) (t u : Tree) (more rest : List Tree) → p ≡ q → tag_of t ≡ tag_of u
    → are_none more ≡ are_none rest
    → are_none (here_of tag (item_at p t) ++ more) ≡ are_none (here_of tag (item_at q u) ++ rest)
one_here tag [] [] t u more rest e f g =
    none_kept (tag_of t == tag) t more
    ∙ (λ i. not (f i == tag) && g i)
    ∙ sym (none_kept (tag_of u == tag) u rest)
one_here tag [] (o ∷ q) t u more rest e f g = absurd (cc)
one_here tag (o ∷ p) [] t u more rest e f g = absurd (cc)
one_here tag (o ∷ p) (k ∷ q) t u more rest e f g = g

none_here :
    (tag : ℕ) (xs ys : List Item) → map spot_of xs ≡ map spot_of ys
    → are_none (here tag xs) ≡ are_none (here tag ys)
none_here tag [] [] e = refl
none_here tag [] (y ∷ ys) e = absurd (cc)
none_here tag (x ∷ xs) [] e = absurd (cc)
none_here tag (x ∷ xs) (y ∷ ys) e =
    let h : spot_of x ≡ spot_of y = cc in
    let t : map spot_of xs ≡ map spot_of ys = cc in
    one_here tag x.path y.path x.tree y.tree (here tag xs) (here tag ys)
    (ap (λ (s : Spot). s.path) h) (ap (λ (s : Spot). s.tag) h) (none_here tag xs ys t)

kept_below :
    (b c : Bool) (x y : Item) (more rest : List Item) → b ≡ c → spot_of x ≡ spot_of y
    → map spot_of more ≡ map spot_of rest
    → map spot_of (kept b x ++ more) ≡ map spot_of (kept c y ++ rest)
kept_below true true x y more rest e f g = λ i. f i ∷ g i
kept_below false false x y more rest e f g = g
kept_below true false x y more rest e f g = absurd (false≢true (sym e))
kept_below false true x y more rest e f g = absurd (false≢true e)

one_below :
    (tag : ℕ) (p q : List ℕ) (t u : Tree) (more rest : List Item) → p ≡ q → tag_of t ≡ tag_of u
    → map spot_of more ≡ map spot_of rest
    → map spot_of (below_of tag (item_at p t) ++ more)
    ≡ map spot_of (below_of tag (item_at q u) ++ rest)
one_below tag [] [] t u more rest e f g = g
one_below tag [] (o ∷ q) t u more rest e f g = absurd (cc)
one_below tag (o ∷ p) [] t u more rest e f g = absurd (cc)
one_below tag (o ∷ p) (k ∷ q) t u more rest e f g =
    let h : o ≡ k = cc in
    let r : p ≡ q = cc in
    let s : spot_of (item_at p t) ≡ spot_of (item_at q u) =
    λ i. record { path = r i; tag = f i } in
    kept_below (o == tag) (k == tag) (item_at p t) (item_at q u) more rest
    (ap (λ (n : ℕ). n == tag) h) s g

below_same :
    (tag : ℕ) (xs ys : List Item) → map spot_of xs ≡ map spot_of ys
    → map spot_of (below tag xs) ≡ map spot_of (below tag ys)
below_same tag [] [] e = refl
below_same tag [] (y ∷ ys) e = absurd (cc)
below_same tag (x ∷ xs) [] e = absurd (cc)
below_same tag (x ∷ xs) (y ∷ ys) e =
    let h : spot_of x ≡ spot_of y = cc in
    let t : map spot_of xs ≡ map spot_of ys = cc in
    one_below tag x.path y.path x.tree y.tree (below tag xs) (below tag ys)
    (ap (λ (s : Spot). s.path) h) (ap (λ (s : Spot). s.tag) h) (below_same tag xs ys t)

none_below :
    (tag : ℕ) (xs ys : List Item) → map spot_of xs ≡ map spot_of ys
    → are_none (below tag xs) ≡ are_none (below tag ys)
none_below tag xs ys e = none_of_spots (below tag xs) (below tag ys) (below_same tag xs ys e)

-- ---- what is lacking

-- a walk that gives the same for items that stand alike
abbrev IsBlind : Walk Place → Type 0
IsBlind walk =
    (fields : List Field) (xs ys : List Item) → map spot_of xs ≡ map spot_of ys
    → walk fields xs ≡ walk fields ys

structure_same :
    (inside : Walk Place) → IsBlind inside → (needed : Bool) (xs ys : List Item) (tag : ℕ)
    (found : Option Structure) → map spot_of xs ≡ map spot_of ys
    → structure_lacks inside needed xs tag found ≡ structure_lacks inside needed ys tag found
structure_same inside blind needed xs ys tag None e =
    λ i. kept (needed && none_here tag xs ys e i) (Tag tag)
structure_same inside blind needed xs ys tag (Some row) e =
    let deep = blind row.fields (below tag xs) (below tag ys) (below_same tag xs ys e) in
    λ i. cond (not (none_below tag xs ys e i) || (needed && none_here tag xs ys e i)) (deep i) []

tag_same :
    (inside : Walk Place) → IsBlind inside → (needed : Bool) (xs ys : List Item) (tag : ℕ)
    → map spot_of xs ≡ map spot_of ys
    → tag_lacks inside needed xs tag ≡ tag_lacks inside needed ys tag
tag_same inside blind needed xs ys tag e =
    structure_same inside blind needed xs ys tag (structure_in structures tag) e

place_same :
    (inside : Walk Place) → IsBlind inside → (needed : Bool) (xs ys : List Item) (place : Place)
    → map spot_of xs ≡ map spot_of ys
    → place_lacks inside needed xs place ≡ place_lacks inside needed ys place
place_same inside blind needed xs ys (Tag tag) e = tag_same inside blind needed xs ys tag e
place_same inside blind needed xs ys Object e =
    λ i. cond
    (needed && list_all (λ (tag : ℕ). none_here tag xs ys e i && none_below tag xs ys e i) objects)
    (Object ∷ [])
    (flat_map (λ (tag : ℕ). tag_same inside blind false xs ys tag e i) objects)

lacks_same : (level : ℕ) → IsBlind (all_lacks level)
unfolding all_lacks
lacks_same zero fields xs ys e = refl
lacks_same (suc level) fields xs ys e =
    λ i. flat_map (λ (field : Field).
    place_same (all_lacks level) (lacks_same level) (is_needed field.mark) xs ys field.place e i) fields

-- ---- the first stray

one_stray :
    (b c : Bool) (x y : Item) (more rest : Option Item) → b ≡ c → stray x ≡ stray y
    → option_map stray more ≡ option_map stray rest
    → option_map stray (cond b (Some x) more) ≡ option_map stray (cond c (Some y) rest)
one_stray true true x y more rest e f g = λ i. Some (f i)
one_stray false false x y more rest e f g = g
one_stray true false x y more rest e f g = absurd (false≢true (sym e))
one_stray false true x y more rest e f g = absurd (false≢true e)

stray_same :
    (row : Row) (xs ys : List Item) → map spot_of xs ≡ map spot_of ys
    → option_map stray (first_stray row xs) ≡ option_map stray (first_stray row ys)
stray_same row [] [] e = refl
stray_same row [] (y ∷ ys) e = absurd (cc)
stray_same row (x ∷ xs) [] e = absurd (cc)
stray_same row (x ∷ xs) (y ∷ ys) e =
    let h : spot_of x ≡ spot_of y = cc in
    let t : map spot_of xs ≡ map spot_of ys = cc in
    one_stray (not (is_taken row x)) (not (is_taken row y)) x y (first_stray row xs) (first_stray row ys)
    (ap (λ (s : Spot). not (has_place row.request s.path s.tag)) h)
    (ap (λ (s : Spot). Stray (last_or None s.path) s.tag) h)
    (stray_same row xs ys t)

pub refusal_same :
    (row : Row) (items others : List Item) → map spot_of items ≡ map spot_of others
    → refusal_of row items ≡ refusal_of row others
refusal_same row items others e =
    let f = stray_same row items others e in
    let g = lacks_same LEVELS row.request items others e in
    λ i. elim (f i) [
      | Some why ↦ Some why
      | None ↦ option_map (λ place. Lacks place) (slice_get (g i) 0)
    ]
