-- A required row under the tag of its case.
use Rattle.std.proofs.Common.{◌≡◌, ℕ, Bool, true, false, cond, List, [], ◌∷◌, Option, Some, None, filter, refl, ap}
use Rattle.std.specs.Option.{option_map, option_and_then}
use Rattle.kmip_wire.specs.Tree.{Tree}
use Rattle.kmip_wire.specs.Parts.{tag_of}
use Rattle.kmip_shape.specs.Val.{Case}
use Rattle.kmip_shape.specs.Shape.{Cases, NoCase, AndCase, ByNumbers, ByNames, ByKind, ByTag, Formless, Required, ByCase, Choice, OfNumber, OuterValue, NumberKey, NoKey, number_key, matches, selected_tags, tag_or, in_place, has_tag, among}
use Rattle.kmip_shape.specs.Reads.{marked_field, read_in, read_case, read_of}
use Rattle.kmip_shape.specs.Resume.{case_field}
use Rattle.kmip_shape.proofs.Lists.{turned}

one_tag : (tag : ℕ) (ts : List Tree) → filter (λ tree. among (tag_of tree) (tag ∷ [])) ts ≡ filter (has_tag tag) ts
one_tag tag [] = refl
one_tag tag (t ∷ ts) = rw (turned (tag_of t) tag, one_tag tag ts) refl

no_tag : (ts : List Tree) → filter (λ tree. among (tag_of tree) []) ts ≡ []
no_tag [] = refl
no_tag (t ∷ ts) = no_tag ts

no_key : (cases : Cases) → selected_tags NoKey cases ≡ []
no_key NoCase = refl
no_key (AndCase k name (ByNumbers ns) fixed shape cases) = no_key cases
no_key (AndCase k name (ByNames ns) fixed shape cases) = no_key cases
no_key (AndCase k name (ByKind ns) fixed shape cases) = no_key cases
no_key (AndCase k name (ByTag t) fixed shape cases) = no_key cases
no_key (AndCase k name Formless fixed shape cases) = no_key cases

by_number : (cases around : Cases) (outer : OuterValue) (n : ℕ) (ts : List Tree)
    → marked_field Required (λ tree. read_case cases around (NumberKey n) outer tree)
    (filter (λ tree. among (tag_of tree) (selected_tags (NumberKey n) cases)) ts)
    ≡ case_field cases around outer n ts
by_number NoCase around outer n ts = rw (no_tag ts) refl
by_number (AndCase k name selector fixed shape cases) around outer n ts =
    go (matches (NumberKey n) selector) (by_number cases around outer n ts)
  where
    go : (b : Bool) → marked_field Required
        (λ tree. read_case cases around (NumberKey n) outer tree)
        (filter (λ tree. among (tag_of tree) (selected_tags (NumberKey n) cases)) ts)
        ≡ case_field cases around outer n ts
        → marked_field Required (λ tree. cond b
        (option_map (Case k) (read_in shape around outer tree))
        (read_case cases around (NumberKey n) outer tree))
        (filter (λ tree. among (tag_of tree)
        (cond b (tag_or fixed 0 ∷ []) (selected_tags (NumberKey n) cases))) ts)
        ≡ cond b (marked_field Required
        (λ tree. option_map (Case k) (read_in shape around outer tree))
        (filter (has_tag (tag_or fixed 0)) ts)) (case_field cases around outer n ts)
    go true h = ap (marked_field Required
        (λ tree. option_map (Case k) (read_in shape around outer tree)))
        (one_tag (tag_or fixed 0) ts)
    go false h = h

-- such a row is read as the case of the chooser's number reads the item under its tag
pub case_field_law : (cases : Cases) (outer : OuterValue) (ts : List Tree)
    → marked_field Required (read_of (Choice OfNumber cases) outer)
    (filter (in_place ByCase (Choice OfNumber cases) outer) ts)
    ≡ option_and_then (λ n. case_field cases cases outer n ts) outer.number
case_field_law cases outer ts = go outer.number
  where
    go : (o : Option ℕ) → marked_field Required
        (λ tree. read_case cases cases (number_key o) outer tree)
        (filter (λ tree. among (tag_of tree) (selected_tags (number_key o) cases)) ts)
        ≡ option_and_then (λ n. case_field cases cases outer n ts) o
    go None = rw (no_key cases, no_tag ts) refl
    go (Some n) = by_number cases cases outer n ts
