-- The value of an attribute, read character by character and part by part.
use Rattle.std.proofs.Common.{◌≡◌, ℕ, ◌+◌, ◌<◌, ◌≤◌, Bool, true, false, ◌&&◌, List, [], ◌∷◌, ◌++◌, length, drop, get_or, map, Option, Some, None, option_map, refl, sym, ap, ◌∙◌, append_assoc, append-nil, add-one, drop-cons, Bor}
use Rattle.std.proofs.lemmas.List.{at_drop_all, at_drop_more}
use Rattle.std.specs.List.{list_all}
use Rattle.kmip_encodings.specs.XmlGrammar.{is_xml_char}
use Rattle.kmip_xml.specs.Given.{◌>>=◌}
use Rattle.kmip_xml.specs.Values.{plain_char, plain, referred, all_referred}

pub plain_more : (all : List ℕ) (n c before : ℕ) → (n < length all) × (c ≡ get_or all n c)
    → plain before (drop n all) ≡ plain_char before c ++ plain c (drop (n + 1) all)
plain_more all n c before h =
    at_drop_more (plain before) all n c h.0
    ∙ ap (λ x. plain_char before x ++ plain x (drop (n + 1) all)) (sym h.1)

pub passes_more : (all : List ℕ) (n c : ℕ) → (n < length all) × (c ≡ get_or all n c)
    → list_all is_xml_char (drop n all) ≡ (is_xml_char c && list_all is_xml_char (drop (n + 1) all))
passes_more all n c h =
    at_drop_more (list_all is_xml_char) all n c h.0
    ∙ ap (λ x. is_xml_char x && list_all is_xml_char (drop (n + 1) all)) (sym h.1)

-- ---- what stands behind each `&`

abbrev pub onto : List ℕ → Option (List ℕ) → Option (List ℕ)
onto old read = option_map (λ s. old ++ s) read

abbrev pub left : List (Bor (List ℕ)) → ℕ → Option (List ℕ)
left parts i = all_referred (map (λ part. part.now) (drop i parts))

rest_at : {X : Type 0} (xs : List X) (i : ℕ) (d : X) → i < length xs
    → drop i xs ≡ get_or xs i d ∷ drop (i + 1) xs
rest_at xs i d h = rw (add-one, drop-cons xs i d h) refl

onto_both : (old first : List ℕ) (others : Option (List ℕ))
    → onto old (others >>= λ o. Some (first ++ o)) ≡ onto (old ++ first) others
onto_both old first (Some o) = ap Some (sym (append_assoc old first o))
onto_both old first None = refl

same : (x y : List ℕ) → ◌≡◌ {A = Option (List ℕ)} (Some x) (Some y) → x ≡ y
same x y e = cc

read_as : (old new : List ℕ) (read : Option (List ℕ)) (others : Option (List ℕ))
    → onto old read ≡ Some new
    → onto old (read >>= λ f. others >>= λ o. Some (f ++ o)) ≡ onto new others
read_as old new (Some first) others e =
    onto_both old first others ∙ ap (λ t. onto t others) (same (old ++ first) new e)
read_as old new None others e = absurd cc

pub part_more : (parts : List (Bor (List ℕ))) (i : ℕ) (d : Bor (List ℕ)) (old new : List ℕ)
    (all : Option (List ℕ)) → i < length parts
    → onto old (referred (get_or parts i d).now) ≡ Some new → onto old (left parts i) ≡ all
    → onto new (left parts (i + 1)) ≡ all
part_more parts i d old new all h r q =
    sym (read_as old new (referred (get_or parts i d).now) (left parts (i + 1)) r)
    ∙ sym (ap (λ ps. onto old (all_referred (map (λ p. p.now) ps))) (rest_at parts i d h)) ∙ q
