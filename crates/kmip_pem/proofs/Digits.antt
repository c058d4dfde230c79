-- The digits of a block, to its end.
use Rattle.std.proofs.Common.{◌≡◌, ℕ, Bool, true, false, List, [], ◌∷◌, ◌++◌, Option, Some, None, refl, ap, ◌∙◌, cond}
use Rattle.std.specs.List.{list_all, concat}
use Rattle.std.proofs.lemmas.Bool.{and_parts}
use Rattle.std.proofs.lemmas.Option.{none-some, same_Some}
use Rattle.kmip_pem.specs.Labels.{end_line, ends}
use Rattle.kmip_pem.specs.Pem.{before_digits, digits_in, has_header}
use Rattle.kmip_pem.proofs.Tests.{by_test}
use Rattle.kmip_pem.proofs.Marks.{end_ends, ends_is}
use Rattle.kmip_pem.proofs.Plain.{is_plain, plain_ends_none, plain_no_header}

abbrev by_end : Bool → List ℕ → Option (List ℕ) → Option (List ℕ)
by_end b line o = cond b (Some []) (before_digits line o)

pub digits_found : (label : List ℕ) (body after : List (List ℕ)) → list_all (list_all is_plain) body ≡ true
    → digits_in label (body ++ (end_line label ∷ after)) ≡ Some (concat body)
unfolding before_digits
digits_found label [] after h = ap (λ b. by_end b (end_line label) (digits_in label after)) (end_ends label)
digits_found label (line ∷ body) after h =
    let parts = and_parts (list_all is_plain line) (list_all (list_all is_plain) body) h in
    ap (λ b. by_end b line (digits_in label (body ++ (end_line label ∷ after)))) (plain_ends_none label line parts.0)
    ∙ ap (before_digits line) (digits_found label body after parts.1)

pub header_none : (label : List ℕ) (body after : List (List ℕ)) → list_all (list_all is_plain) body ≡ true
    → has_header (body ++ (end_line label ∷ after)) ≡ false
header_none label [] after h = refl
header_none label (line ∷ body) after h =
    plain_no_header line (and_parts (list_all is_plain line) (list_all (list_all is_plain) body) h).0

-- ---- and back

abbrev pub Ended : List ℕ → List (List ℕ) → List ℕ → Type 0
Ended label lines digits =
    (body : List (List ℕ)) × (after : List (List ℕ)) × (lines ≡ body ++ (end_line label ∷ after)) × (concat body ≡ digits)

mapped : (line : List ℕ) (o : Option (List ℕ)) (digits : List ℕ) → before_digits line o ≡ Some digits
    → (more : List ℕ) × (o ≡ Some more) × (line ++ more ≡ digits)
unfolding before_digits
mapped line None digits h = absurd (none-some digits h)
mapped line (Some more) digits h = (more, refl, same_Some (line ++ more) digits h)

pub digits_split : (label : List ℕ) (lines : List (List ℕ)) (digits : List ℕ) → digits_in label lines ≡ Some digits
    → Ended label lines digits
digits_split label [] digits h = absurd (none-some digits h)
digits_split label (line ∷ lines) digits h =
    by_test (ends label line)
    (λ t. ([], lines, ap (λ x. x ∷ lines) (ends_is label line t), same_Some [] digits (rw t at h)))
    (λ f.
    let m = mapped line (digits_in label lines) digits (rw f at h) in
    let e = digits_split label lines m.0 m.1 in
    (line ∷ e.0, e.1, ap (λ xs. line ∷ xs) e.2, ap (λ xs. line ++ xs) e.3 ∙ m.2))
