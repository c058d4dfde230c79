-- A turn of each loop.
use Rattle.std.proofs.Common.{◌≡◌, ℕ, zero, suc, ◌+◌, ◌<◌, ◌≤◌, min, true, false, not, cond, List, [], ◌∷◌, ◌++◌, length, take, drop, map, Option, Some, None, refl, sym, ap, subst, ◌∙◌, arith, append_assoc, length-drop}
use Rattle.std.specs.Prelude.{nat_lt}
use Rattle.std.specs.List.{onto_first, position, position_or_len}
use Rattle.std.proofs.lemmas.List.{append-nil, take_min, drop_min, drop_all}
use Rattle.std.proofs.lemmas.Bool.{ltb-true, ltb-false}
use Rattle.std.proofs.lemmas.Option.{cond_some, none-some}
use Rattle.kmip_pem.proofs.Tests.{by_test}
use Rattle.kmip_pem.specs.Lines.{is_line_end, cut, trimmed, lines_in, text_of}
use Rattle.kmip_pem.specs.Pem.{before_digits}
use Rattle.base64.specs.GeneralPurpose.{encode_of}
use Rattle.base64.specs.Engines.{standard}
use Rattle.kmip_pem.specs.declared.labels.Label.{Label}
use Rattle.kmip_pem.specs.Labels.{label_text, begin_line, end_line}
use Rattle.kmip_pem.specs.Written.{cut_at_64, lines_of_64, body_text, pem_text}

-- ---- the first line

abbrev end_of : List ℕ → ℕ
end_of text = position_or_len is_line_end text

ends_now : (a : ℕ) (text : List ℕ) → is_line_end a ≡ true → end_of (a ∷ text) ≡ 0
ends_now a text t = ap (λ b. cond (not b) (1 + end_of text) 0) t

ends_later : (a : ℕ) (text : List ℕ) → is_line_end a ≡ false → end_of (a ∷ text) ≡ suc (end_of text)
ends_later a text f =
    let one : 1 + end_of text ≡ suc (end_of text) = omega arith in
    ap (λ b. cond (not b) (1 + end_of text) 0) f ∙ one

cut_now : (a : ℕ) (text : List ℕ) → is_line_end a ≡ true → cut (a ∷ text) ≡ [] ∷ cut text
cut_now a text t = ap (λ b. cond b ([] ∷ cut text) (onto_first a (cut text))) t

cut_later : (a : ℕ) (text : List ℕ) → is_line_end a ≡ false → cut (a ∷ text) ≡ onto_first a (cut text)
cut_later a text f = ap (λ b. cond b ([] ∷ cut text) (onto_first a (cut text))) f

abbrev IsCutAt : List ℕ → ℕ → Type 0
IsCutAt text n = cut text ≡ take n text ∷ cut (drop (n + 1) text)

cut_further : (a : ℕ) (text : List ℕ) (n : ℕ) → is_line_end a ≡ false → IsCutAt text n → IsCutAt (a ∷ text) (suc n)
cut_further a text n f h =
    let here : cut (a ∷ text) ≡ take (suc n) (a ∷ text) ∷ cut (drop (suc (n + 1)) (a ∷ text)) =
    cut_later a text f ∙ ap (onto_first a) h in
    let more : suc (n + 1) ≡ suc n + 1 = omega arith in
    here ∙ ap (λ k. take (suc n) (a ∷ text) ∷ cut (drop k (a ∷ text))) more

cut_at : (text : List ℕ) → end_of text < length text → IsCutAt text (end_of text)
cut_at [] h = absurd (omega arith)
cut_at (a ∷ text) h =
    let P : ℕ → Type 0 = λ n. IsCutAt (a ∷ text) n in
    let Q : ℕ → Type 0 = λ n. n < suc (length text) in
    by_test (is_line_end a)
    (λ t. subst P (sym (ends_now a text t)) (cut_now a text t))
    (λ f.
    let long : suc (end_of text) < suc (length text) = subst Q (ends_later a text f) h in
    subst P (sym (ends_later a text f)) (cut_further a text (end_of text) f (cut_at text (omega arith))))

cut_none : (text : List ℕ) → length text ≤ end_of text → 0 < length text → cut text ≡ text ∷ []
cut_none [] h l = absurd (omega arith)
cut_none (a ∷ []) h l =
    let Q : ℕ → Type 0 = λ n. 1 ≤ n in
    by_test (is_line_end a)
    (λ t. let none : 1 ≤ 0 = subst Q (ends_now a [] t) h in absurd (omega arith))
    (λ f. cut_later a [] f)
cut_none (a ∷ b ∷ text) h l =
    let Q : ℕ → Type 0 = λ n. suc (length (b ∷ text)) ≤ n in
    by_test (is_line_end a)
    (λ t. let none : suc (length (b ∷ text)) ≤ 0 = subst Q (ends_now a (b ∷ text) t) h in absurd (omega arith))
    (λ f.
    let long : suc (length (b ∷ text)) ≤ suc (end_of (b ∷ text)) = subst Q (ends_later a (b ∷ text) f) h in
    cut_later a (b ∷ text) f ∙ ap (onto_first a) (cut_none (b ∷ text) (omega arith) (omega arith)))

first_ends : (text : List ℕ) (end : ℕ) → Some end ≡ position is_line_end text → IsCutAt text end × (end < length text)
first_ends text end h =
    let c = cond_some (nat_lt (end_of text) (length text)) (end_of text) end (sym h) in
    let lt : end_of text < length text = ltb-true (end_of text) (length text) c.0 in
    let P : ℕ → Type 0 = λ n. IsCutAt text n in
    let Q : ℕ → Type 0 = λ n. n < length text in
    (subst P c.1 (cut_at text lt), subst Q c.1 lt)

pub first_within : (text : List ℕ) (end : ℕ) → Some end ≡ position is_line_end text → end < length text
first_within text end h = (first_ends text end h).1

pub lines_first : (text : List ℕ) (end : ℕ) → Some end ≡ position is_line_end text
    → lines_in text ≡ trimmed (take end text) ∷ lines_in (drop (end + 1) text)
unfolding lines_in
lines_first text end h = ap (map trimmed) (first_ends text end h).0

beyond : (text : List ℕ) → None ≡ position is_line_end text → length text ≤ end_of text
beyond text h =
    by_test (nat_lt (end_of text) (length text))
    (λ t. absurd (none-some (end_of text) (h ∙ ap (λ b. cond b (Some (end_of text)) None) t)))
    (λ f. ltb-false (end_of text) (length text) f)

pub lines_last : (text : List ℕ) → None ≡ position is_line_end text → 0 < length text
    → lines_in text ≡ trimmed text ∷ lines_in (drop (length text) text)
unfolding lines_in
lines_last text h l =
    let none : cut (drop (length text) text) ≡ [] = ap cut (drop_all (length text) text (omega arith)) in
    ap (map trimmed) (cut_none text (beyond text h) l) ∙ ap (λ xs. trimmed text ∷ map trimmed xs) (sym none)

pub no_lines : (text : List ℕ) → length text ≤ 0 → lines_in text ≡ []
unfolding lines_in
no_lines [] h = refl
no_lines (a ∷ text) h = absurd (omega arith)

-- ---- digits

pub digits_none : (o : Option (List ℕ)) → before_digits [] o ≡ o
unfolding before_digits
digits_none None = refl
digits_none (Some more) = refl

pub digits_more : (digits line : List ℕ) (o : Option (List ℕ))
    → before_digits (digits ++ line) o ≡ before_digits digits (before_digits line o)
unfolding before_digits
digits_more digits line None = refl
digits_more digits line (Some more) = ap Some (append_assoc digits line more)

pub digits_absent : (line : List ℕ) → before_digits line None ≡ None
unfolding before_digits
digits_absent line = refl

pub digits_end : (digits : List ℕ) → before_digits digits (Some []) ≡ Some digits
unfolding before_digits
digits_end digits = ap Some (append-nil digits)

-- ---- lines of 64

fuel_same : (n m : ℕ) (digits : List ℕ) → length digits ≤ n → length digits ≤ m
    → cut_at_64 n digits ≡ cut_at_64 m digits
fuel_same zero zero digits h k = refl
fuel_same zero (suc m) [] h k = refl
fuel_same zero (suc m) (a ∷ digits) h k = absurd (omega arith)
fuel_same (suc n) zero [] h k = refl
fuel_same (suc n) zero (a ∷ digits) h k = absurd (omega arith)
fuel_same (suc n) (suc m) [] h k = refl
fuel_same (suc n) (suc m) (a ∷ digits) h k =
    let rest : List ℕ = drop 64 (a ∷ digits) in
    let short : length rest ≤ length digits = omega (arith, length-drop 64 (a ∷ digits)) in
    ap (λ lines. take 64 (a ∷ digits) ∷ lines) (fuel_same n m rest (omega arith) (omega arith))

lines_more : (digits : List ℕ) → 0 < length digits
    → lines_of_64 digits ≡ take 64 digits ∷ lines_of_64 (drop 64 digits)
lines_more [] h = absurd (omega arith)
lines_more (a ∷ digits) h =
    let rest : List ℕ = drop 64 (a ∷ digits) in
    let short : length rest ≤ length digits = omega (arith, length-drop 64 (a ∷ digits)) in
    let same : length rest ≤ length rest = omega arith in
    ap (λ lines. take 64 (a ∷ digits) ∷ lines) (fuel_same (length digits) (length rest) rest short same)

pub push_more : (out digits : List ℕ) → 0 < length digits
    → ((out ++ take (min 64 (length digits)) digits) ++ (10 ∷ [])) ++ body_text (drop (min 64 (length digits)) digits)
    ≡ out ++ body_text digits
unfolding body_text
push_more out digits h =
    let line : List ℕ = take 64 digits in
    let more : List ℕ = text_of (lines_of_64 (drop 64 digits)) in
    ap (λ xs. ((out ++ xs) ++ (10 ∷ [])) ++ text_of (lines_of_64 (drop (min 64 (length digits)) digits))) (take_min 64 digits)
    ∙ (ap (λ xs. ((out ++ line) ++ (10 ∷ [])) ++ text_of (lines_of_64 xs)) (drop_min 64 digits)
    ∙ (append_assoc (out ++ line) (10 ∷ []) more
    ∙ (append_assoc out line (10 ∷ more)
    ∙ ap (λ lines. out ++ text_of lines) (sym (lines_more digits h)))))

pub body_end : (out digits : List ℕ) → length digits ≤ 0 → out ++ body_text digits ≡ out
unfolding body_text
body_end out [] h = append-nil out
body_end out (a ∷ digits) h = absurd (omega arith)

-- ---- the whole text

text_append : (xs ys : List (List ℕ)) → text_of (xs ++ ys) ≡ text_of xs ++ text_of ys
text_append [] ys = refl
text_append (line ∷ xs) ys =
    ap (λ t. line ++ (10 ∷ t)) (text_append xs ys) ∙ sym (append_assoc line (10 ∷ text_of xs) (text_of ys))

around : (begin end : List ℕ) (lines : List (List ℕ))
    → ((begin ++ (10 ∷ [])) ++ text_of lines) ++ (end ++ (10 ∷ [])) ≡ text_of (begin ∷ (lines ++ (end ∷ [])))
around begin end lines =
    let body : List ℕ = text_of lines in
    let last : List ℕ = end ++ (10 ∷ []) in
    append_assoc (begin ++ (10 ∷ [])) body last
    ∙ (append_assoc begin (10 ∷ []) (body ++ last)
    ∙ ap (λ t. begin ++ (10 ∷ t)) (sym (text_append lines (end ∷ []))))

pub written_by : (label : Label) (bytes : List ℕ)
    → ((begin_line (label_text label) ++ (10 ∷ [])) ++ body_text (encode_of standard bytes))
    ++ (end_line (label_text label) ++ (10 ∷ [])) ≡ pem_text label bytes
unfolding body_text
written_by label bytes =
    around (begin_line (label_text label)) (end_line (label_text label)) (lines_of_64 (encode_of standard bytes))

pub joined_text : (begin body end a b c d : List ℕ) → a ≡ [] → b ≡ a ++ begin → c ≡ b ++ body → d ≡ c ++ end
    → d ≡ (begin ++ body) ++ end
joined_text begin body end a b c d e f g h =
    h ∙ ap (λ x. x ++ end) (g ∙ ap (λ x. x ++ body) (f ∙ ap (λ x. x ++ begin) e))
