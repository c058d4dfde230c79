-- The first block that begins in lines.
use Rattle.std.proofs.Common.{◌≡◌, ℕ, true, false, ◌&&◌, List, [], ◌∷◌, ◌++◌, Option, Some, None, refl, sym, ap, ◌∙◌}
use Rattle.std.specs.Option.{option_or}
use Rattle.std.specs.List.{list_all}
use Rattle.std.proofs.lemmas.Bool.{and_parts}
use Rattle.std.proofs.lemmas.Option.{none-some, same_Some}
use Rattle.kmip_pem.specs.Labels.{begin_line, begun_by, is_of_parameters}
use Rattle.kmip_pem.specs.Pem.{Begun, is_closed, is_aside, begun_unless_aside, first_begun}
use Rattle.kmip_pem.proofs.Tests.{by_test}
use Rattle.kmip_pem.proofs.Marks.{begin_begins, begun_is}
use Rattle.kmip_pem.proofs.Plain.{is_plain, plain_begins_none}

-- where another block begins behind lines, they close what they close without it
closed_same : (label other : List ℕ) (lines rest : List (List ℕ))
    → is_closed label (lines ++ (begin_line other ∷ rest)) ≡ is_closed label lines
closed_same label other [] rest = rw (begin_begins other) refl
closed_same label other (line ∷ lines) rest = rw (closed_same label other lines rest) refl

aside_same : (label other : List ℕ) (lines rest : List (List ℕ))
    → is_aside label (lines ++ (begin_line other ∷ rest)) ≡ is_aside label lines
aside_same label other lines rest = ap (λ b. is_of_parameters label && b) (closed_same label other lines rest)

unless_same : (found : Option (List ℕ)) (other : List ℕ) (lines rest : List (List ℕ))
    → begun_unless_aside found lines ≡ None → begun_unless_aside found (lines ++ (begin_line other ∷ rest)) ≡ None
unless_same None other lines rest h = refl
unless_same (Some label) other lines rest h =
    by_test (is_aside label lines)
    (λ t. let s = aside_same label other lines rest ∙ t in rw s refl)
    (λ f. absurd (none-some _ (sym (rw f at h))))

unless_same_back : (found : Option (List ℕ)) (other : List ℕ) (lines rest : List (List ℕ))
    → begun_unless_aside found (lines ++ (begin_line other ∷ rest)) ≡ None → begun_unless_aside found lines ≡ None
unless_same_back None other lines rest h = refl
unless_same_back (Some label) other lines rest h =
    by_test (is_aside label lines)
    (λ t. rw t refl)
    (λ f. let s = aside_same label other lines rest ∙ f in absurd (none-some _ (sym (rw s at h))))

neither : (o p : Option Begun) → option_or o p ≡ None → (o ≡ None) × (p ≡ None)
neither None p h = (refl, h)
neither (Some b) p h = absurd (none-some b (sym h))

both_none : (o p : Option Begun) → o ≡ None → p ≡ None → option_or o p ≡ None
both_none o p e f = rw e f

step : (line : List ℕ) (lines : List (List ℕ)) → first_begun (line ∷ lines) ≡ None
    → (begun_unless_aside (begun_by line) lines ≡ None) × (first_begun lines ≡ None)
step line lines h = neither (begun_unless_aside (begun_by line) lines) (first_begun lines) h

abbrev begun : List ℕ → List (List ℕ) → Option Begun
begun label behind = Some (record { label = label; behind = behind })

here : (label : List ℕ) (rest : List (List ℕ)) → is_of_parameters label ≡ false
    → begun_unless_aside (Some label) rest ≡ begun label rest
here label rest p = rw p refl

pub first_found : (label : List ℕ) (before rest : List (List ℕ)) → is_of_parameters label ≡ false
    → first_begun before ≡ None → first_begun (before ++ (begin_line label ∷ rest)) ≡ begun label rest
first_found label [] rest p h =
    ap (λ o. option_or (begun_unless_aside o rest) (first_begun rest)) (begin_begins label)
    ∙ ap (λ o. option_or o (first_begun rest)) (here label rest p)
first_found label (line ∷ before) rest p h =
    let s = step line before h in
    let same = unless_same (begun_by line) label before rest s.0 in
    ap (λ o. option_or o (first_begun (before ++ (begin_line label ∷ rest)))) same
    ∙ first_found label before rest p s.1

pub none_behind : (before : List (List ℕ)) (line : List ℕ) (after : List (List ℕ))
    → first_begun (before ++ (line ∷ after)) ≡ None → first_begun after ≡ None
none_behind [] line after h = (step line after h).1
none_behind (other ∷ before) line after h =
    none_behind before line after (step other (before ++ (line ∷ after)) h).1

pub plain_passed : (body rest : List (List ℕ)) → list_all (list_all is_plain) body ≡ true
    → first_begun (body ++ rest) ≡ first_begun rest
plain_passed [] rest h = refl
plain_passed (line ∷ body) rest h =
    let parts = and_parts (list_all is_plain line) (list_all (list_all is_plain) body) h in
    ap (λ o. option_or (begun_unless_aside o (body ++ rest)) (first_begun (body ++ rest)))
    (plain_begins_none line parts.0)
    ∙ plain_passed body rest parts.1

-- ---- and back: the lines before the first block, and its own

abbrev pub Split : List (List ℕ) → Begun → Type 0
Split lines block =
    (before : List (List ℕ)) × (lines ≡ before ++ (begin_line block.label ∷ block.behind)) × (first_begun before ≡ None)

label_of : (found : Option (List ℕ)) (lines : List (List ℕ)) (block : Begun)
    → begun_unless_aside found lines ≡ Some block → (found ≡ Some block.label) × (lines ≡ block.behind)
label_of None lines block h = absurd (none-some block h)
label_of (Some label) lines block h =
    by_test (is_aside label lines)
    (λ t. absurd (none-some block (rw t at h)))
    (λ f.
    let e = same_Some _ block (rw f at h) in
    (ap (λ (b : Begun). Some b.label) e, ap (λ (b : Begun). b.behind) e))

split_here : (line : List ℕ) (lines : List (List ℕ)) (block : Begun)
    → begun_unless_aside (begun_by line) lines ≡ Some block → Split (line ∷ lines) block
split_here line lines block h =
    let e = label_of (begun_by line) lines block h in
    let l : line ≡ begin_line block.label = begun_is line block.label e.0 in
    ([], ap (λ x. x ∷ lines) l ∙ ap (λ xs. begin_line block.label ∷ xs) e.1, refl)

split_later : (line : List ℕ) (lines : List (List ℕ)) (block : Begun)
    → begun_unless_aside (begun_by line) lines ≡ None → Split lines block → Split (line ∷ lines) block
split_later line lines block n s =
    let there = ap (begun_unless_aside (begun_by line)) (sym s.1) ∙ n in
    let first = unless_same_back (begun_by line) block.label s.0 block.behind there in (
      line ∷ s.0,
      ap (λ xs. line ∷ xs) s.1,
      both_none (begun_unless_aside (begun_by line) s.0) (first_begun s.0) first s.2,
    )

split_by : (line : List ℕ) (lines : List (List ℕ)) (block : Begun) (o : Option Begun)
    → begun_unless_aside (begun_by line) lines ≡ o → option_or o (first_begun lines) ≡ Some block
    → (first_begun lines ≡ Some block → Split lines block) → Split (line ∷ lines) block
split_by line lines block None e h k = split_later line lines block e (k h)
split_by line lines block (Some other) e h k = split_here line lines block (e ∙ h)

pub first_split : (lines : List (List ℕ)) (block : Begun) → first_begun lines ≡ Some block → Split lines block
first_split [] block h = absurd (none-some block h)
first_split (line ∷ lines) block h =
    split_by line lines block (begun_unless_aside (begun_by line) lines) refl h (first_split lines block)
