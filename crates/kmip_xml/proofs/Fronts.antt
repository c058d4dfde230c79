-- What stands at the front of a text, and what follows it.
use Rattle.std.proofs.Common.{◌≡◌, ℕ, zero, suc, ◌+◌, ◌<◌, ◌≤◌, Bool, true, false, cond, ◌==◌, List, [], ◌∷◌, ◌++◌, length, drop, take, get_or, codes, Option, Some, None, option_map, refl, sym, ap, ◌∙◌, arith, add-one, Bor, IsUtf8, ◌≢◌}
use Rattle.std.specs.Prelude.{nat_lt, MatchOption}
use Rattle.std.specs.List.{prefix_len, position_or_len, before_first, after_first, starts_with}
use Rattle.std.specs.Str.{IsCharBoundary}
use Rattle.std.specs.Str.Pattern.{FindsText, FindsTextPrefix, StripsPrefix, SplitsAroundMatch}
use Rattle.std.proofs.lemmas.Bool.Decides.{nat_tests, Decides-eqb}
use Rattle.std.proofs.Math.Seq.{drop-append_seam}
use Rattle.std.proofs.lemmas.List.Sums.{prefix_len-le-length, prefix_len_passes}
use Rattle.std.proofs.lemmas.Slice.Eq.{starts_is}
use Rattle.std.proofs.lemmas.Str.{IsCharBoundary-start, IsCharBoundary-after_ascii}
use Rattle.kmip_xml.specs.Scan.{is_space, is_in_word, after, around}
use Rattle.kmip_xml.specs.Markup.{after_dashes, after_dashes_by}

-- ---- a run of bytes of ASCII ends where a character does

after_run : (p : ℕ → Bool) (bs : List ℕ) (n : ℕ) → prefix_len p bs ≡ n → IsUtf8 bs
    → ((c : ℕ) → p c ≡ true → c < 128) → IsCharBoundary bs n
after_run p bs zero e utf8 ascii = IsCharBoundary-start bs utf8
after_run p bs (suc k) e utf8 ascii =
    rw (← add-one) (IsCharBoundary-after_ascii bs k utf8 (omega (arith, prefix_len-le-length p bs))
    (ascii _ (prefix_len_passes p bs k 0 (omega arith))))

pub space_ends : (bs : List ℕ) → IsUtf8 bs → IsCharBoundary bs (prefix_len is_space bs)
space_ends bs utf8 = after_run is_space bs _ refl utf8 (λ c e. grind (arith, nat_tests))

pub word_ends : (bs : List ℕ) → IsUtf8 bs → IsCharBoundary bs (prefix_len is_in_word bs)
word_ends bs utf8 = after_run is_in_word bs _ refl utf8 (λ c e. grind (arith, nat_tests))

-- ---- a text at the front

taken : {A : Type 0} (b : Bool) (x : A) → b ≡ true → cond b (Some x) None ≡ Some x
taken b x e = rw e refl

not_taken : {A : Type 0} (b : Bool) (x : A) → (b ≡ true → ⊥) → cond b (Some x) None ≡ None
not_taken true x h = absurd (h refl)
not_taken false x h = refl

pub after_some : (front s rest : List ℕ) → s ≡ front ++ rest → after front s ≡ Some rest
unfolding after
after_some front s rest e =
    taken (starts_with (λ a b. a == b) s front) (drop (length front) s)
    ((starts_is Decides-eqb s front (starts_with (λ a b. a == b) s front) refl).1 rest e)
    ∙ ap Some (ap (drop (length front)) e ∙ drop-append_seam front rest)

pub after_none : (front s : List ℕ) → ((rest : List ℕ) → s ≢ front ++ rest) → after front s ≡ None
unfolding after
after_none front s h =
    not_taken (starts_with (λ a b. a == b) s front) (drop (length front) s)
    (λ e. h (drop (length front) s)
    ((starts_is Decides-eqb s front (starts_with (λ a b. a == b) s front) refl).0 e))

-- what `strip_prefix` gives
pub stripped : (front s : List ℕ) (r : Option (Bor (List ℕ)))
    → MatchOption r (FindsTextPrefix front s None) (λ x. StripsPrefix (FindsTextPrefix front) s x.now)
    → option_map (λ x. x.now) r ≡ after front s
stripped front s None h = sym (after_none front s h)
stripped front s (Some x) (n, f, e, l) =
    sym (after_some front s x.now (f.1 ∙ ap (λ t. front ++ t) (sym e)))

-- ---- the first of a character

-- what `split_once` gives
pub cut : (c : ℕ) (s : List ℕ) (r : Option (Bor (List ℕ) × Bor (List ℕ)))
    → MatchOption r (position_or_len (λ b. b == c) s ≡ length s)
    (λ x. (position_or_len (λ b. b == c) s < length s) × (x.0.now ≡ before_first (λ b. b == c) s)
    × (x.1.now ≡ after_first (λ b. b == c) s))
    → option_map (λ x. (x.0.now, x.1.now)) r ≡ around c s
unfolding around
cut c s None h =
    sym (not_taken (nat_lt (position_or_len (λ b. b == c) s) (length s)) _ (λ e. grind (arith, nat_tests)))
cut c s (Some x) (lt, a, b) =
    ap Some (rw (a, b) refl)
    ∙ sym (taken (nat_lt (position_or_len (λ b. b == c) s) (length s))
    (before_first (λ b. b == c) s, after_first (λ b. b == c) s) (grind (arith, nat_tests)))

-- ---- the first two dashes

dashes_at : (s rest : List ℕ) (i : ℕ)
    → ((k : ℕ) → k < i → (r : List ℕ) → drop k s ≢ codes "--" ++ r)
    → drop i s ≡ codes "--" ++ rest → after_dashes s ≡ Some rest
dashes_at [] rest zero lacks e = absurd cc
dashes_at [] rest (suc i) lacks e = absurd cc
dashes_at (c ∷ s) rest zero lacks e =
    ap (λ o. after_dashes_by o (after_dashes s)) (after_some (codes "--") (c ∷ s) rest e)
dashes_at (c ∷ s) rest (suc i) lacks e =
    ap (λ o. after_dashes_by o (after_dashes s)) (after_none (codes "--") (c ∷ s) (lacks 0 (omega arith)))
    ∙ dashes_at s rest i (λ k h. lacks (suc k) (omega arith)) e

dashes_none : (s : List ℕ) → ((k : ℕ) → k ≤ length s → (r : List ℕ) → drop k s ≢ codes "--" ++ r)
    → after_dashes s ≡ None
dashes_none [] lacks = refl
dashes_none (c ∷ s) lacks =
    ap (λ o. after_dashes_by o (after_dashes s)) (after_none (codes "--") (c ∷ s) (lacks 0 (omega arith)))
    ∙ dashes_none s (λ k h. lacks (suc k) (omega arith))

-- what `split_once` gives
pub dashed : (s : List ℕ) (r : Option (Bor (List ℕ) × Bor (List ℕ)))
    → MatchOption r (FindsText (codes "--") s None)
    (λ x. SplitsAroundMatch (FindsText (codes "--")) s x.0.now x.1.now)
    → option_map (λ x. x.1.now) r ≡ after_dashes s
dashed s None h = sym (dashes_none s h)
dashed s (Some x) (i, j, f, a, b, le, m, n) =
    sym (dashes_at s x.1.now i f.0 (f.1.split ∙ ap (λ t. codes "--" ++ t) (sym b)))
