-- Characters of a text, with their escapes.
use Rattle.std.proofs.Common.{◌≡◌, ◌≢◌, ℕ, ◌+◌, ◌≤◌, ◌<◌, ◌/◌, Bool, true, false, cond, List, [], ◌∷◌, ◌++◌, length, Result, Ok, Err, OnOk, is_ok, refl, sym, ap, ◌∙◌, append_assoc, append-nil, arith, ltb, le-ltb, flat_map, codes}
use Rattle.std.proofs.lemmas.Bool.Decides.{nat_tests}
use Rattle.std.proofs.lemmas.Grind.{flat_map-append}
use Rattle.std.proofs.lemmas.Str.{encode_ascii}
use Rattle.std.specs.Char.{encode_utf8}
use lib.Utf8.{next}
use Rattle.kmip_calls.specs.Written.{escaped}

pub percent : flat_map escaped (encode_utf8 37) ≡ codes "%25"
unfolding encode_utf8
percent = refl

pub equals : flat_map escaped (encode_utf8 61) ≡ codes "%3D"
unfolding encode_utf8
equals = refl

abbrev AreHigh : List ℕ → Type 0
AreHigh [] = Unit {0}
AreHigh (b ∷ bs) = (128 ≤ b) × AreHigh bs

unchanged : (b : ℕ) → b ≢ 37 → b ≢ 61 → escaped b ≡ b ∷ []
unchanged b p e = grind (arith, nat_tests)

kept : (bs : List ℕ) → AreHigh bs → flat_map escaped bs ≡ bs
kept [] h = refl
kept (b ∷ bs) h =
    let l : 128 ≤ b = h.0 in
    rw (unchanged b (λ e. omega arith) (λ e. omega arith), kept bs h.1) refl

wide : (c : ℕ) → 128 ≤ c → flat_map escaped (encode_utf8 c) ≡ encode_utf8 c
unfolding encode_utf8
wide c h = rw (le-ltb c 128 h) (kept _ (high (ltb c 2048) (ltb c 65536)))
  where
    high : (a b : Bool) → AreHigh
        (cond a ((192 + c / 64) ∷ next c ∷ [])
        (cond b ((224 + c / 4096) ∷ next (c / 64) ∷ next c ∷ [])
        ((240 + c / 262144) ∷ next (c / 4096) ∷ next (c / 64) ∷ next c ∷ [])))
    high true b = (omega arith, (omega arith, tt))
    high false true = (omega arith, (omega arith, (omega arith, tt)))
    high false false = (omega arith, (omega arith, (omega arith, (omega arith, tt))))

pub other : (c : ℕ) → c ≢ 37 → c ≢ 61 → flat_map escaped (encode_utf8 c) ≡ encode_utf8 c
other c p e = go (ltb c 128) refl
  where
    go : (t : Bool) → ltb c 128 ≡ t → flat_map escaped (encode_utf8 c) ≡ encode_utf8 c
    go true is = let h : c < 128 = grind arith in rw (encode_ascii c h, unchanged c p e) refl
    go false is = let h : 128 ≤ c = grind arith in wide c h

-- what was pushed, where that succeeded
pub pushed : {U E : Type 0} (result : Result U E) (new old first same : List ℕ) →
    new ≡ cond (is_ok result) (old ++ first) old → same ≡ first →
    OnOk result (new ≡ old ++ same)
pushed (Ok u) new old first same is e = is ∙ ap (λ x. old ++ x) (sym e)
pushed (Err error) new old first same is e = tt

-- ---- the characters of a text, one after the other

pub more_escaped : (out new all first rest : List ℕ) → all ≡ first ++ rest →
    new ≡ out ++ flat_map escaped first →
    out ++ flat_map escaped all ≡ new ++ flat_map escaped rest
more_escaped out new all first rest e n =
    ap (λ x. out ++ flat_map escaped x) e
    ∙ ap (λ x. out ++ x) (flat_map-append escaped first rest)
    ∙ sym (append_assoc out (flat_map escaped first) (flat_map escaped rest))
    ∙ ap (λ x. x ++ flat_map escaped rest) (sym n)

pub all_escaped : (out rest : List ℕ) → length rest ≡ 0 → out ++ flat_map escaped rest ≡ out
all_escaped out [] e = append-nil out
all_escaped out (x ∷ rest) e = absurd (omega (arith, e))
