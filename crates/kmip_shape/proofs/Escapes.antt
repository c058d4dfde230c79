-- Characters of a text, shown byte for byte.
use Rattle.std.proofs.Common.{◌≡◌, ℕ, ◌+◌, ◌≤◌, ◌<◌, ◌/◌, Bool, true, false, cond, List, [], ◌∷◌, ◌++◌, refl, sym, append-nil, arith, ltb, le-ltb, flat_map}
use Rattle.std.proofs.lemmas.Bool.Decides.{nat_tests}
use Rattle.std.proofs.lemmas.Str.{encode_ascii}
use Rattle.std.specs.Char.{encode_utf8}
use lib.Utf8.{next}
use Rattle.kmip_shape.specs.declared.style.Style.{Style}
use Rattle.kmip_shape.specs.Shown.{Growing, Grows, always, control_mark, escape, hex_byte}
use Rattle.kmip_shape.proofs.Growth.{in_style}

abbrev AreHigh : List ℕ → Type 0
AreHigh [] = Unit {0}
AreHigh (b ∷ bs) = (128 ≤ b) × AreHigh bs

unchanged : (o : Style) (b : ℕ) → (b ≡ 34 → ⊥) → (b ≡ 92 → ⊥) → 32 ≤ b → (b ≡ 127 → ⊥) → escape o b ≡ b ∷ []
unchanged o b q s l d = grind (arith, nat_tests)

kept : (o : Style) (bs : List ℕ) → AreHigh bs → flat_map (escape o) bs ≡ bs
kept o [] h = refl
kept o (b ∷ bs) h =
    let l : 128 ≤ b = h.0 in
    rw (unchanged o b (λ e. omega arith) (λ e. omega arith) (omega arith) (λ e. omega arith), kept o bs h.1) refl

wide : (o : Style) (c : ℕ) → 128 ≤ c → flat_map (escape o) (encode_utf8 c) ≡ encode_utf8 c
unfolding encode_utf8
wide o c h = rw (le-ltb c 128 h) (kept o _ (high (ltb c 2048) (ltb c 65536)))
  where
    high : (a b : Bool) → AreHigh
        (cond a ((192 + c / 64) ∷ next c ∷ [])
        (cond b ((224 + c / 4096) ∷ next (c / 64) ∷ next c ∷ [])
        ((240 + c / 262144) ∷ next (c / 4096) ∷ next (c / 64) ∷ next c ∷ [])))
    high true b = (omega arith, (omega arith, tt))
    high false true = (omega arith, (omega arith, (omega arith, tt)))
    high false false = (omega arith, (omega arith, (omega arith, (omega arith, tt))))

pub quote : {a b : Growing} → Grows a b (always (92 ∷ 34 ∷ [])) → Grows a b (λ o. flat_map (escape o) (encode_utf8 34))
unfolding encode_utf8
quote {a} {b} p = p

pub backslash : {a b : Growing} → Grows a b (always (92 ∷ 92 ∷ []))
    → Grows a b (λ o. flat_map (escape o) (encode_utf8 92))
unfolding encode_utf8
backslash {a} {b} p = p

escaped_control : (o : Style) (c : ℕ) → c < 32 → flat_map (escape o) (encode_utf8 c) ≡ control_mark o ++ hex_byte c
escaped_control o c h =
    let e : escape o c ≡ control_mark o ++ hex_byte c = grind (arith, nat_tests) in
    rw (encode_ascii c (omega arith), e) (append-nil (control_mark o ++ hex_byte c))

pub control : {a b : Growing} (c : ℕ) → c < 32 → Grows a b (λ o. control_mark o ++ hex_byte c)
    → Grows a b (λ o. flat_map (escape o) (encode_utf8 c))
control {a} {b} c h p = in_style {x = λ o. control_mark o ++ hex_byte c}
    {y = λ o. flat_map (escape o) (encode_utf8 c)} (sym (escaped_control a.style c h)) p

pub delete : {a b : Growing} → Grows a b (λ o. control_mark o ++ hex_byte 127)
    → Grows a b (λ o. flat_map (escape o) (encode_utf8 127))
unfolding encode_utf8
delete {a} {b} p = in_style {x = λ o. control_mark o ++ hex_byte 127}
    {y = λ o. flat_map (escape o) (encode_utf8 127)} (same a.style) p
  where
    same : (o : Style) → control_mark o ++ hex_byte 127 ≡ flat_map (escape o) (encode_utf8 127)
    same o = sym (append-nil (control_mark o ++ hex_byte 127))

pub plain : {a b : Growing} (c : ℕ) → (c ≡ 34 → ⊥) → (c ≡ 92 → ⊥) → 32 ≤ c → (c ≡ 127 → ⊥)
    → Grows a b (always (encode_utf8 c)) → Grows a b (λ o. flat_map (escape o) (encode_utf8 c))
plain {a} {b} c q s l d p = in_style {x = always (encode_utf8 c)}
    {y = λ o. flat_map (escape o) (encode_utf8 c)} (sym (go (ltb c 128) refl)) p
  where
    go : (t : Bool) → ltb c 128 ≡ t → flat_map (escape a.style) (encode_utf8 c) ≡ encode_utf8 c
    go true e = let h : c < 128 = grind arith in rw (encode_ascii c h, unchanged a.style c q s l d) refl
    go false e = let h : 128 ≤ c = grind arith in wide a.style c h
