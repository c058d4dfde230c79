-- What bytes show, step by step, and that it is what the relation says.
use Rattle.std.proofs.Common.{◌≡◌, refl, sym, ◌∙◌, ap, arith, ℕ, zero, suc, ◌+◌, ◌≤◌, ◌<◌, Bool, true, false, List, [], ◌∷◌, ◌++◌, length, take, drop, Option, Some, None, MatchOption, option_map, leb, ◌&&◌}
use Rattle.std.proofs.lemmas.Bool.{leb-true, le-leb, eqb-true, eq-eqb}
use Rattle.std.proofs.lemmas.Option.{cond_some, none-some, same_Some}
use Rattle.std.proofs.lemmas.List.{append_assoc, append-nil, length-drop}
use Rattle.kmip_wire.specs.Tree.{Tree}
use Rattle.kmip_wire.specs.Head.{head_tag, head_code, size_at, value_of}
use Rattle.kmip_wire.specs.Parses.{Parses, NoFront}
use Rattle.kmip_wire.specs.Reading.{front_at}
use Rattle.kmip_diag.specs.declared.token.Token.{Token}
use Rattle.kmip_diag.specs.declared.token.Token.TheVariants.{Open}
use Rattle.kmip_diag.specs.Skeleton.{skeleton}
use Rattle.kmip_diag.specs.Printed.{printed, printed_tag}
use Rattle.kmip_diag.specs.Tokens.{token_text}
use Rattle.kmip_diag.specs.Diagnostic.{Shown, ended, stopped, item, cut_off, OpensAt, Shows, shown_text, IsDiagnostic, opening_tag, shown_by, shown_at, shown_within, diagnostic}
use Rattle.kmip_diag.proofs.Wire.{front_rule, value_shorter}

-- fuel above the length is enough
same_fuel : (f g level : ℕ) (b : List ℕ) → length b < f → length b < g → shown_at f level b ≡ shown_at g level b
same_fuel zero g level b h k = absurd (omega (arith, h))
same_fuel (suc f) zero level b h k = absurd (omega (arith, k))
same_fuel (suc f) (suc g) level [] h k = refl
same_fuel (suc f) (suc g) level (x ∷ xs) h k =
    let short = length-drop (size_at (x ∷ xs)) (x ∷ xs)
    in let shorter = value_shorter (x ∷ xs) (omega arith)
    in let rest = same_fuel f g level (drop (size_at (x ∷ xs)) (x ∷ xs)) (omega (arith, h, short))
    (omega (arith, k, short))
    in let inner = same_fuel f g (level + 1) (value_of (x ∷ xs)) (omega (arith, h, shorter)) (omega (arith, k, shorter))
    in λ i. shown_by (front_at level (x ∷ xs)) (opening_tag level (x ∷ xs)) (rest i) (inner i)

shown_step : (level : ℕ) (b : List ℕ) → 0 < length b
    → shown_within level b ≡ shown_by (front_at level b) (opening_tag level b)
    (shown_within level (drop (size_at b) b)) (shown_within (level + 1) (value_of b))
unfolding shown_within
shown_step level [] some = absurd (omega (arith, some))
shown_step level (x ∷ xs) some =
    let short = length-drop (size_at (x ∷ xs)) (x ∷ xs)
    in let shorter = value_shorter (x ∷ xs) some
    in let rest = same_fuel (length (x ∷ xs))
    (suc (length (drop (size_at (x ∷ xs)) (x ∷ xs)))) level (drop (size_at (x ∷ xs)) (x ∷ xs))
    (omega (arith, short)) (omega arith)
    in let inner = same_fuel (length (x ∷ xs)) (suc (length (value_of (x ∷ xs)))) (level + 1)
    (value_of (x ∷ xs)) (omega (arith, shorter)) (omega arith)
    in λ i. shown_by (front_at level (x ∷ xs)) (opening_tag level (x ∷ xs)) (rest i) (inner i)

shown_end : (level : ℕ) (b : List ℕ) → b ≡ [] → shown_within level b ≡ ended
unfolding shown_within
shown_end level b e = ap (λ x. shown_at (suc (length x)) level x) e

both : (x y : Bool) → (x && y) ≡ true → (x ≡ true) × (y ≡ true)
both true y e = (refl, e)
both false y e = absurd cc

pub opened_says : (level : ℕ) (b : List ℕ) (tag : ℕ) → opening_tag level b ≡ Some tag
    → OpensAt level b × (tag ≡ head_tag b)
opened_says level b tag e =
    let w = cond_some _ (head_tag b) tag e
    in let l = both (leb level 64) _ w.0
    in let r = both (leb 8 (length b)) _ l.1
    in ((leb-true level 64 l.0, leb-true 8 (length b) r.0, eqb-true _ _ r.1), sym w.1)

pub opened_where : (level : ℕ) (b : List ℕ) → OpensAt level b → opening_tag level b ≡ Some (head_tag b)
opened_where level b o = rw (le-leb level 64 o.0) (rw (le-leb 8 (length b) o.1) (rw (eq-eqb (head_code b) 1 o.2) refl))

opened_none : (o : Option ℕ) → None ≡ option_map Open o → None ≡ o
opened_none None e = refl
opened_none (Some tag) e = absurd (none-some (Open tag) e)

opened_token : (o : Option ℕ) (token : Token) → Some token ≡ option_map Open o → (tag : ℕ)
    × (o ≡ Some tag) × (token ≡ Open tag)
opened_token None token e = absurd (none-some token (sym e))
opened_token (Some tag) token e = (tag, refl, same_Some token (Open tag) e)

-- ---- a text `whole` that begins with `text`, and goes on with what `b` shows

pub diag_start : (p : Option ℕ) (b : List ℕ) → diagnostic p b ≡ [] ++ shown_text p false (shown_within 1 b)
unfolding diagnostic
diag_start p b = refl

module _ (p : Option ℕ) (whole text b : List ℕ) (level : ℕ) (is_cut_off : Bool)
    (so_far : whole ≡ text ++ shown_text p is_cut_off (shown_within level b)) where
  shows : (s : Shown) → shown_within level b ≡ s → whole ≡ text ++ shown_text p is_cut_off s
  shows s e = so_far ∙ ap (λ x. text ++ shown_text p is_cut_off x) e

  pub diag_item : (t : Tree) (after rest : List ℕ) → 0 < length b → Some t ≡ front_at level b
      → after ≡ text ++ printed p (skeleton t) → rest ≡ drop (size_at b) b
      → whole ≡ after ++ shown_text p is_cut_off (shown_within level rest)
  diag_item t after rest some front pushed dropped =
      let step = shown_step level b some
      ∙ ap (λ o. shown_by o (opening_tag level b) (shown_within level (drop (size_at b) b))
      (shown_within (level + 1) (value_of b))) (sym front)
      in shows (item t (shown_within level (drop (size_at b) b))) step
      ∙ sym (append_assoc text (printed p (skeleton t))
      (shown_text p is_cut_off (shown_within level (drop (size_at b) b))))
      ∙ ap (λ x. x ++ shown_text p is_cut_off (shown_within level (drop (size_at b) b))) (sym pushed)
      ∙ ap (λ r. after ++ shown_text p is_cut_off (shown_within level r)) (sym dropped)

  diag_opened : (tag : ℕ) (after rest : List ℕ) → 0 < length b → None ≡ front_at level b
      → opening_tag level b ≡ Some tag → after ≡ text ++ (printed_tag p tag ++ (91 ∷ []))
      → rest ≡ value_of b
      → whole ≡ after ++ shown_text p true (shown_within (level + 1) rest)
  diag_opened tag after rest some front opens pushed inside =
      let step = shown_step level b some
      ∙ ap (λ o. shown_by o (opening_tag level b) (shown_within level (drop (size_at b) b))
      (shown_within (level + 1) (value_of b))) (sym front)
      ∙ ap (λ o. shown_by None o (shown_within level (drop (size_at b) b))
      (shown_within (level + 1) (value_of b))) opens
      in let more = shown_text p true (shown_within (level + 1) (value_of b))
      in shows (cut_off tag (shown_within (level + 1) (value_of b))) step
      ∙ ap (λ x. text ++ x) (sym (append_assoc (printed_tag p tag) (91 ∷ []) more))
      ∙ sym (append_assoc text (printed_tag p tag ++ (91 ∷ [])) more)
      ∙ ap (λ x. x ++ more) (sym pushed)
      ∙ ap (λ r. after ++ shown_text p true (shown_within (level + 1) r)) (sym inside)

  pub diag_cut_off : (token : Token) (after rest : List ℕ) → 0 < length b → None ≡ front_at level b
      → Some token ≡ option_map Open (opening_tag level b) → after ≡ text ++ token_text p token
      → rest ≡ value_of b
      → (level ≤ 64) × (whole ≡ after ++ shown_text p true (shown_within (level + 1) rest))
  diag_cut_off token after rest some front opens pushed inside =
      let o = opened_token (opening_tag level b) token opens in (
        (opened_says level b o.0 o.1).0.0,
        diag_opened o.0 after rest some front o.1
            (pushed ∙ ap (λ k. text ++ token_text p k) o.2) inside,
      )

  pub diag_stop : (after : List ℕ) → 0 < length b → None ≡ front_at level b
      → None ≡ option_map Open (opening_tag level b) → after ≡ text ++ (33 ∷ []) → after ≡ whole
  diag_stop after some front opens pushed =
      let step = shown_step level b some
      ∙ ap (λ o. shown_by o (opening_tag level b) (shown_within level (drop (size_at b) b))
      (shown_within (level + 1) (value_of b))) (sym front)
      ∙ ap (λ o. shown_by None o (shown_within level (drop (size_at b) b))
      (shown_within (level + 1) (value_of b))) (sym (opened_none (opening_tag level b) opens))
      in pushed ∙ sym (shows stopped step)

  pub diag_end_cut_off : (after : List ℕ) → b ≡ [] → is_cut_off ≡ true → after ≡ text ++ (33 ∷ []) → after ≡ whole
  diag_end_cut_off after e is pushed =
      pushed ∙ sym (shows ended (shown_end level b e) ∙ ap (λ x. text ++ shown_text p x ended) is)

  pub diag_end : b ≡ [] → is_cut_off ≡ false → text ≡ whole
  diag_end e is = sym (shows ended (shown_end level b e) ∙ ap (λ x. text ++ shown_text p x ended) is ∙ append-nil text)

-- ---- the relation

shows_step : (level : ℕ) (b : List ℕ) (rest inner : Shown) → 0 < length b
    → Shows rest level (drop (size_at b) b) → Shows inner (level + 1) (value_of b)
    → (o : Option Tree) → MatchOption o (NoFront level b)
    (λ t. (size_at b ≤ length b) × Parses t level (take (size_at b) b))
    → (w : Option ℕ) → opening_tag level b ≡ w → Shows (shown_by o w rest inner) level b
shows_step level b rest inner some r i (Some t) m w e = (size_at b, m.0, m.1, r)
shows_step level b rest inner some r i None m (Some tag) e = let o = opened_says level b tag e in (m, o.0, o.1, i)
shows_step level b rest inner some r i None m None e = (some, m, λ o. none-some _ (sym e ∙ opened_where level b o))

shows_at : (fuel level : ℕ) (b : List ℕ) → 1 ≤ level → length b < fuel → Shows (shown_at fuel level b) level b
shows_at zero level b low h = absurd (omega (arith, h))
shows_at (suc fuel) level [] low h = refl
shows_at (suc fuel) level (x ∷ xs) low h =
    let short = length-drop (size_at (x ∷ xs)) (x ∷ xs)
    in let shorter = value_shorter (x ∷ xs) (omega arith)
    in shows_step level (x ∷ xs) (shown_at fuel level (drop (size_at (x ∷ xs)) (x ∷ xs)))
    (shown_at fuel (level + 1) (value_of (x ∷ xs))) (omega arith)
    (shows_at fuel level (drop (size_at (x ∷ xs)) (x ∷ xs)) low (omega (arith, h, short)))
    (shows_at fuel (level + 1) (value_of (x ∷ xs)) (omega arith) (omega (arith, h, shorter)))
    (front_at level (x ∷ xs)) (front_rule level (x ∷ xs) low) (opening_tag level (x ∷ xs)) refl

pub is_diagnostic : (p : Option ℕ) (b : List ℕ) → IsDiagnostic p b (diagnostic p b)
unfolding diagnostic shown_within
is_diagnostic p b = (shown_at (suc (length b)) 1 b, shows_at (suc (length b)) 1 b (omega arith) (omega arith), refl)
