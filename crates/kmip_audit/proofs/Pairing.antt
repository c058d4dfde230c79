-- The entries so far, and those of what is left.
use Rattle.std.proofs.Common.{◌≡◌, ℕ, ◌+◌, ◌<◌, ◌≤◌, List, [], ◌∷◌, ◌++◌, length, drop, refl, ◌∙◌, ap, sym, arith, append_assoc, Option, Some, None, true, false}
use Rattle.std.proofs.lemmas.List.{length-drop}
use Rattle.kmip_audit.specs.Frames.{front_frame, after_frame, Frames, frames}
use Rattle.kmip_audit.specs.Report.{are_none, entry_of, entries_of, end_of, report_of}
use Rattle.kmip_audit.specs.declared.reports.Entry.{Entry}
use Rattle.kmip_audit.specs.declared.reports.End.{End}
use Rattle.kmip_audit.specs.declared.reports.Report.{Report}
use Rattle.kmip_audit.proofs.Framing.{falls, frames_none, frames_some}

-- what is told so far, and what is left of both streams, come to the whole
pub record SoFar (sent received asked told : List ℕ) (entries : List Entry) : Type 0 where
  pub all : entries ++ entries_of (frames asked).all (frames told).all
      ≡ entries_of (frames sent).all (frames received).all
  pub sent_rest : (frames asked).rest ≡ (frames sent).rest
  pub received_rest : (frames told).rest ≡ (frames received).rest
  pub asked_within : length asked ≤ length sent
  pub told_within : length told ≤ length received

-- the frames of a stream from its front
after_all : (b : List ℕ) (f : Option (List ℕ)) → front_frame b ≡ f → (frames b).rest ≡ (frames (after_frame b f)).rest
after_all b None e = refl
after_all b (Some m) e = ap (λ (x : Frames). x.rest) (frames_some b m e)

within : (b : List ℕ) (f : Option (List ℕ)) → length (after_frame b f) ≤ length b
within b None = omega arith
within b (Some m) = omega (arith, length-drop (length m) b)

nothing : (b : List ℕ) → front_frame b ≡ None → (frames b).all ≡ []
nothing b e = ap (λ (x : Frames). x.all) (frames_none b e)

something : (b m : List ℕ) → front_frame b ≡ Some m → (frames b).all ≡ m ∷ (frames (drop (length m) b)).all
something b m e = ap (λ (x : Frames). x.all) (frames_some b m e)

-- one entry from the front of both
entry_first : (q r : List ℕ) (f g : Option (List ℕ)) → front_frame q ≡ f → front_frame r ≡ g → are_none f g ≡ false →
    entries_of (frames q).all (frames r).all
    ≡ entry_of f g ∷ entries_of (frames (after_frame q f)).all (frames (after_frame r g)).all
entry_first q r None None e d some = absurd (let k : true ≡ false = some in cc)
entry_first q r None (Some n) e d some = rw (nothing q e, something r n d) refl
entry_first q r (Some m) None e d some = rw (something q m e, nothing r d) refl
entry_first q r (Some m) (Some n) e d some = rw (something q m e, something r n d) refl

pub entry_smaller : (q r : List ℕ) (f g : Option (List ℕ)) → front_frame q ≡ f → front_frame r ≡ g
    → are_none f g ≡ false → length (after_frame q f) + length (after_frame r g) < length q
    + length r
entry_smaller q r None None e d some = absurd (let k : true ≡ false = some in cc)
entry_smaller q r None (Some n) e d some =
    let y = falls r n d in omega (arith, length-drop (length n) r, y.some, y.within)
entry_smaller q r (Some m) None e d some =
    let x = falls q m e in omega (arith, length-drop (length m) q, x.some, x.within)
entry_smaller q r (Some m) (Some n) e d some =
    let x = falls q m e in let y = falls r n d in
    omega (
      arith,
      length-drop (length m) q,
      length-drop (length n) r,
      x.some,
      x.within,
      y.some,
      y.within,
    )

pub entry_on : (sent received q r : List ℕ) (f g : Option (List ℕ)) (es : List Entry)
    → SoFar sent received q r es → front_frame q ≡ f → front_frame r ≡ g → are_none f g ≡ false →
    SoFar sent received (after_frame q f) (after_frame r g) (es ++ entry_of f g ∷ [])
entry_on sent received q r f g es so e d some = record {
  all = append_assoc es (entry_of f g ∷ [])
      (entries_of (frames (after_frame q f)).all (frames (after_frame r g)).all)
      ∙ ap (λ x. es ++ x) (sym (entry_first q r f g e d some)) ∙ so.all;
  sent_rest = sym (after_all q f e) ∙ so.sent_rest;
  received_rest = sym (after_all r g d) ∙ so.received_rest;
  asked_within = let w = within q f in omega (arith, so.asked_within);
  told_within = let w = within r g in omega (arith, so.told_within);
}

append_none : (xs : List Entry) → xs ++ [] ≡ xs
append_none [] = refl
append_none (x ∷ xs) = ap (λ l. x ∷ l) (append_none xs)

none_both : (f g : Option (List ℕ)) → are_none f g ≡ true → (f ≡ None) × (g ≡ None)
none_both None None h = (refl, refl)
none_both None (Some n) h = absurd (let k : false ≡ true = h in cc)
none_both (Some m) None h = absurd (let k : false ≡ true = h in cc)
none_both (Some m) (Some n) h = absurd (let k : false ≡ true = h in cc)

pub same_report : (a a' : List Entry) (b b' c c' : End) → a ≡ a' → b ≡ b' → c ≡ c' →
    let x : Report = record { entries = a; sent_end = b; received_end = c } in
    let y : Report = record { entries = a'; sent_end = b'; received_end = c' } in x ≡ y
same_report a a' b b' c c' p q r = rw (p, q, r) refl

pub report_done : (sent received q r : List ℕ) (f g : Option (List ℕ)) (es : List Entry) (b c : End)
    → SoFar sent received q r es → f ≡ front_frame q → g ≡ front_frame r → are_none f g ≡ true →
    b ≡ end_of (length sent) (length q) → c ≡ end_of (length received) (length r) →
    let x : Report = record { entries = es; sent_end = b; received_end = c } in x ≡ report_of sent received
report_done sent received q r f g es b c so e d none sent_end received_end =
    let both = none_both f g none in
    let no_q : front_frame q ≡ None = sym e ∙ both.0 in
    let no_r : front_frame r ≡ None = sym d ∙ both.1 in
    let q_rest : q ≡ (frames sent).rest = sym (ap (λ (x : Frames). x.rest) (frames_none q no_q)) ∙ so.sent_rest in
    let r_rest : r ≡ (frames received).rest =
    sym (ap (λ (x : Frames). x.rest) (frames_none r no_r)) ∙ so.received_rest in
    let left : entries_of (frames q).all (frames r).all ≡ [] = rw (nothing q no_q, nothing r no_r) refl in
    same_report _ _ _ _ _ _
    (sym (append_none es) ∙ ap (λ x. es ++ x) (sym left) ∙ so.all)
    (sent_end ∙ ap (λ x. end_of (length sent) (length x)) q_rest)
    (received_end ∙ ap (λ x. end_of (length received) (length x)) r_rest)

-- where nothing was looked at yet
pub at_first : (sent received : List ℕ) → SoFar sent received sent received []
at_first sent received = record {
  all = refl;
  sent_rest = refl;
  received_rest = refl;
  asked_within = omega arith;
  told_within =
      omega arith;
}
