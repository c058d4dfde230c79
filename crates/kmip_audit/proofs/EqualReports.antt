-- What equal reports tell of their frames.
use Rattle.std.proofs.Common.{◌≡◌, ◌↔◌, ℕ, zero, suc, ◌+◌, ◌-◌, ◌≤◌, List, [], ◌∷◌, length, drop, map, refl, ◌∙◌, ap, sym, subst, arith, Option, Some, None}
use Rattle.std.specs.Option.{option_map}
use Rattle.std.proofs.lemmas.List.{length-drop, get_or-drop}
use Rattle.kmip_wire.specs.Tree.{Tree}
use Rattle.kmip_wire.specs.Bytes.{AreBytes}
use Rattle.kmip_wire.specs.Parses.{Parses, IsLevel, AreTexts}
use Rattle.kmip_wire.specs.Reading.{item_of}
use Rattle.kmip_wire.proofs.Ranges.{bytes_take}
use Rattle.kmip_diag.specs.Skeleton.{skeleton}
use Rattle.kmip_diag.specs.Diagnostic.{diagnostic}
use Rattle.kmip_audit.specs.Frames.{front_frame, frames}
use Rattle.kmip_audit.specs.Report.{entry_of, entries_of, report_of}
use Rattle.kmip_audit.specs.Skeletons.{AllParse, skeletons_of, frame_skeletons, AreAlike}
use Rattle.kmip_audit.specs.declared.outcomes.Outcome.{Outcome}
use Rattle.kmip_audit.specs.declared.reports.Entry.{Entry}
use Rattle.kmip_audit.specs.declared.reports.Report.{Report}
use Rattle.kmip_audit.proofs.Framing.{falls, front_short, frames_none, frames_some}
use Rattle.kmip_audit.proofs.Pairing.{same_report}

-- ---- the laws that this stands on

abbrev Tell : Type 0
Tell = (prefix : Option ℕ) (t u : Tree) (b c : List ℕ) → AreBytes b → AreBytes c → Parses t 1 b
    → Parses u 1 c → (diagnostic prefix b ≡ diagnostic prefix c) ↔ (skeleton t ≡ skeleton u)

abbrev Computed : Type 0
Computed = (t : Tree) (level : ℕ) (b : List ℕ) → IsLevel level → (item_of (65 - level) b ≡ Some t) ↔ Parses t level b

-- ---- each frame of a stream is of bytes

abbrev AllBytes : List (List ℕ) → Type 0
AllBytes [] = Unit {0}
AllBytes (m ∷ ms) = AreBytes m × AllBytes ms

bytes_drop : (n : ℕ) (b : List ℕ) → AreBytes b → AreBytes (drop n b)
bytes_drop n b h i = omega (arith, get_or-drop n b i 0, h (n + i))

frame_bytes : (n : ℕ) (b : List ℕ) → length b ≤ n → AreBytes b → AllBytes (frames b).all
frame_bytes zero b h are = rw (frames_none b (front_short b (omega arith))) tt
frame_bytes (suc k) b h are = go (λ c p q. frame_bytes k c p q) (front_frame b) refl
  where
    go : ((c : List ℕ) → length c ≤ k → AreBytes c → AllBytes (frames c).all)
        → (f : Option (List ℕ)) → front_frame b ≡ f → AllBytes (frames b).all
    go hypothesis None e = rw (frames_none b e) tt
    go hypothesis (Some m) e =
        let f = falls b m e in
        let some : 8 ≤ length m = f.some in
        let l : length (drop (length m) b) + length m ≡ length b = omega (arith, length-drop (length m) b, f.within) in
        let one : AreBytes m = subst AreBytes (sym f.front) (bytes_take (length m) b are) in
        rw (frames_some b m e) (one, hypothesis (drop (length m) b) (omega arith) (bytes_drop (length m) b are))

-- ---- diagnostics and skeletons of frames, side by side

abbrev texts : List (List ℕ) → List (List ℕ)
texts ms = map (diagnostic (Some 0x4200)) ms

first_level : IsLevel 1
first_level = (omega arith, omega arith)

skeleton_is : Computed → (t : Tree) (b : List ℕ) → Parses t 1 b → option_map skeleton (item_of 64 b) ≡ Some (skeleton t)
skeleton_is computed t b p = ap (λ (o : Option Tree). option_map skeleton o) ((computed t 1 b first_level).1 p)

some_is : {A : Type 0} {x y : A} → Some x ≡ Some y → x ≡ y
some_is h = cc

cons_is : {A : Type 0} {x y : A} {xs ys : List A} → x ∷ xs ≡ y ∷ ys → (x ≡ y) × (xs ≡ ys)
cons_is h = (cc, cc)

cons : {A : Type 0} {x y : A} {xs ys : List A} → x ≡ y → xs ≡ ys → x ∷ xs ≡ y ∷ ys
cons p q = λ i. p i ∷ q i

frames_tell : Tell → Computed → (ms ns : List (List ℕ)) → AllBytes ms → AllBytes ns → AreTexts 1 ms
    → AreTexts 1 ns → (texts ms ≡ texts ns) ↔ (skeletons_of ms ≡ skeletons_of ns)
frames_tell tell computed [] [] bm bn pm pn = (λ h. refl, λ h. refl)
frames_tell tell computed [] (n ∷ ns) bm bn pm pn = (λ h. absurd (cc), λ h. absurd (cc))
frames_tell tell computed (m ∷ ms) [] bm bn pm pn = (λ h. absurd (cc), λ h. absurd (cc))
frames_tell tell computed (m ∷ ms) (n ∷ ns) bm bn pm pn =
    let one = tell (Some 0x4200) pm.0.0 pn.0.0 m n bm.0 bn.0 pm.0.1 pn.0.1 in
    let later = frames_tell tell computed ms ns bm.1 bn.1 pm.1 pn.1 in
    let own = skeleton_is computed pm.0.0 m pm.0.1 in
    let their = skeleton_is computed pn.0.0 n pn.0.1 in (
      λ h. let s = cons_is h in cons (own ∙ ap Some (one.0 s.0) ∙ sym their) (later.0 s.1),
      λ h. let s = cons_is h in cons (one.1 (some_is (sym own ∙ s.0 ∙ their))) (later.1 s.1),
    )

-- ---- entries, of the texts of both sides and the outcomes

abbrev somes : {A : Type 0} → List (Option A) → List A
somes [] = []
somes (None ∷ xs) = somes xs
somes (Some x ∷ xs) = x ∷ somes xs

requests_in : (qs rs : List (List ℕ)) → somes (map (λ (e : Entry). e.request) (entries_of qs rs)) ≡ texts qs
requests_in [] [] = refl
requests_in [] (r ∷ rs) = requests_in [] rs
requests_in (q ∷ qs) [] = ap (λ l. diagnostic (Some 0x4200) q ∷ l) (requests_in qs [])
requests_in (q ∷ qs) (r ∷ rs) = ap (λ l. diagnostic (Some 0x4200) q ∷ l) (requests_in qs rs)

responses_in : (qs rs : List (List ℕ)) → somes (map (λ (e : Entry). e.response) (entries_of qs rs)) ≡ texts rs
responses_in [] [] = refl
responses_in [] (r ∷ rs) = ap (λ l. diagnostic (Some 0x4200) r ∷ l) (responses_in [] rs)
responses_in (q ∷ qs) [] = responses_in qs []
responses_in (q ∷ qs) (r ∷ rs) = ap (λ l. diagnostic (Some 0x4200) r ∷ l) (responses_in qs rs)

abbrev first_of : List (List ℕ) → Option (List ℕ)
first_of [] = None
first_of (x ∷ xs) = Some x

abbrev rest_of : List (List ℕ) → List (List ℕ)
rest_of [] = []
rest_of (x ∷ xs) = xs

abbrev built : List (List ℕ) → List (List ℕ) → List Outcome → List Entry
built qs rs [] = []
built qs rs (o ∷ os) = record { request = first_of qs; response = first_of rs; outcome = o }
    ∷ built (rest_of qs) (rest_of rs) os

abbrev outcomes : List Entry → List Outcome
outcomes es = map (λ (e : Entry). e.outcome) es

are_built : (qs rs : List (List ℕ)) → entries_of qs rs ≡ built (texts qs) (texts rs) (outcomes (entries_of qs rs))
are_built [] [] = refl
are_built [] (r ∷ rs) = ap (λ l. entry_of None (Some r) ∷ l) (are_built [] rs)
are_built (q ∷ qs) [] = ap (λ l. entry_of (Some q) None ∷ l) (are_built qs [])
are_built (q ∷ qs) (r ∷ rs) = ap (λ l. entry_of (Some q) (Some r) ∷ l) (are_built qs rs)

same_built : (a a' b b' : List (List ℕ)) (c c' : List Outcome) → a ≡ a' → b ≡ b' → c ≡ c' → built a b c ≡ built a' b' c'
same_built a a' b b' c c' p q r = rw (p, q, r) refl

-- ---- reports

pub reports_tell : Tell → Computed → (sent received other_sent other_received : List ℕ)
    → AllParse sent → AllParse received → AllParse other_sent → AllParse other_received →
    AreAlike (report_of sent received) (report_of other_sent other_received) →
    (report_of sent received ≡ report_of other_sent other_received) ↔
    ((frame_skeletons sent ≡ frame_skeletons other_sent)
    × (frame_skeletons received ≡ frame_skeletons other_received))
reports_tell tell computed s r s' r' ps pr ps' pr' alike =
    let asked = frames_tell tell computed (frames s).all (frames s').all
    (frame_bytes (length s) s (omega arith) ps.bytes)
    (frame_bytes (length s') s' (omega arith) ps'.bytes) ps.parse ps'.parse in
    let told = frames_tell tell computed (frames r).all (frames r').all
    (frame_bytes (length r) r (omega arith) pr.bytes)
    (frame_bytes (length r') r' (omega arith) pr'.bytes) pr.parse pr'.parse in (
      λ h.
          let e : entries_of (frames s).all (frames r).all
          ≡ entries_of (frames s').all (frames r').all = ap (λ (x : Report). x.entries) h in (
            asked.0 (sym (requests_in (frames s).all (frames r).all)
                ∙ ap (λ (l : List Entry). somes (map (λ (e : Entry). e.request) l)) e
                ∙ requests_in (frames s').all (frames r').all),
            told.0 (sym (responses_in (frames s).all (frames r).all)
                ∙ ap (λ (l : List Entry). somes (map (λ (e : Entry). e.response) l)) e
                ∙ responses_in (frames s').all (frames r').all),
          ),
      λ h.
          let e : entries_of (frames s).all (frames r).all ≡ entries_of (frames s').all (frames r').all =
          are_built (frames s).all (frames r).all
          ∙ same_built _ _ _ _ _ _ (asked.1 h.0) (told.1 h.1) alike.outcomes
          ∙ sym (are_built (frames s').all (frames r').all) in
          same_report _ _ _ _ _ _ e alike.sent_ends alike.received_ends,
    )
