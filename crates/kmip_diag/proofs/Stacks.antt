-- A printed text read piece by piece: what is left of each open structure, the innermost first.
use Rattle.std.proofs.Common.{◌≡◌, ◌⊎◌, inl, inr, refl, sym, ◌∙◌, ap, subst, arith, ℕ, zero, suc, ◌+◌, ◌-◌, ◌<◌, Bool, true, false, List, [], ◌∷◌, ◌++◌, length, Option, Some, None, nat_lt}
use Rattle.std.specs.Prelude.{◌==◌, if◌then◌else◌}
use Rattle.std.specs.Cmp.{unsigned_Decides}
use Rattle.std.proofs.lemmas.Bool.{lt-ltb, ltb-true}
use Rattle.std.proofs.lemmas.List.{append_assoc, append-nil}
use Rattle.std.proofs.lemmas.Option.{none-some, same_Some}
use Rattle.kmip_diag.specs.declared.token.Token.{Token}
use Rattle.kmip_diag.specs.declared.token.Token.TheVariants.{Scalar, Open, Close}
use Rattle.kmip_wire.specs.declared.kind.Kind.TheVariants as kinds
use Rattle.kmip_diag.specs.Skeleton.{Skeletons, scalar, structure, none, more}
use Rattle.kmip_diag.specs.Printed.{printed_all, printed_tag, printed_mark}
use Rattle.kmip_diag.specs.Tokens.{token_text, IsToken}
use Rattle.kmip_diag.specs.Reading.{read_token}
use Rattle.kmip_diag.specs.Lines.{line, mark_kind, data_text, all_lines}
use Rattle.kmip_diag.specs.Expansion.{AreGood, token_line, next_depth, IsExpansion, IsNoDiagnostic}
use Rattle.kmip_diag.proofs.Reading.{token_read, open_text as structure_text}

abbrev pub close_text : Option ℕ → List Skeletons → List ℕ
close_text p [] = []
close_text p (us ∷ outer) = 93 ∷ (printed_all p us ++ close_text p outer)

abbrev pub open_text : Option ℕ → Skeletons → List Skeletons → List ℕ
open_text p ts outer = printed_all p ts ++ close_text p outer

abbrev pub close_lines : List Skeletons → List ℕ
close_lines [] = []
close_lines (us ∷ outer) = all_lines (length outer) us ++ close_lines outer

abbrev pub open_lines : Skeletons → List Skeletons → List ℕ
open_lines ts outer = all_lines (length outer) ts ++ close_lines outer

abbrev pub AreOuter : List Skeletons → Type 0
AreOuter [] = Unit {0}
AreOuter (us ∷ outer) = AreGood us (length outer + 1) × AreOuter outer

abbrev pub IsStack : Skeletons → List Skeletons → Type 0
IsStack ts outer = AreGood ts (length outer + 1) × AreOuter outer

-- a piece, and the stack after it
pub record Piece (p : Option ℕ) (ts : Skeletons) (outer : List Skeletons) : Type 0 where
  pub token : Token
  pub inner : Skeletons
  pub around : List Skeletons
  pub is_token : IsToken token
  pub is_stack : IsStack inner around
  pub depth : next_depth (length outer) token ≡ Some (length around)
  pub text : open_text p ts outer ≡ token_text p token ++ open_text p inner around

below : (d : ℕ) (x : Option ℕ) → d < 64 → (if nat_lt d 64 then x else None) ≡ x
below d x h = rw (lt-ltb d 64 h) refl

same_some : {x y : ℕ} → Some x ≡ Some y → x ≡ y
same_some {x} {y} e = same_Some x y e

no_some : {A : Type 0} {x : ℕ} → None ≡ Some x → A
no_some {A} {x} e = absurd (none-some x e)

within : (d : ℕ) (x : Option ℕ) (y : ℕ) → (if nat_lt d 64 then x else None) ≡ Some y → (d < 64) × (x ≡ Some y)
within d x y e = by_test (nat_lt d 64) refl e
  where
    by_test : (b : Bool) → nat_lt d 64 ≡ b → (if b then x else None) ≡ Some y → (d < 64) × (x ≡ Some y)
    by_test true t f = (ltb-true d 64 t, f)
    by_test false t f = no_some f

closes : (n : ℕ) → next_depth (suc n) Close ≡ Some n
closes n = by_test (suc n == 0) refl
  where
    by_test : (b : Bool) → (suc n == 0) ≡ b → (if b then None else Some (suc n - 1)) ≡ Some n
    by_test true t = absurd (omega (arith, (unsigned_Decides (suc n) 0).0 t))
    by_test false t = ap Some (omega arith)

closed : (d n : ℕ) → next_depth d Close ≡ Some n → d ≡ suc n
closed zero n e = no_some e
closed (suc d) n e = ap suc (same_some (sym (closes d) ∙ e))

open_step : (p : Option ℕ) (tag : ℕ) (us ts : Skeletons) (outer : List Skeletons)
    → open_text p (more (structure tag us) ts) outer ≡ token_text p (Open tag) ++ open_text p us (ts ∷ outer)
open_step p tag us ts outer = structure_text p tag us ts (close_text p outer)

-- an empty stack, or a piece
pub first_piece : (p : Option ℕ) (ts : Skeletons) (outer : List Skeletons) → IsStack ts outer
    → ((ts ≡ none) × (outer ≡ [])) ⊎ Piece p ts outer
first_piece p none [] h = inl (refl, refl)
first_piece p none (us ∷ outer) h = inr (record {
  token = Close;
  inner = us;
  around = outer;
  is_token = tt;
  is_stack = h.1;
  depth = closes (length outer);
  text = refl;
})
first_piece p (more (scalar tag mark) ts) outer h = inr (record {
  token = Scalar tag mark;
  inner = ts;
  around = outer;
  is_token = h.0.0.0;
  is_stack = ((h.0.0.1, h.0.1.1), h.1);
  depth = below (length outer) (Some (length outer)) (omega (arith, h.0.1.0));
  text = append_assoc (printed_tag p tag ++ printed_mark mark) (printed_all p ts) (close_text p outer);
})
first_piece p (more (structure tag us) ts) outer h = inr (record {
  token = Open tag;
  inner = us;
  around = ts ∷ outer;
  is_token = h.0.0.0.0;
  is_stack = (subst (λ n. AreGood us n) (omega arith) (h.0.0.0.1, h.0.1.0.1), ((h.0.0.1, h.0.1.1), h.1));
  depth = below (length outer) (Some (length outer + 1)) (omega (arith, h.0.1.0.0)) ∙ ap Some (omega arith);
  text = open_step p tag us ts outer;
})

-- the stack before a piece
pub record Whole (p : Option ℕ) (d : ℕ) (k : Token) (ts : Skeletons) (outer : List Skeletons) : Type 0 where
  pub inner : Skeletons
  pub around : List Skeletons
  pub is_stack : IsStack inner around
  pub depth : length around ≡ d
  pub text : open_text p inner around ≡ token_text p k ++ open_text p ts outer
  pub lines : open_lines inner around ≡ token_line d k ++ open_lines ts outer

pub put_back : (p : Option ℕ) (d : ℕ) (k : Token) (ts : Skeletons) (outer : List Skeletons)
    → IsToken k → next_depth d k ≡ Some (length outer) → IsStack ts outer → Whole p d k ts outer
put_back p d Close ts outer h e s = record {
  inner = none;
  around = ts ∷ outer;
  is_stack = ((tt, tt), s);
  depth = sym (closed d (length outer) e);
  text = refl;
  lines = refl;
}
put_back p d (Scalar tag mark) ts outer h e s =
    let f = within d (Some d) (length outer) e
    in let same : d ≡ length outer = same_some f.1
    in record {
      inner = more (scalar tag mark) ts;
      around = outer;
      is_stack = (((h, s.0.0), (omega (arith, f.0, same), s.0.1)), s.1);
      depth = sym same;
      text = append_assoc (printed_tag p tag ++ printed_mark mark) (printed_all p ts) (close_text p outer);
      lines = append_assoc (line (length outer) tag (mark_kind mark) (data_text mark))
          (all_lines (length outer) ts) (close_lines outer)
          ∙ ap (λ n. line n tag (mark_kind mark) (data_text mark) ++ open_lines ts outer) (sym same);
    }
put_back p d (Open tag) ts [] h e s = absurd (omega (arith, same_some (within d (Some (d + 1)) 0 e).1))
put_back p d (Open tag) ts (us ∷ outer) h e s =
    let f = within d (Some (d + 1)) (length (us ∷ outer)) e
    in let same : d ≡ length outer = omega (arith, same_some f.1)
    in let deeper : length outer + 1 ≡ length (us ∷ outer) = omega arith
    in let good : AreGood ts (length outer + 1 + 1) = subst (λ n. AreGood ts (n + 1)) (sym deeper) s.0
    in record {
      inner = more (structure tag ts) us;
      around = outer;
      is_stack = ((((h, good.0), s.1.0.0), ((omega (arith, f.0, same), good.1), s.1.0.1)), s.1.1);
      depth = sym same;
      text = open_step p tag ts us outer;
      lines = append_assoc (line (length outer) tag kinds.Structure []
          ++ all_lines (length outer + 1) ts) (all_lines (length outer) us) (close_lines outer)
          ∙ append_assoc (line (length outer) tag kinds.Structure [])
          (all_lines (length outer + 1) ts) (all_lines (length outer) us ++ close_lines outer)
          ∙ ap (λ n. line n tag kinds.Structure []
          ++ (all_lines (length outer + 1) ts
          ++ (all_lines (length outer) us ++ close_lines outer))) (sym same)
          ∙ ap (λ n. line d tag kinds.Structure []
          ++ (all_lines n ts ++ (all_lines (length outer) us ++ close_lines outer))) deeper;
    }

-- what is left to read, at the depth; the text of the pieces so far, and their lines
pub record Reads (p : Option ℕ) (text rest : List ℕ) (d : ℕ) (again out : List ℕ) : Type 0 where
  pub sound : (ts : Skeletons) (outer : List Skeletons) → IsStack ts outer → length outer ≡ d
      → (ws : Skeletons) × AreGood ws 1 × (printed_all p ws ≡ again ++ open_text p ts outer)
      × (all_lines 0 ws ≡ out ++ open_lines ts outer)
  pub complete : (ws : Skeletons) → AreGood ws 1 → printed_all p ws ≡ text
      → (ts : Skeletons) × (outer : List Skeletons) × IsStack ts outer × (length outer ≡ d)
      × (open_text p ts outer ≡ rest) × (again ++ rest ≡ text)

no_pair : {A : Type 0} {x : Token × List ℕ} → None ≡ Some x → A
no_pair {A} {x} e = absurd (none-some x e)

read_piece : (p : Option ℕ) (ts : Skeletons) (outer : List Skeletons) (rest : List ℕ)
    (piece : Piece p ts outer) → open_text p ts outer ≡ rest
    → read_token p rest ≡ Some (piece.token, open_text p piece.inner piece.around)
read_piece p ts outer rest piece f =
    ap (read_token p) (sym f ∙ piece.text)
    ∙ token_read p piece.token (open_text p piece.inner piece.around) piece.is_token

read_none : (p : Option ℕ) (ts : Skeletons) (outer : List Skeletons) (rest : List ℕ)
    → open_text p ts outer ≡ rest → ((ts ≡ none) × (outer ≡ [])) → rest ≡ []
read_none p ts outer rest f z = sym f ∙ ap (λ x. open_text p x outer) z.0 ∙ ap (close_text p) z.1

module _ (p : Option ℕ) (text rest : List ℕ) (d : ℕ) (again out : List ℕ) (r : Reads p text rest d again out) where
  pub reads_step : (k : Token) (after : List ℕ) (e : ℕ) (pushed lines : List ℕ)
      → Some (k, after) ≡ read_token p rest → IsToken k → next_depth d k ≡ Some e
      → pushed ≡ again ++ token_text p k → lines ≡ out ++ token_line d k → Reads p text after e pushed lines
  reads_step k after e pushed lines front is_token q pushes adds = record {
    sound = step_sound;
    complete = λ ws g f. let w = r.complete ws g f in step_complete w.0 w.1 w.2 w.3 w.4 w.5 (first_piece p w.0 w.1 w.2);
  } where
    step_sound : (ts : Skeletons) (outer : List Skeletons) → IsStack ts outer → length outer ≡ e
        → (ws : Skeletons) × AreGood ws 1 × (printed_all p ws ≡ pushed ++ open_text p ts outer)
        × (all_lines 0 ws ≡ lines ++ open_lines ts outer)
    step_sound ts outer s l =
        let w = put_back p d k ts outer is_token (q ∙ ap Some (sym l)) s
        in let v = r.sound w.inner w.around w.is_stack w.depth
        in (
          v.0,
          v.1,
          v.2 ∙ ap (λ x. again ++ x) w.text
              ∙ sym (append_assoc again (token_text p k) (open_text p ts outer))
              ∙ ap (λ x. x ++ open_text p ts outer) (sym pushes),
          v.3 ∙ ap (λ x. out ++ x) w.lines
              ∙ sym (append_assoc out (token_line d k) (open_lines ts outer))
              ∙ ap (λ x. x ++ open_lines ts outer) (sym adds),
        )

    step_complete : (ts : Skeletons) (outer : List Skeletons) → IsStack ts outer → length outer ≡ d
        → open_text p ts outer ≡ rest → again ++ rest ≡ text → ((ts ≡ none) × (outer ≡ []))
        ⊎ Piece p ts outer
        → (us : Skeletons) × (around : List Skeletons) × IsStack us around × (length around ≡ e)
        × (open_text p us around ≡ after) × (pushed ++ after ≡ text)
    step_complete ts outer s l f a (inl z) =
        no_pair (ap (read_token p) (sym (read_none p ts outer rest f z)) ∙ sym front)
    step_complete ts outer s l f a (inr piece) =
        let same = same_Some (piece.token, open_text p piece.inner piece.around) (k, after)
        (sym (read_piece p ts outer rest piece f) ∙ sym front)
        in let token : piece.token ≡ k = ap (λ x. x.0) same
        in let left : open_text p piece.inner piece.around ≡ after = ap (λ x. x.1) same
        in let whole : token_text p k ++ after ≡ rest =
        sym (sym f ∙ piece.text ∙ ap
        (λ x. token_text p x ++ open_text p piece.inner piece.around) token
        ∙ ap (λ x. token_text p k ++ x) left)
        in (
          piece.inner,
          piece.around,
          piece.is_stack,
          same_some (sym piece.depth ∙ ap (λ m. next_depth m piece.token) l ∙ ap (next_depth d) token ∙ q),
          left,
          ap (λ x. x ++ after) pushes ∙ append_assoc again (token_text p k) after ∙ ap (λ x. again ++ x) whole ∙ a,
        )

  pub reads_no_token : 0 < length rest → None ≡ read_token p rest → IsNoDiagnostic p text
  reads_no_token some front ws g f = let w = r.complete ws g f in refused w.0 w.1 w.2 w.4 (first_piece p w.0 w.1 w.2)
    where
      refused : (ts : Skeletons) (outer : List Skeletons) → IsStack ts outer
          → open_text p ts outer ≡ rest → ((ts ≡ none) × (outer ≡ [])) ⊎ Piece p ts outer → ⊥
      refused ts outer s f (inl z) = omega (arith, some, ap length (read_none p ts outer rest f z))
      refused ts outer s f (inr piece) = no_pair (front ∙ read_piece p ts outer rest piece f)

  pub reads_no_depth : (k : Token) (after : List ℕ) → Some (k, after) ≡ read_token p rest
      → next_depth d k ≡ None → IsNoDiagnostic p text
  reads_no_depth k after front q ws g f =
      let w = r.complete ws g f in refused w.0 w.1 w.2 w.3 w.4 (first_piece p w.0 w.1 w.2)
    where
      refused : (ts : Skeletons) (outer : List Skeletons) → IsStack ts outer → length outer ≡ d
          → open_text p ts outer ≡ rest → ((ts ≡ none) × (outer ≡ [])) ⊎ Piece p ts outer → ⊥
      refused ts outer s l f (inl z) = no_pair (ap (read_token p) (sym (read_none p ts outer rest f z)) ∙ sym front)
      refused ts outer s l f (inr piece) =
          let same = same_Some (piece.token, open_text p piece.inner piece.around) (k, after)
          (sym (read_piece p ts outer rest piece f) ∙ sym front)
          in no_some (sym q ∙ ap (next_depth d) (sym (ap (λ x. x.0) same))
          ∙ ap (λ m. next_depth m piece.token) (sym l) ∙ piece.depth)

  pub reads_unclosed : rest ≡ [] → 0 < d → IsNoDiagnostic p text
  reads_unclosed z some ws g f = let w = r.complete ws g f in refused w.0 w.1 w.2 w.3 w.4 (first_piece p w.0 w.1 w.2)
    where
      refused : (ts : Skeletons) (outer : List Skeletons) → IsStack ts outer → length outer ≡ d
          → open_text p ts outer ≡ rest → ((ts ≡ none) × (outer ≡ [])) ⊎ Piece p ts outer → ⊥
      refused ts outer s l f (inl y) = omega (arith, some, l, ap length y.1)
      refused ts outer s l f (inr piece) = no_pair (sym (ap (read_token p) z) ∙ read_piece p ts outer rest piece f)

  pub reads_other : rest ≡ [] → (again ≡ text → ⊥) → IsNoDiagnostic p text
  reads_other z differs ws g f = differs (sym (append-nil again) ∙ ap (λ x. again ++ x) (sym z) ∙ (r.complete ws g f).5)

  pub reads_end : d ≡ 0 → again ≡ text → IsExpansion p text out
  reads_end zero_deep same =
      let w = r.sound none [] ((tt, tt), tt) (sym zero_deep) in
      (w.0, w.1, w.2 ∙ append-nil again ∙ same, sym (w.3 ∙ append-nil out))
