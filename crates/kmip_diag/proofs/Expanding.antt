-- The expansion by computing is the expansion.
use Rattle.std.proofs.Common.{◌≡◌, refl, sym, ◌∙◌, ap, arith, ℕ, suc, ◌+◌, ◌^◌, Bool, true, false, ◌&&◌, cond, leb, List, length, Option, Some, None}
use Rattle.std.specs.Prelude.{nat_lt}
use Rattle.std.proofs.lemmas.Bool.{leb-true, le-leb, ltb-true, lt-ltb}
use Rattle.std.proofs.lemmas.Option.{cond_some, none-some}
use Rattle.std.proofs.lemmas.Slice.Eq.{bytes_eq-Decides}
use Rattle.kmip_diag.specs.declared.token.Mark.{Mark}
use Rattle.kmip_diag.specs.declared.token.Mark.TheVariants.{Integer, LongInteger, BigInteger, Enumeration, Boolean, TextString, ByteString, DateTime, Interval}
use Rattle.kmip_diag.specs.Skeleton.{Skeleton, Skeletons, scalar, structure, none, more}
use Rattle.kmip_diag.specs.Printed.{printed_all}
use Rattle.kmip_diag.specs.Tokens.{IsMark, IsSkeleton}
use Rattle.kmip_diag.specs.Reading.{read_all}
use Rattle.kmip_diag.specs.Lines.{all_lines}
use Rattle.kmip_diag.specs.Expansion.{IsWithin, AreGood, IsExpansion, IsNoDiagnostic, is_mark, is_good, are_good, checked_lines, expansion}
use Rattle.kmip_diag.proofs.Reading.{read_whole}

both : (x y : Bool) → (x && y) ≡ true → (x ≡ true) × (y ≡ true)
both true y e = (refl, e)
both false y e = absurd cc

and : (x y : Bool) → x ≡ true → y ≡ true → (x && y) ≡ true
and true y e f = f
and false y e f = absurd cc

mark_says : (m : Mark) → is_mark m ≡ true → IsMark m
mark_says (Enumeration n) e = ltb-true n (2 ^ 32) e
mark_says Integer e = tt
mark_says LongInteger e = tt
mark_says BigInteger e = tt
mark_says Boolean e = tt
mark_says TextString e = tt
mark_says ByteString e = tt
mark_says DateTime e = tt
mark_says Interval e = tt

mark_where : (m : Mark) → IsMark m → is_mark m ≡ true
mark_where (Enumeration n) h = lt-ltb n (2 ^ 32) h
mark_where Integer h = refl
mark_where LongInteger h = refl
mark_where BigInteger h = refl
mark_where Boolean h = refl
mark_where TextString h = refl
mark_where ByteString h = refl
mark_where DateTime h = refl
mark_where Interval h = refl

mutual
  good_says : (t : Skeleton) (level : ℕ) → is_good t level ≡ true → IsSkeleton t × IsWithin t level
  good_says (scalar tag mark) level e =
      let l = both (leb level 64) _ e in let r = both (nat_lt tag (2 ^ 24)) _ l.1 in
      ((ltb-true tag (2 ^ 24) r.0, mark_says mark r.1), leb-true level 64 l.0)
  good_says (structure tag ts) level e =
      let l = both (leb level 64) _ e in let r = both (nat_lt tag (2 ^ 24)) _ l.1 in
      let i = all_say ts (level + 1) r.1 in
      ((ltb-true tag (2 ^ 24) r.0, i.0), (leb-true level 64 l.0, i.1))

  all_say : (ts : Skeletons) (level : ℕ) → are_good ts level ≡ true → AreGood ts level
  all_say none level e = (tt, tt)
  all_say (more t ts) level e =
      let w = both (is_good t level) _ e in let l = good_says t level w.0 in
      let r = all_say ts level w.1 in ((l.0, r.0), (l.1, r.1))

mutual
  good_where : (t : Skeleton) (level : ℕ) → IsSkeleton t → IsWithin t level → is_good t level ≡ true
  good_where (scalar tag mark) level h w =
      and (leb level 64) _ (le-leb level 64 w)
      (and (nat_lt tag (2 ^ 24)) _ (lt-ltb tag (2 ^ 24) h.0) (mark_where mark h.1))
  good_where (structure tag ts) level h w =
      and (leb level 64) _ (le-leb level 64 w.0)
      (and (nat_lt tag (2 ^ 24)) _ (lt-ltb tag (2 ^ 24) h.0) (all_where ts (level + 1) (h.1, w.1)))

  all_where : (ts : Skeletons) (level : ℕ) → AreGood ts level → are_good ts level ≡ true
  all_where none level g = refl
  all_where (more t ts) level g = and (is_good t level) _ (good_where t level g.0.0 g.1.0)
      (all_where ts level (g.0.1, g.1.1))

pub expansion_says : (p : Option ℕ) (text out : List ℕ) → expansion p text ≡ Some out → IsExpansion p text out
unfolding expansion
expansion_says p text out e =
    let ts = (read_all (suc (length text)) p text).0
    in let w = cond_some _ (all_lines 0 ts) out e
    in let b = both (are_good ts 1) _ w.0
    in (ts, all_say ts 1 b.0, (bytes_eq-Decides (printed_all p ts) text).0 b.1, sym w.1)

pub expansion_where : (p : Option ℕ) (text out : List ℕ) → IsExpansion p text out → expansion p text ≡ Some out
unfolding expansion
expansion_where p text out (ts, good, e, lines) =
    let read : (read_all (suc (length text)) p text).0 ≡ ts =
    ap (λ x. (read_all (suc (length text)) p x).0) (sym e)
    ∙ read_whole p ts (suc (length text)) good.0 (omega (arith, ap length e))
    in let test = and (are_good ts 1) _ (all_where ts 1 good) ((bytes_eq-Decides (printed_all p ts) text).1 e)
    in ap (checked_lines p text) read ∙ ap (λ b. cond b (Some (all_lines 0 ts)) None) test ∙ ap Some (sym lines)

pub none_says : (p : Option ℕ) (text : List ℕ) → expansion p text ≡ None → IsNoDiagnostic p text
none_says p text e ts good f = none-some (all_lines 0 ts)
    (sym e ∙ expansion_where p text (all_lines 0 ts) (ts, good, f, refl))

pub none_where : (p : Option ℕ) (text : List ℕ) → IsNoDiagnostic p text → expansion p text ≡ None
none_where p text refuted = by_lines (expansion p text) refl
  where
    by_lines : (o : Option (List ℕ)) → expansion p text ≡ o → expansion p text ≡ None
    by_lines None e = e
    by_lines (Some out) e = let w = expansion_says p text out e in absurd (refuted w.0 w.1 w.2)
