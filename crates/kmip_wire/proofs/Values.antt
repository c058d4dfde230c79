-- The values of scalars, and the numbers of the types.
use Rattle.std.proofs.Common.{◌≡◌, ℕ, ◌%◌, ◌↔◌, Bool, true, false, cond, eqb, List, length, Option, Some, None, refl, sym, ap, subst, ◌∙◌, inl, inr, ◌⊎◌}
use Rattle.std.specs.Int.{w32, w64, from_be_bytes, cast_signed}
use Rattle.std.specs.Str.{is_utf8, IsUtf8}
use Rattle.std.specs.Option.{is_some}
use Rattle.std.specs.Bool.{IsTrue}
use Rattle.std.proofs.lemmas.Bool.{eqb-true, eq-eqb, false≢true}
use Rattle.std.proofs.lemmas.Str.{IsUtf8-from_is_utf8, is_utf8-from_IsUtf8}
use Rattle.std.proofs.lemmas.Option.{cond_some, same_Some, none-some}
use Rattle.kmip_wire.specs.declared.kind.Kind.{Kind}
use Rattle.kmip_wire.specs.declared.kind.Kind.TheVariants.{Structure, Integer, LongInteger, BigInteger, Enumeration, Boolean, TextString, ByteString, DateTime, Interval}
use Rattle.kmip_wire.specs.Tree.{Scalar, integer, long_integer, big_integer, enumeration, boolean, text_string, byte_string, date_time, interval}
use Rattle.kmip_wire.specs.Kinds.{code_of, kind_of, kind_of_scalar}
use Rattle.kmip_wire.specs.Parses.{IsValue}
use Rattle.kmip_wire.specs.Reading.{truth_at, scalar_at}

pub kind_of-code_of : (k : Kind) → kind_of (code_of k) ≡ Some k
kind_of-code_of Structure = refl
kind_of-code_of Integer = refl
kind_of-code_of LongInteger = refl
kind_of-code_of BigInteger = refl
kind_of-code_of Enumeration = refl
kind_of-code_of Boolean = refl
kind_of-code_of TextString = refl
kind_of-code_of ByteString = refl
kind_of-code_of DateTime = refl
kind_of-code_of Interval = refl

-- one number of a chain: it is this one, or the rest of the chain decides
one_more : (n c : ℕ) (k x : Kind) (rest : Option Kind) → c ≡ code_of k
    → (rest ≡ Some x → n ≡ code_of x) → cond (eqb n c) (Some k) rest ≡ Some x → n ≡ code_of x
one_more n c k x rest at below e =
    let P : Bool → Type 0 = λ b. eqb n c ≡ b → cond b (Some k) rest ≡ Some x → n ≡ code_of x in
    let Q = elim (eqb n c) as P [
      | true ↦ λ (t : eqb n c ≡ true). λ (f : Some k ≡ Some x). eqb-true n c t ∙ at ∙ ap code_of (same_Some k x f)
      | false ↦ λ (t : eqb n c ≡ false). λ (f : rest ≡ Some x). below f
    ] in Q refl e

pub code_of-kind_of : (n : ℕ) (k : Kind) → kind_of n ≡ Some k → n ≡ code_of k
code_of-kind_of n x e =
    one_more n 1 Structure x _ refl
    (one_more n 2 Integer x _ refl
    (one_more n 3 LongInteger x _ refl
    (one_more n 4 BigInteger x _ refl
    (one_more n 5 Enumeration x _ refl
    (one_more n 6 Boolean x _ refl
    (one_more n 7 TextString x _ refl
    (one_more n 8 ByteString x _ refl
    (one_more n 9 DateTime x _ refl
    (one_more n 10 Interval x None refl (λ f. absurd cc)))))))))) e

pub chosen : {A : Type 0} (b : Bool) (x y z : A) → cond b x y ≡ z → ((b ≡ true) × (x ≡ z)) ⊎ ((b ≡ false) × (y ≡ z))
chosen true x y z e = inl (refl, e)
chosen false x y z e = inr (refl, e)

sure : (b : Bool) → cond b true false ≡ b
sure true = refl
sure false = refl

-- a value is read as the scalar that it stands for
truth_at-sound : (n : ℕ) (s : Scalar) → truth_at n ≡ Some s → (b : Bool) × (s ≡ boolean b) × (n ≡ cond b 1 0)
truth_at-sound n s e =
    elim (chosen (eqb n 0) (Some (boolean false)) (cond (eqb n 1) (Some (boolean true)) None) (Some s) e) [
      | inl p ↦ (false, sym (same_Some (boolean false) s p.1), eqb-true n 0 p.0)
      | inr p ↦ let q = cond_some (eqb n 1) (boolean true) s p.1 in (true, sym q.1, eqb-true n 1 q.0)
    ]

truth_at-complete : (b : Bool) (n : ℕ) → n ≡ cond b 1 0 → truth_at n ≡ Some (boolean b)
truth_at-complete true n e = rw e refl
truth_at-complete false n e = rw e refl

pub scalar_at-sound : (k : Kind) (v : List ℕ) (s : Scalar) → scalar_at k v ≡ Some s
    → (kind_of_scalar s ≡ k) × IsValue s v
scalar_at-sound Structure v s e = absurd cc
scalar_at-sound Integer v s e =
    let p = cond_some (eqb (length v) 4) (integer (cast_signed w32 (from_be_bytes w32 v))) s e in
    let P : Scalar → Type 0 = λ s. (kind_of_scalar s ≡ Integer) × IsValue s v in
    subst P p.1 (refl, (eqb-true _ _ p.0, refl))
scalar_at-sound LongInteger v s e =
    let p = cond_some (eqb (length v) 8) (long_integer (cast_signed w64 (from_be_bytes w64 v))) s e in
    let P : Scalar → Type 0 = λ s. (kind_of_scalar s ≡ LongInteger) × IsValue s v in
    subst P p.1 (refl, (eqb-true _ _ p.0, refl))
scalar_at-sound BigInteger v s e =
    let p = cond_some (eqb (length v % 8) 0) (big_integer v) s e in
    let P : Scalar → Type 0 = λ s. (kind_of_scalar s ≡ BigInteger) × IsValue s v in
    subst P p.1 (refl, (eqb-true _ _ p.0, refl))
scalar_at-sound Enumeration v s e =
    let p = cond_some (eqb (length v) 4) (enumeration (from_be_bytes w32 v)) s e in
    let P : Scalar → Type 0 = λ s. (kind_of_scalar s ≡ Enumeration) × IsValue s v in
    subst P p.1 (refl, (eqb-true _ _ p.0, refl))
scalar_at-sound Boolean v s e =
    elim (chosen (eqb (length v) 8) (truth_at (from_be_bytes w64 v)) None (Some s) e) [
      | inl p ↦
          let t = truth_at-sound (from_be_bytes w64 v) s p.1 in
          let P : Scalar → Type 0 = λ s. (kind_of_scalar s ≡ Boolean) × IsValue s v in
          subst P (sym t.1) (refl, (eqb-true _ _ p.0, t.2))
      | inr p ↦ absurd (none-some s p.1)
    ]
scalar_at-sound TextString v s e =
    let p = cond_some (is_utf8 v) (text_string v) s e in
    let P : Scalar → Type 0 = λ s. (kind_of_scalar s ≡ TextString) × IsValue s v in
    subst P p.1 (refl, (IsUtf8-from_is_utf8 v p.0, refl))
scalar_at-sound ByteString v s e =
    let P : Scalar → Type 0 = λ s. (kind_of_scalar s ≡ ByteString) × IsValue s v in
    subst P (same_Some (byte_string v) s e) (refl, refl)
scalar_at-sound DateTime v s e =
    let p = cond_some (eqb (length v) 8) (date_time (from_be_bytes w64 v)) s e in
    let P : Scalar → Type 0 = λ s. (kind_of_scalar s ≡ DateTime) × IsValue s v in
    subst P p.1 (refl, (eqb-true _ _ p.0, refl))
scalar_at-sound Interval v s e =
    let p = cond_some (eqb (length v) 4) (interval (from_be_bytes w32 v)) s e in
    let P : Scalar → Type 0 = λ s. (kind_of_scalar s ≡ Interval) × IsValue s v in
    subst P p.1 (refl, (eqb-true _ _ p.0, refl))

flag_at : (b : Bool) (n : ℕ) → n ≡ cond b 1 0 → b ≡ eqb n 1
flag_at true n e = rw e refl
flag_at false n e = rw e refl

pub boolean_at : (v : List ℕ) (s : Scalar) → scalar_at Boolean v ≡ Some s → (length v ≡ 8)
    × (s ≡ boolean (eqb (from_be_bytes w64 v) 1))
boolean_at v s e =
    elim (chosen (eqb (length v) 8) (truth_at (from_be_bytes w64 v)) None (Some s) e) [
      | inl p ↦ let t = truth_at-sound (from_be_bytes w64 v) s p.1 in
          (eqb-true _ _ p.0, t.1 ∙ ap boolean (flag_at t.0 (from_be_bytes w64 v) t.2))
      | inr p ↦ absurd (none-some s p.1)
    ]

some_if : {A : Type 0} (b : Bool) (x y : A) → b ≡ true → x ≡ y → cond b (Some x) None ≡ Some y
some_if b x y t e = rw t (ap (λ z. Some z) e)

pub scalar_at-complete : (s : Scalar) (v : List ℕ) → IsValue s v → scalar_at (kind_of_scalar s) v ≡ Some s
scalar_at-complete (integer z) v h = some_if _ _ _ (eq-eqb _ _ h.0) (ap integer (sym h.1))
scalar_at-complete (long_integer z) v h = some_if _ _ _ (eq-eqb _ _ h.0) (ap long_integer (sym h.1))
scalar_at-complete (big_integer b) v h = some_if _ _ _ (eq-eqb _ _ h.0) (ap big_integer (sym h.1))
scalar_at-complete (enumeration n) v h = some_if _ _ _ (eq-eqb _ _ h.0) (ap enumeration (sym h.1))
scalar_at-complete (boolean b) v h = rw (eq-eqb _ _ h.0) (truth_at-complete b _ h.1)
scalar_at-complete (text_string b) v h = some_if _ _ _ (is_utf8-from_IsUtf8 v h.0) (ap text_string (sym h.1))
scalar_at-complete (byte_string b) v h = ap (λ x. Some (byte_string x)) (sym h)
scalar_at-complete (date_time n) v h = some_if _ _ _ (eq-eqb _ _ h.0) (ap date_time (sym h.1))
scalar_at-complete (interval n) v h = some_if _ _ _ (eq-eqb _ _ h.0) (ap interval (sym h.1))

pub if_some : {A : Type 0} (b : Bool) (x : A) → is_some (cond b (Some x) None) ≡ b
if_some true x = refl
if_some false x = refl

-- a test that says whether some bytes are a text
says_utf8 : (r : Bool) (v : List ℕ) → IsTrue r ↔ IsUtf8 v → r ≡ is_utf8 v
says_utf8 true v h = sym (is_utf8-from_IsUtf8 v (h.0 refl))
says_utf8 false v h =
    elim (chosen (is_utf8 v) true false (is_utf8 v) (sure (is_utf8 v))) [
      | inl p ↦ absurd (false≢true (h.1 (IsUtf8-from_is_utf8 v p.0)))
      | inr p ↦ sym p.0
    ]

pub says_text : (r : Bool) (v : List ℕ) (k : Kind) → k ≡ TextString → IsTrue r ↔ IsUtf8 v → r ≡ is_some (scalar_at k v)
says_text r v k e h = says_utf8 r v h ∙ sym (if_some (is_utf8 v) (text_string v))
    ∙ ap (λ j. is_some (scalar_at j v)) (sym e)
