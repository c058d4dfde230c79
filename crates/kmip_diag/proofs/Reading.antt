-- A piece is read back from the front of a text that begins with it.
use Rattle.std.proofs.Common.{◌≡◌, refl, sym, ◌∙◌, ap, arith, ℕ, zero, suc, ◌+◌, ◌*◌, ◌-◌, ◌/◌, ◌%◌, ◌^◌, ◌<◌, Bool, true, false, List, [], ◌∷◌, ◌++◌, length, Option, Some, None}
use Rattle.std.specs.Prelude.{◌==◌, if◌then◌else◌}
use Rattle.std.specs.Cmp.{unsigned_Decides}
use Rattle.std.specs.Fmt.{digit_glyph, digits, digits_onto}
use native.Mathlib.Numerals.{unary_clauses}
use Rattle.std.proofs.lemmas.List.{append_assoc, append-nil, length-append}
use Rattle.std.proofs.lemmas.Bool.{false≢true, lt-ltb}
use Rattle.kmip_diag.specs.declared.token.Mark.TheVariants.{Integer, LongInteger, BigInteger, Enumeration, Boolean, TextString, ByteString, DateTime, Interval}
use Rattle.kmip_diag.specs.declared.token.Mark.{Mark}
use Rattle.kmip_diag.specs.declared.token.Token.{Token}
use Rattle.kmip_diag.specs.declared.token.Token.TheVariants.{Scalar, Open, Close}
use Rattle.kmip_diag.specs.Skeleton.{Skeletons, scalar, structure, none, more}
use Rattle.kmip_diag.specs.Printed.{two, six, has_prefix, printed_tag, printed_mark, printed_all}
use Rattle.kmip_diag.specs.Tokens.{token_text, IsToken, AreSkeletons}
use Rattle.kmip_diag.specs.Reading.{hex_value, numeral, tag_of, number_token, by_letter, tag_token, after_digits, read_token, first, around, by_token, read_all}

glyph_read : (d : ℕ) → d < 16 → hex_value (digit_glyph true d) ≡ Some d
glyph_read zero h = refl
glyph_read (suc zero) h = refl
glyph_read (suc (suc zero)) h = refl
glyph_read (suc (suc (suc zero))) h = refl
glyph_read (suc (suc (suc (suc zero)))) h = refl
glyph_read (suc (suc (suc (suc (suc zero))))) h = refl
glyph_read (suc (suc (suc (suc (suc (suc zero)))))) h = refl
glyph_read (suc (suc (suc (suc (suc (suc (suc zero))))))) h = refl
glyph_read (suc (suc (suc (suc (suc (suc (suc (suc zero)))))))) h = refl
glyph_read (suc (suc (suc (suc (suc (suc (suc (suc (suc zero))))))))) h = refl
glyph_read (suc (suc (suc (suc (suc (suc (suc (suc (suc (suc zero)))))))))) h = refl
glyph_read (suc (suc (suc (suc (suc (suc (suc (suc (suc (suc (suc zero))))))))))) h = refl
glyph_read (suc (suc (suc (suc (suc (suc (suc (suc (suc (suc (suc (suc zero)))))))))))) h = refl
glyph_read (suc (suc (suc (suc (suc (suc (suc (suc (suc (suc (suc (suc (suc zero))))))))))))) h = refl
glyph_read (suc (suc (suc (suc (suc (suc (suc (suc (suc (suc (suc (suc (suc (suc zero)))))))))))))) h = refl
glyph_read (suc (suc (suc (suc (suc (suc (suc (suc (suc (suc (suc (suc (suc (suc (suc zero))))))))))))))) h = refl
glyph_read (suc (suc (suc (suc (suc (suc (suc (suc
    (suc (suc (suc (suc (suc (suc (suc (suc d)))))))))))))))) h = absurd (omega (arith, h))

digit_read : (n d : ℕ) (cs : List ℕ) → d < 16 → n < 2 ^ 28
    → numeral n (digit_glyph true d ∷ cs) ≡ numeral (n * 16 + d) cs
digit_read n d cs h k = rw (glyph_read d h) (rw (lt-ltb n (2 ^ 28) k) refl)

two_read : (n m : ℕ) (cs : List ℕ) → n < 2 ^ 20 → numeral n (two m ++ cs) ≡ numeral (n * 256 + m % 256) cs
two_read n m cs h =
    digit_read n (m / 16 % 16) (digit_glyph true (m % 16) ∷ cs) (omega arith) (omega (arith, h))
    ∙ digit_read (n * 16 + m / 16 % 16) (m % 16) cs (omega arith) (omega (arith, h))
    ∙ ap (λ k. numeral k cs) (omega arith)

six_read : (m : ℕ) (cs : List ℕ) → m < 2 ^ 24 → numeral 0 (six m ++ cs) ≡ numeral m cs
unfolding six
six_read m cs h =
    two_read 0 (m / 0x1_0000) (two (m / 0x100) ++ two m ++ cs) (omega arith)
    ∙ two_read (0 * 256 + m / 0x1_0000 % 256) (m / 0x100) (two m ++ cs) (omega arith)
    ∙ two_read ((0 * 256 + m / 0x1_0000 % 256) * 256 + m / 0x100 % 256) m cs (omega arith)
    ∙ ap (λ k. numeral k cs) (omega (arith, h))

letter_stops : (n c : ℕ) (cs : List ℕ) → hex_value c ≡ None → numeral n (c ∷ cs) ≡ (n, c ∷ cs)
letter_stops n c cs h = rw h refl

-- the digits of a number
digits_after : (k n : ℕ) (acc cs : List ℕ) → digits_onto k 16 true n acc ++ cs ≡ digits_onto k 16 true n (acc ++ cs)
digits_after zero n acc cs = refl
digits_after (suc k) n acc cs = by_last (digits_after k (n / 16) (digit_glyph true (n % 16) ∷ acc) cs) (n / 16 == 0)
  where
    by_last : digits_onto k 16 true (n / 16) (digit_glyph true (n % 16) ∷ acc) ++ cs
        ≡ digits_onto k 16 true (n / 16) (digit_glyph true (n % 16) ∷ (acc ++ cs)) → (b : Bool)
        → (if b then digit_glyph true (n % 16) ∷ acc
        else digits_onto k 16 true (n / 16) (digit_glyph true (n % 16) ∷ acc)) ++ cs
        ≡ (if b then digit_glyph true (n % 16) ∷ (acc ++ cs)
        else digits_onto k 16 true (n / 16) (digit_glyph true (n % 16) ∷ (acc ++ cs)))
    by_last later true = refl
    by_last later false = later

digits_read : (k n : ℕ) (cs : List ℕ) → n < 16 ^ k → n < 2 ^ 32 → numeral 0 (digits_onto k 16 true n cs) ≡ numeral n cs
digits_read zero n cs h w = ap (λ m. numeral m cs) (omega (arith, h))
digits_read (suc k) n cs h w =
    let small = simp unary_clauses at h
    in by_last (digits_read k (n / 16) (digit_glyph true (n % 16) ∷ cs) (omega (arith, small))
    (omega (arith, w))) (n / 16 == 0) refl
  where
    by_last : numeral 0 (digits_onto k 16 true (n / 16) (digit_glyph true (n % 16) ∷ cs))
        ≡ numeral (n / 16) (digit_glyph true (n % 16) ∷ cs) → (b : Bool) → (n / 16 == 0) ≡ b
        → numeral 0 (if b then digit_glyph true (n % 16) ∷ cs
        else digits_onto k 16 true (n / 16) (digit_glyph true (n % 16) ∷ cs)) ≡ numeral n cs
    by_last later true e = digit_read 0 (n % 16) cs (omega arith) (omega arith)
        ∙ ap (λ m. numeral m cs) (omega (arith, (unsigned_Decides (n / 16) 0).0 e))
    by_last later false e = later ∙ digit_read (n / 16) (n % 16) cs (omega arith) (omega (arith, w))
        ∙ ap (λ m. numeral m cs) (omega arith)

number_read : (n : ℕ) (cs : List ℕ) → n < 2 ^ 32 → numeral 0 (digits 16 true n ++ (58 ∷ cs)) ≡ (n, 58 ∷ cs)
unfolding digits
number_read n cs w = ap (λ t. numeral 0 t) (digits_after 64 n [] (58 ∷ cs))
    ∙ digits_read 64 n (58 ∷ cs) (omega (arith, w)) w ∙ letter_stops n 58 cs refl

-- a tag before a letter that is no digit and no `]`
abbrev IsLetter : ℕ → Type 0
IsLetter c = (hex_value c ≡ None) × ((c == 93) ≡ false)

two_tag : (p : Option ℕ) (tag c : ℕ) (cs : List ℕ) → has_prefix p tag ≡ true → IsLetter c
    → read_token p (two tag ++ (c ∷ cs)) ≡ tag_token tag c cs
two_tag None tag c cs h l = absurd (false≢true h)
two_tag (Some q) tag c cs h l =
    let n : numeral 0 (two tag ++ (c ∷ cs)) ≡ (0 * 256 + tag % 256, c ∷ cs) =
    two_read 0 tag (c ∷ cs) (omega arith) ∙ letter_stops (0 * 256 + tag % 256) c cs l.0
    in let two_long : (length (two tag ++ (c ∷ cs)) - length (c ∷ cs)) ≡ 2 = omega arith
    in let whole : q * 256 + (0 * 256 + tag % 256) % 256 ≡ tag = omega (arith, (unsigned_Decides (tag / 256) q).0 h)
    in ap (after_digits (Some q) (two tag ++ (c ∷ cs))) n
    ∙ ap (λ x. if x then Some (Close, cs)
    else tag_token (tag_of (Some q) (length (two tag ++ (c ∷ cs)) - length (c ∷ cs))
    (0 * 256 + tag % 256)) c cs) l.1
    ∙ ap (λ k. tag_token (tag_of (Some q) k (0 * 256 + tag % 256)) c cs) two_long
    ∙ ap (λ k. tag_token k c cs) whole

six_tag : (p : Option ℕ) (tag c : ℕ) (cs : List ℕ) → tag < 2 ^ 24 → IsLetter c
    → read_token p (six tag ++ (c ∷ cs)) ≡ tag_token tag c cs
unfolding six
six_tag p tag c cs h l =
    let n : numeral 0 (six tag ++ (c ∷ cs)) ≡ (tag, c ∷ cs) = six_read tag (c ∷ cs) h ∙ letter_stops tag c cs l.0
    in let six_long : (length (six tag ++ (c ∷ cs)) - length (c ∷ cs)) ≡ 6 = omega arith
    in ap (after_digits p (six tag ++ (c ∷ cs))) n
    ∙ ap (λ x. if x then Some (Close, cs)
    else tag_token (tag_of p (length (six tag ++ (c ∷ cs)) - length (c ∷ cs)) tag) c cs) l.1
    ∙ ap (λ k. tag_token (tag_of p k tag) c cs) six_long

tag_read : (p : Option ℕ) (tag c : ℕ) (cs : List ℕ) → tag < 2 ^ 24 → IsLetter c
    → read_token p (printed_tag p tag ++ (c ∷ cs)) ≡ by_letter tag c cs
tag_read p tag c cs h l = by_prefix (has_prefix p tag) refl
    ∙ ap (λ x. if x then by_letter tag c cs else None) (lt-ltb tag (2 ^ 24) h)
  where
    by_prefix : (b : Bool) → has_prefix p tag ≡ b
        → read_token p ((if b then two tag else six tag) ++ (c ∷ cs)) ≡ tag_token tag c cs
    by_prefix true e = two_tag p tag c cs e l
    by_prefix false e = six_tag p tag c cs h l

-- the piece before any rest
pub token_read : (p : Option ℕ) (k : Token) (rest : List ℕ) → IsToken k
    → read_token p (token_text p k ++ rest) ≡ Some (k, rest)
token_read p Close rest h = refl
token_read p (Open tag) rest h = ap (read_token p) (append_assoc (printed_tag p tag) (91 ∷ []) rest)
    ∙ tag_read p tag 91 rest h (refl, refl)
token_read p (Scalar tag Integer) rest h =
    ap (read_token p) (append_assoc (printed_tag p tag) (105 ∷ []) rest)
    ∙ tag_read p tag 105 rest h.0 (refl, refl)
token_read p (Scalar tag LongInteger) rest h =
    ap (read_token p) (append_assoc (printed_tag p tag) (108 ∷ []) rest)
    ∙ tag_read p tag 108 rest h.0 (refl, refl)
token_read p (Scalar tag BigInteger) rest h =
    ap (read_token p) (append_assoc (printed_tag p tag) (98 ∷ []) rest)
    ∙ tag_read p tag 98 rest h.0 (refl, refl)
token_read p (Scalar tag Boolean) rest h =
    ap (read_token p) (append_assoc (printed_tag p tag) (111 ∷ []) rest)
    ∙ tag_read p tag 111 rest h.0 (refl, refl)
token_read p (Scalar tag TextString) rest h =
    ap (read_token p) (append_assoc (printed_tag p tag) (116 ∷ []) rest)
    ∙ tag_read p tag 116 rest h.0 (refl, refl)
token_read p (Scalar tag ByteString) rest h =
    ap (read_token p) (append_assoc (printed_tag p tag) (120 ∷ []) rest)
    ∙ tag_read p tag 120 rest h.0 (refl, refl)
token_read p (Scalar tag DateTime) rest h =
    ap (read_token p) (append_assoc (printed_tag p tag) (100 ∷ []) rest)
    ∙ tag_read p tag 100 rest h.0 (refl, refl)
token_read p (Scalar tag Interval) rest h =
    ap (read_token p) (append_assoc (printed_tag p tag) (110 ∷ []) rest)
    ∙ tag_read p tag 110 rest h.0 (refl, refl)
token_read p (Scalar tag (Enumeration n)) rest h =
    ap (read_token p) (append_assoc (printed_tag p tag) (101 ∷ (digits 16 true n ++ (58 ∷ []))) rest)
    ∙ tag_read p tag 101 ((digits 16 true n ++ (58 ∷ [])) ++ rest) h.0 (refl, refl)
    ∙ ap (λ t. number_token tag (numeral 0 t)) (append_assoc (digits 16 true n) (58 ∷ []) rest)
    ∙ ap (number_token tag) (number_read n rest h.1)

-- ---- skeletons

pub open_text : (p : Option ℕ) (tag : ℕ) (us ts : Skeletons) (stop : List ℕ)
    → printed_all p (more (structure tag us) ts) ++ stop
    ≡ token_text p (Open tag) ++ (printed_all p us ++ (93 ∷ (printed_all p ts ++ stop)))
open_text p tag us ts stop =
    append_assoc (printed_tag p tag ++ (91 ∷ (printed_all p us ++ (93 ∷ [])))) (printed_all p ts) stop
    ∙ append_assoc (printed_tag p tag) (91 ∷ (printed_all p us ++ (93 ∷ []))) (printed_all p ts ++ stop)
    ∙ ap (λ x. printed_tag p tag ++ (91 ∷ x)) (append_assoc (printed_all p us) (93 ∷ []) (printed_all p ts ++ stop))
    ∙ sym (append_assoc (printed_tag p tag) (91 ∷ []) (printed_all p us ++ (93 ∷ (printed_all p ts ++ stop))))

mark_positive : (m : Mark) → 0 < length (printed_mark m)
mark_positive Integer = omega arith
mark_positive LongInteger = omega arith
mark_positive BigInteger = omega arith
mark_positive (Enumeration n) = omega arith
mark_positive Boolean = omega arith
mark_positive TextString = omega arith
mark_positive ByteString = omega arith
mark_positive DateTime = omega arith
mark_positive Interval = omega arith

-- a printed list is read back, before a `]` or at the end
pub read_back : (p : Option ℕ) (ts : Skeletons) (fuel : ℕ) (stop rest : List ℕ) → AreSkeletons ts
    → length (printed_all p ts) < fuel → ((n : ℕ) → read_all (suc n) p stop ≡ (none, rest))
    → read_all fuel p (printed_all p ts ++ stop) ≡ (ts, rest)
read_back p ts zero stop rest h long stops = absurd (omega (arith, long))
read_back p none (suc fuel) stop rest h long stops = stops fuel
read_back p (more (scalar tag mark) ts) (suc fuel) stop rest h long stops =
    let later = read_back p ts fuel stop rest h.1
    (omega (
      arith,
      long,
      mark_positive mark,
      length-append (printed_tag p tag ++ printed_mark mark) (printed_all p ts),
      length-append (printed_tag p tag) (printed_mark mark),
    )) stops
    in ap (read_all (suc fuel) p) (append_assoc (printed_tag p tag ++ printed_mark mark) (printed_all p ts) stop)
    ∙ ap (λ o. by_token o (token_text p (Scalar tag mark) ++ (printed_all p ts ++ stop))
    (read_all fuel p)) (token_read p (Scalar tag mark) (printed_all p ts ++ stop) h.0)
    ∙ ap (first (scalar tag mark)) later
read_back p (more (structure tag us) ts) (suc fuel) stop rest h long stops =
    let outer_size = length-append (printed_tag p tag ++ (91 ∷ (printed_all p us ++ (93 ∷ [])))) (printed_all p ts)
    in let size = length-append (printed_tag p tag) (91 ∷ (printed_all p us ++ (93 ∷ [])))
    in let inner_size = length-append (printed_all p us) (93 ∷ [])
    in let next = printed_all p ts ++ stop
    in let inner = read_back p us fuel (93 ∷ next) next h.0.1
    (omega (arith, long, outer_size, size, inner_size)) (λ n. refl)
    in let later = read_back p ts fuel stop rest h.1 (omega (arith, long, outer_size, size, inner_size)) stops
    in ap (read_all (suc fuel) p) (open_text p tag us ts stop)
    ∙ ap (λ o. by_token o (token_text p (Open tag) ++ (printed_all p us ++ (93 ∷ next)))
    (read_all fuel p)) (token_read p (Open tag) (printed_all p us ++ (93 ∷ next)) h.0.0)
    ∙ ap (λ r. around tag r (read_all fuel p)) inner
    ∙ ap (first (structure tag us)) later

pub read_whole : (p : Option ℕ) (ts : Skeletons) (fuel : ℕ) → AreSkeletons ts
    → length (printed_all p ts) < fuel → (read_all fuel p (printed_all p ts)).0 ≡ ts
read_whole p ts fuel h long = ap (λ x. (read_all fuel p x).0) (sym (append-nil (printed_all p ts)))
    ∙ ap (λ x. x.0) (read_back p ts fuel [] [] h long (λ n. refl))

pub printed_all-inj : (p : Option ℕ) (ts us : Skeletons) → AreSkeletons ts → AreSkeletons us
    → printed_all p ts ≡ printed_all p us → ts ≡ us
printed_all-inj p ts us h g e =
    let fuel = suc (length (printed_all p ts))
    in sym (read_whole p ts fuel h (omega arith)) ∙ ap (λ x. (read_all fuel p x).0) e
    ∙ read_whole p us fuel g (omega (arith, ap length e))
