-- The words that stand for texts and for data, read again.
use Rattle.std.proofs.Common.{◌≡◌, ◌≢◌, ℕ, ◌*◌, Bool, true, false, cond, eqb, List, [], ◌∷◌, ◌++◌, length, Option, Some, None, Ok, refl, ap, sym, ◌∙◌, arith, codes, bytes_eq, flat_map, ◌==◌}
use Rattle.std.specs.Result.{result_ok}
use Rattle.std.specs.Str.{IsUtf8}
use Rattle.std.proofs.lemmas.Bool.{false≢true}
use Rattle.std.proofs.lemmas.Bool.Decides.{Decides-eqb, nat_tests}
use Rattle.std.proofs.lemmas.Slice.Eq.{bytes_eq-Decides}
use Rattle.hex.specs.Hex.{IsBytes, decode_of, encode_upper, upper_digits}
use Rattle.hex.proofs.HexLemmas.{decode_of-encode_upper, length-encode_with}
use Rattle.kmip_request_words.specs.Values.{unescape, then_rest, text_from, word_text, bytes_of}
use Rattle.kmip_request_words.proofs.Texts.{at_plain}
use Rattle.kmip_request_words.proofs.Utf8.{text_from_utf8, text_of_other, text_of_none}
use Rattle.kmip_calls.specs.Written.{escaped, text_word, data_word}

-- ---- a text

escaped_first : (c : ℕ) (rest text : List ℕ) → unescape rest ≡ Some text →
    (a : Bool) → eqb c 37 ≡ a → (b : Bool) → eqb c 61 ≡ b →
    unescape (cond a (codes "%25") (cond b (codes "%3D") (c ∷ [])) ++ rest) ≡ Some (c ∷ text)
unfolding unescape
escaped_first c rest text h true e b f =
    rw ((Decides-eqb c 37).0 e) (ap (then_rest (Some 37)) h)
escaped_first c rest text h false e true f =
    rw ((Decides-eqb c 61).0 f) (ap (then_rest (Some 61)) h)
escaped_first c rest text h false e false f =
    at_plain (c ∷ rest) (omega arith) (λ is. grind (arith, nat_tests)) ∙ ap (then_rest (Some c)) h

unescape_escaped : (text : List ℕ) → unescape (flat_map escaped text) ≡ Some text
unfolding unescape
unescape_escaped [] = refl
unescape_escaped (c ∷ text) =
    escaped_first c (flat_map escaped text) text (unescape_escaped text) (eqb c 37) refl (eqb c 61) refl

same_text : (a b : List ℕ) → bytes_eq a b ≡ true → a ≡ b
same_text a b = (bytes_eq-Decides a b).0

unlike : (a b : List ℕ) → length a ≢ length b → bytes_eq a b ≡ false
unlike a b not = by (bytes_eq a b) refl
  where
    by : (t : Bool) → bytes_eq a b ≡ t → t ≡ false
    by true e = absurd (not (ap length (same_text a b e)))
    by false e = refl

-- what stands for `-` is no `-`
not_dash : (text : List ℕ) → bytes_eq text (codes "-") ≡ false → (b : Bool) →
    bytes_eq (flat_map escaped text) (codes "-") ≡ b → b ≡ false
unfolding unescape
not_dash text other false e = refl
not_dash text other true e =
    let dash : flat_map escaped text ≡ codes "-" = same_text (flat_map escaped text) (codes "-") e in
    let found : Some text ≡ Some (codes "-") = sym (unescape_escaped text) ∙ ap unescape dash in
    let is : text ≡ codes "-" = cc found in
    absurd (cc (other, (bytes_eq-Decides text (codes "-")).1 is))

dash : unescape (codes "%2D") ≡ Some (codes "-")
unfolding unescape
dash = refl

text_read_by : (text : List ℕ) → IsUtf8 text → (a : Bool) → (length text == 0) ≡ a →
    (b : Bool) → bytes_eq text (codes "-") ≡ b →
    word_text (cond a (codes "-") (cond b (codes "%2D") (flat_map escaped text))) ≡ Some text
text_read_by [] utf8 true e b f = text_of_none (codes "-") refl
text_read_by [] utf8 false e b f = absurd (false≢true (sym e))
text_read_by (c ∷ text) utf8 true e b f =
    let none : length (c ∷ text) ≡ 0 = (Decides-eqb (length (c ∷ text)) 0).0 e in
    absurd (omega (arith, none))
text_read_by (c ∷ text) utf8 false e true f =
    let is : c ∷ text ≡ codes "-" = same_text (c ∷ text) (codes "-") f in
    text_of_other (codes "%2D") refl
    ∙ ap text_from (dash ∙ ap (λ (x : List ℕ). Some x) (sym is)) ∙ text_from_utf8 (c ∷ text) utf8
text_read_by (c ∷ text) utf8 false e false f =
    text_of_other (flat_map escaped (c ∷ text)) (not_dash (c ∷ text) f _ refl)
    ∙ ap text_from (unescape_escaped (c ∷ text)) ∙ text_from_utf8 (c ∷ text) utf8

pub text_read : (text : List ℕ) → IsUtf8 text → word_text (text_word text) ≡ Some text
unfolding text_word
text_read text utf8 = text_read_by text utf8 (length text == 0) refl (bytes_eq text (codes "-")) refl

-- ---- data

data_read_by : (bytes : List ℕ) → IsBytes bytes → (a : Bool) → (length bytes == 0) ≡ a →
    bytes_of (cond a (codes "-") (encode_upper bytes)) ≡ Some bytes
unfolding bytes_of
data_read_by [] h true e = refl
data_read_by [] h false e = absurd (false≢true (sym e))
data_read_by (c ∷ bytes) h true e =
    let none : length (c ∷ bytes) ≡ 0 = (Decides-eqb (length (c ∷ bytes)) 0).0 e in
    absurd (omega (arith, none))
data_read_by (c ∷ bytes) h false e =
    let long : length (encode_upper (c ∷ bytes)) ≡ 2 * length (c ∷ bytes)
    = length-encode_with upper_digits (c ∷ bytes) in
    let other : bytes_eq (encode_upper (c ∷ bytes)) (codes "-") ≡ false
    = unlike (encode_upper (c ∷ bytes)) (codes "-") (λ e. omega (arith, long, e)) in
    let some : (length (encode_upper (c ∷ bytes)) == 0) ≡ false = grind (arith, nat_tests, long) in
    rw (other, some) (ap result_ok (decode_of-encode_upper (c ∷ bytes) h))

pub data_read : (bytes : List ℕ) → IsBytes bytes → bytes_of (data_word bytes) ≡ Some bytes
unfolding data_word
data_read bytes h = data_read_by bytes h (length bytes == 0) refl
