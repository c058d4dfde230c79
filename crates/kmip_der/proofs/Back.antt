-- What is written is read: an element, and a number.
use Rattle.std.proofs.Common.{◌≡◌, ℕ, ◌+◌, ◌*◌, ◌/◌, ◌%◌, ◌==◌, Bool, true, false, List, [], ◌∷◌, ◌++◌, length, Option, Some, refl, sym, ◌∙◌, ap, arith, append_assoc, length-append}
use Rattle.std.specs.Prelude.{nat_lt, nat_le}
use Rattle.std.specs.Option.{option_and_then}
use Rattle.std.proofs.lemmas.Bool.{le-leb}
use Rattle.std.proofs.lemmas.List.{append-nil}
use Rattle.std.proofs.Math.Seq.{take-append_seam, drop-append_seam}
use Rattle.kmip_der.specs.Der.{element, length_octets, length_in, element_in, cut, Element, Length, tagged, with_tag, only, alone, natural_in, natural_found, is_natural}
use Rattle.kmip_der.specs.Write.{digits_of, with_sign, integer}

abbrev long : ℕ → List ℕ → Option Length
long n bytes = Some (record { len = n; behind = bytes })

one : (n : ℕ) (bytes : List ℕ) → nat_lt n 128 ≡ true → length_in (length_octets n ++ bytes) ≡ long n bytes
one n bytes t = rw t (rw t refl)

two : (n : ℕ) (bytes : List ℕ) → nat_lt n 128 ≡ false → nat_lt n 256 ≡ true
    → length_in (length_octets n ++ bytes) ≡ long n bytes
two n bytes f t = rw f (rw t (rw f refl))

three : (n m : ℕ) (bytes : List ℕ) → nat_lt n 128 ≡ false → nat_lt n 256 ≡ false → nat_lt n 65536 ≡ true
    → n / 256 * 256 + n % 256 ≡ n → length_in (length_octets n ++ bytes) ≡ long n bytes
three n m bytes f g t e = rw f (rw g (rw t (rw e (rw g refl))))

four : (n : ℕ) (bytes : List ℕ) → nat_lt n 128 ≡ false → nat_lt n 256 ≡ false → nat_lt n 65536 ≡ false
    → nat_lt n 16777216 ≡ true → n / 65536 * 65536 + (n / 256 % 256 * 256 + n % 256) ≡ n
    → length_in (length_octets n ++ bytes) ≡ long n bytes
four n bytes f g i t e = rw f (rw g (rw i (rw t (rw e (rw i refl)))))

five : (n : ℕ) (bytes : List ℕ) → nat_lt n 128 ≡ false → nat_lt n 256 ≡ false → nat_lt n 65536 ≡ false
    → nat_lt n 16777216 ≡ false
    → n / 16777216 * 16777216 + (n / 65536 % 256 * 65536 + (n / 256 % 256 * 256 + n % 256)) ≡ n
    → length_in (length_octets n ++ bytes) ≡ long n bytes
five n bytes f g i j e = rw f (rw g (rw i (rw j (rw e (rw j refl)))))

by_test : (b : Bool) (P : Type 0) → (b ≡ true → P) → (b ≡ false → P) → P
by_test true P t f = t refl
by_test false P t f = f refl

pub length_read : (n : ℕ) (bytes : List ℕ) → length_in (length_octets n ++ bytes) ≡ long n bytes
length_read n bytes =
    by_test (nat_lt n 128) _ (one n bytes) (λ f.
    by_test (nat_lt n 256) _ (two n bytes f) (λ g.
    by_test (nat_lt n 65536) _ (λ t. three n n bytes f g t (omega arith)) (λ i.
    by_test (nat_lt n 16777216) _ (λ t. four n bytes f g i t (omega arith)) (λ j.
    five n bytes f g i j (omega arith)))))

abbrev pub read : ℕ → List ℕ → List ℕ → Option Element
read tag contents rest = Some (record { tag = tag; contents = contents; behind = rest })

pub element_read : (tag : ℕ) (contents rest : List ℕ) → element_in (element tag contents ++ rest) ≡ read tag contents rest
element_read tag contents rest =
    let n = length contents in
    let parts : (length_octets n ++ contents) ++ rest ≡ length_octets n ++ (contents ++ rest) =
    append_assoc (length_octets n) contents rest in
    let found : length_in ((length_octets n ++ contents) ++ rest) ≡ long n (contents ++ rest) =
    ap length_in parts ∙ length_read n (contents ++ rest) in
    let fits : nat_le n (length (contents ++ rest)) ≡ true =
    le-leb _ _ (omega (arith, length-append contents rest)) in
    ap (option_and_then (cut tag)) found
    ∙ rw fits (rw (take-append_seam contents rest) (rw (drop-append_seam contents rest) refl))

pub tagged_read : (tag : ℕ) (contents rest : List ℕ) → tag == tag ≡ true
    → tagged tag (element tag contents ++ rest) ≡ read tag contents rest
tagged_read tag contents rest e = ap (option_and_then (with_tag tag)) (element_read tag contents rest) ∙ rw e refl

pub only_read : (tag : ℕ) (contents : List ℕ) → tag == tag ≡ true → only tag (element tag contents) ≡ Some contents
only_read tag contents e =
    ap (only tag) (sym (append-nil (element tag contents)))
    ∙ ap (option_and_then alone) (tagged_read tag contents [] e)

-- ---- numbers

small : (a : ℕ) (rest : List ℕ) → nat_lt a 128 ≡ true → a == 0 ≡ false → is_natural (a ∷ rest) ≡ true
small a [] s h = s
small a (b ∷ rest) s h = rw s (rw h refl)

front_signed : (a : ℕ) (rest : List ℕ) → a == 0 ≡ false → is_natural (with_sign (a ∷ rest)) ≡ true
front_signed a rest h = by_test (nat_lt a 128) _ (λ s. rw s (small a rest s h)) (λ s. rw s (rw s refl))

signed : (number : List ℕ) → is_natural (with_sign (digits_of number)) ≡ true
signed [] = refl
signed (a ∷ rest) = by_test (a == 0) _ (λ t. rw t (signed rest)) (λ f. rw f (front_signed a rest f))

abbrev pub number_of : List ℕ → List ℕ
number_of number = with_sign (digits_of number)

pub natural_read : (number rest : List ℕ) → natural_in (integer number ++ rest) ≡ read 2 (number_of number) rest
natural_read number rest =
    ap (option_and_then natural_found) (tagged_read 2 (number_of number) rest refl)
    ∙ rw (signed number) refl
