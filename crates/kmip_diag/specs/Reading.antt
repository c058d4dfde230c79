-- Reading a printed text from its front. What is read is printed again and compared with the text,
-- so that the rules of printing are stated only once.
use Rattle.std.specs.Prelude.{ℕ, zero, suc, ◌+◌, ◌*◌, ◌-◌, ◌%◌, ◌^◌, List, [], ◌∷◌, length, Option, Some, None, option_map, nat_lt, ◌==◌, if◌then◌else◌}
use Rattle.kmip_diag.specs.declared.token.Mark.{Mark}
use Rattle.kmip_diag.specs.declared.token.Mark.TheVariants.{Integer, LongInteger, BigInteger, Enumeration, Boolean, TextString, ByteString, DateTime, Interval}
use Rattle.kmip_diag.specs.declared.token.Token.{Token}
use Rattle.kmip_diag.specs.declared.token.Token.TheVariants.{Scalar, Open, Close}
use Rattle.kmip_diag.specs.Skeleton.{Skeleton, Skeletons, scalar, structure, none, more}

-- the number of an upper-case hex digit
abbrev pub hex_value : ℕ → Option ℕ
hex_value c = if nat_lt c 48 then None
    else (if nat_lt c 58 then Some (c - 48)
    else (if nat_lt c 65 then None else (if nat_lt c 71 then Some (c - 55) else None)))

abbrev pub read_on : Option ℕ → ℕ → List ℕ → (ℕ → ℕ × List ℕ) → ℕ × List ℕ
read_on None n text next = (n, text)
read_on (Some d) n text next = if nat_lt n (2 ^ 28) then next d else (n, text)

-- the number of the digits at the front, after n, while they fit 32 bits; and the rest
abbrev pub numeral : ℕ → List ℕ → ℕ × List ℕ
numeral n [] = (n, [])
numeral n (c ∷ cs) = read_on (hex_value c) n (c ∷ cs) (λ d. numeral (n * 16 + d) cs)

abbrev pub with_prefix : Option ℕ → ℕ → ℕ
with_prefix (Some prefix) n = prefix * 256 + n % 256
with_prefix None n = n

-- two digits are under the prefix
abbrev pub tag_of : Option ℕ → ℕ → ℕ → ℕ
tag_of prefix digits n = if digits == 2 then with_prefix prefix n else n

-- the piece of an enumeration, and the rest after the letter that ends its number
abbrev pub number_token : ℕ → ℕ × List ℕ → Option (Token × List ℕ)
number_token tag (n, []) = None
number_token tag (n, c ∷ cs) = Some (Scalar tag (Enumeration n), cs)

abbrev pub mark_at : ℕ → Option Mark
mark_at c =
    if c == 105 then Some Integer
    else (if c == 108 then Some LongInteger
    else (if c == 98 then Some BigInteger
    else (if c == 111 then Some Boolean
    else (if c == 116 then Some TextString
    else (if c == 120 then Some ByteString
    else (if c == 100 then Some DateTime else (if c == 110 then Some Interval else None)))))))

-- the piece with the tag and the letter after it
abbrev pub by_letter : ℕ → ℕ → List ℕ → Option (Token × List ℕ)
by_letter tag c cs = if c == 91 then Some (Open tag, cs)
    else (if c == 101 then number_token tag (numeral 0 cs)
    else option_map (λ mark. (Scalar tag mark, cs)) (mark_at c))

abbrev pub tag_token : ℕ → ℕ → List ℕ → Option (Token × List ℕ)
tag_token tag c cs = if nat_lt tag (2 ^ 24) then by_letter tag c cs else None

abbrev pub after_digits : Option ℕ → List ℕ → ℕ × List ℕ → Option (Token × List ℕ)
after_digits prefix text (n, []) = None
after_digits prefix text (n, c ∷ cs) =
    if c == 93 then Some (Close, cs)
    else tag_token (tag_of prefix (length text - length (c ∷ cs)) n) c cs

-- the piece at the front of a printed text, and the rest
abbrev pub read_token : Option ℕ → List ℕ → Option (Token × List ℕ)
read_token prefix text = after_digits prefix text (numeral 0 text)

abbrev pub first : Skeleton → Skeletons × List ℕ → Skeletons × List ℕ
first t (ts, rest) = (more t ts, rest)

abbrev pub around : ℕ → Skeletons × List ℕ → (List ℕ → Skeletons × List ℕ) → Skeletons × List ℕ
around tag (inner, rest) next = first (structure tag inner) (next rest)

abbrev pub by_token : Option (Token × List ℕ) → List ℕ → (List ℕ → Skeletons × List ℕ) →
    Skeletons × List ℕ
by_token None text next = (none, text)
by_token (Some (Scalar tag mark, rest)) text next = first (scalar tag mark) (next rest)
by_token (Some (Open tag, rest)) text next = around tag (next rest) next
by_token (Some (Close, rest)) text next = (none, rest)

-- the skeletons at the front of a printed text, and what stands after them and the `]` that ends
-- them; with fuel above the text's length
abbrev pub read_all : ℕ → Option ℕ → List ℕ → Skeletons × List ℕ
read_all zero prefix text = (none, text)
read_all (suc fuel) prefix text = by_token (read_token prefix text) text (read_all fuel prefix)
