-- Elements of DER (X.690, 8.1 and 10.1), and the numbers in them (8.3).
use Rattle.std.specs.Prelude.{ℕ, ◌+◌, ◌*◌, ◌/◌, ◌%◌, ◌==◌, nat_lt, nat_le, not, Bool, false, ◌&&◌, List, [], ◌∷◌, ◌++◌, length, take, drop, Option, Some, None, if◌then◌else◌}
use Rattle.std.specs.Option.{option_and_then}

-- the fewest bytes of a length (10.1)
abbrev pub length_octets : ℕ → List ℕ
length_octets n =
    if nat_lt n 128 then n ∷ []
    else if nat_lt n 256 then 129 ∷ n ∷ []
    else if nat_lt n 65536 then 130 ∷ n / 256 ∷ n % 256 ∷ []
    else if nat_lt n 16777216 then 131 ∷ n / 65536 ∷ n / 256 % 256 ∷ n % 256 ∷ []
    else 132 ∷ n / 16777216 ∷ n / 65536 % 256 ∷ n / 256 % 256 ∷ n % 256 ∷ []

-- an element with a tag of one byte, of fewer than 2^32 bytes
abbrev pub element : ℕ → List ℕ → List ℕ
element tag contents = tag ∷ (length_octets (length contents) ++ contents)

-- a length, and what stands behind it
pub record Length : Type 0 where
  pub len : ℕ
  pub behind : List ℕ

-- a length of more than one byte is not one of fewer (10.1)
abbrev pub at_least : ℕ → ℕ → List ℕ → Option Length
at_least most n behind = if nat_lt n most then None else Some (record { len = n; behind = behind })

abbrev pub length_of_one : List ℕ → Option Length
length_of_one (a ∷ behind) = at_least 128 a behind
length_of_one bytes = None

abbrev pub length_of_two : List ℕ → Option Length
length_of_two (a ∷ b ∷ behind) = at_least 256 (a * 256 + b) behind
length_of_two bytes = None

abbrev pub length_of_three : List ℕ → Option Length
length_of_three (a ∷ b ∷ c ∷ behind) = at_least 65536 (a * 65536 + (b * 256 + c)) behind
length_of_three bytes = None

abbrev pub length_of_four : List ℕ → Option Length
length_of_four (a ∷ b ∷ c ∷ d ∷ behind) =
    at_least 16777216 (a * 16777216 + (b * 65536 + (c * 256 + d))) behind
length_of_four bytes = None

abbrev pub length_by : ℕ → List ℕ → Option Length
length_by first bytes =
    if nat_lt first 128 then Some (record { len = first; behind = bytes })
    else if first == 129 then length_of_one bytes
    else if first == 130 then length_of_two bytes
    else if first == 131 then length_of_three bytes
    else if first == 132 then length_of_four bytes
    else None

abbrev pub length_in : List ℕ → Option Length
length_in [] = None
length_in (first ∷ bytes) = length_by first bytes

-- the first element: its contents, and what stands behind it
pub record Element : Type 0 where
  pub tag : ℕ
  pub contents : List ℕ
  pub behind : List ℕ

abbrev pub cut : ℕ → Length → Option Element
cut tag found =
    if nat_le found.len (length found.behind)
    then Some (record {
      tag = tag;
      contents = take found.len found.behind;
      behind = drop found.len found.behind;
    })
    else None

abbrev pub element_in : List ℕ → Option Element
element_in [] = None
element_in (tag ∷ bytes) = option_and_then (cut tag) (length_in bytes)

-- the first element, where it has this tag
abbrev pub with_tag : ℕ → Element → Option Element
with_tag tag found = if found.tag == tag then Some found else None

abbrev pub tagged : ℕ → List ℕ → Option Element
tagged tag bytes = option_and_then (with_tag tag) (element_in bytes)

-- its contents, where nothing stands behind it
abbrev pub alone : Element → Option (List ℕ)
alone found = if length found.behind == 0 then Some found.contents else None

abbrev pub only : ℕ → List ℕ → Option (List ℕ)
only tag bytes = option_and_then alone (tagged tag bytes)

-- what stands behind the first element, where it has this tag, and else all
abbrev pub past : ℕ → List ℕ → List ℕ
past tag bytes = elim (tagged tag bytes) [ None ↦ bytes | Some found ↦ found.behind ]

-- whether bytes are at most one element, which has this tag
abbrev pub at_most : ℕ → List ℕ → Bool
at_most tag bytes = length (past tag bytes) == 0

-- ---- numbers

-- whether contents are those of an INTEGER that is not negative, in the fewest bytes (8.3)
abbrev pub is_natural : List ℕ → Bool
is_natural [] = false
is_natural (a ∷ []) = nat_lt a 128
is_natural (a ∷ b ∷ rest) = nat_lt a 128 && not (a == 0 && nat_lt b 128)

abbrev pub natural_found : Element → Option Element
natural_found found = if is_natural found.contents then Some found else None

-- the first element, where it is such a number
abbrev pub natural_in : List ℕ → Option Element
natural_in bytes = option_and_then natural_found (tagged 2 bytes)

-- the bits of a byte
abbrev pub bits_of_byte : ℕ → ℕ
bits_of_byte a =
    if nat_lt a 1 then 0 else if nat_lt a 2 then 1 else if nat_lt a 4 then 2
    else if nat_lt a 8 then 3 else if nat_lt a 16 then 4 else if nat_lt a 32 then 5
    else if nat_lt a 64 then 6 else if nat_lt a 128 then 7 else 8

-- how many bits such a number has
abbrev pub bits_of : List ℕ → ℕ
bits_of [] = 0
bits_of (a ∷ rest) =
    if a == 0 then (elim rest [ [] ↦ 0 | b ∷ more ↦ bits_of_byte b + 8 * length more ])
    else bits_of_byte a + 8 * length rest
