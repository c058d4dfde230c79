-- The value of an attribute, by what stands between its quotes (XML 1.0, 2.11, 3.3.3, 4.1 and 4.6).
use Rattle.std.specs.Prelude.{ℕ, ◌+◌, ◌*◌, ◌-◌, ◌==◌, ◌&&◌, nat_lt, nat_le, Bool, true, false, List, [], ◌∷◌, ◌++◌, length, codes, Option, Some, None, is_some, if◌then◌else◌, bytes_eq}
use Rattle.std.specs.Char.{encode_utf8}
use Rattle.std.specs.Str.{chars}
use Rattle.std.specs.List.{slice_split}
use Rattle.kmip_encodings.specs.XmlGrammar.{is_between, is_xml_char}
use Rattle.kmip_xml.specs.Given.{◌>>=◌}
use Rattle.kmip_xml.specs.Scan.{is_space, after, around}

-- white space stands for a space; a line may end with a carriage return and a line feed
abbrev pub plain_char : ℕ → ℕ → List ℕ
plain_char before c =
    if (before == 13) && (c == 10) then [] else if is_space c then 32 ∷ [] else encode_utf8 c

-- characters after another one
abbrev pub plain : ℕ → List ℕ → List ℕ
plain before [] = []
plain before (c ∷ cs) = plain_char before c ++ plain c cs

abbrev pub digit : ℕ → ℕ → Option ℕ
digit base c =
    if is_between 48 57 c then Some (c - 48)
    else if (base == 16) && is_between 65 70 c then Some (c - 55)
    else if (base == 16) && is_between 97 102 c then Some (c - 87)
    else None

-- the number of digits after those of another number; no character has a greater one than U+10FFFF
abbrev pub grown : ℕ → ℕ → ℕ → Option ℕ
grown base n d = if nat_le (n * base + d) 0x10FFFF then Some (n * base + d) else None

abbrev pub digits : ℕ → ℕ → List ℕ → Option ℕ
digits base n [] = Some n
digits base n (c ∷ cs) = do
  d ← digit base c
  m ← grown base n d
  digits base m cs

-- one to eight digits are the number of a character of XML
abbrev pub character : Option ℕ → Option ℕ
character None = None
character (Some c) = if is_xml_char c then Some c else None

unfoldable pub numbered : ℕ → List ℕ → Option ℕ
numbered base s =
    if nat_lt 0 (length s) && nat_lt (length s) 9 then character (digits base 0 s) else None

abbrev pub entity : List ℕ → Option ℕ
entity name =
    if bytes_eq name (codes "quot") then Some 34
    else if bytes_eq name (codes "amp") then Some 38
    else if bytes_eq name (codes "apos") then Some 39
    else if bytes_eq name (codes "lt") then Some 60
    else if bytes_eq name (codes "gt") then Some 62
    else None

abbrev pub reference_by : Option (List ℕ) → Option (List ℕ) → List ℕ → Option ℕ
reference_by (Some hex) decimal name = numbered 16 hex
reference_by None (Some decimal) name = numbered 10 decimal
reference_by None None name = entity name

-- the character of a reference, by what stands between `&` and `;`
abbrev pub reference : List ℕ → Option ℕ
reference name = reference_by (after (codes "#x") name) (after (codes "#") name) name

-- what follows a `&` up to the next one
unfoldable pub referred : List ℕ → Option (List ℕ)
referred s = do
  parts ← around 59 s
  c ← reference parts.0
  Some (encode_utf8 c ++ plain 0 (chars parts.1))

abbrev pub all_referred : List (List ℕ) → Option (List ℕ)
all_referred [] = Some []
all_referred (s ∷ ss) = do
  first ← referred s
  others ← all_referred ss
  Some (first ++ others)

abbrev pub joined : List (List ℕ) → Option (List ℕ)
joined [] = Some []
joined (s ∷ ss) = do
  others ← all_referred ss
  Some (plain 0 (chars s) ++ others)

-- no `<` stands in a value
unfoldable pub value_of : List ℕ → Option (List ℕ)
value_of s =
    if is_some (around 60 s) then None else joined (slice_split (λ c. c == 38) s)
