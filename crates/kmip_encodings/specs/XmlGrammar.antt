-- XML 1.0 (fifth edition), as much of it as is written here, byte for byte and in UTF-8: elements with
-- attributes, and no text between them.
use Rattle.std.specs.Prelude.{◌≡◌, ℕ, ◌==◌, ◌&&◌, ◌||◌, nat_le, Bool, true, false, List, [], ◌∷◌, ◌++◌, codes}
use Rattle.std.specs.Char.{encode_utf8}
use Rattle.std.specs.Fmt.{decimal}
use Rattle.kmip_shape.specs.Shape.{named_among}

abbrev pub is_between : ℕ → ℕ → ℕ → Bool
is_between first last c = nat_le first c && nat_le c last

-- a character of XML (section 2.2)
abbrev pub is_xml_char : ℕ → Bool
is_xml_char c =
    (c == 9) || ((c == 10) || ((c == 13) || (is_between 0x20 0xD7FF c ||
    (is_between 0xE000 0xFFFD c || is_between 0x10000 0x10FFFF c))))

-- `&` and `;` around one of these stand for a character (section 4.6)
abbrev pub entities : List (List ℕ)
entities = codes "quot" ∷ codes "amp" ∷ codes "lt" ∷ codes "gt" ∷ codes "apos" ∷ []

-- what stands between the quotes of an attribute (sections 2.3 and 4.1): characters of XML but `"`, `&`
-- and `<`, and references, those by number to characters of XML
pub data AreCharacters : List ℕ → Type 0 where
  NoCharacter : AreCharacters []
  AsItIs : (c : ℕ) (s : List ℕ) → is_xml_char c ≡ true → (c ≡ 34 → ⊥) → (c ≡ 38 → ⊥) → (c ≡ 60 → ⊥) →
      AreCharacters s → AreCharacters (encode_utf8 c ++ s)
  ByName : (name s : List ℕ) → named_among name entities ≡ true → AreCharacters s →
      AreCharacters (38 ∷ (name ++ 59 ∷ s))
  ByNumber : (c : ℕ) (s : List ℕ) → is_xml_char c ≡ true → AreCharacters s →
      AreCharacters (codes "&#" ++ (decimal c ++ 59 ∷ s))

abbrev pub is_letter : ℕ → Bool
is_letter c = is_between 65 90 c || is_between 97 122 c

abbrev pub are_in_name : List ℕ → Bool
are_in_name [] = true
are_in_name (c ∷ s) = (is_letter c || (is_between 48 57 c || (c == 95))) && are_in_name s

-- a letter, and then letters, digits and `_`: a name of XML (section 2.3)
abbrev pub is_name : List ℕ → Bool
is_name [] = false
is_name (c ∷ s) = is_letter c && are_in_name s

-- attributes with these names, none twice (section 3.1)
pub data AreAttributes : List (List ℕ) → List ℕ → Type 0 where
  NoAttribute : AreAttributes [] []
  AnAttribute : (name value : List ℕ) (names : List (List ℕ)) (s : List ℕ) → is_name name ≡ true →
      named_among name names ≡ false → AreCharacters value → AreAttributes names s →
      AreAttributes (name ∷ names) (32 ∷ (name ++ 61 ∷ 34 ∷ (value ++ 34 ∷ s)))

-- an element, which is empty or has others between its start and its end (section 3)
mutual
  pub data IsElement : List ℕ → Type 0 where
    Empty : (name attributes : List ℕ) (names : List (List ℕ)) → is_name name ≡ true →
        AreAttributes names attributes → IsElement (60 ∷ (name ++ (attributes ++ 47 ∷ 62 ∷ [])))
    Around : (name attributes contents : List ℕ) (names : List (List ℕ)) → is_name name ≡ true →
        AreAttributes names attributes → AreElements contents →
        IsElement (60 ∷ (name ++ (attributes ++ 62 ∷ (contents ++ 60 ∷ 47 ∷ (name ++ 62 ∷ [])))))

  pub data AreElements : List ℕ → Type 0 where
    NoElement : AreElements []
    AnElement : (s t : List ℕ) → IsElement s → AreElements t → AreElements (s ++ t)
