-- The texts of JSON by RFC 8259, with no white space: its grammar, byte for byte, and UTF-8. In the
-- grammar bytes from 128 on, of which longer characters are made, stand for themselves; that they make
-- whole characters, and that each number is a byte, is said by UTF-8.
use Rattle.std.specs.Prelude.{ℕ, ℤ, ◌≤◌, ◌≡◌, ◌⊎◌, List, [], ◌∷◌, ◌++◌, codes, IsUtf8}
use Rattle.std.specs.Fmt.{signed_decimal}

-- `0` to `9`, `A` to `F`
abbrev pub IsHexDigit : ℕ → Type 0
IsHexDigit n = ((48 ≤ n) × (n ≤ 57)) ⊎ ((65 ≤ n) × (n ≤ 70))

-- the characters of a string: `"` and `\` after a backslash, any character as `\u` and four hex
-- digits, and all but these and control characters as they are
pub data AreCharacters : List ℕ → Type 0 where
  NoCharacter : AreCharacters []
  AsItIs : (n : ℕ) (s : List ℕ) → 32 ≤ n → (n ≡ 34 → ⊥) → (n ≡ 92 → ⊥) → AreCharacters s →
      AreCharacters (n ∷ s)
  Quote : (s : List ℕ) → AreCharacters s → AreCharacters (92 ∷ 34 ∷ s)
  Backslash : (s : List ℕ) → AreCharacters s → AreCharacters (92 ∷ 92 ∷ s)
  Coded : (a b c d : ℕ) (s : List ℕ) → IsHexDigit a → IsHexDigit b → IsHexDigit c → IsHexDigit d →
      AreCharacters s
      → AreCharacters (92 ∷ 117 ∷ a ∷ b ∷ c ∷ d ∷ s)

mutual
  pub data IsJson : List ℕ → Type 0 where
    AString : (s : List ℕ) → AreCharacters s → IsJson (34 ∷ (s ++ 34 ∷ []))
    ANumber : (z : ℤ) → IsJson (signed_decimal z)
    True : IsJson (codes "true")
    False : IsJson (codes "false")
    NoMember : IsJson (123 ∷ 125 ∷ [])
    AnObject : (s : List ℕ) → AreMembers s → IsJson (123 ∷ (s ++ 125 ∷ []))
    NoElement : IsJson (91 ∷ 93 ∷ [])
    AnArray : (s : List ℕ) → AreElements s → IsJson (91 ∷ (s ++ 93 ∷ []))

  -- a name, a colon and a value, and others after commas
  pub data AreMembers : List ℕ → Type 0 where
    AMember : (name value : List ℕ) → AreCharacters name → IsJson value →
        AreMembers (34 ∷ (name ++ 34 ∷ 58 ∷ value))
    AndMembers : (s t : List ℕ) → AreMembers s → AreMembers t → AreMembers (s ++ 44 ∷ t)

  -- a value, and others after commas
  pub data AreElements : List ℕ → Type 0 where
    AnElement : (value : List ℕ) → IsJson value → AreElements value
    AndElements : (s t : List ℕ) → AreElements s → AreElements t → AreElements (s ++ 44 ∷ t)

-- a text of JSON (RFC 8259, sections 2 and 8.1)
pub record IsJsonText (text : List ℕ) : Type 0 where
  pub grammar : IsJson text
  pub utf8 : IsUtf8 text
