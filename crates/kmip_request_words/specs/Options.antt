-- Words of a command line that give a value to a name.
use Rattle.std.specs.Prelude.{ℕ, nat_eq, List, [], ◌∷◌, length, drop, Bool, true, false, ◌&&◌, Option, Some, None, if◌then◌else◌}
use Rattle.std.specs.List.{starts_with}

-- the value that the first word gives to a name, if any, and the words that are left
pub record Given : Type 0 where
  pub value : Option (List ℕ)
  pub rest : List (List ℕ)

abbrev pub option_given : List ℕ → List (List ℕ) → Given
option_given name [] = record { value = None; rest = [] }
option_given name (word ∷ words) =
    if starts_with nat_eq word name
    then record { value = Some (drop (length name) word); rest = words }
    else record { value = None; rest = word ∷ words }

-- the same, but no value where `before` is absent
abbrev pub given_after : Option (List ℕ) → List ℕ → List (List ℕ) → Given
given_after (Some before) name words = option_given name words
given_after None name words = record { value = None; rest = words }

-- the value that words give to a name: that of the first word that begins with it
abbrev pub value_given : List ℕ → List (List ℕ) → Option (List ℕ)
value_given name [] = None
value_given name (word ∷ words) =
    if starts_with nat_eq word name then Some (drop (length name) word) else value_given name words

-- the first of these names that a word begins with
abbrev pub name_given : List (List ℕ) → List ℕ → Option (List ℕ)
name_given [] word = None
name_given (name ∷ names) word =
    if starts_with nat_eq word name then Some name else name_given names word

abbrev pub is_new : Option (List ℕ) → List (List ℕ) → Bool
is_new None words = false
is_new (Some name) words = elim (value_given name words) [ None ↦ true | Some value ↦ false ]

-- each word gives a value to one of these names, and no two words to the same
abbrev pub are_options : List (List ℕ) → List (List ℕ) → Bool
are_options names [] = true
are_options names (word ∷ words) = is_new (name_given names word) words && are_options names words
