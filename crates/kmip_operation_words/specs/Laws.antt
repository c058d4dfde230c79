-- What the laws say.
use Rattle.std.specs.Prelude.{ℕ, Bool, true, false, List, [], ◌∷◌, ◌&&◌, if◌then◌else◌, bytes_eq}

-- whether a name is none of these
abbrev pub is_none_of : List (List ℕ) → List ℕ → Bool
is_none_of [] name = true
is_none_of (first ∷ rest) name = if bytes_eq first name then false else is_none_of rest name

-- whether no name stands twice
abbrev pub have_no_twice : List (List ℕ) → Bool
have_no_twice [] = true
have_no_twice (first ∷ rest) = is_none_of rest first && have_no_twice rest

-- whether no name is one of the others
abbrev pub share_none : List (List ℕ) → List (List ℕ) → Bool
share_none [] others = true
share_none (first ∷ rest) others = is_none_of others first && share_none rest others
