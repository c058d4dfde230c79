-- Words of a command line that give a value to a name.
use Rattle.std.proofs.Common.{◌≡◌, ◌≤◌, ℕ, List, [], ◌∷◌, ◌++◌, length, drop, get_or, Option, Some, None, refl, ap, sym, ◌∙◌, arith, nat_eq, true, false, cond}
use Rattle.std.specs.List.{starts_with}
use Rattle.std.proofs.lemmas.Slice.Eq.{starts_is}
use Rattle.std.proofs.lemmas.Bool.Decides.{Decides-eqb}
use Rattle.kmip_request_words.specs.Complaints.{value_after}
use Rattle.kmip_request_words.specs.Options.{Given, option_given, value_given, name_given}

-- a list that is not empty
pub first_and_rest : {A : Type 0} (items : List A) (d : A) → 1 ≤ length items → items ≡ get_or items 0 d ∷ drop 1 items
first_and_rest [] d some = absurd (omega arith)
first_and_rest (item ∷ items) d some = refl

abbrev with_value : List ℕ → List (List ℕ) → Given
with_value value rest = record { value = Some value; rest = rest }

abbrev without_value : List (List ℕ) → Given
without_value rest = record { value = None; rest = rest }

-- the first word gives the value
given_here : (name word : List ℕ) (words : List (List ℕ)) (rest : List ℕ) → word ≡ name ++ rest
    → option_given name (word ∷ words) ≡ with_value (drop (length name) word) words
given_here name word words rest is =
    rw ((starts_is Decides-eqb word name (starts_with nat_eq word name) refl).1 rest is) refl

-- the first word is another
given_not : (name word : List ℕ) (words : List (List ℕ))
    → ((rest : List ℕ) → word ≡ name ++ rest → ⊥)
    → option_given name (word ∷ words) ≡ without_value (word ∷ words)
given_not name word words not =
    elim (starts_with nat_eq word name) as
    (λ b. starts_with nat_eq word name ≡ b
    → cond b (with_value (drop (length name) word) words) (without_value (word ∷ words))
    ≡ without_value (word ∷ words)) [
      | true ↦ λ e. absurd (not (drop (length name) word)
          ((starts_is Decides-eqb word name (starts_with nat_eq word name) refl).0 e))
      | false ↦ λ e. refl
    ] refl

pub given_first : (name word value : List ℕ) (words : List (List ℕ)) (n : ℕ) → 1 ≤ length words
    → word ≡ get_or words 0 word → n ≡ length name → word ≡ name ++ drop n word
    → value ≡ drop n word → option_given name words ≡ with_value value (drop 1 words)
given_first name word value words n some at size is value_is =
    ap (option_given name) (first_and_rest words word some ∙ ap (λ (w : List ℕ). w ∷ drop 1 words) (sym at))
    ∙ given_here name word (drop 1 words) (drop n word) is
    ∙ ap (λ (v : List ℕ). with_value v (drop 1 words)) (ap (λ (k : ℕ). drop k word) (sym size) ∙ sym value_is)

pub given_other : (name word : List ℕ) (words : List (List ℕ)) → 1 ≤ length words
    → word ≡ get_or words 0 word → ((rest : List ℕ) → word ≡ name ++ rest → ⊥)
    → option_given name words ≡ without_value words
given_other name word words some at not =
    let whole : words ≡ word ∷ drop 1 words =
    first_and_rest words word some ∙ ap (λ (w : List ℕ). w ∷ drop 1 words) (sym at) in
    ap (option_given name) whole ∙ given_not name word (drop 1 words) not ∙ ap without_value (sym whole)

-- a list of words that begins with one that gives a value
value_here : (name word rest : List ℕ) (words : List (List ℕ)) → word ≡ name ++ rest
    → value_given name (word ∷ words) ≡ Some (drop (length name) word)
value_here name word rest words is =
    rw ((starts_is Decides-eqb word name (starts_with nat_eq word name) refl).1 rest is) refl

value_not : (name word : List ℕ) (words : List (List ℕ))
    → ((rest : List ℕ) → word ≡ name ++ rest → ⊥)
    → value_given name (word ∷ words) ≡ value_given name words
value_not name word words not =
    elim (starts_with nat_eq word name) as
    (λ b. starts_with nat_eq word name ≡ b
    → cond b (Some (drop (length name) word)) (value_given name words) ≡ value_given name words) [
      | true ↦ λ e. absurd (not (drop (length name) word)
          ((starts_is Decides-eqb word name (starts_with nat_eq word name) refl).0 e))
      | false ↦ λ e. refl
    ] refl

pub value_first : (name word value : List ℕ) (words : List (List ℕ)) (n : ℕ) → 1 ≤ length words
    → word ≡ get_or words 0 word → n ≡ length name → word ≡ name ++ drop n word
    → value ≡ drop n word → Some value ≡ value_given name words
value_first name word value words n some at size is value_is =
    sym (ap (value_given name) (first_and_rest words word some ∙ ap (λ (w : List ℕ). w ∷ drop 1 words) (sym at))
    ∙ value_here name word (drop n word) (drop 1 words) is
    ∙ ap (λ (v : List ℕ). Some v) (ap (λ (k : ℕ). drop k word) (sym size) ∙ sym value_is))

pub value_later : (name word : List ℕ) (words : List (List ℕ)) → 1 ≤ length words
    → word ≡ get_or words 0 word → ((rest : List ℕ) → word ≡ name ++ rest → ⊥)
    → value_given name (drop 1 words) ≡ value_given name words
value_later name word words some at not =
    let whole : words ≡ word ∷ drop 1 words =
    first_and_rest words word some ∙ ap (λ (w : List ℕ). w ∷ drop 1 words) (sym at) in
    sym (ap (value_given name) whole ∙ value_not name word (drop 1 words) not)

-- a word that begins with a name, and one that does not
pub after_here : (name word value : List ℕ) (n : ℕ) → n ≡ length name → word ≡ name ++ drop n word
    → value ≡ drop n word → Some value ≡ value_after name word
after_here name word value n size is value_is =
    rw ((starts_is Decides-eqb word name (starts_with nat_eq word name) refl).1 (drop n word) is)
    (ap (λ (v : List ℕ). Some v) (value_is ∙ ap (λ (k : ℕ). drop k word) size))

abbrev nothing : Option (List ℕ)
nothing = None

pub after_not : (name word : List ℕ) → ((rest : List ℕ) → word ≡ name ++ rest → ⊥)
    → nothing ≡ value_after name word
after_not name word not =
    elim (starts_with nat_eq word name) as
    (λ b. starts_with nat_eq word name ≡ b
    → nothing ≡ cond b (Some (drop (length name) word)) nothing) [
      | true ↦ λ e. absurd (not (drop (length name) word)
          ((starts_is Decides-eqb word name (starts_with nat_eq word name) refl).0 e))
      | false ↦ λ e. refl
    ] refl
