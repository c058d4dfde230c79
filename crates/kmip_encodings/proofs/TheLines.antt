-- The lines of the enumerations: a name is read as the number that it is written for.
use Rattle.std.proofs.Common.{◌≡◌, ℕ, zero, suc, ◌<◌, ◌≤◌, ◌+◌, ◌==◌, ◌&&◌, Bool, true, false, cond, not, List, [], ◌∷◌, map, length, get_or, drop, Option, Some, None, refl, sym, ap, subst, ◌∙◌, bytes_eq, nat_eq, add-one, drop-cons, arith}
use Rattle.std.proofs.lemmas.List.{at_drop_all, get_or-map}
use Rattle.std.proofs.lemmas.Bool.{false≢true}
use Rattle.std.proofs.lemmas.Bool.Decides.{Decides-eqb}
use Rattle.kmip_encodings.specs.Lines.{Line, line_count, lines}
use Rattle.kmip_encodings.specs.Names.{line_tags, line_numbers, line_names, line_at, name_in, number_in, enumeration_name, enumeration_number}
use Rattle.kmip_encodings.specs.declared.lines.TheConstants.{TAGS, NUMBERS, NAMES}

pub tags_are : TAGS ≡ line_tags
unfolding line_tags lines
tags_are = refl

pub numbers_are : NUMBERS ≡ line_numbers
unfolding line_numbers lines
numbers_are = refl

pub names_are : map (λ s. s.now) NAMES ≡ line_names
unfolding line_names lines
names_are = refl

pub count : length lines ≡ line_count
unfolding lines
count = refl

-- ---- the line at an index

inside : (i : ℕ) → i < line_count → i < length lines
inside i h = omega (arith, count)

pub tag_in : (i d : ℕ) → i < line_count → get_or line_tags i d ≡ (line_at i).0
unfolding line_tags
tag_in i d h = get_or-map (λ (l : Line). l.0) lines i (0, (0, [])) d (inside i h)

pub number_of : (i d : ℕ) → i < line_count → get_or line_numbers i d ≡ (line_at i).1.0
unfolding line_numbers
number_of i d h = get_or-map (λ (l : Line). l.1.0) lines i (0, (0, [])) d (inside i h)

pub name_of : (i : ℕ) (d : List ℕ) → i < line_count → get_or line_names i d ≡ (line_at i).1.1
unfolding line_names
name_of i d h = get_or-map (λ (l : Line). l.1.1) lines i (0, (0, [])) d (inside i h)

-- ---- one line after the other

pub rest_at : (i : ℕ) → i < line_count → drop i lines ≡ line_at i ∷ drop (i + 1) lines
rest_at i h = rw (add-one, drop-cons lines i (0, (0, [])) (inside i h)) refl

pub name_more : (i tag number : ℕ) → i < line_count
    → ((line_at i).0 == tag) && ((line_at i).1.0 == number) ≡ false
    → name_in (drop i lines) tag number ≡ enumeration_name tag number
    → name_in (drop (i + 1) lines) tag number ≡ enumeration_name tag number
name_more i tag number h other e = rw (rest_at i h, other) at e

pub name_here : (i tag number : ℕ) → i < line_count
    → ((line_at i).0 == tag) && ((line_at i).1.0 == number) ≡ true
    → name_in (drop i lines) tag number ≡ enumeration_name tag number
    → Some (line_at i).1.1 ≡ enumeration_name tag number
name_here i tag number h same e = rw (rest_at i h, same) at e

pub name_none : (i tag number : ℕ) → line_count ≤ i
    → name_in (drop i lines) tag number ≡ enumeration_name tag number
    → None ≡ enumeration_name tag number
name_none i tag number h e = sym (at_drop_all (λ ls. name_in ls tag number) lines i (omega (arith, count))) ∙ e

pub number_more : (i tag : ℕ) (name : List ℕ) → i < line_count
    → ((line_at i).0 == tag) && bytes_eq (line_at i).1.1 name ≡ false
    → number_in (drop i lines) tag name ≡ enumeration_number tag name
    → number_in (drop (i + 1) lines) tag name ≡ enumeration_number tag name
number_more i tag name h other e = rw (rest_at i h, other) at e

pub number_here : (i tag : ℕ) (name : List ℕ) → i < line_count
    → ((line_at i).0 == tag) && bytes_eq (line_at i).1.1 name ≡ true
    → number_in (drop i lines) tag name ≡ enumeration_number tag name
    → Some (line_at i).1.0 ≡ enumeration_number tag name
number_here i tag name h same e = rw (rest_at i h, same) at e

pub number_none : (i tag : ℕ) (name : List ℕ) → line_count ≤ i
    → number_in (drop i lines) tag name ≡ enumeration_number tag name
    → None ≡ enumeration_number tag name
number_none i tag name h e = sym (at_drop_all (λ ls. number_in ls tag name) lines i (omega (arith, count))) ∙ e

-- ---- a name is read as the number that it is written for

is_it : Option ℕ → ℕ → Bool
is_it None n = false
is_it (Some m) n = nat_eq m n

are_read : List Line → List Line → Bool
are_read all [] = true
are_read all (l ∷ ls) = is_it (number_in all l.0 l.1.1) l.1.0 && are_read all ls

all_read : are_read lines lines ≡ true
unfolding lines are_read is_it
all_read = refl

and_left : (a b : Bool) → (a && b) ≡ true → a ≡ true
and_left true b h = refl
and_left false b h = h

and_right : (a b : Bool) → (a && b) ≡ true → b ≡ true
and_right true b h = h
and_right false b h = absurd (false≢true h)

it_is : (o : Option ℕ) (n : ℕ) → is_it o n ≡ true → o ≡ Some n
unfolding is_it
it_is None n h = absurd (false≢true h)
it_is (Some m) n h = ap Some ((Decides-eqb m n).0 h)

read_back : (all ls : List Line) (tag number : ℕ) (name : List ℕ) → are_read all ls ≡ true
    → name_in ls tag number ≡ Some name → number_in all tag name ≡ Some number
unfolding are_read
read_back all [] tag number name r h = cc
read_back all (l ∷ ls) tag number name r h =
    let first = and_left (is_it (number_in all l.0 l.1.1) l.1.0) (are_read all ls) r in
    let rest = and_right (is_it (number_in all l.0 l.1.1) l.1.0) (are_read all ls) r in
    elim ((l.0 == tag) && (l.1.0 == number)) as (λ b. ((l.0 == tag) && (l.1.0 == number)) ≡ b
    → cond b (Some l.1.1) (name_in ls tag number) ≡ Some name → number_in all tag name ≡ Some number) [
      | true ↦ λ s k.
          let t : l.0 ≡ tag = (Decides-eqb l.0 tag).0 (and_left (l.0 == tag) (l.1.0 == number) s) in
          let n : l.1.0 ≡ number = (Decides-eqb l.1.0 number).0 (and_right (l.0 == tag) (l.1.0 == number) s) in
          let m : l.1.1 ≡ name = cc in
          ap (λ (x : ℕ). number_in all x name) (sym t) ∙ ap (λ (x : List ℕ). number_in all l.0 x) (sym m)
          ∙ it_is (number_in all l.0 l.1.1) l.1.0 first ∙ ap Some n
      | false ↦ λ s k. read_back all ls tag number name rest k
    ] refl h

pub number_of_name : (tag number : ℕ) (name : List ℕ) → enumeration_name tag number ≡ Some name
    → enumeration_number tag name ≡ Some number
unfolding enumeration_name enumeration_number
number_of_name tag number name h = read_back lines lines tag number name all_read h

line_read : (all ls : List Line) (i : ℕ) (d : Line) → are_read all ls ≡ true → i < length ls
    → number_in all (get_or ls i d).0 (get_or ls i d).1.1 ≡ Some (get_or ls i d).1.0
unfolding are_read
line_read all [] i d r h = absurd (omega arith)
line_read all (l ∷ ls) zero d r h =
    it_is (number_in all l.0 l.1.1) l.1.0 (and_left (is_it (number_in all l.0 l.1.1) l.1.0) (are_read all ls) r)
line_read all (l ∷ ls) (suc i) d r h =
    line_read all ls i d (and_right (is_it (number_in all l.0 l.1.1) l.1.0) (are_read all ls) r) (omega arith)

pub number_of_line : (i : ℕ) → i < line_count → enumeration_number (line_at i).0 (line_at i).1.1 ≡ Some (line_at i).1.0
unfolding enumeration_number
number_of_line i h = line_read lines lines i (0, (0, [])) all_read (inside i h)

-- ---- no name begins with `0`

abbrev is_plain : List ℕ → Bool
is_plain name = not (get_or name 0 0 == 48)

are_plain : List Line → Bool
are_plain [] = true
are_plain (l ∷ ls) = is_plain l.1.1 && are_plain ls

all_plain : are_plain lines ≡ true
unfolding lines are_plain
all_plain = refl

not_true : (b : Bool) → not b ≡ true → b ≡ false
not_true true h = absurd (false≢true h)
not_true false h = refl

plain_in : (ls : List Line) (tag number : ℕ) (name : List ℕ) → are_plain ls ≡ true
    → name_in ls tag number ≡ Some name → (get_or name 0 0 == 48) ≡ false
unfolding are_plain
plain_in [] tag number name p h = cc
plain_in (l ∷ ls) tag number name p h =
    elim ((l.0 == tag) && (l.1.0 == number)) as (λ b. cond b (Some l.1.1) (name_in ls tag number) ≡ Some name →
    (get_or name 0 0 == 48) ≡ false) [
      | true ↦ λ k.
          let same : l.1.1 ≡ name = cc in
          subst (λ (m : List ℕ). (get_or m 0 0 == 48) ≡ false) same
          (not_true (get_or l.1.1 0 0 == 48) (and_left (is_plain l.1.1) (are_plain ls) p))
      | false ↦ λ k. plain_in ls tag number name (and_right (is_plain l.1.1) (are_plain ls) p) k
    ] h

pub name_plain : (tag number : ℕ) (name : List ℕ) → enumeration_name tag number ≡ Some name
    → (get_or name 0 0 == 48) ≡ false
unfolding enumeration_name
name_plain tag number name h = plain_in lines tag number name all_plain h
