-- Finding a word in a list of words.
use Rattle.std.proofs.Common.{◌≡◌, ℕ, ◌+◌, ◌<◌, ◌≤◌, true, false, List, ◌∷◌, length, map, drop, get_or, Option, Some, None, refl, sym, ◌∙◌, bytes_eq, add-one, drop-cons, Bor, arith}
use Rattle.std.proofs.lemmas.List.{at_drop_all}
use Rattle.kmip_encodings.specs.Words.{named_from}

abbrev pub texts : List (Bor (List ℕ)) → List (List ℕ)
texts words = map (λ w. w.now) words

rest_at : (words : List (Bor (List ℕ))) (i : ℕ) (d : Bor (List ℕ)) → i < length words
    → texts (drop i words) ≡ (get_or words i d).now ∷ texts (drop (i + 1) words)
rest_at words i d h = rw (add-one, drop-cons words i d h) refl

pub named_more : (words : List (Bor (List ℕ))) (tag i : ℕ) (d : Bor (List ℕ)) (word : List ℕ)
    (found : Option ℕ) → i < length words → bytes_eq (get_or words i d).now word ≡ false
    → named_from (tag + i) (texts (drop i words)) word ≡ found
    → named_from (tag + (i + 1)) (texts (drop (i + 1) words)) word ≡ found
named_more words tag i d word found h other e =
    let next : tag + (i + 1) ≡ tag + i + 1 = omega arith in
    rw next (rw (rest_at words i d h, other) at e)

pub named_here : (words : List (Bor (List ℕ))) (tag i : ℕ) (d : Bor (List ℕ)) (word : List ℕ)
    (found : Option ℕ) → i < length words → bytes_eq (get_or words i d).now word ≡ true
    → named_from (tag + i) (texts (drop i words)) word ≡ found → Some (tag + i) ≡ found
named_here words tag i d word found h same e = rw (rest_at words i d h, same) at e

pub named_none : (words : List (Bor (List ℕ))) (tag i : ℕ) (word : List ℕ) (found : Option ℕ) → length words ≤ i
    → named_from tag (texts (drop i words)) word ≡ found → None ≡ found
named_none words tag i word found h e = sym (at_drop_all (λ ws. named_from tag (texts ws) word) words i h) ∙ e
