-- The words of a call, one after the other.
use Rattle.std.proofs.Common.{◌≡◌, ℕ, ◌+◌, ◌<◌, ◌≤◌, Bool, true, false, List, [], ◌∷◌, ◌++◌, length, drop, get_or, Option, Some, None, refl, sym, ap, ◌∙◌, append_assoc, append-nil}
use Rattle.std.specs.Option.{option_map}
use Rattle.std.proofs.lemmas.List.{at_drop_more, at_drop_all}
use Rattle.std.specs.Str.{IsUtf8, is_utf8}
use Rattle.std.proofs.lemmas.Str.{is_utf8-from_IsUtf8}
use Rattle.kmip_request_words.proofs.Utf8.{not_utf8}
use Rattle.kmip_request_words.specs.Attributes.{then_more}
use Rattle.kmip_calls.specs.Places.{may_be_option}
use Rattle.kmip_calls.specs.Written.{text_written, word_written, words_from, words_of, name_text}
use Rattle.kmip_calls.specs.declared.written.Word.{Word}

-- words before those that may come
abbrev pub onto : List (List ℕ) → Option (List (List ℕ)) → Option (List (List ℕ))
onto front (Some rest) = Some (front ++ rest)
onto front None = None

onto_more : (front : List (List ℕ)) (word : List ℕ) (rest : Option (List (List ℕ))) →
    onto front (then_more (Some word) rest) ≡ onto (front ++ word ∷ []) rest
onto_more front word (Some rest) =
    ap (λ (l : List (List ℕ)). Some l) (sym (append_assoc front (word ∷ []) rest))
onto_more front word None = refl

named : (name : List ℕ) (rest : Option (List (List ℕ))) →
    option_map (λ written. name ∷ written) rest ≡ onto (name ∷ []) rest
named name (Some rest) = refl
named name None = refl

pub with_name : (name : List ℕ) (words : List Word) →
    words_of words name
    ≡ onto (name ∷ []) (words_from (may_be_option name (length words)) 0 (drop 0 words))
with_name name words = named name (words_from (may_be_option name (length words)) 0 words)

next_word : (f : ℕ → Bool) (words : List Word) (i : ℕ) (d : Word) → i < length words →
    words_from f i (drop i words)
    ≡ then_more (word_written (f i) (get_or words i d)) (words_from f (i + 1) (drop (i + 1) words))
next_word f words i d here = at_drop_more (words_from f i) words i d here

pub one_more : (f : ℕ → Bool) (words : List Word) (i : ℕ) (d : Word) (front new : List (List ℕ))
    (word : List ℕ) → i < length words → Some word ≡ word_written (f i) (get_or words i d) →
    new ≡ front ++ word ∷ [] →
    onto front (words_from f i (drop i words))
    ≡ onto new (words_from f (i + 1) (drop (i + 1) words))
one_more f words i d front new word here is n =
    let rest = words_from f (i + 1) (drop (i + 1) words) in
    ap (onto front) (next_word f words i d here)
    ∙ ap (λ x. onto front (then_more x rest)) (sym is)
    ∙ onto_more front word rest ∙ ap (λ x. onto x rest) (sym n)

pub no_more : (f : ℕ → Bool) (words : List Word) (i : ℕ) (d : Word) (front : List (List ℕ)) →
    i < length words → None ≡ word_written (f i) (get_or words i d) →
    onto front (words_from f i (drop i words)) ≡ None
no_more f words i d front here is =
    let rest = words_from f (i + 1) (drop (i + 1) words) in
    ap (onto front) (next_word f words i d here)
    ∙ ap (λ x. onto front (then_more x rest)) (sym is)

pub all_written : (f : ℕ → Bool) (words : List Word) (i : ℕ) (front : List (List ℕ)) →
    length words ≤ i → onto front (words_from f i (drop i words)) ≡ Some front
all_written f words i front past =
    at_drop_all (λ x. onto front (words_from f i x)) words i past
    ∙ ap (λ (l : List (List ℕ)). Some l) (append-nil front)

-- ---- a word

pub of_text : (is_option : Bool) (word : Word) → word.is_data ≡ false → IsUtf8 word.bytes.now →
    word_written is_option word ≡ Some (text_written is_option word.bytes.now)
of_text is_option word is utf8 = rw (is, is_utf8-from_IsUtf8 word.bytes.now utf8) refl

pub of_no_text : (is_option : Bool) (word : Word) → word.is_data ≡ false →
    (IsUtf8 word.bytes.now → ⊥) → word_written is_option word ≡ None
of_no_text is_option word is not = rw (is, not_utf8 word.bytes.now not) refl

pub name_of_text : (name : Word) → name.is_data ≡ false → IsUtf8 name.bytes.now →
    name_text name ≡ Some name.bytes.now
name_of_text name is utf8 = rw (is, is_utf8-from_IsUtf8 name.bytes.now utf8) refl

pub name_of_no_text : (name : Word) → name.is_data ≡ false → (IsUtf8 name.bytes.now → ⊥) →
    name_text name ≡ None
name_of_no_text name is not = rw (is, not_utf8 name.bytes.now not) refl
