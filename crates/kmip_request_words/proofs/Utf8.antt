-- Texts of bytes, and the text of a word.
use Rattle.std.proofs.Common.{◌≡◌, ℕ, List, [], Some, None, true, false, bytes_eq, codes, refl}
use Rattle.std.specs.Str.{is_utf8, IsUtf8}
use Rattle.std.proofs.lemmas.Str.{IsUtf8-from_is_utf8, is_utf8-from_IsUtf8}
use Rattle.kmip_request_words.specs.Values.{unescape, text_from, word_text}

pub not_utf8 : (bytes : List ℕ) → (IsUtf8 bytes → ⊥) → is_utf8 bytes ≡ false
not_utf8 bytes not = elim (is_utf8 bytes) as (λ b. is_utf8 bytes ≡ b → b ≡ false) [
  | true ↦ λ e. absurd (not (IsUtf8-from_is_utf8 bytes e))
  | false ↦ λ e. refl
] refl

pub text_from_utf8 : (bytes : List ℕ) → IsUtf8 bytes → text_from (Some bytes) ≡ Some bytes
text_from_utf8 bytes utf8 = rw (is_utf8-from_IsUtf8 bytes utf8) refl

pub text_from_other : (bytes : List ℕ) → (IsUtf8 bytes → ⊥) → text_from (Some bytes) ≡ None
text_from_other bytes not = rw (not_utf8 bytes not) refl

pub text_of_none : (word : List ℕ) → bytes_eq word (codes "-") ≡ true → word_text word ≡ Some []
unfolding word_text
text_of_none word none = rw none refl

-- the text of a word other than `-`
pub text_of_other : (word : List ℕ) → bytes_eq word (codes "-") ≡ false → word_text word ≡ text_from (unescape word)
unfolding word_text
text_of_other word other = rw other refl
