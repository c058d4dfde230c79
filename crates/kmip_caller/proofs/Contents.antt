-- The contents of a file as a text.
use Rattle.std.proofs.Common.{◌≡◌, ℕ, List, Some, None, true, false, refl}
use Rattle.std.specs.Str.{is_utf8, IsUtf8}
use Rattle.std.proofs.lemmas.Str.{IsUtf8-from_is_utf8, is_utf8-from_IsUtf8}
use Rattle.kmip_caller.specs.FileWords.{text_for}

not_utf8 : (bytes : List ℕ) → (IsUtf8 bytes → ⊥) → is_utf8 bytes ≡ false
not_utf8 bytes not = elim (is_utf8 bytes) as (λ b. is_utf8 bytes ≡ b → b ≡ false) [
  | true ↦ λ e. absurd (not (IsUtf8-from_is_utf8 bytes e))
  | false ↦ λ e. refl
] refl

pub text_for_utf8 : (bytes : List ℕ) → IsUtf8 bytes → text_for bytes ≡ Some bytes
text_for_utf8 bytes utf8 = rw (is_utf8-from_IsUtf8 bytes utf8) refl

pub text_for_other : (bytes : List ℕ) → (IsUtf8 bytes → ⊥) → text_for bytes ≡ None
text_for_other bytes not = rw (not_utf8 bytes not) refl
