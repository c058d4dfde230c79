-- Credentials of bytes that are texts, and of others; and what C gets for a call.
use Rattle.std.proofs.Common.{◌≡◌, ℕ, ℤ, pos, List, Bool, true, false, length, Option, Some, None, refl, ap, subst, ◌∙◌}
use Rattle.std.specs.Str.{is_utf8, IsUtf8}
use Rattle.std.proofs.lemmas.Str.{IsUtf8-from_is_utf8, is_utf8-from_IsUtf8}
use Rattle.kmip_client.specs.Client.{credential_for}
use Rattle.kmip_words.specs.Exchange.{Settings}
use Rattle.kmip_words.specs.declared.ending.Ending.{Ending}
use Rattle.kmip_operations.specs.JsonLines.{IsTextLine}
use Rattle.kmip_calls.specs.Answers.{request_asked, line_of, ending_of}
use Rattle.kmip_calls.specs.Calls.{Asked}
use Rattle.kmip_exports.specs.Exports.{IsReported, room_with}
use Rattle.kmip_c.specs.Codes.{grammar, no_form}
use Rattle.kmip_c.specs.Calls.{settings_of, no_settings, status_of, IsRequested, IsAnswered}

pub not_utf8 : (bytes : List ℕ) → (IsUtf8 bytes → ⊥) → is_utf8 bytes ≡ false
not_utf8 bytes not = elim (is_utf8 bytes) as (λ b. is_utf8 bytes ≡ b → b ≡ false) [
  | true ↦ λ e. absurd (not (IsUtf8-from_is_utf8 bytes e))
  | false ↦ λ e. refl
] refl

pub no_user : (has : Bool) (user password : List ℕ) → has ≡ true → (IsUtf8 user → ⊥)
    → settings_of has user password ≡ None
no_user has user password e not = rw (e, not_utf8 user not) refl

pub no_password : (has : Bool) (user password : List ℕ) → has ≡ true → IsUtf8 user
    → (IsUtf8 password → ⊥) → settings_of has user password ≡ None
no_password has user password e utf8 not = rw (e, is_utf8-from_IsUtf8 user utf8, not_utf8 password not) refl

pub both : (has : Bool) (user password : List ℕ) → has ≡ true → IsUtf8 user → IsUtf8 password
    → settings_of has user password ≡ Some
    (record {
      credential = credential_for (Some user) (Some password);
      limit = None;
      buffered =
          false;
    })
both has user password e utf8 also = rw (e, is_utf8-from_IsUtf8 user utf8, is_utf8-from_IsUtf8 password also) refl

-- ---- requests

pub requested : (settings : Option Settings) (asked : Option Asked) (s : Settings) (call : Asked)
    (before after : List ℕ) (result : ℤ) (bytes : Option (List ℕ)) →
    settings ≡ Some s → asked ≡ Some call → bytes ≡ request_asked call s.credential →
    IsReported bytes no_form before result after → IsRequested settings asked before result after
requested settings asked s call before after result bytes is asks made reported =
    let P : Option (List ℕ) → Type 0 = λ x. IsReported x no_form before result after in
    rw (is, asks) (subst P made reported)

pub no_settings_given : (settings : Option Settings) (asked : Option Asked) (before : List ℕ) →
    settings ≡ None → IsRequested settings asked before grammar before
no_settings_given settings asked before is = rw is (refl, refl)

pub no_call_given : (settings : Option Settings) (asked : Option Asked) (before : List ℕ) →
    asked ≡ None → IsRequested settings asked before grammar before
no_call_given None asked before is = (refl, refl)
no_call_given (Some s) asked before is = rw is (refl, refl)

-- ---- answers

pub answered : (asked : Option Asked) (call : Asked) (response before after line : List ℕ)
    (ending : Ending) (status told : ℤ) → asked ≡ Some call →
    ending ≡ ending_of no_settings call response → line ≡ line_of no_settings call response →
    IsTextLine line → status ≡ status_of ending → told ≡ pos (length line) →
    after ≡ room_with line before → IsAnswered asked response status before told after
answered asked call response before after line ending status told asks e l json s n w = rw asks (
  s ∙ ap status_of e,
  subst IsTextLine l json,
  (n ∙ ap (λ (x : List ℕ). pos (length x)) l, w ∙ ap (λ (x : List ℕ). room_with x before) l),
)

pub unanswered : (asked : Option Asked) (response before : List ℕ) → asked ≡ None →
    IsAnswered asked response (pos 2) before (pos 0) before
unanswered asked response before is = rw is (refl, (refl, refl))
