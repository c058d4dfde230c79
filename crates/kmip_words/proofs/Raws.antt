-- A request that a line gives by its bytes.
use Rattle.std.proofs.Common.{◌≡◌, ℕ, ◌/◌, ◌==◌, ◌≤◌, List, [], ◌∷◌, length, slice_index, codes, bytes_eq, Bool, true, false, ◌&&◌, nat_eq, Option, Some, refl, ap, arith}
use Rattle.std.proofs.lemmas.Bool.Decides.{nat_tests}
use Rattle.hex.specs.Hex.{IsBytes, encode_with, encode_upper, upper_digits}
use Rattle.hex.proofs.HexLemmas.{decode_of-encode_upper}
use Rattle.kmip_types.specs.declared.auth.CredentialType.{CredentialType}
use Rattle.kmip_request.specs.Message.{request_bytes, operation_of}
use Rattle.kmip_request.specs.declared.payload.RequestPayload.{RequestPayload}
use Rattle.kmip_request_read.specs.Reading.{request_for, request_read, message_bytes}
use Rattle.kmip_request_words.specs.Values.{bytes_of}
use Rattle.kmip_words.specs.Calls.{call_in}
use Rattle.kmip_words.specs.Exchange.{Asked, IsRequestOf}
use Rattle.kmip_words.specs.declared.call.Call.{Call}
use Rattle.kmip_words.specs.declared.call.Call.TheVariants.{Raw}

and_false : (a : Bool) → (a && false) ≡ false
and_false true = refl
and_false false = refl

not_dash : (byte : ℕ) (more : List ℕ) → bytes_eq (encode_upper (byte ∷ more)) (codes "-") ≡ false
unfolding encode_with
not_dash byte more = and_false (nat_eq (slice_index upper_digits (byte / 16)) 45)

not_empty : (byte : ℕ) (more : List ℕ) → (length (encode_upper (byte ∷ more)) == 0) ≡ false
unfolding encode_with
not_empty byte more = grind (arith, nat_tests)

bytes_back : (byte : ℕ) (more : List ℕ) → IsBytes (byte ∷ more)
    → bytes_of (encode_upper (byte ∷ more)) ≡ Some (byte ∷ more)
unfolding bytes_of
bytes_back byte more bytes =
    rw (not_dash byte more, not_empty byte more, decode_of-encode_upper (byte ∷ more) bytes) refl

pub raw_asks : (payload : RequestPayload) (bytes : List ℕ) → 8 ≤ length bytes → IsBytes bytes
    → request_read bytes ≡ Some (request_for payload)
    → ((credential : Option CredentialType) →
    request_bytes payload credential ≡ message_bytes (request_for payload) credential)
    → (call : Call) × (call_in (codes "raw" ∷ encode_upper bytes ∷ []) ≡ Some call) × IsRequestOf payload call
raw_asks payload [] long bytes reads same = absurd (omega (arith, long))
raw_asks payload (byte ∷ more) long bytes reads same = (
  Raw (request_for payload),
  rw (bytes_back byte more bytes, reads) refl,
  λ credential. let made : Option (List ℕ) → Asked = λ m. record { message = m; operation = operation_of payload } in
      ap made (same credential),
)
