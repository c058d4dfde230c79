-- What is read is a PEM.
use Rattle.std.proofs.Common.{◌≡◌, ℕ, zero, suc, ◌<◌, Bool, true, false, List, [], ◌∷◌, ◌++◌, reverse, map, Option, Some, None, Result, Ok, Err, refl, sym, ap, ◌∙◌, cond, arith}
use Rattle.std.specs.Prelude.{bytes_eq, nat_lt}
use Rattle.std.specs.List.{list_all, onto_first}
use Rattle.std.proofs.lemmas.Bool.{and_parts, and_from, ltb-true, lt-ltb}
use Rattle.std.proofs.lemmas.Option.{none-some, same_Some}
use Rattle.base64.specs.declared.decode.DecodeError.{DecodeError}
use Rattle.base64.specs.GeneralPurpose.{decode_of, IsBytes}
use Rattle.base64.specs.Engines.{standard}
use Rattle.base64.proofs.EngineFacts.{decode_of_strict}
use Rattle.kmip_pem.specs.declared.labels.Label.{Label}
use Rattle.kmip_pem.specs.declared.labels.Label.TheVariants.{RsaPublicKey, PublicKey, RsaPrivateKey, PrivateKey, EcPrivateKey, Certificate}
use Rattle.kmip_pem.specs.declared.refusal.NoPem.{NoPem}
use Rattle.kmip_pem.specs.declared.refusal.NoPem.TheVariants.{Encrypted}
use Rattle.kmip_pem.specs.Lines.{is_line_end, cut, is_white, without_white, trimmed, lines_in}
use Rattle.kmip_pem.specs.Labels.{label_text, label_named, begin_line, end_line}
use Rattle.kmip_pem.specs.Pem.{Begun, Pem, IsPem, first_begun, digits_in, is_encrypted, decoded_by, decoded, read_digits, read_labelled, read_block, read_alone, read_first, pem_in}
use Rattle.kmip_pem.proofs.Tests.{by_test, all_split, all_reverse, all_concat}
use Rattle.kmip_pem.proofs.Marks.{same_bytes}
use Rattle.kmip_pem.proofs.First.{Split, first_split, none_behind}
use Rattle.kmip_pem.proofs.Digits.{Ended, digits_split}
use Rattle.kmip_pem.proofs.Exact.{same_ok}

-- ---- what holds of each byte of a text holds of each byte of its lines

all_onto : (p : ℕ → Bool) (a : ℕ) (parts : List (List ℕ)) → p a ≡ true → list_all (list_all p) parts ≡ true
    → list_all (list_all p) (onto_first a parts) ≡ true
all_onto p a [] h k = rw h refl
all_onto p a (part ∷ parts) h k =
    let both = and_parts (list_all p part) (list_all (list_all p) parts) k in
    and_from (list_all p (a ∷ part)) (list_all (list_all p) parts) (and_from (p a) (list_all p part) h both.0) both.1

all_cut : (p : ℕ → Bool) (text : List ℕ) → list_all p text ≡ true → list_all (list_all p) (cut text) ≡ true
all_cut p [] h = refl
all_cut p (a ∷ text) h =
    let both = and_parts (p a) (list_all p text) h in
    let rest = all_cut p text both.1 in
    by_test (is_line_end a) (λ t. rw t rest) (λ f. rw f (all_onto p a (cut text) both.0 rest))

all_front : (p : ℕ → Bool) (line : List ℕ) → list_all p line ≡ true → list_all p (without_white line) ≡ true
all_front p [] h = refl
all_front p (a ∷ line) h =
    by_test (is_white a)
    (λ t. rw t (all_front p line (and_parts (p a) (list_all p line) h).1))
    (λ f. rw f h)

all_one : (p : ℕ → Bool) (line : List ℕ) → list_all p line ≡ true → list_all p (trimmed line) ≡ true
all_one p line h =
    let front : List ℕ = without_white line in
    all_reverse p (without_white (reverse front))
    (all_front p (reverse front) (all_reverse p front (all_front p line h)))

all_trimmed : (p : ℕ → Bool) (lines : List (List ℕ)) → list_all (list_all p) lines ≡ true
    → list_all (list_all p) (map trimmed lines) ≡ true
all_trimmed p [] h = refl
all_trimmed p (line ∷ lines) h =
    let both = and_parts (list_all p line) (list_all (list_all p) lines) h in
    and_from (list_all p (trimmed line)) (list_all (list_all p) (map trimmed lines))
    (all_one p line both.0) (all_trimmed p lines both.1)

abbrev is_octet : ℕ → Bool
is_octet a = nat_lt a 256

octets : (text : List ℕ) → IsBytes text → list_all is_octet text ≡ true
octets [] h = refl
octets (a ∷ text) h =
    let first : a < 256 = h 0 in
    and_from (is_octet a) (list_all is_octet text) (lt-ltb a 256 first) (octets text (λ i. h (suc i)))

bytes_of : (text : List ℕ) → list_all is_octet text ≡ true → IsBytes text
bytes_of [] h i = omega arith
bytes_of (a ∷ text) h zero = ltb-true a 256 (and_parts (is_octet a) (list_all is_octet text) h).0
bytes_of (a ∷ text) h (suc i) = bytes_of text (and_parts (is_octet a) (list_all is_octet text) h).1 i

-- ---- the label

named_step : (text : List ℕ) (x label : Label) (rest : Option Label)
    → cond (bytes_eq text (label_text x)) (Some x) rest ≡ Some label
    → (rest ≡ Some label → text ≡ label_text label) → text ≡ label_text label
named_step text x label rest h k =
    by_test (bytes_eq text (label_text x))
    (λ t.
    let e = same_Some x label (rw t at h) in
    same_bytes text (label_text x) t ∙ ap label_text e)
    (λ f. k (rw f at h))

named_is : (text : List ℕ) (label : Label) → label_named text ≡ Some label → text ≡ label_text label
named_is text label h =
    named_step text RsaPublicKey label _ h (λ a.
    named_step text PublicKey label _ a (λ b.
    named_step text RsaPrivateKey label _ b (λ c.
    named_step text PrivateKey label _ c (λ d.
    named_step text EcPrivateKey label _ d (λ e.
    named_step text Certificate label _ e (λ f. absurd (none-some label f)))))))

-- ---- each step of reading, back

read_one : (o : Option Begun) (pem : Pem) → read_first o ≡ Ok pem
    → (block : Begun) × (o ≡ Some block) × (read_alone block (first_begun block.behind) ≡ Ok pem)
read_one None pem h = absurd (cc)
read_one (Some block) pem h = (block, refl, h)

no_more : (block : Begun) (o : Option Begun) (pem : Pem) → read_alone block o ≡ Ok pem
    → (o ≡ None) × (read_block block ≡ Ok pem)
no_more block None pem h = (refl, h)
no_more block (Some next) pem h = absurd (cc)

not_refused : (b : Bool) (e : NoPem) (r : Result Pem NoPem) (pem : Pem) → cond b (Err e) r ≡ Ok pem → r ≡ Ok pem
not_refused true e r pem h = absurd (cc)
not_refused false e r pem h = h

labelled : (o : Option Label) (block : Begun) (pem : Pem) → read_labelled o block ≡ Ok pem
    → (label : Label) × (o ≡ Some label) × (read_digits label (digits_in block.label block.behind) ≡ Ok pem)
labelled None block pem h = absurd (cc)
labelled (Some label) block pem h = (label, refl, h)

ended : (label : Label) (o : Option (List ℕ)) (pem : Pem) → read_digits label o ≡ Ok pem
    → (digits : List ℕ) × (o ≡ Some digits) × (decoded label digits ≡ Ok pem)
ended label None pem h = absurd (cc)
ended label (Some digits) pem h = (digits, refl, h)

abbrev ok_bytes : List ℕ → Result (List ℕ) DecodeError
ok_bytes bytes = Ok bytes

based : (label : Label) (r : Result (List ℕ) DecodeError) (pem : Pem) → decoded_by label r ≡ Ok pem
    → (r ≡ Ok pem.bytes) × (label ≡ pem.label)
based label (Err e) pem h = absurd (cc)
based label (Ok bytes) pem h =
    let e = same_ok (record { label = label; bytes = bytes }) pem h in
    (ap (λ (p : Pem). ok_bytes p.bytes) e, ap (λ (p : Pem). p.label) e)

abbrev octet_lines : List (List ℕ) → Type 0
octet_lines lines = list_all (list_all is_octet) lines ≡ true

octets_in : (text : List ℕ) → IsBytes text → octet_lines (lines_in text)
unfolding lines_in
octets_in text h = all_trimmed is_octet (cut text) (all_cut is_octet text (octets text h))

digits_octets : (label : List ℕ) (lines : List (List ℕ)) (block : Begun) (digits : List ℕ) → octet_lines lines
    → Split lines block → Ended label block.behind digits → IsBytes digits
digits_octets label lines block digits h s e =
    let p : List ℕ → Bool = list_all is_octet in
    let whole = ap (list_all p) (sym s.1) ∙ h in
    let behind = (and_parts (p (begin_line block.label)) (list_all p block.behind) (all_split p s.0 (begin_line block.label ∷ block.behind) whole).1).1 in
    let body = (all_split p e.0 (end_line label ∷ e.1) (ap (list_all p) (sym e.2) ∙ behind)).0 in
    bytes_of digits (ap (list_all is_octet) (sym e.3) ∙ all_concat is_octet e.0 body)

pub read_is : (text : List ℕ) (pem : Pem) → IsBytes text → IsBytes pem.bytes → pem_in text ≡ Ok pem
    → IsPem text pem.label pem.bytes
read_is text pem h k r =
    let one = read_one (first_begun (lines_in text)) pem r in
    let block : Begun = one.0 in
    let more = no_more block (first_begun block.behind) pem one.2 in
    let l = labelled (label_named block.label) block pem (not_refused (is_encrypted block) Encrypted
    (read_labelled (label_named block.label) block) pem more.1) in
    let d = ended l.0 (digits_in block.label block.behind) pem l.2 in
    let b = based l.0 (decode_of standard d.0) pem d.2 in
    let s = first_split (lines_in text) block one.1 in
    let e = digits_split block.label block.behind d.0 d.1 in
    let lines = octets_in text h in
    let octet_digits = digits_octets block.label (lines_in text) block d.0 lines s e in
    let name : block.label ≡ label_text pem.label = named_is block.label l.0 l.1 ∙ ap label_text b.1 in
    let whole = s.1 ∙ ap (λ xs. s.0 ++ (begin_line block.label ∷ xs)) e.2 in
    record {
      before = s.0;
      body = e.0;
      after = e.1;
      whole = whole ∙ ap (λ n. s.0 ++ (begin_line n ∷ (e.0 ++ (end_line n ∷ e.1)))) name;
      first = s.2;
      last = none_behind e.0 (end_line block.label) e.1 (ap first_begun (sym e.2) ∙ more.0);
      base64 = e.3 ∙ decode_of_strict standard d.0 pem.bytes (refl, refl) octet_digits b.0;
      octets = k;
    }
