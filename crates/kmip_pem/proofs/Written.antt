-- What is written has the lines that it was written in, and is read.
use Rattle.std.proofs.Common.{◌≡◌, ℕ, zero, suc, ◌≤◌, Bool, true, false, not, List, [], ◌∷◌, ◌++◌, length, take, drop, reverse, map, refl, sym, ap, ◌∙◌, arith, length-drop}
use Rattle.std.specs.List.{list_all, concat, onto_first}
use Rattle.std.proofs.lemmas.Bool.{and_parts, and_from}
use Rattle.std.proofs.lemmas.List.{take-append-drop, reverse-reverse}
use Rattle.std.proofs.lemmas.Option.{same_Some}
use Rattle.base64.specs.GeneralPurpose.{encode_of, IsBytes}
use Rattle.base64.specs.Engines.{standard}
use Rattle.kmip_pem.specs.declared.labels.Label.{Label}
use Rattle.kmip_pem.specs.declared.labels.Label.TheVariants.{RsaPublicKey, PublicKey, RsaPrivateKey, PrivateKey, EcPrivateKey, Certificate}
use Rattle.kmip_pem.specs.Lines.{is_line_end, cut, without_white, trimmed, lines_in, text_of}
use Rattle.kmip_pem.specs.Labels.{label_text, label_named, begin_line, end_line, is_private, is_public}
use Rattle.kmip_pem.specs.Pem.{Begun, IsPem, first_begun}
use Rattle.kmip_pem.specs.Written.{cut_at_64, lines_of_64, pem_lines, pem_text}
use Rattle.kmip_pem.proofs.Tests.{not_so, all_reverse, all_take, all_drop}
use Rattle.kmip_pem.proofs.Plain.{is_plain, no_white, plain_no_end, encoded_plain}
use Rattle.kmip_pem.proofs.First.{first_found}
use Rattle.kmip_pem.proofs.Exact.{named_back, no_parameters, first_of}

-- ---- lines that have no line end, and no white space round them

abbrev is_within : ℕ → Bool
is_within a = not (is_line_end a)

pub record IsTidy (line : List ℕ) : Type 0 where
  pub within : list_all is_within line ≡ true
  pub same : trimmed line ≡ line

abbrev AreTidy : List (List ℕ) → Type 0
AreTidy [] = Unit {0}
AreTidy (line ∷ lines) = IsTidy line × AreTidy lines

cut_line : (line text : List ℕ) → list_all is_within line ≡ true → cut (line ++ (10 ∷ text)) ≡ line ∷ cut text
cut_line [] text h = refl
cut_line (a ∷ line) text h =
    let parts = and_parts (is_within a) (list_all is_within line) h in
    let e = not_so (is_line_end a) parts.0 in
    rw e (ap (onto_first a) (cut_line line text parts.1))

lines_back : (lines : List (List ℕ)) → AreTidy lines → lines_in (text_of lines) ≡ lines
unfolding lines_in
lines_back [] h = refl
lines_back (line ∷ lines) h =
    let tidy : IsTidy line = h.0 in
    ap (map trimmed) (cut_line line (text_of lines) tidy.within)
    ∙ (ap (λ x. x ∷ lines_in (text_of lines)) tidy.same ∙ ap (λ xs. line ∷ xs) (lines_back lines h.1))

-- ---- plain lines, and those that begin and end a block

plain_within : (line : List ℕ) → list_all is_plain line ≡ true → list_all is_within line ≡ true
plain_within [] h = refl
plain_within (a ∷ line) h =
    let parts = and_parts (is_plain a) (list_all is_plain line) h in
    let e = ap not (plain_no_end a parts.0) in
    and_from (is_within a) (list_all is_within line) e (plain_within line parts.1)

plain_front : (line : List ℕ) → list_all is_plain line ≡ true → without_white line ≡ line
plain_front [] h = refl
plain_front (a ∷ line) h =
    let w = no_white a (and_parts (is_plain a) (list_all is_plain line) h).0 in
    rw w refl

plain_trimmed : (line : List ℕ) → list_all is_plain line ≡ true → trimmed line ≡ line
plain_trimmed line h =
    ap (λ xs. reverse (without_white (reverse xs))) (plain_front line h)
    ∙ (ap reverse (plain_front (reverse line) (all_reverse is_plain line h)) ∙ reverse-reverse line)

plain_tidy : (line : List ℕ) → list_all is_plain line ≡ true → IsTidy line
plain_tidy line h = record { within = plain_within line h; same = plain_trimmed line h }

tidy_begin : (label : Label) → IsTidy (begin_line (label_text label))
tidy_begin RsaPublicKey = record { within = refl; same = refl }
tidy_begin PublicKey = record { within = refl; same = refl }
tidy_begin RsaPrivateKey = record { within = refl; same = refl }
tidy_begin PrivateKey = record { within = refl; same = refl }
tidy_begin EcPrivateKey = record { within = refl; same = refl }
tidy_begin Certificate = record { within = refl; same = refl }

tidy_end : (label : Label) → IsTidy (end_line (label_text label))
tidy_end RsaPublicKey = record { within = refl; same = refl }
tidy_end PublicKey = record { within = refl; same = refl }
tidy_end RsaPrivateKey = record { within = refl; same = refl }
tidy_end PrivateKey = record { within = refl; same = refl }
tidy_end EcPrivateKey = record { within = refl; same = refl }
tidy_end Certificate = record { within = refl; same = refl }

tidy_to_end : (body : List (List ℕ)) (label : Label) → list_all (list_all is_plain) body ≡ true
    → AreTidy (body ++ (end_line (label_text label) ∷ []))
tidy_to_end [] label h = (tidy_end label, tt)
tidy_to_end (line ∷ body) label h =
    let parts = and_parts (list_all is_plain line) (list_all (list_all is_plain) body) h in
    (plain_tidy line parts.0, tidy_to_end body label parts.1)

-- ---- lines of 64

cut_whole : (n : ℕ) (digits : List ℕ) → length digits ≤ n → concat (cut_at_64 n digits) ≡ digits
cut_whole zero [] h = refl
cut_whole zero (a ∷ digits) h = absurd (omega arith)
cut_whole (suc n) [] h = refl
cut_whole (suc n) (a ∷ digits) h =
    let all : List ℕ = a ∷ digits in
    ap (λ xs. take 64 all ++ xs) (cut_whole n (drop 64 all) (omega (arith, length-drop 64 all)))
    ∙ take-append-drop 64 all

pub lines_whole : (digits : List ℕ) → concat (lines_of_64 digits) ≡ digits
lines_whole digits = cut_whole (length digits) digits (omega arith)

cut_plain : (n : ℕ) (digits : List ℕ) → list_all is_plain digits ≡ true
    → list_all (list_all is_plain) (cut_at_64 n digits) ≡ true
cut_plain zero digits h = refl
cut_plain (suc n) [] h = refl
cut_plain (suc n) (a ∷ digits) h =
    let all : List ℕ = a ∷ digits in
    and_from (list_all is_plain (take 64 all)) (list_all (list_all is_plain) (cut_at_64 n (drop 64 all)))
    (all_take is_plain 64 all h) (cut_plain n (drop 64 all) (all_drop is_plain 64 all h))

-- ---- the whole

abbrev digit_lines : List ℕ → List (List ℕ)
digit_lines bytes = lines_of_64 (encode_of standard bytes)

pub written_lines : (label : Label) (bytes : List ℕ) → lines_in (pem_text label bytes) ≡ pem_lines label bytes
written_lines label bytes =
    let digits : List ℕ = encode_of standard bytes in
    let plain = cut_plain (length digits) digits (encoded_plain bytes) in
    lines_back (pem_lines label bytes) (tidy_begin label, tidy_to_end (digit_lines bytes) label plain)

pub written_is : (label : Label) (bytes : List ℕ) → IsBytes bytes → IsPem (pem_text label bytes) label bytes
written_is label bytes h = record {
  before = [];
  body = digit_lines bytes;
  after = [];
  whole = written_lines label bytes;
  first = refl;
  last = refl;
  base64 = lines_whole (encode_of standard bytes);
  octets = h;
}

-- ---- no other label

pub same_label : (label other : Label) (bytes found : List ℕ) → IsPem (pem_text label bytes) other found → label ≡ other
same_label label other bytes found pem =
    let rest : List (List ℕ) = digit_lines bytes ++ (end_line (label_text label) ∷ []) in
    let mine = ap first_begun (written_lines label bytes)
    ∙ first_found (label_text label) [] rest (no_parameters label) refl in
    let e = same_Some _ _ (sym mine ∙ first_of (pem_text label bytes) other found pem) in
    let names : label_text label ≡ label_text other = ap (λ (b : Begun). b.label) e in
    same_Some label other (sym (named_back label) ∙ (ap label_named names ∙ named_back other))

private_only : (label : Label) → is_private label ≡ true → (is_public label ≡ false) × (label ≡ Certificate → ⊥)
private_only RsaPublicKey h = absurd (cc)
private_only PublicKey h = absurd (cc)
private_only RsaPrivateKey h = (refl, λ e. cc e)
private_only PrivateKey h = (refl, λ e. cc e)
private_only EcPrivateKey h = (refl, λ e. cc e)
private_only Certificate h = absurd (cc)

pub private_no_public : (label other : Label) (bytes found : List ℕ) → is_private label ≡ true
    → IsPem (pem_text label bytes) other found → is_public other ≡ false
private_no_public label other bytes found h pem =
    let e = same_label label other bytes found pem in
    ap is_public (sym e) ∙ (private_only label h).0

pub private_no_certificate : (label : Label) (bytes found : List ℕ) → is_private label ≡ true
    → IsPem (pem_text label bytes) Certificate found → ⊥
private_no_certificate label bytes found h pem =
    (private_only label h).1 (same_label label Certificate bytes found pem)
