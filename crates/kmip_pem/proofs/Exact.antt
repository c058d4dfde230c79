-- What is a PEM is read as one, and as no other.
use Rattle.std.proofs.Common.{◌≡◌, ℕ, true, false, List, ◌∷◌, ◌++◌, Some, None, Result, Ok, Err, refl, sym, ap, ◌∙◌, cond}
use Rattle.std.specs.List.{list_all, concat}
use Rattle.base64.specs.GeneralPurpose.{decode_of}
use Rattle.base64.specs.Engines.{standard}
use Rattle.base64.proofs.EngineFacts.{decode_of-encode_of}
use Rattle.kmip_pem.specs.declared.labels.Label.{Label}
use Rattle.kmip_pem.specs.declared.labels.Label.TheVariants.{RsaPublicKey, PublicKey, RsaPrivateKey, PrivateKey, EcPrivateKey, Certificate}
use Rattle.kmip_pem.specs.declared.refusal.NoPem.{NoPem}
use Rattle.kmip_pem.specs.declared.refusal.NoPem.TheVariants.{Encrypted}
use Rattle.kmip_pem.specs.Lines.{lines_in}
use Rattle.kmip_pem.specs.Labels.{label_text, label_named, end_line, is_of_parameters}
use Rattle.kmip_pem.specs.Pem.{Begun, Pem, IsPem, first_begun, has_header, is_encrypted, decoded_by, read_digits, read_labelled, read_block, read_alone, read_first, pem_in}
use Rattle.kmip_pem.proofs.Tests.{all_parts}
use Rattle.kmip_pem.proofs.Plain.{is_plain, encoded_plain}
use Rattle.kmip_pem.proofs.First.{first_found, plain_passed}
use Rattle.kmip_pem.proofs.Digits.{digits_found, header_none}

pub named_back : (label : Label) → label_named (label_text label) ≡ Some label
named_back RsaPublicKey = refl
named_back PublicKey = refl
named_back RsaPrivateKey = refl
named_back PrivateKey = refl
named_back EcPrivateKey = refl
named_back Certificate = refl

pub no_parameters : (label : Label) → is_of_parameters (label_text label) ≡ false
no_parameters RsaPublicKey = refl
no_parameters PublicKey = refl
no_parameters RsaPrivateKey = refl
no_parameters PrivateKey = refl
no_parameters EcPrivateKey = refl
no_parameters Certificate = refl

abbrev block : Label → List (List ℕ) → Begun
block label behind = record { label = label_text label; behind = behind }

not_encrypted : (label : Label) (lines : List (List ℕ)) → has_header lines ≡ false → is_encrypted (block label lines) ≡ false
not_encrypted RsaPublicKey lines h = h
not_encrypted PublicKey lines h = h
not_encrypted RsaPrivateKey lines h = h
not_encrypted PrivateKey lines h = h
not_encrypted EcPrivateKey lines h = h
not_encrypted Certificate lines h = h

abbrev read : Label → List ℕ → Result Pem NoPem
read label bytes = Ok (record { label = label; bytes = bytes })

block_read : (label : Label) (body after : List (List ℕ)) (bytes : List ℕ) → list_all (list_all is_plain) body ≡ true
    → decode_of standard (concat body) ≡ Ok bytes
    → read_block (block label (body ++ (end_line (label_text label) ∷ after))) ≡ read label bytes
block_read label body after bytes plain d =
    let name : List ℕ = label_text label in
    let behind : List (List ℕ) = body ++ (end_line name ∷ after) in
    let plainly = not_encrypted label behind (header_none name body after plain) in
    ap (λ b. cond b (Err Encrypted) (read_labelled (label_named name) (block label behind))) plainly
    ∙ (ap (λ o. read_labelled o (block label behind)) (named_back label)
    ∙ (ap (read_digits label) (digits_found name body after plain)
    ∙ ap (decoded_by label) d))

pub body_plain : (text : List ℕ) (label : Label) (bytes : List ℕ) → (pem : IsPem text label bytes)
    → list_all (list_all is_plain) pem.body ≡ true
body_plain text label bytes pem =
    all_parts is_plain pem.body (ap (list_all is_plain) pem.base64 ∙ encoded_plain bytes)

pub first_of : (text : List ℕ) (label : Label) (bytes : List ℕ) → (pem : IsPem text label bytes)
    → first_begun (lines_in text) ≡ Some (block label (pem.body ++ (end_line (label_text label) ∷ pem.after)))
first_of text label bytes pem =
    ap first_begun pem.whole
    ∙ first_found (label_text label) pem.before (pem.body ++ (end_line (label_text label) ∷ pem.after))
    (no_parameters label) pem.first

pub is_read : (text : List ℕ) (label : Label) (bytes : List ℕ) → IsPem text label bytes → pem_in text ≡ read label bytes
is_read text label bytes pem =
    let name : List ℕ = label_text label in
    let plain = body_plain text label bytes pem in
    let behind : List (List ℕ) = pem.body ++ (end_line name ∷ pem.after) in
    let last : first_begun behind ≡ None = plain_passed pem.body (end_line name ∷ pem.after) plain ∙ pem.last in
    let d : decode_of standard (concat pem.body) ≡ Ok bytes =
    ap (decode_of standard) pem.base64 ∙ decode_of-encode_of standard bytes refl pem.octets in
    ap read_first (first_of text label bytes pem)
    ∙ (ap (read_alone (block label behind)) last ∙ block_read label pem.body pem.after bytes plain d)

abbrev pub ok : Pem → Result Pem NoPem
ok pem = Ok pem

pub same_ok : (x y : Pem) → ok x ≡ ok y → x ≡ y
same_ok x y h = cc

pub one_reading : (text : List ℕ) (a b : Label) (x y : List ℕ) → IsPem text a x → IsPem text b y → (a ≡ b) × (x ≡ y)
one_reading text a b x y p q =
    let e = same_ok (record { label = a; bytes = x }) (record { label = b; bytes = y })
    (sym (is_read text a x p) ∙ is_read text b y q) in
    (ap (λ (z : Pem). z.label) e, ap (λ (z : Pem). z.bytes) e)
