-- What is a private key is told as one.
use Rattle.std.proofs.Common.{◌≡◌, ℕ, Bool, true, false, ◌||◌, List, Option, Some, None, Result, Ok, Err, refl, sym, ap, ◌∙◌, is_some, if◌then◌else◌}
use Rattle.kmip_der.specs.Keys.{Known, rsa_public, spki, is_private, is_public, is_certificate}
use Rattle.kmip_pem.specs.declared.labels.Label.{Label}
use Rattle.kmip_pem.specs.declared.labels.Label.TheVariants.{RsaPublicKey, PublicKey, RsaPrivateKey, PrivateKey, EcPrivateKey, Certificate}
use Rattle.kmip_pem.specs.Pem.{Pem, pem_in}
use Rattle.kmip_key_files.specs.declared.told.Told.{Told}
use Rattle.kmip_key_files.specs.declared.refusal.NoObject.{NoObject}
use Rattle.kmip_key_files.specs.declared.refusal.NoObject.TheVariants.{NoName, OtherDer, NoKey, NoLength}
use Rattle.kmip_key_files.specs.Forms.{object_type}
use Rattle.kmip_key_files.specs.Told.{known_in, is_length, key_told, certificate_told, told_of, label_in, is_nameless, told_in_der, told_in_block, told_in_pem}
use Rattle.kmip_key_files.proofs.Steps.{same_ok, no_error, tested, no_both}

-- the laws of kmip_der
abbrev pub NoPublic : Type 0
NoPublic = (der : List ℕ) → is_private der ≡ true → is_public der ≡ false

abbrev pub NoCertificate : Type 0
NoCertificate = (der : List ℕ) → is_private der ≡ true → is_certificate der ≡ false

-- a key that is told is one, and has the label that it was asked for
key_of : (label : Label) (der : List ℕ) (o : Option Known) (told : Told) → key_told label der o ≡ Ok told
    → (told.label ≡ label) × ((k : Known) × (o ≡ Some k))
key_of label der None told h = absurd (no_error _ told h)
key_of label der (Some k) told h =
    let t = tested (is_length k.len) _ NoLength told h in
    (ap (λ (x : Told). x.label) (sym (same_ok _ told t.1)), (k, refl))

certificate_of : (label : Label) (der : List ℕ) (told : Told) → certificate_told label der ≡ Ok told
    → (told.label ≡ label) × (is_certificate der ≡ true)
certificate_of label der told h =
    let t = tested (is_certificate der) _ OtherDer told h in
    (ap (λ (x : Told). x.label) (sym (same_ok _ told t.1)), t.0)

pub label_kept : (label : Label) (der : List ℕ) (told : Told) → told_of label der ≡ Ok told → told.label ≡ label
unfolding told_of
label_kept RsaPublicKey der told h = (key_of RsaPublicKey der (known_in RsaPublicKey der) told h).0
label_kept PublicKey der told h = (key_of PublicKey der (known_in PublicKey der) told h).0
label_kept RsaPrivateKey der told h = (key_of RsaPrivateKey der (known_in RsaPrivateKey der) told h).0
label_kept PrivateKey der told h = (key_of PrivateKey der (known_in PrivateKey der) told h).0
label_kept EcPrivateKey der told h = (key_of EcPrivateKey der (known_in EcPrivateKey der) told h).0
label_kept Certificate der told h = (certificate_of Certificate der told h).0

rsa_is_public : (der : List ℕ) (k : Known) → known_in RsaPublicKey der ≡ Some k → is_public der ≡ true
unfolding known_in
rsa_is_public der k h = ap (λ o. is_some o || is_some (spki der)) h

either : (b : Bool) → (b || true) ≡ true
either true = refl
either false = refl

spki_is_public : (der : List ℕ) (k : Known) → known_in PublicKey der ≡ Some k → is_public der ≡ true
unfolding known_in
spki_is_public der k h = ap (λ o. is_some (rsa_public der) || is_some o) h ∙ either _

pub private_type : NoPublic → NoCertificate → (label : Label) (der : List ℕ) (told : Told) → is_private der ≡ true
    → told_of label der ≡ Ok told → object_type label ≡ 4
unfolding told_of
private_type public certificate RsaPublicKey der told p h =
    let k = (key_of RsaPublicKey der (known_in RsaPublicKey der) told h).1 in
    absurd (no_both (is_public der) (rsa_is_public der k.0 k.1) (public der p))
private_type public certificate PublicKey der told p h =
    let k = (key_of PublicKey der (known_in PublicKey der) told h).1 in
    absurd (no_both (is_public der) (spki_is_public der k.0 k.1) (public der p))
private_type public certificate RsaPrivateKey der told p h = refl
private_type public certificate PrivateKey der told p h = refl
private_type public certificate EcPrivateKey der told p h = refl
private_type public certificate Certificate der told p h =
    absurd (no_both (is_certificate der) (certificate_of Certificate der told h).1 (certificate der p))

pub private_told : NoPublic → NoCertificate → (label : Label) (der : List ℕ) (told : Told) → is_private der ≡ true
    → told_of label der ≡ Ok told → object_type told.label ≡ 4
private_told public certificate label der told p h =
    ap object_type (label_kept label der told h) ∙ private_type public certificate label der told p h

-- ---- in DER and in PEM

abbrev told_by : List ℕ → Option Label → Result Told NoObject
told_by der o = elim o [
  | None ↦ Err (if is_nameless der then NoName else NoKey)
  | Some label ↦ told_of label der
]

label_of : (der : List ℕ) (o : Option Label) (told : Told) → told_by der o ≡ Ok told
    → (label : Label) × (told_of label der ≡ Ok told)
label_of der None told h = absurd (no_error _ told h)
label_of der (Some label) told h = (label, h)

pub private_in_der : NoPublic → NoCertificate → (der : List ℕ) (told : Told) → is_private der ≡ true
    → told_in_der der ≡ Ok told → object_type told.label ≡ 4
private_in_der public certificate der told p h =
    let l = label_of der (label_in der) told h in
    private_told public certificate l.0 der told p l.1

pub private_in_pem : NoPublic → NoCertificate → (text : List ℕ) (pem : Pem) (told : Told) → is_private pem.bytes ≡ true
    → pem_in text ≡ Ok pem → told_in_pem text ≡ Ok told → object_type told.label ≡ 4
private_in_pem public certificate text pem told p e h =
    private_told public certificate pem.label pem.bytes told p (sym (ap told_in_block e) ∙ h)
