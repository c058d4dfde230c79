-- A private key is no public key and no certificate: behind its version another element stands than in
-- a public key, and a certificate begins with a structure.
use Rattle.std.proofs.Common.{◌≡◌, ◌⊎◌, inl, inr, ℕ, ◌==◌, true, false, ◌||◌, List, [], length, Option, Some, None, refl, sym, ◌∙◌, ap}
use Rattle.std.specs.Option.{option_and_then, is_some}
use Rattle.std.proofs.lemmas.Bool.{eqb-true}
use Rattle.std.proofs.lemmas.List.{nil_from_length}
use Rattle.std.proofs.lemmas.Option.{cond_some, same_Some, none-some}
use Rattle.kmip_der.specs.Der.{Element, tagged, only, natural_in, natural_found}
use Rattle.kmip_der.specs.Keys.{Known, behind_natural, behind_seven, behind_this, behind_version, rsa_public, rsa_public_from, rsa_private, rsa_private_from, pkcs8, pkcs8_key, ec_known, ec_number, curve_behind, sec1_curve, sec1, spki_key, is_signed, is_certificate, is_private, is_public}
use Rattle.kmip_der.proofs.Steps.{stepped, mapped, some_of, either_true, false_by, other_tag}

-- a structure that begins with a number, behind which b stands
record Front (der b : List ℕ) : Type 0 where
  parts : List ℕ
  version : Element
  whole : only 48 der ≡ Some parts
  first : natural_in parts ≡ Some version
  behind : version.behind ≡ b

-- what stands at the front of it in a private key: a number before seven more, a structure, or bytes
abbrev Second : List ℕ → Type 0
Second b =
    ((m : Element) × (rest : List ℕ) × (natural_in b ≡ Some m) × (behind_seven m.behind ≡ Some rest))
    ⊎ (((e : Element) × (tagged 48 b ≡ Some e)) ⊎ ((e : Element) × (tagged 4 b ≡ Some e)))

abbrev Private : List ℕ → Type 0
Private der = (b : List ℕ) × Front der b × Second b

front : (v : ℕ) (der b : List ℕ) → option_and_then (behind_version v) (only 48 der) ≡ Some b → Front der b
front v der b e =
    let whole = stepped (behind_version v) (only 48 der) b e in
    let first = stepped (behind_this v) (natural_in whole.0) b whole.2 in
    let c = cond_some _ first.0.behind b first.2 in
    record { parts = whole.0; version = first.0; whole = whole.1; first = first.1; behind = c.1 }

of_rsa : (der : List ℕ) (k : Known) → rsa_private der ≡ Some k → Private der
of_rsa der k e =
    let numbers = stepped rsa_private_from _ k e in
    let modulus = stepped natural_in _ numbers.0 numbers.1 in
    let rest = stepped _ (behind_seven numbers.0.behind) k numbers.2 in
    (modulus.0, front 0 der modulus.0 modulus.1, inl (numbers.0, rest.0, modulus.2, rest.1))

of_pkcs8 : (der : List ℕ) (k : Known) → pkcs8 der ≡ Some k → Private der
of_pkcs8 der k e =
    let algorithm = stepped pkcs8_key _ k e in
    let parts = stepped (tagged 48) _ algorithm.0 algorithm.1 in
    (parts.0, front 0 der parts.0 parts.1, inr (inl (algorithm.0, parts.2)))

of_sec1 : (der : List ℕ) (k : Known) → sec1 der ≡ Some k → Private der
of_sec1 der k e =
    let curve = mapped ec_known (sec1_curve der) k e in
    let number = stepped curve_behind (ec_number der) curve.0 curve.1 in
    let parts = stepped (tagged 4) _ number.0 number.1 in
    (parts.0, front 1 der parts.0 parts.1, inr (inr (number.0, parts.2)))

of_any : (der : List ℕ) → is_private der ≡ true → Private der
of_any der e = elim (either_true (is_some (rsa_private der) || is_some (pkcs8 der)) _ e) [
  | inl h ↦ elim (either_true (is_some (rsa_private der)) _ h) [
    | inl r ↦ let k = some_of _ r in of_rsa der k.0 k.1
    | inr p ↦ let k = some_of _ p in of_pkcs8 der k.0 k.1
  ]
  | inr s ↦ let k = some_of _ s in of_sec1 der k.0 k.1
]

-- a number has the tag 2
tag_of_natural : (bytes : List ℕ) (x : Element) → natural_in bytes ≡ Some x → (e : Element)
    × (tagged 2 bytes ≡ Some e)
tag_of_natural bytes x h = let s = stepped natural_found (tagged 2 bytes) x h in (s.0, s.1)

-- so nothing that begins with a structure is a private key
no_structure : (der parts : List ℕ) (a : Element) → Private der → only 48 der ≡ Some parts
    → tagged 48 parts ≡ Some a → ⊥
no_structure der parts a (b, f, s) whole h =
    let same : f.parts ≡ parts = same_Some _ _ (sym f.whole ∙ whole) in
    let n = tag_of_natural f.parts f.version f.first in
    other_tag 2 48 f.parts n.0 a refl n.1 (ap (tagged 48) same ∙ h)

-- and a number with nothing behind it is nothing of the kind
no_end : (b rest : List ℕ) → behind_natural b ≡ Some rest → rest ≡ [] → Second b → ⊥
no_end b rest h e (inl (m, more, p, q)) =
    let x = mapped _ (natural_in b) rest h in
    let same : m ≡ x.0 = same_Some m x.0 (sym p ∙ x.1) in
    let nil : m.behind ≡ [] = ap (λ (y : Element). y.behind) same ∙ (x.2 ∙ e) in
    let none : None ≡ Some more = sym (ap behind_seven nil) ∙ q in
    none-some more none
no_end b rest h e (inr (inl (a, p))) =
    let x = mapped _ (natural_in b) rest h in
    let n = tag_of_natural b x.0 x.1 in
    other_tag 2 48 b n.0 a refl n.1 p
no_end b rest h e (inr (inr (a, p))) =
    let x = mapped _ (natural_in b) rest h in
    let n = tag_of_natural b x.0 x.1 in
    other_tag 2 4 b n.0 a refl n.1 p

no_rsa_public : (der : List ℕ) (k : Known) → Private der → rsa_public der ≡ Some k → ⊥
no_rsa_public der k (b, f, s) h =
    let numbers = stepped _ (only 48 der) k h in
    let modulus = stepped rsa_public_from (natural_in numbers.0) k numbers.2 in
    let exponent = stepped _ (behind_natural modulus.0.behind) k modulus.2 in
    let c = cond_some (length exponent.0 == 0) _ k exponent.2 in
    let parts : f.parts ≡ numbers.0 = same_Some _ _ (sym f.whole ∙ numbers.1) in
    let same : f.version ≡ modulus.0 =
    same_Some _ _ (sym f.first ∙ (ap natural_in parts ∙ modulus.1)) in
    let behind : b ≡ modulus.0.behind = sym f.behind ∙ ap (λ (y : Element). y.behind) same in
    no_end b exponent.0 (ap behind_natural behind ∙ exponent.1)
    (nil_from_length exponent.0 (eqb-true _ _ c.0)) s

no_public : (der : List ℕ) → Private der → is_public der ≡ true → ⊥
no_public der p h = elim (either_true (is_some (rsa_public der)) _ h) [
  | inl r ↦ let k = some_of _ r in no_rsa_public der k.0 p k.1
  | inr s ↦
      let k = some_of _ s in
      let algorithm = stepped spki_key _ k.0 k.1 in
      let parts = stepped (tagged 48) (only 48 der) algorithm.0 algorithm.1 in
      no_structure der parts.0 algorithm.0 p parts.1 parts.2
]

signed_of : (o : Option Element) → (elim o [ None ↦ false | Some signed ↦ is_signed signed ]) ≡ true → (e : Element)
    × (o ≡ Some e)
signed_of (Some e) h = (e, refl)
signed_of None h = absurd (cc)

no_certificate : (der : List ℕ) → Private der → is_certificate der ≡ true → ⊥
no_certificate der p h =
    let signed = signed_of _ h in
    let parts = stepped (tagged 48) (only 48 der) signed.0 signed.1 in
    no_structure der parts.0 signed.0 p parts.1 parts.2

pub private_no_public : (der : List ℕ) → is_private der ≡ true → is_public der ≡ false
private_no_public der h = false_by _ (no_public der (of_any der h))

pub private_no_certificate : (der : List ℕ) → is_private der ≡ true → is_certificate der ≡ false
private_no_certificate der h = false_by _ (no_certificate der (of_any der h))
