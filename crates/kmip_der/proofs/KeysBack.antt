-- What is written is read: a key by its parts.
use Rattle.std.proofs.Common.{◌≡◌, ℕ, ◌==◌, true, List, [], ◌∷◌, ◌++◌, Some, refl, sym, ◌∙◌, ap}
use Rattle.std.specs.Option.{option_and_then, option_map}
use Rattle.std.proofs.lemmas.List.{append-nil}
use Rattle.kmip_der.specs.Der.{Element, element, tagged, natural_in, natural_found, bits_of}
use Rattle.kmip_der.specs.Curve.{Curve, curve_in}
use Rattle.kmip_der.specs.CurveTable.{curves}
use Rattle.kmip_der.specs.Keys.{known, behind_natural, behind_three, behind_seven, behind_this, behind_version, known_at_end, rsa_public, rsa_public_from, rsa_private, rsa_private_from, curve_by, curve_at_end, curve_behind, sec1_curve, ec_name, ec_known, is_point, point_known, public_by, spki, spki_key, whole_bytes}
use Rattle.kmip_der.specs.Write.{integer, integers, rsa_public_der, rsa_private_der, padded, sec1_der, ec_algorithm, spki_der}
use Rattle.kmip_der.proofs.Back.{read, number_of, natural_read, only_read, tagged_read}

behind_read : (number rest : List ℕ) → behind_natural (integer number ++ rest) ≡ Some rest
behind_read number rest = ap (option_map (λ (x : Element). x.behind)) (natural_read number rest)

three_read : (a b c rest : List ℕ) → behind_three (integer a ++ (integer b ++ (integer c ++ rest))) ≡ Some rest
three_read a b c rest =
    ap (λ o. option_and_then behind_natural (option_and_then behind_natural o)) (behind_read a _)
    ∙ (ap (option_and_then behind_natural) (behind_read b _) ∙ behind_read c rest)

seven_read : (a b c d e f g rest : List ℕ) → behind_seven (integer a ++ (integer b ++ (integer c ++ (integer d
    ++ (integer e ++ (integer f ++ (integer g ++ rest))))))) ≡ Some rest
seven_read a b c d e f g rest =
    ap (λ o. option_and_then behind_natural (option_and_then behind_three o)) (three_read a b c _)
    ∙ (ap (option_and_then behind_natural) (three_read d e f _) ∙ behind_read g rest)

pub rsa_public_read : (n e : List ℕ) → rsa_public (rsa_public_der n e) ≡ Some (known 4 (bits_of (number_of n)))
rsa_public_read n e =
    ap (option_and_then (λ numbers. option_and_then rsa_public_from (natural_in numbers)))
    (only_read 48 (integers (n ∷ e ∷ [])) refl)
    ∙ (ap (option_and_then rsa_public_from) (natural_read n (integers (e ∷ [])))
    ∙ ap (option_and_then (known_at_end (known 4 (bits_of (number_of n))))) (behind_read e []))

version_read : (rest : List ℕ) → behind_version 0 (integer [] ++ rest) ≡ Some rest
version_read rest = ap (option_and_then (behind_this 0)) (natural_read [] rest)

pub rsa_private_read : (n a b c d e f g : List ℕ)
    → rsa_private (rsa_private_der (n ∷ a ∷ b ∷ c ∷ d ∷ e ∷ f ∷ g ∷ [])) ≡ Some (known 4 (bits_of (number_of n)))
rsa_private_read n a b c d e f g =
    let numbers : List (List ℕ) = n ∷ a ∷ b ∷ c ∷ d ∷ e ∷ f ∷ g ∷ [] in
    ap (λ o. option_and_then rsa_private_from (option_and_then natural_in (option_and_then (behind_version 0) o)))
    (only_read 48 (integers ([] ∷ numbers)) refl)
    ∙ (ap (λ o. option_and_then rsa_private_from (option_and_then natural_in o)) (version_read (integers numbers))
    ∙ (ap (option_and_then rsa_private_from) (natural_read n _)
    ∙ ap (option_and_then (known_at_end (known 4 (bits_of (number_of n))))) (seven_read a b c d e f g [])))

-- ---- curves

one_read : (rest : List ℕ) → behind_version 1 (element 2 (1 ∷ []) ++ rest) ≡ Some rest
one_read rest =
    ap (λ o. option_and_then (behind_this 1) (option_and_then natural_found o)) (tagged_read 2 (1 ∷ []) rest refl)

alone_read : (tag : ℕ) (contents : List ℕ) → tag == tag ≡ true → tagged tag (element tag contents) ≡ read tag contents []
alone_read tag contents e =
    ap (tagged tag) (sym (append-nil (element tag contents))) ∙ tagged_read tag contents [] e

name_read : (curve : Curve) → curve_in curves curve.name ≡ Some curve → curve_by (element 6 curve.name) ≡ Some curve
name_read curve h = ap (option_and_then (curve_in curves)) (only_read 6 curve.name refl) ∙ h

pub sec1_read : (curve : Curve) (number : List ℕ) → curve_in curves curve.name ≡ Some curve
    → sec1_curve (sec1_der curve number) ≡ Some curve
sec1_read curve number h =
    let inside = element 160 (element 6 curve.name) in
    let behind = element 4 (padded curve.octets number) ++ inside in
    ap (λ o. option_and_then curve_behind (option_and_then (tagged 4) (option_and_then (behind_version 1) o)))
    (only_read 48 (element 2 (1 ∷ []) ++ behind) refl)
    ∙ (ap (λ o. option_and_then curve_behind (option_and_then (tagged 4) o)) (one_read behind)
    ∙ (ap (option_and_then curve_behind) (tagged_read 4 (padded curve.octets number) inside refl)
    ∙ (ap (option_and_then curve_at_end) (alone_read 160 (element 6 curve.name) refl)
    ∙ name_read curve h)))

pub point_read : (curve : Curve) (point : List ℕ) → curve_in curves curve.name ≡ Some curve
    → is_point curve point ≡ true → spki (spki_der (ec_algorithm curve) point) ≡ Some (ec_known curve)
point_read curve point h p =
    let inside = element 6 ec_name ++ element 6 curve.name in
    let bits = element 3 (0 ∷ point) in
    ap (λ o. option_and_then spki_key (option_and_then (tagged 48) o))
    (only_read 48 (element 48 inside ++ bits) refl)
    ∙ (ap (option_and_then spki_key) (tagged_read 48 inside bits refl)
    ∙ (ap (λ o. option_and_then (λ key. option_and_then (public_by key) (tagged 6 inside)) (option_and_then whole_bytes o))
    (only_read 3 (0 ∷ point) refl)
    ∙ (ap (option_and_then (public_by point)) (tagged_read 6 ec_name (element 6 curve.name) refl)
    ∙ (ap (option_and_then (point_known point)) (name_read curve h) ∙ rw p refl))))
