-- What KMIP is told of a file: of a key its Cryptographic Algorithm and Length (KMIP 1.0, 3.4, 3.5)
-- and its curve. The DER has to be what the label says, to its end.
use Rattle.std.specs.Prelude.{ℕ, ◌==◌, nat_lt, Bool, false, ◌&&◌, ◌||◌, not, List, [], ◌∷◌, find, Option, Some, None, Result, Ok, Err, bytes_eq, if◌then◌else◌, is_some}
use Rattle.std.specs.Option.{option_and_then, option_map}
use Rattle.kmip_der.specs.Der.{Element, tagged, only}
use Rattle.kmip_der.specs.Curve.{Curve}
use Rattle.kmip_der.specs.Keys.{Known, behind_version, curve_by, rsa_name, dsa_name, ec_name, rsa_public, rsa_private, pkcs8, spki, sec1, sec1_curve, ec_number, is_certificate}
use Rattle.kmip_pem.specs.declared.labels.Label.{Label}
use Rattle.kmip_pem.specs.declared.labels.Label.TheVariants.{RsaPublicKey, PublicKey, RsaPrivateKey, PrivateKey, EcPrivateKey, Certificate}
use Rattle.kmip_pem.specs.declared.refusal.NoPem.{NoPem}
use Rattle.kmip_pem.specs.Pem.{Pem, pem_in}
use Rattle.kmip_key_files.specs.Forms.{object_type, format}
use Rattle.kmip_key_files.specs.declared.told.KeyFacts.{KeyFacts}
use Rattle.kmip_key_files.specs.declared.told.Told.{Told}
use Rattle.kmip_key_files.specs.declared.refusal.NoObject.{NoObject}
use Rattle.kmip_key_files.specs.declared.refusal.NoObject.TheVariants.{NoPem as OfPem, NoKey, OtherDer, NoName, NoLength}

-- a key in the format of its label
unfoldable pub known_in : Label → List ℕ → Option Known
known_in RsaPublicKey der = rsa_public der
known_in PublicKey der = spki der
known_in RsaPrivateKey der = rsa_private der
known_in PrivateKey der = pkcs8 der
known_in EcPrivateKey der = sec1 der
known_in Certificate der = None

-- ---- the algorithm of PKCS#8 (RFC 5958, 2) and of X.509 (RFC 5280, 4.1.2.7): its name, and behind
-- it its parameters

abbrev pub algorithm_behind : Option (List ℕ) → Option Element
algorithm_behind parts =
    option_and_then (λ algorithm. tagged 6 algorithm.contents) (option_and_then (tagged 48) parts)

unfoldable pub algorithm_in : Label → List ℕ → Option Element
algorithm_in PrivateKey der =
    algorithm_behind (option_and_then (behind_version 0) (only 48 der))
algorithm_in PublicKey der = algorithm_behind (only 48 der)
algorithm_in label der = None

-- ---- the curve of a key (KMIP 1.2, 9.1.3.2.5)

abbrev pub curve_with_name : Element → Option Curve
curve_with_name name = if bytes_eq name.contents ec_name then curve_by name.behind else None

abbrev pub curve_number : Option Curve → Option ℕ
curve_number curve = option_map (λ curve. curve.number) curve

unfoldable pub curve_in_key : Label → List ℕ → Option Curve
curve_in_key label der =
    if format label == 6 then sec1_curve der
    else option_and_then curve_with_name (algorithm_in label der)

-- ---- whether it has an algorithm, or a curve, that KMIP 1.2 has no name for

abbrev pub is_other_algorithm : Element → Bool
is_other_algorithm name =
    not (bytes_eq name.contents rsa_name || bytes_eq name.contents dsa_name
    || is_some (curve_with_name name))

-- what tells the curve of an ECPrivateKey (RFC 5915, 3)
abbrev pub has_parameters : List ℕ → Bool
has_parameters der = is_some (option_and_then (λ number. tagged 160 number.behind) (ec_number der))

abbrev pub is_other : Option Element → Bool
is_other None = false
is_other (Some name) = is_other_algorithm name

unfoldable pub has_no_name : Label → List ℕ → Bool
has_no_name label der =
    if format label == 6 then has_parameters der else is_other (algorithm_in label der)

-- ---- all that is told

-- a Cryptographic Length is an Integer (KMIP 1.0, 3.5)
abbrev pub is_length : ℕ → Bool
is_length n = nat_lt 0 n && nat_lt n 2147483648

abbrev pub facts : Known → Option Curve → KeyFacts
facts known curve =
    record { algorithm = known.algorithm; len = known.len; curve = curve_number curve }

abbrev pub ok_told : Label → Option KeyFacts → Result Told NoObject
ok_told label key = Ok (record { label = label; key = key })

abbrev pub key_told : Label → List ℕ → Option Known → Result Told NoObject
key_told label der None = Err (if has_no_name label der then NoName else OtherDer)
key_told label der (Some known) =
    if is_length known.len then ok_told label (Some (facts known (curve_in_key label der)))
    else Err NoLength

abbrev pub certificate_told : Label → List ℕ → Result Told NoObject
certificate_told label der = if is_certificate der then ok_told label None else Err OtherDer

unfoldable pub told_of : Label → List ℕ → Result Told NoObject
told_of label der =
    if object_type label == 1 then certificate_told label der
    else key_told label der (known_in label der)

-- ---- of DER: the one format that reads it

abbrev pub key_labels : List Label
key_labels = RsaPrivateKey ∷ PrivateKey ∷ EcPrivateKey ∷ RsaPublicKey ∷ PublicKey ∷ []

abbrev pub label_in : List ℕ → Option Label
label_in der =
    if is_certificate der then Some Certificate
    else find (λ label. is_some (known_in label der)) key_labels

abbrev pub is_nameless : List ℕ → Bool
is_nameless der =
    has_no_name PrivateKey der || has_no_name PublicKey der || has_no_name EcPrivateKey der

abbrev pub told_in_der : List ℕ → Result Told NoObject
told_in_der der = elim (label_in der) [
  | None ↦ Err (if is_nameless der then NoName else NoKey)
  | Some label ↦ told_of label der
]

-- ---- of a text: its label says what its bytes have to be

abbrev pub told_in_block : Result Pem NoPem → Result Told NoObject
told_in_block (Err why) = Err (OfPem why)
told_in_block (Ok pem) = told_of pem.label pem.bytes

abbrev pub told_in_pem : List ℕ → Result Told NoObject
told_in_pem text = told_in_block (pem_in text)
