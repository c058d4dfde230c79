-- A key in another format: PKCS#8 (RFC 5958, 2) and X.509 (RFC 5280, 4.1.2.7) hold PKCS#1
-- (RFC 8017, A.1) or ECPrivateKey (RFC 5915, 3).
use Rattle.std.specs.Prelude.{ℕ, ◌==◌, Bool, true, false, ◌&&◌, List, [], ◌∷◌, ◌++◌, Option, Some, None, Result, Ok, Err, if◌then◌else◌}
use Rattle.std.specs.Option.{option_and_then, option_map}
use Rattle.kmip_der.specs.Der.{Element, element, tagged, only, past}
use Rattle.kmip_der.specs.Curve.{Curve}
use Rattle.kmip_der.specs.Keys.{behind_version, ec_number, bits_behind, rsa_name, sec1_curve}
use Rattle.kmip_der.specs.Write.{ec_algorithm, spki_der}
use Rattle.kmip_pem.specs.declared.labels.Label.{Label}
use Rattle.kmip_pem.specs.declared.labels.Label.TheVariants.{RsaPublicKey, PublicKey, RsaPrivateKey, PrivateKey, EcPrivateKey, Certificate}
use Rattle.kmip_key_files.specs.declared.told.KeyFacts.{KeyFacts}
use Rattle.kmip_key_files.specs.declared.told.Told.{Told}
use Rattle.kmip_key_files.specs.declared.refusal.NoObject.{NoObject}
use Rattle.kmip_key_files.specs.declared.refusal.NoFile.{NoFile}
use Rattle.kmip_key_files.specs.declared.refusal.NoFile.TheVariants.{OtherFormat}
use Rattle.kmip_key_files.specs.Forms.{object_type, label_with}
use Rattle.kmip_key_files.specs.Told.{curve_in_key, told_of}

-- ---- the key within

-- the algorithm and what stands behind it
abbrev pub key_in_pkcs8 : List ℕ → Option (List ℕ)
key_in_pkcs8 der =
    option_map (λ key. key.contents) (option_and_then (λ algorithm. tagged 4 algorithm.behind)
    (option_and_then (tagged 48) (option_and_then (behind_version 0) (only 48 der))))

abbrev pub key_in_spki : List ℕ → Option (List ℕ)
key_in_spki der = option_and_then bits_behind (option_and_then (tagged 48) (only 48 der))

-- ---- ECPrivateKey, with its curve in [0] where it stands by itself, and without in PKCS#8

abbrev pub ec_key : List ℕ → Element → List ℕ
ec_key curve number =
    element 48 (element 2 (1 ∷ []) ++ (element 4 number.contents
    ++ (curve ++ past 160 number.behind)))

abbrev pub ec_key_of : Curve → Element → List ℕ
ec_key_of curve number = ec_key (element 160 (element 6 curve.name)) number

-- ---- the key round it

abbrev pub rsa_algorithm : List ℕ
rsa_algorithm = element 48 (element 6 rsa_name ++ (5 ∷ 0 ∷ []))

abbrev pub pkcs8_der : List ℕ → List ℕ → List ℕ
pkcs8_der algorithm key = element 48 (element 2 (0 ∷ []) ++ (algorithm ++ element 4 key))

-- ---- from one to the other

abbrev pub pkcs8_of_sec1 : Option Curve → Option Element → Option (List ℕ)
pkcs8_of_sec1 (Some curve) (Some number) = Some (pkcs8_der (ec_algorithm curve) (ec_key [] number))
pkcs8_of_sec1 curve number = None

abbrev pub sec1_of_pkcs8 : Option Curve → Option Element → Option (List ℕ)
sec1_of_pkcs8 (Some curve) (Some number) = Some (ec_key_of curve number)
sec1_of_pkcs8 curve number = None

abbrev pub to_pkcs8 : Label → List ℕ → Option (List ℕ)
to_pkcs8 PrivateKey der = Some der
to_pkcs8 RsaPrivateKey der = Some (pkcs8_der rsa_algorithm der)
to_pkcs8 EcPrivateKey der = pkcs8_of_sec1 (sec1_curve der) (ec_number der)
to_pkcs8 label der = None

abbrev pub to_rsa_private : Label → List ℕ → Option (List ℕ)
to_rsa_private RsaPrivateKey der = Some der
to_rsa_private PrivateKey der = key_in_pkcs8 der
to_rsa_private label der = None

abbrev pub to_sec1 : Label → List ℕ → Option (List ℕ)
to_sec1 EcPrivateKey der = Some der
to_sec1 PrivateKey der =
    sec1_of_pkcs8 (curve_in_key PrivateKey der) (option_and_then ec_number (key_in_pkcs8 der))
to_sec1 label der = None

abbrev pub to_spki : Label → List ℕ → Option (List ℕ)
to_spki PublicKey der = Some der
to_spki RsaPublicKey der = Some (spki_der rsa_algorithm der)
to_spki label der = None

abbrev pub to_rsa_public : Label → List ℕ → Option (List ℕ)
to_rsa_public RsaPublicKey der = Some der
to_rsa_public PublicKey der = key_in_spki der
to_rsa_public label der = None

-- to the second label
unfoldable pub der_of : Label → Label → List ℕ → Option (List ℕ)
der_of label RsaPublicKey der = to_rsa_public label der
der_of label PublicKey der = to_spki label der
der_of label RsaPrivateKey der = to_rsa_private label der
der_of label PrivateKey der = to_pkcs8 label der
der_of label EcPrivateKey der = to_sec1 label der
der_of label Certificate der = None

-- ---- and it has to tell the same

abbrev pub is_same_curve : Option ℕ → Option ℕ → Bool
is_same_curve None None = true
is_same_curve (Some a) (Some b) = a == b
is_same_curve a b = false

abbrev pub is_same_key : Option KeyFacts → Option KeyFacts → Bool
is_same_key (Some a) (Some b) =
    a.algorithm == b.algorithm && a.len == b.len && is_same_curve a.curve b.curve
is_same_key a b = false

pub record File : Type 0 where
  pub label : Label
  pub der : List ℕ

abbrev pub file : Label → List ℕ → File
file label der = record { label = label; der = der }

abbrev pub file_told_by : Option KeyFacts → Label → List ℕ → Result Told NoObject
    → Result File NoFile
file_told_by key label der (Err why) = Err OtherFormat
file_told_by key label der (Ok now) =
    if is_same_key key now.key then Ok (file label der) else Err OtherFormat

abbrev pub file_with : Option KeyFacts → Label → Option (List ℕ) → Result File NoFile
file_with key label None = Err OtherFormat
file_with key label (Some der) = file_told_by key label der (told_of label der)

-- a key in the format with this number, of its Object Type
abbrev pub file_in_format : Told → List ℕ → ℕ → Result File NoFile
file_in_format told der number = elim (label_with (object_type told.label) number) [
  | None ↦ Err OtherFormat
  | Some label ↦ file_with told.key label (der_of told.label label der)
]
