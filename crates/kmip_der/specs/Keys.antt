-- Keys and certificates in DER: PKCS#1 (RFC 8017, A.1), PKCS#8 of version 0 (RFC 5208, 5), ECPrivateKey
-- (RFC 5915, 3), and public keys and certificates of X.509 (RFC 5280, 4.1). Each is read to its end. What
-- a key is for KMIP: its algorithm and its length.
use Rattle.std.specs.Prelude.{ℕ, ◌+◌, ◌/◌, ◌==◌, Bool, true, false, ◌&&◌, ◌||◌, List, [], ◌∷◌, length, Option, Some, None, if◌then◌else◌, bytes_eq, is_some}
use Rattle.std.specs.Option.{option_and_then, option_map}
use Rattle.kmip_der.specs.Der.{Element, tagged, only, natural_in, is_natural, bits_of, past, at_most}
use Rattle.kmip_der.specs.Curve.{Curve, curve_in}
use Rattle.kmip_der.specs.CurveTable.{curves}

-- the number of a Cryptographic Algorithm (KMIP 1.0, 9.1.3.2.12: RSA is 4, DSA 5, ECDSA 6), and the
-- Cryptographic Length
pub record Known : Type 0 where
  pub algorithm : ℕ
  pub len : ℕ

abbrev pub known : ℕ → ℕ → Known
known algorithm len = record { algorithm = algorithm; len = len }

-- ---- the names of the algorithms (RFC 8017, A.1; RFC 5480, 2.1.1; RFC 3279, 2.3.2)

abbrev pub rsa_name : List ℕ
rsa_name = 42 ∷ 134 ∷ 72 ∷ 134 ∷ 247 ∷ 13 ∷ 1 ∷ 1 ∷ 1 ∷ []

abbrev pub ec_name : List ℕ
ec_name = 42 ∷ 134 ∷ 72 ∷ 206 ∷ 61 ∷ 2 ∷ 1 ∷ []

abbrev pub dsa_name : List ℕ
dsa_name = 42 ∷ 134 ∷ 72 ∷ 206 ∷ 56 ∷ 4 ∷ 1 ∷ []

-- ---- numbers in a row

-- what stands behind one number, behind three and behind seven
abbrev pub behind_natural : List ℕ → Option (List ℕ)
behind_natural bytes = option_map (λ found. found.behind) (natural_in bytes)

abbrev pub behind_three : List ℕ → Option (List ℕ)
behind_three bytes =
    option_and_then behind_natural (option_and_then behind_natural (behind_natural bytes))

abbrev pub behind_seven : List ℕ → Option (List ℕ)
behind_seven bytes =
    option_and_then behind_natural (option_and_then behind_three (behind_three bytes))

-- what is known, where nothing is left
abbrev pub known_at_end : Known → List ℕ → Option Known
known_at_end found rest = if length rest == 0 then Some found else None

-- ---- PKCS#1

-- a public key (RFC 8017, A.1.1): a modulus and an exponent
abbrev pub rsa_public_from : Element → Option Known
rsa_public_from modulus =
    option_and_then (known_at_end (known 4 (bits_of modulus.contents)))
    (behind_natural modulus.behind)

abbrev pub rsa_public : List ℕ → Option Known
rsa_public der =
    option_and_then (λ numbers. option_and_then rsa_public_from (natural_in numbers)) (only 48 der)

-- a private key of two primes (A.1.2): the version 0, a modulus, and seven numbers more
abbrev pub rsa_private_from : Element → Option Known
rsa_private_from modulus =
    option_and_then (known_at_end (known 4 (bits_of modulus.contents)))
    (behind_seven modulus.behind)

-- what stands behind a version, where it is this one
abbrev pub behind_this : ℕ → Element → Option (List ℕ)
behind_this version found =
    if bytes_eq found.contents (version ∷ []) then Some found.behind else None

abbrev pub behind_version : ℕ → List ℕ → Option (List ℕ)
behind_version version parts = option_and_then (behind_this version) (natural_in parts)

abbrev pub rsa_private : List ℕ → Option Known
rsa_private der =
    option_and_then rsa_private_from (option_and_then natural_in
    (option_and_then (behind_version 0) (only 48 der)))

-- ---- the parameters of algorithms, as PKCS#8 and X.509 tell them

-- of a named curve (RFC 5480, 2.1.1); one that is told by its numbers has no name in KMIP
abbrev pub curve_by : List ℕ → Option Curve
curve_by parameters = option_and_then (curve_in curves) (only 6 parameters)

abbrev pub ec_known : Curve → Known
ec_known curve = known 6 curve.bits

-- of DSA (RFC 3279, 2.3.2): three numbers, and the first is as long as the key (KMIP 1.0, 3.5)
abbrev pub dsa_known : List ℕ → Element → Option Known
dsa_known numbers prime =
    option_and_then (known_at_end (known 5 (bits_of prime.contents))) (behind_three numbers)

abbrev pub dsa_by : List ℕ → Option Known
dsa_by parameters =
    option_and_then (λ numbers. option_and_then (dsa_known numbers) (natural_in numbers))
    (only 48 parameters)

-- of RSA (RFC 8017, A.1): NULL
abbrev pub are_none : List ℕ → Bool
are_none parameters = bytes_eq parameters (5 ∷ 0 ∷ [])

-- whether bytes are a number that is not negative
abbrev pub is_number : List ℕ → Bool
is_number bytes = elim (only 2 bytes) [ None ↦ false | Some contents ↦ is_natural contents ]

-- ---- ECPrivateKey (RFC 5915, 3): the version 1, the number, in [0] the curve, and in [1] the point

abbrev pub ec_number : List ℕ → Option Element
ec_number der =
    option_and_then (tagged 4) (option_and_then (behind_version 1) (only 48 der))

-- by itself it tells its curve
abbrev pub curve_at_end : Element → Option Curve
curve_at_end parameters =
    if at_most 161 parameters.behind then curve_by parameters.contents else None

abbrev pub curve_behind : Element → Option Curve
curve_behind number = option_and_then curve_at_end (tagged 160 number.behind)

abbrev pub sec1_curve : List ℕ → Option Curve
sec1_curve der = option_and_then curve_behind (ec_number der)

abbrev pub sec1 : List ℕ → Option Known
sec1 der = option_map ec_known (sec1_curve der)

-- in PKCS#8 it tells none, or that of the algorithm's parameters
abbrev pub is_same_curve : List ℕ → List ℕ → Bool
is_same_curve parameters bytes =
    elim (tagged 160 bytes) [ None ↦ true | Some found ↦ bytes_eq found.contents parameters ]

abbrev pub is_ec_key : List ℕ → List ℕ → Bool
is_ec_key parameters key = elim (ec_number key) [
  | None ↦ false
  | Some number ↦
      is_same_curve parameters number.behind && at_most 161 (past 160 number.behind)
]

-- ---- PKCS#8: the version 0, an algorithm, the key in an OCTET STRING, and in [0] attributes

abbrev pub private_by : List ℕ → Element → Option Known
private_by key name =
    if bytes_eq name.contents rsa_name then (if are_none name.behind then rsa_private key else None)
    else if bytes_eq name.contents ec_name
    then (if is_ec_key name.behind key then option_map ec_known (curve_by name.behind) else None)
    else if bytes_eq name.contents dsa_name
    then (if is_number key then dsa_by name.behind else None)
    else None

abbrev pub key_in : Element → Element → Option Known
key_in algorithm key =
    if at_most 160 key.behind
    then option_and_then (private_by key.contents) (tagged 6 algorithm.contents)
    else None

abbrev pub pkcs8_key : Element → Option Known
pkcs8_key algorithm = option_and_then (key_in algorithm) (tagged 4 algorithm.behind)

abbrev pub pkcs8 : List ℕ → Option Known
pkcs8 der =
    option_and_then pkcs8_key (option_and_then (tagged 48)
    (option_and_then (behind_version 0) (only 48 der)))

-- ---- X.509: an algorithm, and the key in a BIT STRING of whole bytes (RFC 5280, 4.1.2.7)

abbrev pub whole_bytes : List ℕ → Option (List ℕ)
whole_bytes [] = None
whole_bytes (unused ∷ bytes) = if unused == 0 then Some bytes else None

-- how many bytes an element of the field has
abbrev pub field_len : ℕ → ℕ
field_len bits = (bits + 7) / 8

-- a point (SEC 1, 2.3.3): both coordinates behind 4, or the first behind 2 or 3
abbrev pub is_point : Curve → List ℕ → Bool
is_point curve [] = false
is_point curve (first ∷ rest) =
    if first == 4 then length rest == field_len curve.bits + field_len curve.bits
    else (first == 2 || first == 3) && length rest == field_len curve.bits

abbrev pub point_known : List ℕ → Curve → Option Known
point_known key curve = if is_point curve key then Some (ec_known curve) else None

abbrev pub public_by : List ℕ → Element → Option Known
public_by key name =
    if bytes_eq name.contents rsa_name then (if are_none name.behind then rsa_public key else None)
    else if bytes_eq name.contents ec_name
    then option_and_then (point_known key) (curve_by name.behind)
    else if bytes_eq name.contents dsa_name
    then (if is_number key then dsa_by name.behind else None)
    else None

abbrev pub bits_behind : Element → Option (List ℕ)
bits_behind algorithm = option_and_then whole_bytes (only 3 algorithm.behind)

abbrev pub spki_key : Element → Option Known
spki_key algorithm =
    option_and_then (λ key. option_and_then (public_by key) (tagged 6 algorithm.contents))
    (bits_behind algorithm)

abbrev pub spki : List ℕ → Option Known
spki der = option_and_then spki_key (option_and_then (tagged 48) (only 48 der))

-- ---- the shape of a certificate (RFC 5280, 4.1): what is signed, the algorithm, and the signature

abbrev pub behind_tag : ℕ → List ℕ → Option (List ℕ)
behind_tag tag bytes = option_map (λ found. found.behind) (tagged tag bytes)

abbrev pub behind_two : List ℕ → Option (List ℕ)
behind_two bytes = option_and_then (behind_tag 48) (behind_tag 48 bytes)

-- behind the version in [0], a serial number, the algorithm, issuer, validity, subject and the key
abbrev pub behind_names : List ℕ → Option (List ℕ)
behind_names bytes =
    option_and_then (behind_tag 48) (option_and_then behind_two (option_and_then behind_two
    (behind_tag 2 (past 160 bytes))))

-- two identifiers in [1] and [2], and in [3] extensions
abbrev pub are_extras : List ℕ → Bool
are_extras bytes = at_most 163 (past 130 (past 129 bytes))

abbrev pub is_signed_part : List ℕ → Bool
is_signed_part bytes =
    elim (behind_names bytes) [ None ↦ false | Some rest ↦ are_extras rest ]

abbrev pub is_signed : Element → Bool
is_signed signed =
    is_signed_part signed.contents
    && is_some (option_and_then (only 3) (behind_tag 48 signed.behind))

abbrev pub is_certificate : List ℕ → Bool
is_certificate der =
    elim (option_and_then (tagged 48) (only 48 der)) [ None ↦ false | Some signed ↦ is_signed signed ]

-- ---- in any format

abbrev pub is_private : List ℕ → Bool
is_private der = is_some (rsa_private der) || is_some (pkcs8 der) || is_some (sec1 der)

abbrev pub is_public : List ℕ → Bool
is_public der = is_some (rsa_public der) || is_some (spki der)
