-- The labels of what KMIP keeps, and the lines that begin and end a block (RFC 7468, 2).
use Rattle.std.specs.Prelude.{ℕ, ◌-◌, nat_eq, Bool, true, false, ◌||◌, List, ◌++◌, length, take, drop, Option, Some, None, codes, bytes_eq, if◌then◌else◌}
use Rattle.std.specs.List.{starts_with, ends_with}
use Rattle.kmip_pem.specs.declared.labels.Label.{Label}
use Rattle.kmip_pem.specs.declared.labels.Label.TheVariants.{RsaPublicKey, PublicKey, RsaPrivateKey, PrivateKey, EcPrivateKey, Certificate}

-- a certificate (RFC 7468, 5), PKCS#8 (10), the public key of X.509 (13), and what OpenSSL calls
-- PKCS#1 and ECPrivateKey
abbrev pub label_text : Label → List ℕ
label_text RsaPublicKey = codes "RSA PUBLIC KEY"
label_text PublicKey = codes "PUBLIC KEY"
label_text RsaPrivateKey = codes "RSA PRIVATE KEY"
label_text PrivateKey = codes "PRIVATE KEY"
label_text EcPrivateKey = codes "EC PRIVATE KEY"
label_text Certificate = codes "CERTIFICATE"

abbrev pub label_named : List ℕ → Option Label
label_named text =
    if bytes_eq text (codes "RSA PUBLIC KEY") then Some RsaPublicKey
    else if bytes_eq text (codes "PUBLIC KEY") then Some PublicKey
    else if bytes_eq text (codes "RSA PRIVATE KEY") then Some RsaPrivateKey
    else if bytes_eq text (codes "PRIVATE KEY") then Some PrivateKey
    else if bytes_eq text (codes "EC PRIVATE KEY") then Some EcPrivateKey
    else if bytes_eq text (codes "CERTIFICATE") then Some Certificate
    else None

-- whether it is a private key that has this label, and whether a public one
abbrev pub is_private : Label → Bool
is_private RsaPrivateKey = true
is_private PrivateKey = true
is_private EcPrivateKey = true
is_private label = false

abbrev pub is_public : Label → Bool
is_public RsaPublicKey = true
is_public PublicKey = true
is_public label = false

-- ---- lines

abbrev pub dashes : List ℕ
dashes = codes "-----"

abbrev pub begin_line : List ℕ → List ℕ
begin_line label = codes "-----BEGIN " ++ (label ++ dashes)

abbrev pub end_line : List ℕ → List ℕ
end_line label = codes "-----END " ++ (label ++ dashes)

abbrev pub before_dashes : List ℕ → Option (List ℕ)
before_dashes rest = if ends_with nat_eq rest dashes then Some (take (length rest - 5) rest) else None

-- the label of a line that begins a block, and of one that ends a block
abbrev pub begun_by : List ℕ → Option (List ℕ)
begun_by line =
    if starts_with nat_eq line (codes "-----BEGIN ") then before_dashes (drop 11 line) else None

abbrev pub ended_by : List ℕ → Option (List ℕ)
ended_by line =
    if starts_with nat_eq line (codes "-----END ") then before_dashes (drop 9 line) else None

-- whether a line ends the block of this label
abbrev pub ends : List ℕ → List ℕ → Bool
ends label line = elim (ended_by line) [ None ↦ false | Some other ↦ bytes_eq other label ]

-- ---- labels that have another meaning

-- parameters of a curve and of DSA, which may stand before their key
abbrev pub is_of_parameters : List ℕ → Bool
is_of_parameters label =
    bytes_eq label (codes "EC PARAMETERS") || bytes_eq label (codes "DSA PARAMETERS")
