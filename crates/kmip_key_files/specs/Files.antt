-- The file of a key block (KMIP 1.2, 2.1.3) or of a certificate, as a server told it.
use Rattle.std.specs.Prelude.{ℕ, ◌==◌, nat_lt, nat_le, Bool, ◌||◌, not, List, [], ◌∷◌, length, Option, Some, None, Result, Ok, Err, if◌then◌else◌}
use Rattle.std.specs.Option.{option_or, option_map}
use Rattle.kmip_der.specs.Curve.{Curve, curve_with}
use Rattle.kmip_der.specs.CurveTable.{curves}
use Rattle.kmip_der.specs.Keys.{is_point}
use Rattle.kmip_der.specs.Write.{digits_of, rsa_public_der, rsa_private_der, sec1_der, ec_algorithm, spki_der}
use Rattle.kmip_pem.specs.declared.labels.Label.{Label}
use Rattle.kmip_pem.specs.declared.labels.Label.TheVariants.{RsaPublicKey, PublicKey, RsaPrivateKey, EcPrivateKey}
use Rattle.kmip_pem.specs.Written.{pem_text}
use Rattle.kmip_key_files.specs.declared.told.Told.{Told}
use Rattle.kmip_key_files.specs.declared.refusal.NoObject.{NoObject}
use Rattle.kmip_key_files.specs.declared.refusal.NoFile.{NoFile}
use Rattle.kmip_key_files.specs.declared.refusal.NoFile.TheVariants.{OtherType, Wrapped, OtherFormat, OtherBytes, NoBytes, NoNumber, Negative, TooWide, NoCurve, NoPoint}
use Rattle.kmip_key_files.specs.declared.block.Block.{Block}
use Rattle.kmip_key_files.specs.declared.block.RsaNumbers.{RsaNumbers}
use Rattle.kmip_key_files.specs.declared.block.Material.{Material}
use Rattle.kmip_key_files.specs.declared.block.Material.TheVariants.{Bytes, RsaPublic, RsaPrivate, EcPublic, EcPrivate, Other}
use Rattle.kmip_key_files.specs.Forms.{label_with}
use Rattle.kmip_key_files.specs.Told.{told_of}
use Rattle.kmip_key_files.specs.Formats.{File, file}

-- ---- what is written has to be what its label says

abbrev pub file_if : Label → List ℕ → Result Told NoObject → Result File NoFile
file_if label der (Err why) = Err OtherBytes
file_if label der (Ok told) = Ok (file label der)

abbrev pub checked_file : Label → List ℕ → Result File NoFile
checked_file label der = file_if label der (told_of label der)

-- ---- bytes, in a format that has a label

abbrev pub bytes_file : Option Label → List ℕ → Result File NoFile
bytes_file None bytes = Err OtherFormat
bytes_file (Some label) [] = Err NoBytes
bytes_file (Some label) (a ∷ rest) = checked_file label (a ∷ rest)

-- ---- parts (KMIP 1.2, 2.1.7): each number a Big Integer, the highest byte first

abbrev pub number_fault : List ℕ → Option NoFile
number_fault [] = Some NoBytes
number_fault (a ∷ rest) =
    if nat_le 128 a then Some Negative
    else if nat_lt (length (a ∷ rest)) 16777216 then None
    else Some TooWide

abbrev pub numbers_fault : List (List ℕ) → Option NoFile
numbers_fault [] = None
numbers_fault (number ∷ numbers) = option_or (number_fault number) (numbers_fault numbers)

abbrev pub file_unless : Option NoFile → Result File NoFile → Result File NoFile
file_unless None file = file
file_unless (Some why) file = Err why

abbrev pub rsa_public_file : List ℕ → List ℕ → Result File NoFile
rsa_public_file modulus exponent =
    file_unless (numbers_fault (modulus ∷ exponent ∷ []))
    (checked_file RsaPublicKey (rsa_public_der modulus exponent))

-- the eight numbers of PKCS#1 (RFC 8017, A.1.2), where there are as many
abbrev pub and_number : Option (List ℕ) → Option (List (List ℕ)) → Option (List (List ℕ))
and_number (Some number) (Some numbers) = Some (number ∷ numbers)
and_number number numbers = None

abbrev pub rsa_private_file : Option (List (List ℕ)) → Result File NoFile
rsa_private_file None = Err NoNumber
rsa_private_file (Some numbers) =
    file_unless (numbers_fault numbers) (checked_file RsaPrivateKey (rsa_private_der numbers))

-- a curve by its number (KMIP 1.2, 9.1.3.2.5)
unfoldable pub curve_numbered : ℕ → Option Curve
curve_numbered number = curve_with curves number

-- a number in no more bytes than the order of its curve has (RFC 5915, 3)
abbrev pub ec_private_file : List ℕ → Option Curve → Result File NoFile
ec_private_file number None = Err NoCurve
ec_private_file number (Some curve) =
    file_unless (number_fault number)
    (if nat_le (length (digits_of number)) curve.octets
    then checked_file EcPrivateKey (sec1_der curve number)
    else Err TooWide)

-- a point as long as its field says (SEC 1, 2.3.3)
abbrev pub ec_public_file : List ℕ → Option Curve → Result File NoFile
ec_public_file point None = Err NoCurve
ec_public_file point (Some curve) =
    if is_point curve point
    then checked_file PublicKey (spki_der (ec_algorithm curve) point)
    else Err NoPoint

-- ---- all of it, by the Object Type: a public key is 3, and a private key 4

abbrev pub file_of_type : ℕ → ℕ → Result File NoFile → Result File NoFile
file_of_type wanted kind file = if kind == wanted then file else Err OtherFormat

abbrev pub numbers_in : RsaNumbers → Option (List (List ℕ))
numbers_in rsa =
    and_number (Some rsa.modulus.now)
    (and_number (option_map (λ n. n.now) rsa.public_exponent)
    (and_number (option_map (λ n. n.now) rsa.private_exponent)
    (and_number (option_map (λ n. n.now) rsa.p)
    (and_number (option_map (λ n. n.now) rsa.q)
    (and_number (option_map (λ n. n.now) rsa.prime_exponent_p)
    (and_number (option_map (λ n. n.now) rsa.prime_exponent_q)
    (and_number (option_map (λ n. n.now) rsa.crt_coefficient) (Some []))))))))

abbrev pub material_file : ℕ → Material → Result File NoFile
material_file kind (Bytes format bytes) = bytes_file (label_with kind format) bytes.now
material_file kind (RsaPublic modulus exponent) =
    file_of_type 3 kind (rsa_public_file modulus.now exponent.now)
material_file kind (RsaPrivate numbers) =
    file_of_type 4 kind (rsa_private_file (numbers_in numbers))
material_file kind (EcPublic curve point) =
    file_of_type 3 kind (ec_public_file point.now (curve_numbered curve))
material_file kind (EcPrivate curve number) =
    file_of_type 4 kind (ec_private_file number.now (curve_numbered curve))
material_file kind Other = Err OtherFormat

abbrev pub has_files : ℕ → Bool
has_files kind = kind == 1 || kind == 3 || kind == 4

abbrev pub file_of : Block → Result File NoFile
file_of block =
    if not (has_files block.object_type) then Err OtherType
    else if block.is_wrapped then Err Wrapped
    else material_file block.object_type block.material

-- the text of a file (RFC 7468, 2)
abbrev pub text_of : Result File NoFile → Result (List ℕ) NoFile
text_of (Err why) = Err why
text_of (Ok file) = Ok (pem_text file.label file.der)

abbrev pub pem_of : Block → Result (List ℕ) NoFile
pem_of block = text_of (file_of block)
