-- What a file holds, by its label, in the numbers of KMIP.
use Rattle.std.specs.Prelude.{ℕ, ◌==◌, ◌&&◌, List, [], ◌∷◌, Option, find}
use Rattle.kmip_pem.specs.declared.labels.Label.{Label}
use Rattle.kmip_pem.specs.declared.labels.Label.TheVariants.{RsaPublicKey, PublicKey, RsaPrivateKey, PrivateKey, EcPrivateKey, Certificate}

-- the Object Type (KMIP 1.0, 9.1.3.2.11): a certificate is 1, a public key 3, and a private key 4
abbrev pub object_type : Label → ℕ
object_type RsaPublicKey = 3
object_type PublicKey = 3
object_type RsaPrivateKey = 4
object_type PrivateKey = 4
object_type EcPrivateKey = 4
object_type Certificate = 1

-- the Key Format Type (KMIP 1.2, 9.1.3.2.3): PKCS#1 is 3, PKCS#8 4, X.509 5, ECPrivateKey 6; of a
-- certificate the Certificate Type (KMIP 1.0, 9.1.3.2.6), of which X.509 is 1
abbrev pub format : Label → ℕ
format RsaPublicKey = 3
format PublicKey = 5
format RsaPrivateKey = 3
format PrivateKey = 4
format EcPrivateKey = 6
format Certificate = 1

abbrev pub labels : List Label
labels =
    RsaPublicKey ∷ PublicKey ∷ RsaPrivateKey ∷ PrivateKey ∷ EcPrivateKey ∷ Certificate ∷ []

-- the label of this Object Type and this format
abbrev pub label_with : ℕ → ℕ → Option Label
label_with kind number = find (λ label. object_type label == kind && format label == number) labels
