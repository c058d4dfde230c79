-- DER that is written: keys by their parts.
use Rattle.std.specs.Prelude.{ℕ, ◌-◌, ◌==◌, nat_lt, List, [], ◌∷◌, ◌++◌, length, replicate, if◌then◌else◌}
use Rattle.kmip_der.specs.Der.{element}
use Rattle.kmip_der.specs.Curve.{Curve}
use Rattle.kmip_der.specs.Keys.{ec_name}

-- a number without the zeros before it
abbrev pub digits_of : List ℕ → List ℕ
digits_of [] = []
digits_of (a ∷ rest) = if a == 0 then digits_of rest else a ∷ rest

-- the contents of the INTEGER of a number, in the fewest bytes (X.690, 8.3)
abbrev pub with_sign : List ℕ → List ℕ
with_sign [] = 0 ∷ []
with_sign (a ∷ rest) = if nat_lt a 128 then a ∷ rest else 0 ∷ a ∷ rest

abbrev pub integer : List ℕ → List ℕ
integer number = element 2 (with_sign (digits_of number))

abbrev pub integers : List (List ℕ) → List ℕ
integers [] = []
integers (number ∷ numbers) = integer number ++ integers numbers

-- PKCS#1 of a modulus and an exponent (RFC 8017, A.1.1), and of the eight numbers of a private key
-- (A.1.2)
abbrev pub rsa_public_der : List ℕ → List ℕ → List ℕ
rsa_public_der modulus exponent = element 48 (integers (modulus ∷ exponent ∷ []))

abbrev pub rsa_private_der : List (List ℕ) → List ℕ
rsa_private_der numbers = element 48 (integers ([] ∷ numbers))

-- X.509 (RFC 5280, 4.1.2.7) of a point of a curve, whose algorithm tells the curve (RFC 5480, 2.1.1)
abbrev pub ec_algorithm : Curve → List ℕ
ec_algorithm curve = element 48 (element 6 ec_name ++ element 6 curve.name)

abbrev pub spki_der : List ℕ → List ℕ → List ℕ
spki_der algorithm key = element 48 (algorithm ++ element 3 (0 ∷ key))

-- a number in so many bytes
abbrev pub padded : ℕ → List ℕ → List ℕ
padded n number = replicate (n - length (digits_of number)) 0 ++ digits_of number

-- ECPrivateKey of a number of a curve (RFC 5915, 3)
abbrev pub sec1_der : Curve → List ℕ → List ℕ
sec1_der curve number =
    element 48 (element 2 (1 ∷ []) ++ (element 4 (padded curve.octets number)
    ++ element 160 (element 6 curve.name)))
