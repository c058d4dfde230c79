-- Transparent keys: each part of a key is an item of its own.
use Rattle.std.specs.Prelude.{codes, ℕ, List, Option}
use Rattle.kmip_tags.specs.Tags.{CRT_COEFFICIENT, G, J, KEY, MODULUS, P, PRIME_EXPONENT_P, PRIME_EXPONENT_Q, PRIVATE_EXPONENT, PUBLIC_EXPONENT, Q, X, Y}
use Rattle.kmip_wire.specs.declared.kind.Kind.TheVariants.{BigInteger, ByteString}
use Rattle.kmip_shape.specs.Shape.{Shape, Scalar, Rows, NoRow, AndRow, Required, Optional, Plain, Under}
use Rattle.kmip_shape.specs.Val.{Val, Bytes, Record, AndField, NoField, One}
use Rattle.kmip_shape.specs.Writes.{optional}
use Rattle.std.proofs.Common.{ap}
use Rattle.kmip_shape.specs.Same.{IsFaithful, same_record, same_bytes, one_row, optional_row, and_row, no_row}
use Rattle.kmip_keys.specs.declared.transparent_keys.TransparentSymmetricKey.{TransparentSymmetricKey}
use Rattle.kmip_keys.specs.declared.transparent_keys.TransparentDSAPrivateKey.{TransparentDSAPrivateKey}
use Rattle.kmip_keys.specs.declared.transparent_keys.TransparentDSAPublicKey.{TransparentDSAPublicKey}
use Rattle.kmip_keys.specs.declared.transparent_keys.TransparentRSAPrivateKey.{TransparentRSAPrivateKey}
use Rattle.kmip_keys.specs.declared.transparent_keys.TransparentRSAPublicKey.{TransparentRSAPublicKey}
use Rattle.kmip_keys.specs.declared.transparent_keys.TransparentDHPrivateKey.{TransparentDHPrivateKey}
use Rattle.kmip_keys.specs.declared.transparent_keys.TransparentDHPublicKey.{TransparentDHPublicKey}

-- Transparent Symmetric Key (KMIP 1.0, 2.1.7.1)
abbrev pub transparent_symmetric_key : Shape
transparent_symmetric_key = Rows
    (AndRow (codes "key") (Under KEY) Required Plain (Scalar ByteString)
    NoRow)

-- Transparent DSA Private Key (KMIP 1.0, 2.1.7.2)
abbrev pub transparent_dsa_private_key : Shape
transparent_dsa_private_key = Rows
    (AndRow (codes "p") (Under P) Required Plain (Scalar BigInteger)
    (AndRow (codes "q") (Under Q) Required Plain (Scalar BigInteger)
    (AndRow (codes "g") (Under G) Required Plain (Scalar BigInteger)
    (AndRow (codes "x") (Under X) Required Plain (Scalar BigInteger)
    NoRow))))

-- Transparent DSA Public Key (KMIP 1.0, 2.1.7.3)
abbrev pub transparent_dsa_public_key : Shape
transparent_dsa_public_key = Rows
    (AndRow (codes "p") (Under P) Required Plain (Scalar BigInteger)
    (AndRow (codes "q") (Under Q) Required Plain (Scalar BigInteger)
    (AndRow (codes "g") (Under G) Required Plain (Scalar BigInteger)
    (AndRow (codes "y") (Under Y) Required Plain (Scalar BigInteger)
    NoRow))))

-- Transparent RSA Private Key (KMIP 1.0, 2.1.7.4)
abbrev pub transparent_rsa_private_key : Shape
transparent_rsa_private_key = Rows
    (AndRow (codes "modulus") (Under MODULUS) Required Plain (Scalar BigInteger)
    (AndRow (codes "private_exponent") (Under PRIVATE_EXPONENT) Optional Plain (Scalar BigInteger)
    (AndRow (codes "public_exponent") (Under PUBLIC_EXPONENT) Optional Plain (Scalar BigInteger)
    (AndRow (codes "p") (Under P) Optional Plain (Scalar BigInteger)
    (AndRow (codes "q") (Under Q) Optional Plain (Scalar BigInteger)
    (AndRow (codes "prime_exponent_p") (Under PRIME_EXPONENT_P) Optional Plain (Scalar BigInteger)
    (AndRow (codes "prime_exponent_q") (Under PRIME_EXPONENT_Q) Optional Plain (Scalar BigInteger)
    (AndRow (codes "crt_coefficient") (Under CRT_COEFFICIENT) Optional Plain (Scalar BigInteger)
    NoRow))))))))

-- Transparent RSA Public Key (KMIP 1.0, 2.1.7.5)
abbrev pub transparent_rsa_public_key : Shape
transparent_rsa_public_key = Rows
    (AndRow (codes "modulus") (Under MODULUS) Required Plain (Scalar BigInteger)
    (AndRow (codes "public_exponent") (Under PUBLIC_EXPONENT) Required Plain (Scalar BigInteger)
    NoRow))

-- Transparent DH Private Key (KMIP 1.0, 2.1.7.6)
abbrev pub transparent_dh_private_key : Shape
transparent_dh_private_key = Rows
    (AndRow (codes "p") (Under P) Required Plain (Scalar BigInteger)
    (AndRow (codes "q") (Under Q) Optional Plain (Scalar BigInteger)
    (AndRow (codes "g") (Under G) Required Plain (Scalar BigInteger)
    (AndRow (codes "j") (Under J) Optional Plain (Scalar BigInteger)
    (AndRow (codes "x") (Under X) Required Plain (Scalar BigInteger)
    NoRow)))))

-- Transparent DH Public Key (KMIP 1.0, 2.1.7.7)
abbrev pub transparent_dh_public_key : Shape
transparent_dh_public_key = Rows
    (AndRow (codes "p") (Under P) Required Plain (Scalar BigInteger)
    (AndRow (codes "q") (Under Q) Optional Plain (Scalar BigInteger)
    (AndRow (codes "g") (Under G) Required Plain (Scalar BigInteger)
    (AndRow (codes "j") (Under J) Optional Plain (Scalar BigInteger)
    (AndRow (codes "y") (Under Y) Required Plain (Scalar BigInteger)
    NoRow)))))

abbrev pub transparent_symmetric_key_val : TransparentSymmetricKey → Val
transparent_symmetric_key_val x = Record
    (AndField (One (Bytes x.key))
    NoField)

abbrev pub transparent_dsa_private_key_val : TransparentDSAPrivateKey → Val
transparent_dsa_private_key_val x = Record
    (AndField (One (Bytes x.p))
    (AndField (One (Bytes x.q))
    (AndField (One (Bytes x.g))
    (AndField (One (Bytes x.x))
    NoField))))

abbrev pub transparent_dsa_public_key_val : TransparentDSAPublicKey → Val
transparent_dsa_public_key_val x = Record
    (AndField (One (Bytes x.p))
    (AndField (One (Bytes x.q))
    (AndField (One (Bytes x.g))
    (AndField (One (Bytes x.y))
    NoField))))

abbrev pub transparent_rsa_private_key_val : TransparentRSAPrivateKey → Val
transparent_rsa_private_key_val x = Record
    (AndField (One (Bytes x.modulus))
    (AndField (optional Bytes x.private_exponent)
    (AndField (optional Bytes x.public_exponent)
    (AndField (optional Bytes x.p)
    (AndField (optional Bytes x.q)
    (AndField (optional Bytes x.prime_exponent_p)
    (AndField (optional Bytes x.prime_exponent_q)
    (AndField (optional Bytes x.crt_coefficient)
    NoField))))))))

abbrev pub transparent_rsa_public_key_val : TransparentRSAPublicKey → Val
transparent_rsa_public_key_val x = Record
    (AndField (One (Bytes x.modulus))
    (AndField (One (Bytes x.public_exponent))
    NoField))

abbrev pub transparent_dh_private_key_val : TransparentDHPrivateKey → Val
transparent_dh_private_key_val x = Record
    (AndField (One (Bytes x.p))
    (AndField (optional Bytes x.q)
    (AndField (One (Bytes x.g))
    (AndField (optional Bytes x.j)
    (AndField (One (Bytes x.x))
    NoField)))))

abbrev pub transparent_dh_public_key_val : TransparentDHPublicKey → Val
transparent_dh_public_key_val x = Record
    (AndField (One (Bytes x.p))
    (AndField (optional Bytes x.q)
    (AndField (One (Bytes x.g))
    (AndField (optional Bytes x.j)
    (AndField (One (Bytes x.y))
    NoField)))))

bytes : IsFaithful Bytes
bytes x y h = same_bytes h

abbrev whole_transparent_symmetric_key : List ℕ × Unit {0} → TransparentSymmetricKey
whole_transparent_symmetric_key t = record { key = t.0 }

pub transparent_symmetric_key_same : IsFaithful transparent_symmetric_key_val
transparent_symmetric_key_same x y h =
    ap whole_transparent_symmetric_key (and_row (one_row bytes) no_row
    (x.key, tt) (y.key, tt) (same_record h))

abbrev whole_transparent_dsa_private_key : List ℕ × (List ℕ × (List ℕ × (List ℕ × Unit {0}))) →
    TransparentDSAPrivateKey
whole_transparent_dsa_private_key t =
    record { p = t.0; q = (t.1).0; g = ((t.1).1).0; x = (((t.1).1).1).0 }

pub transparent_dsa_private_key_same : IsFaithful transparent_dsa_private_key_val
transparent_dsa_private_key_same x y h =
    ap whole_transparent_dsa_private_key
    (and_row (one_row bytes)
    (and_row (one_row bytes) (and_row (one_row bytes) (and_row (one_row bytes) no_row)))
    (x.p, (x.q, (x.g, (x.x, tt)))) (y.p, (y.q, (y.g, (y.x, tt)))) (same_record h))

abbrev whole_transparent_dsa_public_key : List ℕ × (List ℕ × (List ℕ × (List ℕ × Unit {0}))) →
    TransparentDSAPublicKey
whole_transparent_dsa_public_key t =
    record { p = t.0; q = (t.1).0; g = ((t.1).1).0; y = (((t.1).1).1).0 }

pub transparent_dsa_public_key_same : IsFaithful transparent_dsa_public_key_val
transparent_dsa_public_key_same x y h =
    ap whole_transparent_dsa_public_key
    (and_row (one_row bytes)
    (and_row (one_row bytes) (and_row (one_row bytes) (and_row (one_row bytes) no_row)))
    (x.p, (x.q, (x.g, (x.y, tt)))) (y.p, (y.q, (y.g, (y.y, tt)))) (same_record h))

abbrev whole_transparent_rsa_private_key : List ℕ ×
    (Option (List ℕ) × (Option (List ℕ) ×
    (Option (List ℕ) × (Option (List ℕ) ×
    (Option (List ℕ) × (Option (List ℕ) × (Option (List ℕ) × Unit {0}))))))) →
    TransparentRSAPrivateKey
whole_transparent_rsa_private_key t =
    record {
      modulus = t.0;
      private_exponent = (t.1).0;
      public_exponent = ((t.1).1).0;
      p = (((t.1).1).1).0;
      q = ((((t.1).1).1).1).0;
      prime_exponent_p =
          (((((t.1).1).1).1).1).0;
      prime_exponent_q = ((((((t.1).1).1).1).1).1).0;
      crt_coefficient =
          (((((((t.1).1).1).1).1).1).1).0;
    }

pub transparent_rsa_private_key_same : IsFaithful transparent_rsa_private_key_val
transparent_rsa_private_key_same x y h =
    ap whole_transparent_rsa_private_key
    (and_row (one_row bytes)
    (and_row (optional_row bytes)
    (and_row (optional_row bytes)
    (and_row (optional_row bytes)
    (and_row (optional_row bytes)
    (and_row (optional_row bytes)
    (and_row (optional_row bytes) (and_row (optional_row bytes) no_row))))))) (
      x.modulus,
      (
        x.private_exponent,
        (
          x.public_exponent,
          (x.p, (x.q, (x.prime_exponent_p, (x.prime_exponent_q, (x.crt_coefficient, tt))))),
        ),
      ),
    ) (
      y.modulus,
      (
        y.private_exponent,
        (
          y.public_exponent,
          (y.p, (y.q, (y.prime_exponent_p, (y.prime_exponent_q, (y.crt_coefficient, tt))))),
        ),
      ),
    )
    (same_record h))

abbrev whole_transparent_rsa_public_key : List ℕ × (List ℕ × Unit {0}) → TransparentRSAPublicKey
whole_transparent_rsa_public_key t = record { modulus = t.0; public_exponent = (t.1).0 }

pub transparent_rsa_public_key_same : IsFaithful transparent_rsa_public_key_val
transparent_rsa_public_key_same x y h =
    ap whole_transparent_rsa_public_key (and_row (one_row bytes) (and_row (one_row bytes) no_row)
    (x.modulus, (x.public_exponent, tt)) (y.modulus, (y.public_exponent, tt)) (same_record h))

abbrev whole_transparent_dh_private_key : List ℕ ×
    (Option (List ℕ) × (List ℕ × (Option (List ℕ) × (List ℕ × Unit {0})))) → TransparentDHPrivateKey
whole_transparent_dh_private_key t =
    record { p = t.0; q = (t.1).0; g = ((t.1).1).0; j = (((t.1).1).1).0; x = ((((t.1).1).1).1).0 }

pub transparent_dh_private_key_same : IsFaithful transparent_dh_private_key_val
transparent_dh_private_key_same x y h =
    ap whole_transparent_dh_private_key
    (and_row (one_row bytes)
    (and_row (optional_row bytes)
    (and_row (one_row bytes) (and_row (optional_row bytes) (and_row (one_row bytes) no_row))))
    (x.p, (x.q, (x.g, (x.j, (x.x, tt))))) (y.p, (y.q, (y.g, (y.j, (y.x, tt))))) (same_record h))

abbrev whole_transparent_dh_public_key : List ℕ ×
    (Option (List ℕ) × (List ℕ × (Option (List ℕ) × (List ℕ × Unit {0})))) → TransparentDHPublicKey
whole_transparent_dh_public_key t =
    record { p = t.0; q = (t.1).0; g = ((t.1).1).0; j = (((t.1).1).1).0; y = ((((t.1).1).1).1).0 }

pub transparent_dh_public_key_same : IsFaithful transparent_dh_public_key_val
transparent_dh_public_key_same x y h =
    ap whole_transparent_dh_public_key
    (and_row (one_row bytes)
    (and_row (optional_row bytes)
    (and_row (one_row bytes) (and_row (optional_row bytes) (and_row (one_row bytes) no_row))))
    (x.p, (x.q, (x.g, (x.j, (x.y, tt))))) (y.p, (y.q, (y.g, (y.j, (y.y, tt))))) (same_record h))
