-- Parameters of a cryptographic operation.
use Rattle.std.specs.Prelude.{codes, Option}
use Rattle.kmip_tags.specs.Tags.{BLOCK_CIPHER_MODE, COUNTER_LENGTH, CRYPTOGRAPHIC_ALGORITHM, DIGITAL_SIGNATURE_ALGORITHM, FIXED_FIELD_LENGTH, HASHING_ALGORITHM, INITIAL_COUNTER_VALUE, INVOCATION_FIELD_LENGTH, IV_LENGTH, KEY_ROLE_TYPE, PADDING_METHOD, RANDOM_IV, TAG_LENGTH}
use Rattle.kmip_wire.specs.declared.kind.Kind.TheVariants.{Boolean, Integer}
use Rattle.kmip_shape.specs.Shape.{Shape, RowList, Scalar, OneOf, Rows, NoRow, AndRow, Optional, Plain, Under}
use Rattle.kmip_codes.specs.BlockCipherModes.{block_cipher_modes, block_cipher_mode_val, block_cipher_mode_same}
use Rattle.kmip_codes.specs.PaddingMethods.{padding_methods, padding_method_val, padding_method_same}
use Rattle.kmip_codes.specs.HashingAlgorithms.{hashing_algorithms, hashing_algorithm_val, hashing_algorithm_same}
use Rattle.kmip_codes.specs.KeyRoleTypes.{key_role_types, key_role_type_val, key_role_type_same}
use Rattle.kmip_codes.specs.DigitalSignatureAlgorithms.{digital_signature_algorithms, digital_signature_algorithm_val, digital_signature_algorithm_same}
use Rattle.kmip_codes.specs.CryptographicAlgorithms.{cryptographic_algorithms, cryptographic_algorithm_val, cryptographic_algorithm_same}
use Rattle.kmip_shape.specs.Val.{Val, Fields, Record, AndField, NoField}
use Rattle.kmip_shape.specs.Writes.{optional}
use Rattle.kmip_names.specs.Parameters.{random_iv_val, iv_length_val, tag_length_val, fixed_field_length_val, invocation_field_length_val, counter_length_val, initial_counter_value_val, random_iv_same, iv_length_same, tag_length_same, fixed_field_length_same, invocation_field_length_same, counter_length_same, initial_counter_value_same}
use Rattle.std.proofs.Common.{ap}
use Rattle.kmip_shape.specs.Same.{IsFaithful, same_record, optional_row, and_row, no_row}
use Rattle.kmip_codes.specs.declared.block_cipher_mode.BlockCipherMode.{BlockCipherMode}
use Rattle.kmip_codes.specs.declared.padding_method.PaddingMethod.{PaddingMethod}
use Rattle.kmip_codes.specs.declared.hashing_algorithm.HashingAlgorithm.{HashingAlgorithm}
use Rattle.kmip_codes.specs.declared.key_role_type.KeyRoleType.{KeyRoleType}
use Rattle.kmip_codes.specs.declared.digital_signature_algorithm.DigitalSignatureAlgorithm.{DigitalSignatureAlgorithm}
use Rattle.kmip_codes.specs.declared.cryptographic_algorithm.CryptographicAlgorithm.{CryptographicAlgorithm}
use Rattle.kmip_names.specs.declared.parameters.RandomIV.{RandomIV}
use Rattle.kmip_names.specs.declared.parameters.IVLength.{IVLength}
use Rattle.kmip_names.specs.declared.parameters.TagLength.{TagLength}
use Rattle.kmip_names.specs.declared.parameters.FixedFieldLength.{FixedFieldLength}
use Rattle.kmip_names.specs.declared.parameters.InvocationFieldLength.{InvocationFieldLength}
use Rattle.kmip_names.specs.declared.parameters.CounterLength.{CounterLength}
use Rattle.kmip_names.specs.declared.parameters.InitialCounterValue.{InitialCounterValue}
use Rattle.kmip_types.specs.declared.cryptographic_parameters.CryptographicParameters.{CryptographicParameters}

-- Cryptographic Parameters (KMIP 1.0, 3.6; KMIP 1.2, 3.6)
abbrev pub parameter_rows : RowList
parameter_rows =
    AndRow (codes "block_cipher_mode") (Under BLOCK_CIPHER_MODE) Optional Plain
    (OneOf block_cipher_modes)
    (AndRow (codes "padding_method") (Under PADDING_METHOD) Optional Plain (OneOf padding_methods)
    (AndRow (codes "hashing_algorithm") (Under HASHING_ALGORITHM) Optional Plain
    (OneOf hashing_algorithms)
    (AndRow (codes "key_role_type") (Under KEY_ROLE_TYPE) Optional Plain (OneOf key_role_types)
    (AndRow (codes "digital_signature_algorithm") (Under DIGITAL_SIGNATURE_ALGORITHM) Optional Plain
    (OneOf digital_signature_algorithms)
    (AndRow (codes "cryptographic_algorithm") (Under CRYPTOGRAPHIC_ALGORITHM) Optional Plain
    (OneOf cryptographic_algorithms)
    (AndRow (codes "random_iv") (Under RANDOM_IV) Optional Plain (Scalar Boolean)
    (AndRow (codes "iv_length") (Under IV_LENGTH) Optional Plain (Scalar Integer)
    (AndRow (codes "tag_length") (Under TAG_LENGTH) Optional Plain (Scalar Integer)
    (AndRow (codes "fixed_field_length") (Under FIXED_FIELD_LENGTH) Optional Plain (Scalar Integer)
    (AndRow (codes "invocation_field_length") (Under INVOCATION_FIELD_LENGTH) Optional Plain
    (Scalar Integer)
    (AndRow (codes "counter_length") (Under COUNTER_LENGTH) Optional Plain (Scalar Integer)
    (AndRow (codes "initial_counter_value") (Under INITIAL_COUNTER_VALUE) Optional Plain
    (Scalar Integer)
    NoRow))))))))))))

abbrev pub cryptographic_parameters : Shape
cryptographic_parameters = Rows parameter_rows

abbrev pub parameter_fields : CryptographicParameters → Fields
parameter_fields x =
    AndField (optional block_cipher_mode_val x.block_cipher_mode)
    (AndField (optional padding_method_val x.padding_method)
    (AndField (optional hashing_algorithm_val x.hashing_algorithm)
    (AndField (optional key_role_type_val x.key_role_type)
    (AndField (optional digital_signature_algorithm_val x.digital_signature_algorithm)
    (AndField (optional cryptographic_algorithm_val x.cryptographic_algorithm)
    (AndField (optional random_iv_val x.random_iv)
    (AndField (optional iv_length_val x.iv_length)
    (AndField (optional tag_length_val x.tag_length)
    (AndField (optional fixed_field_length_val x.fixed_field_length)
    (AndField (optional invocation_field_length_val x.invocation_field_length)
    (AndField (optional counter_length_val x.counter_length)
    (AndField (optional initial_counter_value_val x.initial_counter_value)
    NoField))))))))))))

abbrev pub cryptographic_parameters_val : CryptographicParameters → Val
cryptographic_parameters_val x = Record (parameter_fields x)

abbrev whole : Option BlockCipherMode ×
    (Option PaddingMethod ×
    (Option HashingAlgorithm ×
    (Option KeyRoleType ×
    (Option DigitalSignatureAlgorithm ×
    (Option CryptographicAlgorithm ×
    (Option RandomIV × (Option IVLength ×
    (Option TagLength ×
    (Option FixedFieldLength ×
    (Option InvocationFieldLength ×
    (Option CounterLength × (Option InitialCounterValue × Unit {0})))))))))))) →
    CryptographicParameters
whole t = record {
  block_cipher_mode = t.0;
  padding_method = (t.1).0;
  hashing_algorithm = ((t.1).1).0;
  key_role_type =
      (((t.1).1).1).0;
  digital_signature_algorithm = ((((t.1).1).1).1).0;
  cryptographic_algorithm =
      (((((t.1).1).1).1).1).0;
  random_iv = ((((((t.1).1).1).1).1).1).0;
  iv_length =
      (((((((t.1).1).1).1).1).1).1).0;
  tag_length =
      ((((((((t.1).1).1).1).1).1).1).1).0;
  fixed_field_length =
      (((((((((t.1).1).1).1).1).1).1).1).1).0;
  invocation_field_length =
      ((((((((((t.1).1).1).1).1).1).1).1).1).1).0;
  counter_length =
      (((((((((((t.1).1).1).1).1).1).1).1).1).1).1).0;
  initial_counter_value =
      ((((((((((((t.1).1).1).1).1).1).1).1).1).1).1).1).0;
}

pub cryptographic_parameters_same : IsFaithful cryptographic_parameters_val
cryptographic_parameters_same x y h =
    ap whole (and_row (optional_row block_cipher_mode_same)
    (and_row (optional_row padding_method_same)
    (and_row (optional_row hashing_algorithm_same)
    (and_row (optional_row key_role_type_same)
    (and_row (optional_row digital_signature_algorithm_same)
    (and_row (optional_row cryptographic_algorithm_same)
    (and_row (optional_row random_iv_same)
    (and_row (optional_row iv_length_same)
    (and_row (optional_row tag_length_same)
    (and_row (optional_row fixed_field_length_same)
    (and_row (optional_row invocation_field_length_same)
    (and_row (optional_row counter_length_same)
    (and_row (optional_row initial_counter_value_same) no_row)))))))))))) (
      x.block_cipher_mode,
      (
        x.padding_method,
        (
          x.hashing_algorithm,
          (
            x.key_role_type,
            (
              x.digital_signature_algorithm,
              (
                x.cryptographic_algorithm,
                (
                  x.random_iv,
                  (
                    x.iv_length,
                    (
                      x.tag_length,
                      (
                        x.fixed_field_length,
                        (x.invocation_field_length, (x.counter_length, (x.initial_counter_value, tt))),
                      ),
                    ),
                  ),
                ),
              ),
            ),
          ),
        ),
      ),
    ) (
      y.block_cipher_mode,
      (
        y.padding_method,
        (
          y.hashing_algorithm,
          (
            y.key_role_type,
            (
              y.digital_signature_algorithm,
              (
                y.cryptographic_algorithm,
                (
                  y.random_iv,
                  (
                    y.iv_length,
                    (
                      y.tag_length,
                      (
                        y.fixed_field_length,
                        (y.invocation_field_length, (y.counter_length, (y.initial_counter_value, tt))),
                      ),
                    ),
                  ),
                ),
              ),
            ),
          ),
        ),
      ),
    )
    (same_record h))
