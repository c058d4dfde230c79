-- Values that are a number.
use Rattle.std.specs.Prelude.{ℕ, ℤ, pos}
use Rattle.std.proofs.Common.{ap}
use Rattle.kmip_shape.specs.Val.{Val, Number}
use Rattle.kmip_shape.specs.Same.{IsFaithful, same_number, same_unsigned}
use Rattle.kmip_names.specs.declared.numbers.AttributeIndex.{AttributeIndex}
use Rattle.kmip_names.specs.declared.numbers.DataLength.{DataLength}
use Rattle.kmip_names.specs.declared.numbers.CryptographicLength.{CryptographicLength}
use Rattle.kmip_names.specs.declared.numbers.CompromiseOccurrenceDate.{CompromiseOccurrenceDate}

abbrev pub attribute_index_val : AttributeIndex → Val
attribute_index_val x = Number x.0

pub attribute_index_same : IsFaithful attribute_index_val
attribute_index_same x y h = let made : ℤ → AttributeIndex = λ value. record { 0 = value } in ap made (same_number h)

abbrev pub data_length_val : DataLength → Val
data_length_val x = Number x.0

pub data_length_same : IsFaithful data_length_val
data_length_same x y h = let made : ℤ → DataLength = λ value. record { 0 = value } in ap made (same_number h)

abbrev pub cryptographic_length_val : CryptographicLength → Val
cryptographic_length_val x = Number x.0

pub cryptographic_length_same : IsFaithful cryptographic_length_val
cryptographic_length_same x y h =
    let made : ℤ → CryptographicLength = λ value. record { 0 = value } in ap made (same_number h)

abbrev pub compromise_occurrence_date_val : CompromiseOccurrenceDate → Val
compromise_occurrence_date_val x = Number (pos x.0)

pub compromise_occurrence_date_same : IsFaithful compromise_occurrence_date_val
compromise_occurrence_date_same x y h =
    let made : ℕ → CompromiseOccurrenceDate = λ value. record { 0 = value } in
    ap made (same_unsigned h)
