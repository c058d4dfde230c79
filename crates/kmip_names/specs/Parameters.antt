-- Parameters of the initialization vector and of the authentication tag.
use Rattle.std.specs.Prelude.{ℤ, Bool}
use Rattle.std.proofs.Common.{ap}
use Rattle.kmip_shape.specs.Val.{Val, Number, Truth}
use Rattle.kmip_shape.specs.Same.{IsFaithful, same_number, same_truth}
use Rattle.kmip_names.specs.declared.parameters.RandomIV.{RandomIV}
use Rattle.kmip_names.specs.declared.parameters.IVLength.{IVLength}
use Rattle.kmip_names.specs.declared.parameters.TagLength.{TagLength}
use Rattle.kmip_names.specs.declared.parameters.FixedFieldLength.{FixedFieldLength}
use Rattle.kmip_names.specs.declared.parameters.InvocationFieldLength.{InvocationFieldLength}
use Rattle.kmip_names.specs.declared.parameters.CounterLength.{CounterLength}
use Rattle.kmip_names.specs.declared.parameters.InitialCounterValue.{InitialCounterValue}

abbrev pub random_iv_val : RandomIV → Val
random_iv_val x = Truth x.0

pub random_iv_same : IsFaithful random_iv_val
random_iv_same x y h = let made : Bool → RandomIV = λ value. record { 0 = value } in ap made (same_truth h)

abbrev pub iv_length_val : IVLength → Val
iv_length_val x = Number x.0

pub iv_length_same : IsFaithful iv_length_val
iv_length_same x y h = let made : ℤ → IVLength = λ value. record { 0 = value } in ap made (same_number h)

abbrev pub tag_length_val : TagLength → Val
tag_length_val x = Number x.0

pub tag_length_same : IsFaithful tag_length_val
tag_length_same x y h = let made : ℤ → TagLength = λ value. record { 0 = value } in ap made (same_number h)

abbrev pub fixed_field_length_val : FixedFieldLength → Val
fixed_field_length_val x = Number x.0

pub fixed_field_length_same : IsFaithful fixed_field_length_val
fixed_field_length_same x y h =
    let made : ℤ → FixedFieldLength = λ value. record { 0 = value } in ap made (same_number h)

abbrev pub invocation_field_length_val : InvocationFieldLength → Val
invocation_field_length_val x = Number x.0

pub invocation_field_length_same : IsFaithful invocation_field_length_val
invocation_field_length_same x y h =
    let made : ℤ → InvocationFieldLength = λ value. record { 0 = value } in ap made (same_number h)

abbrev pub counter_length_val : CounterLength → Val
counter_length_val x = Number x.0

pub counter_length_same : IsFaithful counter_length_val
counter_length_same x y h = let made : ℤ → CounterLength = λ value. record { 0 = value } in ap made (same_number h)

abbrev pub initial_counter_value_val : InitialCounterValue → Val
initial_counter_value_val x = Number x.0

pub initial_counter_value_same : IsFaithful initial_counter_value_val
initial_counter_value_same x y h =
    let made : ℤ → InitialCounterValue = λ value. record { 0 = value } in ap made (same_number h)
