-- The names of attributes.
use Rattle.std.specs.Prelude.{ℕ, List}
use Rattle.std.proofs.Common.{ap}
use Rattle.kmip_shape.specs.Val.{Val, Text}
use Rattle.kmip_shape.specs.Same.{IsFaithful, same_text}
use Rattle.kmip_names.specs.declared.attribute_name.AttributeName.{AttributeName}

abbrev pub attribute_name_val : AttributeName → Val
attribute_name_val x = Text x.0

pub attribute_name_same : IsFaithful attribute_name_val
attribute_name_same x y h = let made : List ℕ → AttributeName = λ value. record { 0 = value } in ap made (same_text h)
