-- Each member of a custom structure is smaller than the structure.
use Rattle.std.specs.Prelude.{◌≤◌, List, [], ◌∷◌, map}
use Rattle.std.proofs.Common.{arith}
use denote.Param.Weighed.{most}
use Rattle.kmip_shape.specs.Val.{vals_of}
use Rattle.kmip_types.specs.declared.attribute_value.AttributeValue.{AttributeValue}
use Rattle.kmip_types.specs.declared.attribute_value.AttributeValue.TheVariants.{Name, ObjectType, CryptographicAlgorithm, CryptographicParameters, State, ObjectGroup, Link, ApplicationSpecificInformation, ContactInformation, Structure, Integer, LongInteger, BigInteger, Enumeration, Boolean, TextString, ByteString, DateTime, Interval}
use Rattle.kmip_types.specs.declared.attribute_value.Values.TheDeep.{deep-AttributeValue}
use Rattle.kmip_types.specs.AttributeValues.{attribute_value_val, weight, vals_weight}

deep_le : (x : AttributeValue) → deep-AttributeValue x ≤ weight (attribute_value_val x)
deep_le (Name x y) = omega arith
deep_le (ObjectType x) = omega arith
deep_le (CryptographicAlgorithm x) = omega arith
deep_le (CryptographicParameters x) = omega arith
deep_le (State x) = omega arith
deep_le (ObjectGroup x) = omega arith
deep_le (Link x y) = omega arith
deep_le (ApplicationSpecificInformation x y) = omega arith
deep_le (ContactInformation x) = omega arith
deep_le (Structure x) = omega arith
deep_le (Integer x) = omega arith
deep_le (LongInteger x) = omega arith
deep_le (BigInteger x) = omega arith
deep_le (Enumeration x) = omega arith
deep_le (Boolean x) = omega arith
deep_le (TextString x) = omega arith
deep_le (ByteString x) = omega arith
deep_le (DateTime x) = omega arith
deep_le (Interval x) = omega arith

pub most_le-weight : (xs : List AttributeValue) →
    most deep-AttributeValue xs ≤ vals_weight (vals_of (map attribute_value_val xs))
most_le-weight [] = omega arith
most_le-weight (x ∷ xs) = omega (arith, deep_le x, most_le-weight xs)
