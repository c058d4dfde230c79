-- What the constructors make.
use Rattle.std.specs.Prelude.{ℕ, List, None}
use Rattle.kmip_enums.specs.declared.name_type.NameType.TheVariants.{UninterpretedTextString}
use Rattle.kmip_types.specs.declared.attribute_value.AttributeValue.{AttributeValue}
use Rattle.kmip_request_objects.specs.declared.attribute.Attribute.{Attribute}
use Rattle.kmip_request_objects.specs.declared.name.Name.{Name}

-- the attribute of a name and a value, with no index
abbrev pub attribute_of : List ℕ → AttributeValue → Attribute
attribute_of name value = record { 0 = record { 0 = name }; 1 = None; 2 = value }

-- a name that is an uninterpreted text (KMIP 1.0, 3.2)
abbrev pub uninterpreted_name : List ℕ → Name
uninterpreted_name name = record { 0 = record { 0 = name }; 1 = UninterpretedTextString }
