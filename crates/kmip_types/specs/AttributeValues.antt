-- The value of an attribute: for each variant its case, what selects it, and its shape.
use Rattle.std.specs.Prelude.{ℕ, pos, ◌+◌, List, [], ◌∷◌, None, codes, ◌≡◌, refl}
use Rattle.kmip_tags.specs.Tags.{APPLICATION_DATA, APPLICATION_NAMESPACE, LINKED_OBJECT_IDENTIFIER, LINK_TYPE, NAME_TYPE, NAME_VALUE}
use Rattle.std.proofs.Common.{ap, ◌∙◌}
use Rattle.kmip_wire.specs.declared.kind.Kind.TheVariants as kinds
use Rattle.kmip_shape.specs.Val.{Val, Vals, Field, Fields, Number, Text, Bytes, Truth, Record, Case, Absent, One, Many, NoField, AndField, NoVal, AndVal, vals_of}
use Rattle.kmip_shape.specs.Shape.{Shape, Scalar, OneOf, Rows, NoRow, AndRow, Required, Plain, Under, Cases, NoCase, AndCase, Choice, OfName, ByNames, ByKind, Custom}
use Rattle.kmip_shape.specs.Same.{IsFaithful, same_case, same_record, same_number, same_unsigned, same_text, same_bytes, same_truth, one_row, and_row, no_row}
use Rattle.kmip_enums.specs.NameTypes.{name_types, name_type_val, name_type_same}
use Rattle.kmip_enums.specs.ObjectTypes.{object_types, object_type_val, object_type_same}
use Rattle.kmip_enums.specs.States.{states, state_val, state_same}
use Rattle.kmip_enums.specs.LinkTypes.{link_types, link_type_val, link_type_same}
use Rattle.kmip_enums.specs.declared.name_type.NameType.{NameType}
use Rattle.kmip_enums.specs.declared.link_type.LinkType.{LinkType}
use Rattle.kmip_codes.specs.CryptographicAlgorithms.{cryptographic_algorithms, cryptographic_algorithm_val, cryptographic_algorithm_same}
use Rattle.kmip_names.specs.Texts.{name_value_val, name_value_same, linked_object_identifier_val, linked_object_identifier_same, application_namespace_val, application_namespace_same, application_data_val, application_data_same}
use Rattle.kmip_names.specs.declared.texts.NameValue.{NameValue}
use Rattle.kmip_names.specs.declared.texts.LinkedObjectIdentifier.{LinkedObjectIdentifier}
use Rattle.kmip_names.specs.declared.texts.ApplicationNamespace.{ApplicationNamespace}
use Rattle.kmip_names.specs.declared.texts.ApplicationData.{ApplicationData}
use Rattle.kmip_types.specs.Parameters.{cryptographic_parameters, cryptographic_parameters_val, cryptographic_parameters_same}
use Rattle.kmip_types.specs.declared.attribute_value.AttributeValue.{AttributeValue}
use Rattle.kmip_types.specs.declared.attribute_value.AttributeValue.TheVariants.{Name, ObjectType, CryptographicAlgorithm, CryptographicParameters, State, ObjectGroup, Link, ApplicationSpecificInformation, ContactInformation, Structure, Integer, LongInteger, BigInteger, Enumeration, Boolean, TextString, ByteString, DateTime, Interval}

-- Name (KMIP 1.0, 3.2)
abbrev pub name : Shape
name = Rows
    (AndRow (codes "name_value") (Under NAME_VALUE) Required Plain (Scalar kinds.TextString)
    (AndRow (codes "name_type") (Under NAME_TYPE) Required Plain (OneOf name_types)
    NoRow))

-- Link (KMIP 1.0, 3.29)
abbrev pub link : Shape
link = Rows
    (AndRow (codes "link_type") (Under LINK_TYPE) Required Plain (OneOf link_types)
    (AndRow (codes "linked_object_identifier") (Under LINKED_OBJECT_IDENTIFIER) Required Plain
    (Scalar kinds.TextString)
    NoRow))

-- Application Specific Information (KMIP 1.0, 3.30)
abbrev pub application_specific_information : Shape
application_specific_information = Rows
    (AndRow (codes "application_namespace") (Under APPLICATION_NAMESPACE) Required Plain
    (Scalar kinds.TextString)
    (AndRow (codes "application_data") (Under APPLICATION_DATA) Required Plain
    (Scalar kinds.TextString)
    NoRow))

-- the cases of an attribute's value: by the attribute's name, and under any other by the item's
-- type
-- (KMIP 1.0, 2.1.1 and 3)
abbrev pub attribute_values : Cases
attribute_values =
    AndCase 1 (codes "Name") (ByNames (codes "Name" ∷ [])) None name
    (AndCase 2 (codes "ObjectType") (ByNames (codes "Object Type" ∷ [])) None (OneOf object_types)
    (AndCase 3 (codes "CryptographicAlgorithm") (ByNames (codes "Cryptographic Algorithm" ∷ []))
    None (OneOf cryptographic_algorithms)
    (AndCase 4 (codes "CryptographicParameters") (ByNames (codes "Cryptographic Parameters" ∷ []))
    None cryptographic_parameters
    (AndCase 5 (codes "State") (ByNames (codes "State" ∷ [])) None (OneOf states)
    (AndCase 6 (codes "ObjectGroup") (ByNames (codes "Object Group" ∷ [])) None
    (Scalar kinds.TextString)
    (AndCase 7 (codes "Link") (ByNames (codes "Link" ∷ codes "Linked Object Identifier" ∷ [])) None
    link
    (AndCase 8 (codes "ApplicationSpecificInformation")
    (ByNames (codes "Application Specific Information" ∷ [])) None
    application_specific_information
    (AndCase 9 (codes "ContactInformation") (ByNames (codes "Contact Information" ∷ [])) None
    (Scalar kinds.TextString)
    (AndCase 10 (codes "Structure") (ByKind kinds.Structure) None Custom
    (AndCase 11 (codes "Integer") (ByKind kinds.Integer) None (Scalar kinds.Integer)
    (AndCase 12 (codes "LongInteger") (ByKind kinds.LongInteger) None (Scalar kinds.LongInteger)
    (AndCase 13 (codes "BigInteger") (ByKind kinds.BigInteger) None (Scalar kinds.BigInteger)
    (AndCase 14 (codes "Enumeration") (ByKind kinds.Enumeration) None (Scalar kinds.Enumeration)
    (AndCase 15 (codes "Boolean") (ByKind kinds.Boolean) None (Scalar kinds.Boolean)
    (AndCase 16 (codes "TextString") (ByKind kinds.TextString) None (Scalar kinds.TextString)
    (AndCase 17 (codes "ByteString") (ByKind kinds.ByteString) None (Scalar kinds.ByteString)
    (AndCase 18 (codes "DateTime") (ByKind kinds.DateTime) None (Scalar kinds.DateTime)
    (AndCase 19 (codes "Interval") (ByKind kinds.Interval) None (Scalar kinds.Interval)
    NoCase))))))))))))))))))

abbrev pub attribute_value : Shape
attribute_value = Choice OfName attribute_values

abbrev pub name_val : NameValue → NameType → Val
name_val value type =
    Record (AndField (One (name_value_val value)) (AndField (One (name_type_val type)) NoField))

abbrev pub link_val : LinkType → LinkedObjectIdentifier → Val
link_val type identifier =
    Record (AndField (One (link_type_val type))
    (AndField (One (linked_object_identifier_val identifier)) NoField))

abbrev pub application_specific_information_val : ApplicationNamespace → ApplicationData → Val
application_specific_information_val namespace contents =
    Record (AndField (One (application_namespace_val namespace))
    (AndField (One (application_data_val contents)) NoField))

-- a value is the case of its variant
abbrev pub attribute_value_val : AttributeValue → Val
attribute_value_val (Name value type) = Case 1 (name_val value type)
attribute_value_val (ObjectType x) = Case 2 (object_type_val x)
attribute_value_val (CryptographicAlgorithm x) = Case 3 (cryptographic_algorithm_val x)
attribute_value_val (CryptographicParameters x) = Case 4 (cryptographic_parameters_val x)
attribute_value_val (State x) = Case 5 (state_val x)
attribute_value_val (ObjectGroup s) = Case 6 (Text s)
attribute_value_val (Link type identifier) = Case 7 (link_val type identifier)
attribute_value_val (ApplicationSpecificInformation namespace contents) =
    Case 8 (application_specific_information_val namespace contents)
attribute_value_val (ContactInformation s) = Case 9 (Text s)
attribute_value_val (Structure values) = Case 10 (Record (AndField (Many (vals_of values)) NoField))
attribute_value_val (Integer z) = Case 11 (Number z)
attribute_value_val (LongInteger z) = Case 12 (Number z)
attribute_value_val (BigInteger b) = Case 13 (Bytes b)
attribute_value_val (Enumeration n) = Case 14 (Number (pos n))
attribute_value_val (Boolean b) = Case 15 (Truth b)
attribute_value_val (TextString s) = Case 16 (Text s)
attribute_value_val (ByteString b) = Case 17 (Bytes b)
attribute_value_val (DateTime n) = Case 18 (Number (pos n))
attribute_value_val (Interval n) = Case 19 (Number (pos n))

-- how many values a value holds, by which a recursion over it ends
abbrev mutual
  pub weight : Val → ℕ
  weight (Number z) = 1
  weight (Text s) = 1
  weight (Bytes b) = 1
  weight (Truth b) = 1
  weight (Record fields) = 1 + fields_weight fields
  weight (Case n val) = 1 + weight val

  pub fields_weight : Fields → ℕ
  fields_weight NoField = 0
  fields_weight (AndField field fields) = field_weight field + fields_weight fields

  pub field_weight : Field → ℕ
  field_weight Absent = 0
  field_weight (One val) = weight val
  field_weight (Many vals) = vals_weight vals

  pub vals_weight : Vals → ℕ
  vals_weight NoVal = 0
  vals_weight (AndVal val vals) = weight val + vals_weight vals

abbrev pub list_weight : List Val → ℕ
list_weight vals = vals_weight (vals_of vals)

pub same_vals_of : (xs ys : List Val) → vals_of xs ≡ vals_of ys → xs ≡ ys
same_vals_of [] [] h = refl
same_vals_of [] (y ∷ ys) h = cc
same_vals_of (x ∷ xs) [] h = cc
same_vals_of (x ∷ xs) (y ∷ ys) h =
    let e : x ≡ y = cc in
    let g : vals_of xs ≡ vals_of ys = cc in
    ap (λ (z : Val). z ∷ xs) e ∙ ap (λ (zs : List Val). y ∷ zs) (same_vals_of xs ys g)

abbrev whole_name : NameValue × (NameType × Unit {0}) → AttributeValue
whole_name t = Name t.0 (t.1).0

abbrev whole_link : LinkType × (LinkedObjectIdentifier × Unit {0}) → AttributeValue
whole_link t = Link t.0 (t.1).0

abbrev whole_information : ApplicationNamespace × (ApplicationData × Unit {0}) → AttributeValue
whole_information t = ApplicationSpecificInformation t.0 (t.1).0

pub attribute_value_same : IsFaithful attribute_value_val
attribute_value_same (Name v t) (Name w u) h =
    ap whole_name (and_row (one_row name_value_same) (and_row (one_row name_type_same) no_row)
    (v, (t, tt)) (w, (u, tt)) (same_record (same_case h).1))
attribute_value_same (ObjectType x) (ObjectType y) h =
    ap ObjectType (object_type_same x y (same_case h).1)
attribute_value_same (CryptographicAlgorithm x) (CryptographicAlgorithm y) h =
    ap CryptographicAlgorithm (cryptographic_algorithm_same x y (same_case h).1)
attribute_value_same (CryptographicParameters x) (CryptographicParameters y) h =
    ap CryptographicParameters (cryptographic_parameters_same x y (same_case h).1)
attribute_value_same (State x) (State y) h = ap State (state_same x y (same_case h).1)
attribute_value_same (ObjectGroup x) (ObjectGroup y) h = ap ObjectGroup (same_text (same_case h).1)
attribute_value_same (Link t i) (Link u j) h =
    ap whole_link (and_row (one_row link_type_same)
    (and_row (one_row linked_object_identifier_same) no_row) (t, (i, tt)) (u, (j, tt))
    (same_record (same_case h).1))
attribute_value_same (ApplicationSpecificInformation n d) (ApplicationSpecificInformation m e) h =
    ap whole_information (and_row (one_row application_namespace_same)
    (and_row (one_row application_data_same) no_row) (n, (d, tt)) (m, (e, tt))
    (same_record (same_case h).1))
attribute_value_same (ContactInformation x) (ContactInformation y) h =
    ap ContactInformation (same_text (same_case h).1)
attribute_value_same (Structure x) (Structure y) h =
    let g : vals_of x ≡ vals_of y = cc in ap Structure (same_vals_of x y g)
attribute_value_same (Integer x) (Integer y) h = ap Integer (same_number (same_case h).1)
attribute_value_same (LongInteger x) (LongInteger y) h =
    ap LongInteger (same_number (same_case h).1)
attribute_value_same (BigInteger x) (BigInteger y) h = ap BigInteger (same_bytes (same_case h).1)
attribute_value_same (Enumeration x) (Enumeration y) h =
    ap Enumeration (same_unsigned (same_case h).1)
attribute_value_same (Boolean x) (Boolean y) h = ap Boolean (same_truth (same_case h).1)
attribute_value_same (TextString x) (TextString y) h = ap TextString (same_text (same_case h).1)
attribute_value_same (ByteString x) (ByteString y) h = ap ByteString (same_bytes (same_case h).1)
attribute_value_same (DateTime x) (DateTime y) h = ap DateTime (same_unsigned (same_case h).1)
attribute_value_same (Interval x) (Interval y) h = ap Interval (same_unsigned (same_case h).1)
attribute_value_same _ _ h = cc
