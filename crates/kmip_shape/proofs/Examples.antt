-- The definitions on worked examples: each line computes.
use Rattle.std.proofs.Common.{◌≡◌, ℕ, pos, List, [], ◌∷◌, Some, None, true, refl, arith}
use Rattle.std.specs.Prelude.{codes}
use Rattle.kmip_wire.specs.declared.kind.Kind.TheVariants as kind
use Rattle.kmip_wire.specs.Tree.{Tree, scalar, structure, trees_of, integer, enumeration, text_string, byte_string, interval}
use Rattle.kmip_wire.specs.Bytes.{item_bytes}
use Rattle.std.proofs.lemmas.Fmt.{decimal_digit}
use Rattle.kmip_shape.specs.Val.{Val, Number, Text, Bytes, Record, Case, Absent, One, Many, NoField, AndField, NoVal, AndVal}
use Rattle.kmip_shape.specs.Shape.{Shape, Scalar, OneOf, Rows, RowsOrBytes, Choice, Custom, NoRow, AndRow, Under, ByCase, Required, Optional, AtLeastOne, OptionalList, Plain, Chooser, Chosen, Cases, NoCase, AndCase, ByNumbers, ByNames, ByKind, ByTag, Formless, OfNumber, OfName, OfTag, OuterValue, no_outer}
use Rattle.kmip_shape.specs.Enumerations.{entry}
use Rattle.kmip_shape.specs.Reads.{read_of, root_read}
use Rattle.kmip_shape.specs.Trees.{tree_of}
use Rattle.kmip_shape.specs.Writes.{bytes_of}
use Rattle.kmip_shape.specs.Shown.{shown, json}
use Rattle.kmip_shape.specs.Fits.{tags_once, choosers_stand}

abbrev named : List ℕ → OuterValue
named s = record { number = None; name = Some s }

abbrev numbered : ℕ → OuterValue
numbered n = record { number = Some n; name = None }

abbrev two : {A : Type 0} → A → A → List A
two a b = a ∷ b ∷ []

abbrev one : {A : Type 0} → A → List A
one a = a ∷ []

-- a protocol version: its children in either order, others skipped, none twice
abbrev version : Shape
version = Rows (AndRow (codes "major") (Under 0x42006A) Required Plain (Scalar kind.Integer)
    (AndRow (codes "minor") (Under 0x42006B) Required Plain (Scalar kind.Integer) NoRow))

abbrev version_val : Val
version_val = Record (AndField (One (Number (pos 1))) (AndField (One (Number (pos 2))) NoField))

version_read : root_read version 0x420069
    (structure 0x420069 (trees_of
    (scalar 0x42006B (integer (pos 2)) ∷ scalar 0x540001 (integer (pos 9))
    ∷ scalar 0x42006A (integer (pos 1)) ∷ []))) ≡ Some version_val
version_read = refl

version_of_another_tag : root_read version 0x420069
    (structure 0x42007B (trees_of
    (two (scalar 0x42006A (integer (pos 1))) (scalar 0x42006B (integer (pos 2)))))) ≡ None
version_of_another_tag = refl

version_twice : read_of version no_outer
    (structure 0x420069 (trees_of
    (scalar 0x42006A (integer (pos 1)) ∷ scalar 0x42006A (integer (pos 1))
    ∷ scalar 0x42006B (integer (pos 2)) ∷ []))) ≡ None
version_twice = refl

version_tree : tree_of version 0x420069 version_val
    ≡ Some (structure 0x420069 (trees_of (two (scalar 0x42006A (integer (pos 1)))
    (scalar 0x42006B (integer (pos 2))))))
version_tree = refl

version_shown : shown version version_val ≡ codes "{major=1,minor=2}"
version_shown = rw (decimal_digit 1 (omega arith), decimal_digit 2 (omega arith)) refl

version_json : json version version_val ≡ codes "{\"major\":1,\"minor\":2}"
version_json = rw (decimal_digit 1 (omega arith), decimal_digit 2 (omega arith)) refl

-- a padding method alone: 24 bytes
abbrev parameters : Shape
parameters = Rows (AndRow (codes "block_cipher_mode") (Under 0x420011) Optional Plain
    (OneOf (one (entry 1 (codes "CBC"))))
    (AndRow (codes "padding_method") (Under 0x42005F) Optional Plain
    (OneOf (one (entry 8 (codes "PKCS1_v1_5")))) NoRow))

parameters_bytes : bytes_of parameters 0x42002B (Record (AndField Absent (AndField (One (Number (pos 8))) NoField)))
    ≡ Some (0x42 ∷ 0 ∷ 0x2B ∷ 1 ∷ 0 ∷ 0 ∷ 0 ∷ 16 ∷ 0x42 ∷ 0 ∷ 0x5F ∷ 5 ∷ 0 ∷ 0 ∷ 0 ∷ 4 ∷ 0 ∷ 0 ∷ 0
    ∷ 8 ∷ 0 ∷ 0 ∷ 0 ∷ 0 ∷ [])
unfolding item_bytes
parameters_bytes = refl

parameters_shown : shown parameters
    (Record (AndField Absent (AndField (One (Number (pos 8))) NoField)))
    ≡ codes "{padding_method=PKCS1_v1_5}"
parameters_shown = refl

parameters_json : json parameters
    (Record (AndField Absent (AndField (One (Number (pos 8))) NoField)))
    ≡ codes "{\"padding_method\":\"PKCS1_v1_5\"}"
parameters_json = refl

number_outside_the_table : read_of parameters no_outer
    (structure 0x42002B (trees_of (one (scalar 0x42005F (enumeration 7))))) ≡ None
number_outside_the_table = refl

-- attribute values: by name, else by type
abbrev values : Cases
values =
    AndCase 1 (codes "State") (ByNames (one (codes "State"))) None
    (OneOf (two (entry 1 (codes "PreActive")) (entry 2 (codes "Active"))))
    (AndCase 2 (codes "Structure") (ByKind kind.Structure) None Custom
    (AndCase 3 (codes "Enumeration") (ByKind kind.Enumeration) None (Scalar kind.Enumeration)
    (AndCase 4 (codes "ByteString") (ByKind kind.ByteString) None (Scalar kind.ByteString)
    (AndCase 5 (codes "Interval") (ByKind kind.Interval) None (Scalar kind.Interval)
    NoCase))))

abbrev value : Shape
value = Choice OfName values

abbrev digest_val : Val
digest_val = Case 2 (Record (AndField (Many (AndVal (Case 3 (Number (pos 6)))
    (AndVal (Case 4 (Bytes (two 0xAA 0xBB))) NoVal))) NoField))

digest_read : read_of value (named (codes "Digest"))
    (structure 0x42000B (trees_of
    (two (scalar 0x420038 (enumeration 6)) (scalar 0x420035 (byte_string (two 0xAA 0xBB))))))
    ≡ Some digest_val
digest_read = refl

digest_shown : shown value digest_val ≡ codes "Structure[Enumeration(6),ByteString(x\"AABB\")]"
digest_shown = rw (decimal_digit 6 (omega arith)) refl

digest_json : json value digest_val ≡ codes "{\"Structure\":[{\"Enumeration\":6},{\"ByteString\":\"AABB\"}]}"
digest_json = rw (decimal_digit 6 (omega arith)) refl

state_read : read_of value (named (codes "State")) (scalar 0x42000B (enumeration 2)) ≡ Some (Case 1 (Number (pos 2)))
state_read = refl

state_shown : shown value (Case 1 (Number (pos 2))) ≡ codes "State(Active)"
state_shown = refl

state_json : json value (Case 1 (Number (pos 2))) ≡ codes "{\"State\":\"Active\"}"
state_json = refl

state_of_another_type : read_of value (named (codes "State")) (scalar 0x42000B (integer (pos 2))) ≡ None
state_of_another_type = refl

interval_read : read_of value (named (codes "x-a")) (scalar 0x42000B (interval 60)) ≡ Some (Case 5 (Number (pos 60)))
interval_read = refl

structure_in_a_structure : tree_of value 0x42000B
    (Case 2 (Record (AndField (Many (AndVal (Case 2 (Record (AndField (Many NoVal) NoField)))
    NoVal)) NoField))) ≡ None
structure_in_a_structure = refl

-- an attribute: the name, wherever it stands, chooses
abbrev attribute : Shape
attribute = Rows (AndRow (codes "name") (Under 0x42000A) Required Chooser (Scalar kind.TextString)
    (AndRow (codes "value") (Under 0x42000B) Required Chosen value NoRow))

attribute_read : read_of attribute no_outer
    (structure 0x420008 (trees_of
    (two (scalar 0x42000B (enumeration 2)) (scalar 0x42000A (text_string (codes "State"))))))
    ≡ Some (Record (AndField (One (Text (codes "State"))) (AndField (One (Case 1 (Number (pos 2)))) NoField)))
attribute_read = refl

-- key material by the number of its format, and the byte form of a wrapped key
abbrev materials : Cases
materials =
    AndCase 1 (codes "Bytes") (ByNumbers (two 1 5)) None (Scalar kind.ByteString)
    (AndCase 9 (codes "Wrapped") Formless None (Scalar kind.ByteString)
    NoCase)

abbrev key_value : Shape
key_value = RowsOrBytes 9 (AndRow (codes "key_material") (Under 0x420043) Required Plain
    (Choice OfNumber materials) (AndRow (codes "attributes") (Under 0x420008)
    OptionalList Plain attribute NoRow))

material_of_format : read_of (Choice OfNumber materials) (numbered 5)
    (scalar 0x420043 (byte_string (one 0xAA))) ≡ Some (Case 1 (Bytes (one 0xAA)))
material_of_format = refl

material_of_no_format : read_of (Choice OfNumber materials) (numbered 7)
    (scalar 0x420043 (byte_string (one 0xAA))) ≡ None
material_of_no_format = refl

abbrev wrapped_val : Val
wrapped_val = Record (AndField (One (Case 9 (Bytes (two 0xAA 0xBB)))) (AndField Absent NoField))

wrapped_read : read_of key_value (numbered 1) (scalar 0x420045 (byte_string (two 0xAA 0xBB))) ≡ Some wrapped_val
wrapped_read = refl

wrapped_tree : tree_of key_value 0x420045 wrapped_val ≡ Some (scalar 0x420045 (byte_string (two 0xAA 0xBB)))
wrapped_tree = refl

wrapped_shown : shown key_value wrapped_val ≡ codes "{key_material=Wrapped(x\"AABB\")}"
wrapped_shown = refl

wrapped_json : json key_value wrapped_val ≡ codes "{\"key_material\":{\"Wrapped\":\"AABB\"}}"
wrapped_json = refl

wrapped_elsewhere : tree_of (Choice OfNumber materials) 0x420043 (Case 9 (Bytes (two 0xAA 0xBB))) ≡ None
wrapped_elsewhere = refl

-- lists: of at least one, and of any number
abbrev names : Shape
names = Rows (AndRow (codes "attributes") (Under 0x42000A) AtLeastOne Plain (Scalar kind.TextString) NoRow)

no_names : read_of names no_outer (structure 0x42007C (trees_of [])) ≡ None
no_names = refl

names_shown : shown names (Record (AndField (Many (AndVal
    (Text (codes "a\"b\\\n")) NoVal)) NoField)) ≡ codes "{attributes=[\"a\\\"b\\\\\\x0A\"]}"
names_shown = refl

names_json : json names (Record
    (AndField (Many (AndVal (Text
    (codes "a\"b\\\n")) NoVal)) NoField)) ≡ codes "{\"attributes\":[\"a\\\"b\\\\\\u000A\"]}"
names_json = refl

-- an object under its own tag: at most one under all of them
abbrev objects : Cases
objects = AndCase 1 (codes "SymmetricKey") (ByTag 0x42008F) (Some 0x42008F) version
    (AndCase 2 (codes "Template") (ByTag 0x420090) (Some 0x420090) version NoCase)

abbrev payload : Shape
payload = Rows (AndRow (codes "object") ByCase Optional Plain (Choice OfTag objects) NoRow)

abbrev object_tree : ℕ → Tree
object_tree tag = structure tag (trees_of (two (scalar 0x42006A (integer (pos 1))) (scalar 0x42006B (integer (pos 2)))))

object_read : read_of payload no_outer (structure 0x420079 (trees_of (one (object_tree 0x420090))))
    ≡ Some (Record (AndField (One (Case 2 version_val)) NoField))
object_read = refl

object_written : tree_of payload 0x420079 (Record (AndField (One (Case 2 version_val)) NoField))
    ≡ Some (structure 0x420079 (trees_of (one (object_tree 0x420090))))
object_written = refl

two_objects : read_of payload no_outer
    (structure 0x420079 (trees_of (two (object_tree 0x42008F) (object_tree 0x420090)))) ≡ None
two_objects = refl

shapes_stand : (tags_once attribute ≡ true) × (choosers_stand attribute ≡ true)
    × (tags_once key_value ≡ true) × (tags_once payload ≡ true)
shapes_stand = (refl, refl, refl, refl)
