-- A call as a row: an operation, and the fields of its payload.
use Rattle.std.specs.Prelude.{ℕ, List, map}
use Rattle.kmip_enums.specs.declared.operation.Operation.{Operation}
use Rattle.kmip_operation_words.specs.declared.rows.Kind.{Kind}
use Rattle.kmip_operation_words.specs.declared.rows.Rest.{Rest}
use Rattle.kmip_operation_words.specs.declared.rows.Form.{Form as TheForm}
use Rattle.kmip_operation_words.specs.declared.rows.Form.TheVariants.{Item, Parameter, Attribute, Domain, Named}
use Rattle.kmip_operation_words.specs.declared.rows.Place.{Place as ThePlace}
use Rattle.kmip_operation_words.specs.declared.rows.Place.TheVariants as places
use Rattle.kmip_operation_words.specs.declared.rows.Group.{Group}
use Rattle.kmip_operation_words.specs.declared.rows.FieldRow.{FieldRow}
use Rattle.kmip_operation_words.specs.declared.rows.PartRow.{PartRow}
use Rattle.kmip_operation_words.specs.declared.rows.OperationRow.{OperationRow}

-- how the value of a field stands among the items: as an item; as an item in Cryptographic
-- Parameters; as the value of an attribute; in the attribute Cryptographic Domain Parameters; as the
-- attribute Name
pub data Form : Type 0 where
  bare : Form
  as_parameter : Form
  as_attribute : List ℕ → Form
  in_domain : Form
  as_name : Form

-- which word gives a field: that with an index; each word behind those; an option that may be left
-- out, or is needed, or stands for a word where it is left out; or always the same word
pub data Place : Type 0 where
  word_at : ℕ → Place
  each_behind : Place
  optional : Place
  needed : Place
  usual : List ℕ → Place
  always : List ℕ → Place

-- a field; the name of an option has the `=` that stands before its value
pub record Field : Type 0 where
  pub name : List ℕ
  pub place : Place
  pub tag : ℕ
  pub kind : Kind
  pub form : Form

-- fields that stand together, and what stands round them: nothing, a structure with a tag where one
-- of them is given, or one that is needed
pub record Part : Type 0 where
  pub group : Group
  pub fields : List Field

-- a call: how many words it has behind its name, and what stands behind these
pub record Row : Type 0 where
  pub name : List ℕ
  pub operation : Operation
  pub words : ℕ
  pub rest : Rest
  pub parts : List Part

abbrev pub field : List ℕ → Place → ℕ → Kind → Form → Field
field name place tag kind form =
    record { name = name; place = place; tag = tag; kind = kind; form = form }

abbrev pub part : Group → List Field → Part
part group fields = record { group = group; fields = fields }

abbrev pub row : List ℕ → Operation → ℕ → Rest → List Part → Row
row name operation words rest parts =
    record { name = name; operation = operation; words = words; rest = rest; parts = parts }

abbrev pub form_view : TheForm → Form
form_view Item = bare
form_view Parameter = as_parameter
form_view (Attribute name) = as_attribute name.now
form_view Domain = in_domain
form_view Named = as_name

abbrev pub place_view : ThePlace → Place
place_view (places.Word index) = word_at index
place_view places.Words = each_behind
place_view places.Option = optional
place_view places.Needed = needed
place_view (places.Usual text) = usual text.now
place_view (places.Always text) = always text.now

abbrev pub field_view : FieldRow → Field
field_view x = field x.name.now (place_view x.place) x.tag x.kind (form_view x.form)

abbrev pub part_view : PartRow → Part
part_view x = part x.group (map field_view x.fields.now)

abbrev pub row_view : OperationRow → Row
row_view x = row x.name.now x.operation x.words x.rest (map part_view x.parts.now)
