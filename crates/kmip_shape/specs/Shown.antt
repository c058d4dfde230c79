-- The text of a value, in each style.
use Rattle.std.specs.Prelude.{ℕ, ◌+◌, ◌/◌, ◌%◌, ℤ, pos, Bool, true, false, cond, ◌||◌, List, [], ◌∷◌, ◌++◌, codes, Some, None, nat_eq, nat_lt, flat_map, ◌≡◌}
use Rattle.std.specs.Fmt.{decimal, signed_decimal}
use Rattle.std.specs.Int.{cast_signed, w64}
use Rattle.kmip_wire.specs.declared.kind.Kind.TheVariants.{DateTime}
use Rattle.kmip_shape.specs.declared.style.Style.{Style}
use Rattle.kmip_shape.specs.declared.style.Style.TheVariants.{Bare, Json}
use Rattle.kmip_shape.specs.Val.{Val, Vals, Field, Fields, Number, Text, Bytes, Truth, Record, Case, Absent, One, Many, NoField, AndField, NoVal, AndVal}
use Rattle.kmip_shape.specs.Shape.{Shape, RowList, Cases, Scalar, OneOf, Rows, RowsOrBytes, Choice, Custom, NoRow, AndRow, NoCase, OfName, case_at, Entry}

-- the same in every style
abbrev pub always : List ℕ → Style → List ℕ
always text style = text

abbrev pub hex_digit : ℕ → ℕ
hex_digit n = cond (nat_lt n 10) (48 + n) (55 + n)

abbrev pub hex_byte : ℕ → List ℕ
hex_byte n = hex_digit (n / 16) ∷ hex_digit (n % 16) ∷ []

-- what stands before the two digits of a control character: `\x`, or `\u00`
abbrev pub control_mark : Style → List ℕ
control_mark Bare = 92 ∷ 120 ∷ []
control_mark Json = 92 ∷ 117 ∷ 48 ∷ 48 ∷ []

-- a byte of a text in double quotes
abbrev pub escape : Style → ℕ → List ℕ
escape style n =
    cond (nat_eq n 34 || nat_eq n 92) (92 ∷ n ∷ [])
    (cond (nat_lt n 32 || nat_eq n 127) (control_mark style ++ hex_byte n) (n ∷ []))

abbrev pub text_in_style : List ℕ → Style → List ℕ
text_in_style s style = 34 ∷ (flat_map (escape style) s ++ 34 ∷ [])

-- what stands before the digits of bytes: `x"`, or `"`
abbrev pub bytes_mark : Style → List ℕ
bytes_mark Bare = 120 ∷ 34 ∷ []
bytes_mark Json = 34 ∷ []

abbrev pub bytes_in_style : List ℕ → Style → List ℕ
bytes_in_style b style = bytes_mark style ++ (flat_map hex_byte b ++ 34 ∷ [])

abbrev pub truth_shown : Bool → List ℕ
truth_shown true = codes "true"
truth_shown false = codes "false"

-- a name: itself, or a JSON string
abbrev pub word : List ℕ → Style → List ℕ
word name Bare = name
word name Json = text_in_style name Json

-- what stands between the name of a field and its value: `=`, or `:`
abbrev pub name_mark : Style → List ℕ
name_mark Bare = 61 ∷ []
name_mark Json = 58 ∷ []

-- the number of an enumeration: its name, and its digits where the table has no name
abbrev pub entry_in_style : List Entry → ℕ → Style → List ℕ
entry_in_style [] n style = decimal n
entry_in_style (entry ∷ entries) n style =
    cond (nat_eq entry.number n) (word entry.name style) (entry_in_style entries n style)

-- a Date-Time of these 64 bits, which are a signed number of seconds (KMIP 1.0, 9.1.1.4): in JSON
-- that number, and bare the unsigned number of the same bits
abbrev pub date_in_style : ℕ → Style → List ℕ
date_in_style n Bare = decimal n
date_in_style n Json = signed_decimal (cast_signed w64 n)

abbrev pub leaf_in_style : Shape → ℤ → Style → List ℕ
leaf_in_style (OneOf entries) (pos n) style = entry_in_style entries n style
leaf_in_style (Scalar DateTime) (pos n) style = date_in_style n style
leaf_in_style _ z style = signed_decimal z

abbrev pub comma : Bool → List ℕ
comma false = []
comma true = 44 ∷ []

-- whether a field is shown
abbrev pub stands : Field → Bool
stands Absent = false
stands (One val) = true
stands (Many vals) = true

-- What stands around the value of a case.

-- the start of an object of one member
abbrev pub member_opening : List ℕ → Style → List ℕ
member_opening name style = 123 ∷ (text_in_style name style ++ 58 ∷ [])

abbrev pub case_opening : List ℕ → Style → List ℕ
case_opening name Bare = name
case_opening name Json = member_opening name Json

abbrev pub case_closing : Style → List ℕ
case_closing Bare = []
case_closing Json = 125 ∷ []

abbrev pub brackets_opening : List ℕ → Style → List ℕ
brackets_opening name Bare = name ++ 40 ∷ []
brackets_opening name Json = member_opening name Json

abbrev pub brackets_closing : Style → List ℕ
brackets_closing Bare = 41 ∷ []
brackets_closing Json = 125 ∷ []

-- a case whose value is a record or a list: the value after its name, or an object of one member
abbrev pub beside : List ℕ → (Style → List ℕ) → Style → List ℕ
beside name text Bare = name ++ text Bare
beside name text Json = 123 ∷ (text_in_style name Json ++ 58 ∷ (text Json ++ 125 ∷ []))

-- a case of another value: the value in round brackets after its name, or an object of one member
abbrev pub in_brackets : List ℕ → (Style → List ℕ) → Style → List ℕ
in_brackets name text Bare = name ++ 40 ∷ (text Bare ++ 41 ∷ [])
in_brackets name text Json = beside name text Json

abbrev pub case_in_style : Val → List ℕ → (Style → List ℕ) → Style → List ℕ
case_in_style (Record fields) = beside
case_in_style (Number z) = in_brackets
case_in_style (Text s) = in_brackets
case_in_style (Bytes b) = in_brackets
case_in_style (Truth b) = in_brackets
case_in_style (Case n val) = in_brackets

abbrev mutual
  pub val_in_style : Val → Cases → Shape → Style → List ℕ
  val_in_style (Number z) around shape style = leaf_in_style shape z style
  val_in_style (Text s) around shape style = text_in_style s style
  val_in_style (Bytes b) around shape style = bytes_in_style b style
  val_in_style (Truth b) around shape style = truth_shown b
  val_in_style (Record fields) around shape style = elim shape [
    | Rows rows ↦ 123 ∷ (fields_in_style fields NoCase rows false style ++ 125 ∷ [])
    | RowsOrBytes n rows ↦ 123 ∷ (fields_in_style fields NoCase rows false style ++ 125 ∷ [])
    | Custom ↦ members_in_style fields around style
    | _ ↦ []
  ]
  val_in_style (Case n val) around shape style = elim shape [
    | Choice rule cases ↦
        elim (case_at cases n) [
          | None ↦ []
          | Some c ↦
              case_in_style val c.name (val_in_style val cases c.shape) style
        ]
    | _ ↦ []
  ]

  -- fields, after others or not
  pub fields_in_style : Fields → Cases → RowList → Bool → Style → List ℕ
  fields_in_style NoField around rows after style = []
  fields_in_style (AndField field fields) around NoRow after style = []
  fields_in_style (AndField field fields) around (AndRow name place mark role shape rows) after
      style =
      row_in_style field around name shape after style ++ fields_in_style fields around rows
      (after || stands field) style

  pub row_in_style : Field → Cases → List ℕ → Shape → Bool → Style → List ℕ
  row_in_style Absent around name shape after style = []
  row_in_style (One val) around name shape after style =
      comma after ++ (word name style ++ (name_mark style ++ val_in_style val around shape style))
  row_in_style (Many vals) around name shape after style =
      comma after ++ (word name
      style ++ (name_mark style ++ 91 ∷
      (list_in_style vals around shape false style ++ 93 ∷ [])))

  pub list_in_style : Vals → Cases → Shape → Bool → Style → List ℕ
  list_in_style NoVal around shape after style = []
  list_in_style (AndVal val vals) around shape after style =
      comma after ++ (val_in_style val around shape style ++ list_in_style vals around shape true style)

  -- a custom structure is shown as its list
  pub members_in_style : Fields → Cases → Style → List ℕ
  members_in_style NoField around style = []
  members_in_style (AndField Absent fields) around style = []
  members_in_style (AndField (One val) fields) around style = []
  members_in_style (AndField (Many vals) fields) around style =
      91 ∷ (list_in_style vals NoCase (Choice OfName around) false style ++ 93 ∷ [])

abbrev pub shown_in_style : Shape → Val → Style → List ℕ
shown_in_style shape val = val_in_style val NoCase shape

abbrev pub record_in_style : Fields → RowList → Style → List ℕ
record_in_style fields rows style = 123 ∷ (fields_in_style fields NoCase rows false style ++ 125 ∷ [])

abbrev pub shown : Shape → Val → List ℕ
shown shape val = shown_in_style shape val Bare

-- A value as JSON (RFC 8259): a record is an object of the fields that are not absent, a list an
-- array, and a choice an object of one member. Bytes are a string of upper-case hex digits, a text
-- and the name of an enumeration's number are strings, a Date-Time is its signed number of seconds,
-- and other numbers and truth values are themselves. Numbers have up to 64 bits: a reader that holds
-- them as doubles loses digits from 2^53 on. In a string `"` and `\` stand after a backslash, and a
-- control character is `\u00` and two hex digits.
abbrev pub json : Shape → Val → List ℕ
json shape val = shown_in_style shape val Json

-- A text that grows until memory runs out.

pub record Growing : Type 0 where
  pub text : List ℕ
  pub live : Bool
  pub style : Style

-- a first part of the text was appended
pub record AddsPart (old : List ℕ) (new : List ℕ) (text : List ℕ) : Type 0 where
  pub part : List ℕ
  pub rest : List ℕ
  pub whole : part ++ rest ≡ text
  pub added : new ≡ old ++ part

-- the text in the writer's style was appended, or, where memory ran out, a first part of it; then
-- nothing more is appended; the style stays
pub record Grows (old : Growing) (new : Growing) (text : Style → List ℕ) : Type 0 where
  pub same : new.style ≡ old.style
  pub stays : new.live ≡ true → old.live ≡ true
  pub all : new.live ≡ true → new.text ≡ old.text ++ text old.style
  pub closed : old.live ≡ false → new.text ≡ old.text
  pub part : AddsPart old.text new.text (text old.style)
