use Rattle.std.specs.Prelude.{ℕ, pos, Bool, false, cond, ◌||◌, List, [], ◌∷◌, Option, Some, None, nat_eq, ◌==◌}
use Rattle.kmip_wire.specs.declared.kind.Kind.{Kind}
use Rattle.kmip_wire.specs.Tree.{Scalar as Leaf, Tree, integer, long_integer, big_integer, enumeration, boolean, text_string, byte_string, date_time, interval}
use Rattle.kmip_wire.specs.Parts.{tag_of, kind_of_tree}
use Rattle.kmip_wire.specs.Kinds.{code_of}
use Rattle.kmip_wire.specs.declared.kind.Kind.TheVariants.{Integer, LongInteger, BigInteger, Enumeration, Boolean, TextString, ByteString, DateTime, Interval}
use Rattle.std.specs.Str.{bytes_eq}
use Rattle.kmip_shape.specs.Val.{Val, Field, Number, Text, Bytes, Truth, Absent, One, Many}

-- how many items of a row there may be
pub data Mark : Type 0 where
  Required Optional AnyNumber AtLeastOne OptionalList : Mark

-- what a row has to do with choosing: the value of a chooser selects the cases of the chosen rows
-- after it; those of the other rows are selected by the chooser around the record. A record has at
-- most one chooser.
pub data Role : Type 0 where
  Plain Chooser Chosen : Role

-- where a row's items are found: under a tag, or under the tags of the cases of its choice
pub data Place : Type 0 where
  Under : ℕ → Place
  ByCase : Place

-- one line of an enumeration's table
pub record Entry : Type 0 where
  pub number : ℕ
  pub name : List ℕ

-- what selects a case of a choice
pub data Selector : Type 0 where
  ByNumbers : List ℕ → Selector
  ByNames : List (List ℕ) → Selector
  ByKind : Kind → Selector
  ByTag : ℕ → Selector
  -- by nothing: the case is never selected and has no wire form
  Formless : Selector

-- by what a case is selected: the chooser's number; the chooser's text, or else the item's type; or
-- the item's tag
pub data Rule : Type 0 where
  OfNumber OfName OfTag : Rule

mutual
  pub data Shape : Type 0 where
    Scalar : Kind → Shape
    OneOf : List Entry → Shape
    Rows : RowList → Shape
    -- rows, or the bytes alone of the first field, where it is of the case of this number and the
    -- other fields are absent
    RowsOrBytes : ℕ → RowList → Shape
    Choice : Rule → Cases → Shape
    -- a list of values of the choice around it
    Custom : Shape

  pub data RowList : Type 0 where
    NoRow : RowList
    -- name, place, mark, role, shape
    AndRow : List ℕ → Place → Mark → Role → Shape → RowList → RowList

  pub data Cases : Type 0 where
    NoCase : Cases
    -- number, name, selector, the item's tag where the case has its own, shape
    AndCase : ℕ → List ℕ → Selector → Option ℕ → Shape → Cases → Cases

-- the tag of every child of a custom structure
abbrev pub attribute_value : ℕ
attribute_value = 0x42000B

-- a case of a choice, found by its number
pub record Found : Type 0 where
  pub name : List ℕ
  pub selector : Selector
  pub tag : Option ℕ
  pub shape : Shape

abbrev pub case_at : Cases → ℕ → Option Found
case_at NoCase n = None
case_at (AndCase m name selector tag shape cases) n =
    cond (nat_eq m n) (Some (record { name = name; selector = selector; tag = tag; shape = shape }))
    (case_at cases n)

-- the value of a leaf of a kind
abbrev pub leaf_of : Kind → Val → Option Leaf
leaf_of Integer (Number z) = Some (integer z)
leaf_of LongInteger (Number z) = Some (long_integer z)
leaf_of BigInteger (Bytes b) = Some (big_integer b)
leaf_of Enumeration (Number (pos n)) = Some (enumeration n)
leaf_of Boolean (Truth b) = Some (boolean b)
leaf_of TextString (Text s) = Some (text_string s)
leaf_of ByteString (Bytes b) = Some (byte_string b)
leaf_of DateTime (Number (pos n)) = Some (date_time n)
leaf_of Interval (Number (pos n)) = Some (interval n)
leaf_of _ _ = None

abbrev pub val_of : Leaf → Val
val_of (integer z) = Number z
val_of (long_integer z) = Number z
val_of (big_integer b) = Bytes b
val_of (enumeration n) = Number (pos n)
val_of (boolean b) = Truth b
val_of (text_string s) = Text s
val_of (byte_string b) = Bytes b
val_of (date_time n) = Number (pos n)
val_of (interval n) = Number (pos n)

abbrev pub among : ℕ → List ℕ → Bool
among n [] = false
among n (m ∷ ms) = nat_eq m n || among n ms

abbrev pub named_among : List ℕ → List (List ℕ) → Bool
named_among s [] = false
named_among s (t ∷ ts) = bytes_eq t s || named_among s ts

abbrev pub in_table : ℕ → List Entry → Bool
in_table n [] = false
in_table n (entry ∷ entries) = nat_eq entry.number n || in_table n entries

-- the chooser around an item: the value by which its cases are selected
pub record OuterValue : Type 0 where
  pub number : Option ℕ
  pub name : Option (List ℕ)

abbrev pub no_outer : OuterValue
no_outer = record { number = None; name = None }

-- what the selectors of a choice's cases are compared with
pub data Key : Type 0 where
  NumberKey : ℕ → Key
  NameKey : List ℕ → Key
  -- the code of an item's type
  TypeKey : ℕ → Key
  TagKey : ℕ → Key
  NoKey : Key

abbrev pub matches : Key → Selector → Bool
matches (NumberKey n) (ByNumbers ns) = among n ns
matches (NameKey s) (ByNames names) = named_among s names
matches (TypeKey n) (ByKind kind) = n == code_of kind
matches (TagKey t) (ByTag u) = nat_eq u t
matches _ _ = false

-- the number of the first case that a key selects
abbrev pub selected_case : Key → Cases → Option ℕ
selected_case key NoCase = None
selected_case key (AndCase n name selector tag shape cases) =
    cond (matches key selector) (Some n) (selected_case key cases)

abbrev pub type_key : Tree → Key
type_key tree = TypeKey (code_of (kind_of_tree tree))

abbrev pub number_key : Option ℕ → Key
number_key None = NoKey
number_key (Some n) = NumberKey n

-- the name, where it selects a case, and else the item's type
abbrev pub name_key : Option (List ℕ) → Cases → Tree → Key
name_key None cases tree = type_key tree
name_key (Some s) cases tree =
    elim (selected_case (NameKey s) cases) [ None ↦ type_key tree | Some n ↦ NameKey s ]

abbrev pub key_of : Rule → Cases → OuterValue → Tree → Key
key_of OfNumber cases outer tree = number_key outer.number
key_of OfName cases outer tree = name_key outer.name cases tree
key_of OfTag cases outer tree = TagKey (tag_of tree)

abbrev pub tag_or : Option ℕ → ℕ → ℕ
tag_or None tag = tag
tag_or (Some t) tag = t

-- the tags of the cases
abbrev pub case_tags : Cases → List ℕ
case_tags NoCase = []
case_tags (AndCase n name selector fixed shape cases) = tag_or fixed 0 ∷ case_tags cases

-- the tag of the selected case, and none where none is selected
abbrev pub selected_tags : Key → Cases → List ℕ
selected_tags key NoCase = []
selected_tags key (AndCase n name selector fixed shape cases) =
    cond (matches key selector) (tag_or fixed 0 ∷ []) (selected_tags key cases)

abbrev pub own_tags : Shape → OuterValue → List ℕ
own_tags (Choice OfTag cases) outer = case_tags cases
own_tags (Choice OfNumber cases) outer = selected_tags (number_key outer.number) cases
own_tags _ outer = []

-- the tag that a row's items are written under, where their case has none of its own
abbrev pub place_tag : Place → ℕ
place_tag (Under tag) = tag
place_tag ByCase = 0

abbrev pub has_tag : ℕ → Tree → Bool
has_tag tag tree = tag_of tree == tag

-- whether an item is one of the row's
abbrev pub in_place : Place → Shape → OuterValue → Tree → Bool
in_place (Under tag) shape outer = has_tag tag
in_place ByCase shape outer = λ tree. among (tag_of tree) (own_tags shape outer)

-- the chooser of a row's items, from the one around the record and the record's own
abbrev pub outer_for : Role → OuterValue → OuterValue → OuterValue
outer_for Plain outer chosen = outer
outer_for Chooser outer chosen = outer
outer_for Chosen outer chosen = chosen

-- a value as a chooser
abbrev pub val_outer : Val → OuterValue
val_outer (Number (pos n)) = record { number = Some n; name = None }
val_outer (Text s) = record { number = None; name = Some s }
val_outer _ = no_outer

abbrev pub chosen_by : Field → OuterValue
chosen_by Absent = no_outer
chosen_by (One val) = val_outer val
chosen_by (Many vals) = no_outer

-- the chooser of the chosen rows after a row
abbrev pub chosen_after : Role → Field → OuterValue → OuterValue
chosen_after Plain field chosen = chosen
chosen_after Chooser field chosen = chosen_by field
chosen_after Chosen field chosen = chosen
