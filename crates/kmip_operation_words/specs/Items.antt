-- The items that words give.
use Rattle.std.specs.Prelude.{ℕ, ◌^◌, nat_lt, Bool, true, false, List, [], ◌∷◌, ◌++◌, codes, Option, Some, None, if◌then◌else◌, slice_get}
use Rattle.std.specs.Option.{option_map, option_and_then}
use Rattle.kmip_tags.specs.Tags as tags
use Rattle.kmip_wire.specs.Tree.{Tree, scalar, structure, none, more, trees_of, text_string, enumeration}
use Rattle.kmip_request_words.specs.Options.{value_given}
use Rattle.kmip_operation_words.specs.Rows.{Field, Form, bare, as_parameter, as_attribute, in_domain, as_name, Place, word_at, each_behind, optional, needed, usual, always, Part}
use Rattle.kmip_operation_words.specs.declared.rows.Group.{Group}
use Rattle.kmip_operation_words.specs.declared.rows.Group.TheVariants as groups
use Rattle.kmip_operation_words.specs.Values.{value_of}

-- a structure of one item, and of two
abbrev pub one_in : ℕ → Tree → Tree
one_in tag only = structure tag (more only none)

abbrev pub two_in : ℕ → Tree → Tree → Tree
two_in tag first second = structure tag (more first (more second none))

-- an attribute: its name, and the item of its value (KMIP 1.0, 2.1.1)
abbrev pub attribute_item : List ℕ → Tree → Tree
attribute_item name value =
    two_in tags.ATTRIBUTE (scalar tags.ATTRIBUTE_NAME (text_string name)) value

-- the tag that the value of a field stands under
abbrev pub value_tag : Form → ℕ → ℕ
value_tag (as_attribute name) tag = tags.ATTRIBUTE_VALUE
value_tag form tag = tag

-- the item of a field whose value is this item: itself, or round it an attribute (KMIP 1.0, 2.1.1),
-- the attribute Cryptographic Domain Parameters (3.7) or Name (3.2)
abbrev pub formed : Form → Tree → Tree
formed bare value = value
formed as_parameter value = value
formed (as_attribute name) value = attribute_item name value
formed in_domain value =
    attribute_item (codes "Cryptographic Domain Parameters") (one_in tags.ATTRIBUTE_VALUE value)
formed as_name value =
    attribute_item (codes "Name")
    (two_in tags.ATTRIBUTE_VALUE value (scalar tags.NAME_TYPE (enumeration 1)))

-- the item that a word gives to a field, whose tag is one of KMIP: a number below 2^24
abbrev pub word_item : Field → List ℕ → Option Tree
word_item field text =
    if nat_lt field.tag (2 ^ 24)
    then option_map (λ value. formed field.form (scalar (value_tag field.form field.tag) value))
    (value_of field.kind field.tag text)
    else None

abbrev pub alone : Tree → List Tree
alone tree = tree ∷ []

-- the items of one word
abbrev pub word_items : Field → List ℕ → Option (List Tree)
word_items field text = option_map alone (word_item field text)

-- the items of a first and of the rest, in order
abbrev pub both : Option (List Tree) → Option (List Tree) → Option (List Tree)
both (Some first) (Some rest) = Some (first ++ rest)
both first rest = None

-- the items of each, in order; none where one has none
abbrev pub all_items : {A : Type 0} → (A → Option (List Tree)) → List A → Option (List Tree)
all_items items [] = Some []
all_items items (x ∷ xs) = both (items x) (all_items items xs)

-- the words of a call: all of them, and those that stand behind the words of its row
pub record Words : Type 0 where
  pub all : List (List ℕ)
  pub behind : List (List ℕ)

-- the items of an option: where it is left out, these
abbrev pub option_items : Field → Option (List Tree) → Option (List ℕ) → Option (List Tree)
option_items field otherwise None = otherwise
option_items field otherwise (Some text) = word_items field text

-- the items of a field by its place among the words; none where a word is missing, or is none of the
-- field's kind
abbrev pub place_items : Place → Field → Words → Option (List Tree)
place_items (word_at index) field given =
    option_and_then (word_items field) (slice_get given.all index)
place_items each_behind field given = all_items (word_items field) given.behind
place_items optional field given =
    option_items field (Some []) (value_given field.name given.behind)
place_items needed field given = option_items field None (value_given field.name given.behind)
place_items (usual text) field given =
    option_items field (word_items field text) (value_given field.name given.behind)
place_items (always text) field given = word_items field text

abbrev pub field_items : Words → Field → Option (List Tree)
field_items given field = place_items field.place field given

-- the structure round these items; none where there are no items
abbrev pub around : ℕ → List Tree → List Tree
around tag [] = []
around tag (first ∷ rest) = structure tag (trees_of (first ∷ rest)) ∷ []

-- whether a field is one of Cryptographic Parameters
abbrev pub is_parameter : Form → Bool
is_parameter as_parameter = true
is_parameter form = false

-- the items of a field where it is one of Cryptographic Parameters, or where it is none
abbrev pub items_where : Bool → Words → Field → Option (List Tree)
items_where true given field = if is_parameter field.form then field_items given field else Some []
items_where false given field = if is_parameter field.form then Some [] else field_items given field

-- the items of fields that stand together: Cryptographic Parameters (KMIP 1.0, 3.6) of those of its
-- fields that are given, where one is; then the others
abbrev pub fields_items : Words → List Field → Option (List Tree)
fields_items given fields =
    both (option_map (around tags.CRYPTOGRAPHIC_PARAMETERS) (all_items (items_where true given) fields))
    (all_items (items_where false given) fields)

-- the structure round these items, where there are items or it is needed
abbrev pub structure_of : ℕ → Bool → List Tree → List Tree
structure_of tag true items = structure tag (trees_of items) ∷ []
structure_of tag false items = around tag items

-- the same of a tag of KMIP
abbrev pub in_structure : ℕ → Bool → Option (List Tree) → Option (List Tree)
in_structure tag is_needed items =
    if nat_lt tag (2 ^ 24) then option_map (structure_of tag is_needed) items else None

-- these items in what stands round them
abbrev pub grouped : Group → Option (List Tree) → Option (List Tree)
grouped groups.Payload items = items
grouped (groups.Given tag) items = in_structure tag false items
grouped (groups.Needed tag) items = in_structure tag true items

abbrev pub part_items : Words → Part → Option (List Tree)
part_items given part = grouped part.group (fields_items given part.fields)

-- what was added to items: these, where words gave them
abbrev pub after : List Tree → Option (List Tree) → Option (List Tree)
after old items = both (Some old) items

-- the items that there are now, where all that was to be added was given
abbrev pub added : Bool → List Tree → Option (List Tree)
added fits new = if fits then Some new else None
