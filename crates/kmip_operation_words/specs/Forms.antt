-- The form of a call: its name, its words, then its options.
use Rattle.std.specs.Prelude.{ℕ, Bool, true, false, List, [], ◌++◌, codes, flat_map, if◌then◌else◌}
use Rattle.kmip_operation_words.specs.declared.rows.Kind.{Kind}
use Rattle.kmip_operation_words.specs.declared.rows.Kind.TheVariants.{Identifier, Text, Hex, Handle, Int, Count, Date, Seconds, Truth, Name, Uses}
use Rattle.kmip_operation_words.specs.Rows.{Field, Place, word_at, each_behind, optional, needed, usual, Part, Row}

-- what the value of an option is called
abbrev pub kind_word : Kind → List ℕ
kind_word Identifier = codes "ID"
kind_word Text = codes "TEXT"
kind_word Hex = codes "HEX"
kind_word Handle = codes "HEX"
kind_word Int = codes "N"
kind_word Count = codes "N"
kind_word Date = codes "SECONDS"
kind_word Seconds = codes "SECONDS"
kind_word Truth = codes "true|false"
kind_word Name = codes "NAME"
kind_word Uses = codes "USES"

-- a word, as ` ID`; and words of any number, as ` [ID..]`
abbrev pub word_at_place : Place → List ℕ → List ℕ
word_at_place (word_at index) name = codes " " ++ name
word_at_place each_behind name = codes " [" ++ (name ++ codes "..]")
word_at_place place name = []

abbrev pub word_form : Field → List ℕ
word_form field = word_at_place field.place field.name

-- an option that is needed, as ` hash=NAME`; and one that may be left out, as ` [mode=NAME]`
abbrev pub option_at_place : Place → List ℕ → List ℕ
option_at_place needed option = codes " " ++ option
option_at_place optional option = codes " [" ++ (option ++ codes "]")
option_at_place (usual text) option = codes " [" ++ (option ++ codes "]")
option_at_place place option = []

abbrev pub option_form : Field → List ℕ
option_form field = option_at_place field.place (field.name ++ kind_word field.kind)

-- a field among the options, or among the words
abbrev pub field_form : Bool → Field → List ℕ
field_form are_options field = if are_options then option_form field else word_form field

abbrev pub part_form : Bool → Part → List ℕ
part_form are_options part = flat_map (field_form are_options) part.fields

-- `hash DATA hash=NAME`
abbrev pub form : Row → List ℕ
form row = row.name
    ++ (flat_map (part_form false) row.parts ++ flat_map (part_form true) row.parts)
