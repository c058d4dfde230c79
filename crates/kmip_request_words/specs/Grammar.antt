-- The grammar of calls: one table.
use Rattle.std.specs.Prelude.{ℕ, Bool, true, false, List, [], ◌∷◌, Option, map, codes, bytes_eq}
use Rattle.std.specs.List.{find}
use Rattle.kmip_request_words.specs.declared.grammar.Kind.{Kind}
use Rattle.kmip_request_words.specs.declared.grammar.Kind.TheVariants.{Identifier, Text, Int, Seconds, Hex, Request, Algorithm, Format, Hash, Padding, Reason, ObjectType, State, KeyKind, Uses, Flag, Attribute, Operation, Version, Payload, Message}
use Rattle.kmip_request_words.specs.declared.grammar.Rest.{Rest}
use Rattle.kmip_request_words.specs.declared.grammar.Rest.TheVariants.{Options, Names, Attributes, Nothing}
use Rattle.kmip_request_words.specs.declared.grammar.WordRow.{WordRow as TheWordRow}
use Rattle.kmip_request_words.specs.declared.grammar.OptionRow.{OptionRow as TheOptionRow}
use Rattle.kmip_request_words.specs.declared.grammar.CallRow.{CallRow as TheCallRow}

-- a word of a call
pub record WordRow : Type 0 where
  pub name : List ℕ
  pub kind : Kind

-- an option of a call, whose name has the `=` that stands before its value
pub record OptionRow : Type 0 where
  pub name : List ℕ
  pub kind : Kind
  pub is_needed : Bool

-- a call
pub record CallRow : Type 0 where
  pub name : List ℕ
  pub words : List WordRow
  pub rest : Rest
  pub options : List OptionRow

abbrev pub word_view : TheWordRow → WordRow
word_view row = record { name = row.name.now; kind = row.kind }

abbrev pub option_view : TheOptionRow → OptionRow
option_view row = record { name = row.name.now; kind = row.kind; is_needed = row.is_needed }

abbrev pub call_view : TheCallRow → CallRow
call_view row = record {
  name = row.name.now;
  words = map word_view row.words.now;
  rest = row.rest;
  options = map option_view row.options.now;
}

abbrev pub word : List ℕ → Kind → WordRow
word name kind = record { name = name; kind = kind }

abbrev pub option : List ℕ → Kind → OptionRow
option name kind = record { name = name; kind = kind; is_needed = false }

abbrev pub needed : List ℕ → Kind → OptionRow
needed name kind = record { name = name; kind = kind; is_needed = true }

abbrev pub call : List ℕ → List WordRow → Rest → List OptionRow → CallRow
call name words rest options =
    record { name = name; words = words; rest = rest; options = options }

-- the attributes that a call may be given
abbrev pub attributes : List OptionRow
attributes =
    option (codes "name=") Text
    ∷ option (codes "group=") Text
    ∷ option (codes "contact=") Text
    ∷ option (codes "type=") ObjectType
    ∷ option (codes "state=") State
    ∷ option (codes "algorithm=") Algorithm
    ∷ option (codes "length=") Int
    ∷ option (codes "activation=") Seconds
    ∷ []

-- the calls
abbrev pub calls : List CallRow
calls =
    call (codes "query") ([]) Options
    ([])
    ∷ call (codes "discover") ([]) Options
    ([])
    ∷ call (codes "create-rsa") (word (codes "BITS") Int ∷ word (codes "PRIVATE-NAME") Text
    ∷ word (codes "PUBLIC-NAME") Text ∷ []) Options
    (option (codes "private-usage=") Uses ∷ option (codes "public-usage=") Uses ∷ [])
    ∷ call (codes "create-aes") (word (codes "BITS") Int ∷ word (codes "NAME") Text ∷ []) Options
    ([])
    ∷ call (codes "create") (word (codes "ALGORITHM") Algorithm ∷ word (codes "BITS") Int
    ∷ word (codes "NAME") Text ∷ []) Options
    (option (codes "usage=") Uses ∷ [])
    ∷ call (codes "register") (word (codes "KIND") KeyKind ∷ word (codes "HEX") Hex ∷ []) Options
    (needed (codes "format=") Format ∷ needed (codes "algorithm=") Algorithm
    ∷ needed (codes "length=") Int ∷ option (codes "usage=") Uses ∷ option (codes "name=") Text
    ∷ [])
    ∷ call (codes "locate") (word (codes "NAME") Text ∷ []) Attributes
    ([])
    ∷ call (codes "attributes") (word (codes "ID") Identifier ∷ []) Names
    ([])
    ∷ call (codes "attribute-add") (word (codes "ID") Identifier
    ∷ word (codes "ATTRIBUTE") Attribute ∷ []) Options
    ([])
    ∷ call (codes "attribute-modify") (word (codes "ID") Identifier
    ∷ word (codes "ATTRIBUTE") Attribute ∷ []) Options
    (option (codes "index=") Int ∷ [])
    ∷ call (codes "attribute-delete") (word (codes "ID") Identifier ∷ word (codes "NAME") Text ∷ []) Options
    (option (codes "index=") Int ∷ [])
    ∷ call (codes "activate") (word (codes "ID") Identifier ∷ []) Options
    ([])
    ∷ call (codes "sign") (word (codes "ID") Identifier ∷ word (codes "HEX") Hex ∷ []) Options
    (option (codes "hash=") Hash ∷ option (codes "padding=") Padding
    ∷ option (codes "algorithm=") Algorithm ∷ option (codes "prehashed") Flag ∷ [])
    ∷ call (codes "rename") (word (codes "ID") Identifier ∷ word (codes "NAME") Text ∷ []) Options
    ([])
    ∷ call (codes "get") (word (codes "ID") Identifier ∷ []) Options
    (option (codes "format=") Format ∷ option (codes "wrap=") Identifier ∷ [])
    ∷ call (codes "revoke") (word (codes "ID") Identifier ∷ []) Options
    (option (codes "reason=") Reason ∷ option (codes "message=") Text ∷ option (codes "since=") Seconds ∷ [])
    ∷ call (codes "destroy") (word (codes "ID") Identifier ∷ []) Options
    ([])
    ∷ call (codes "rng") (word (codes "N") Int ∷ []) Options
    ([])
    ∷ call (codes "raw") (word (codes "HEX") Request ∷ []) Options
    ([])
    ∷ call (codes "operation") (word (codes "NAME") Operation ∷ word (codes "PAYLOAD") Payload ∷ []) Nothing
    (option (codes "version=") Version ∷ option (codes "item-id=") Hex ∷ [])
    ∷ call (codes "message") (word (codes "MESSAGE") Message ∷ []) Nothing
    ([])
    ∷ []

-- the call with this name
abbrev pub row_in : List CallRow → List ℕ → Option CallRow
row_in rows name = find (λ row. bytes_eq row.name name) rows

abbrev pub row_of : List ℕ → Option CallRow
row_of name = row_in calls name
