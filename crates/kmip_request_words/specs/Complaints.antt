-- Why words are no call: which of them is wrong, and what may stand there.
use Rattle.std.specs.Prelude.{ℕ, nat_eq, Bool, true, false, ◌||◌, ◌==◌, is_none, is_some, List, [], ◌∷◌, ◌++◌, length, drop, Option, Some, None, if◌then◌else◌, codes, bytes_eq}
use Rattle.std.specs.List.{find, list_any, starts_with}
use Rattle.kmip_request_words.specs.Asked.{after_where}
use Rattle.kmip_request_words.specs.Grammar.{WordRow, OptionRow, CallRow, attributes, word, row_of}
use Rattle.kmip_request_words.specs.Kinds.{takes, wanted}
use Rattle.kmip_request_words.specs.Options.{value_given}
use Rattle.kmip_request_words.specs.Refusals.{why_refused}
use Rattle.kmip_request_words.specs.declared.grammar.Kind.{Kind}
use Rattle.kmip_request_words.specs.declared.grammar.Kind.TheVariants as kinds
use Rattle.kmip_request_words.specs.declared.grammar.Rest.{Rest}
use Rattle.kmip_request_words.specs.declared.grammar.Rest.TheVariants as rests

-- what stands after the name of an option, in a word that gives it
abbrev pub value_after : List ℕ → List ℕ → Option (List ℕ)
value_after name word =
    if starts_with nat_eq word name then Some (drop (length name) word) else None

-- the option that a word gives
abbrev pub option_in : List OptionRow → List ℕ → Option OptionRow
option_in options word = find (λ option. is_some (value_after option.name word)) options

abbrev pub has_equals : List ℕ → Bool
has_equals word = list_any (λ c. c == 61) word

-- the first complaint of two
abbrev pub or_else : Option (List ℕ) → Option (List ℕ) → Option (List ℕ)
or_else (Some text) other = Some text
or_else None other = other

-- ---- a word

-- `sign: HEX is no even number of hex digits, ..`
abbrev pub not_of : List ℕ → List ℕ → Kind → List ℕ
not_of call word kind = call ++ (codes ": " ++ (word ++ (codes " " ++ wanted kind)))

-- `sign: hash= is none of MD2, ..`: the option is shown and no value, since it may be a password that
-- stands in a wrong place
abbrev pub wrong_value : List ℕ → OptionRow → List ℕ → Option (List ℕ)
wrong_value call option value =
    if takes option.kind value then None else Some (not_of call option.name option.kind)

abbrev pub twice_equals : List ℕ → List ℕ → List ℕ
twice_equals call name =
    ((call ++ codes ": ") ++ name) ++ codes " has another = in its value, which is written %3D"

abbrev pub wrong_attribute_value : List ℕ → OptionRow → Option (List ℕ) → Option (List ℕ)
wrong_attribute_value call option (Some value) =
    if has_equals value then Some (twice_equals call option.name)
    else wrong_value call option value
wrong_attribute_value call option None = None

abbrev pub wrong_attribute_in : List ℕ → List ℕ → List ℕ → Option OptionRow → Option (List ℕ)
wrong_attribute_in call name word (Some option) =
    wrong_attribute_value call option (value_after option.name word)
wrong_attribute_in call name word None = Some (not_of call name kinds.Attribute)

-- a word that is to be an attribute with its value
abbrev pub wrong_attribute : List ℕ → List ℕ → List ℕ → Option (List ℕ)
wrong_attribute call name word = wrong_attribute_in call name word (option_in attributes word)

abbrev pub is_attribute : Kind → Bool
is_attribute kinds.Attribute = true
is_attribute kind = false

abbrev pub wrong_word : List ℕ → WordRow → List ℕ → Option (List ℕ)
wrong_word call row word =
    if is_attribute row.kind then wrong_attribute call row.name word
    else if takes row.kind word then None
    else Some (not_of call row.name row.kind)

-- of words, each beside its row, the first that is wrong
abbrev pub wrong_words : List ℕ → List WordRow → List (List ℕ) → Option (List ℕ)
wrong_words call [] words = None
wrong_words call (row ∷ rows) [] = None
wrong_words call (row ∷ rows) (word ∷ words) =
    or_else (wrong_word call row word) (wrong_words call rows words)

-- of words that have one row, the first that is wrong
abbrev pub wrong_among : List ℕ → WordRow → List (List ℕ) → Option (List ℕ)
wrong_among call row [] = None
wrong_among call row (word ∷ words) =
    or_else (wrong_word call row word) (wrong_among call row words)

-- ---- the form of a call

abbrev pub words_form : List WordRow → List ℕ
words_form [] = []
words_form (row ∷ rows) = codes " " ++ (row.name ++ words_form rows)

abbrev pub option_form : OptionRow → List ℕ
option_form row =
    if row.is_needed then codes " " ++ row.name else codes " [" ++ (row.name ++ codes "]")

abbrev pub options_form : List OptionRow → List ℕ
options_form [] = []
options_form (row ∷ rows) = option_form row ++ options_form rows

-- the options stand after the first word
abbrev pub tree_form : List WordRow → List OptionRow → List ℕ
tree_form [] options = []
tree_form (row ∷ rows) options =
    codes " " ++ (row.name ++ (options_form options ++ words_form rows))

abbrev pub form_after : Rest → List WordRow → List OptionRow → List ℕ
form_after rests.Options words options = words_form words ++ options_form options
form_after rests.Names words options = words_form words ++ codes " [NAME..]"
form_after rests.Attributes words options =
    words_form words ++ codes ", or locate [where] [ATTRIBUTE..]"
form_after rests.Nothing words options = tree_form words options

abbrev pub rest_form : CallRow → List ℕ
rest_form row = form_after row.rest row.words row.options

-- `sign ID HEX [hash=] [padding=] [algorithm=] [prehashed]`
abbrev pub form : CallRow → List ℕ
form row = row.name ++ rest_form row

abbrev pub not_words : CallRow → List ℕ
not_words row = codes "the words are not those of " ++ form row

-- ---- the options

abbrev pub missing : List ℕ → List ℕ → List ℕ
missing call name = ((call ++ codes ": ") ++ name) ++ codes " is missing"

abbrev pub twice : List ℕ → List ℕ → List ℕ
twice call name = ((call ++ codes ": ") ++ name) ++ codes " is given twice"

-- whether a word is no option of the call
abbrev pub has_other : List OptionRow → List (List ℕ) → Bool
has_other options words = list_any (λ word. is_none (option_in options word)) words

-- whether two words give a value to this name
abbrev pub is_twice : List ℕ → List (List ℕ) → Bool
is_twice name [] = false
is_twice name (word ∷ words) =
    if is_some (value_after name word) then is_some (value_given name words)
    else is_twice name words

-- the first word that gives a value to this name
abbrev pub word_with : List ℕ → List (List ℕ) → Option (List ℕ)
word_with name words = find (λ word. is_some (value_after name word)) words

abbrev pub wrong_value_in : List ℕ → OptionRow → Option (List ℕ) → Option (List ℕ)
wrong_value_in call option (Some value) = wrong_value call option value
wrong_value_in call option None = None

abbrev pub wrong_given : List ℕ → OptionRow → List ℕ → Option (List ℕ)
wrong_given call option word =
    wrong_value_in call option (value_after option.name word)

abbrev pub wrong_if_given : List ℕ → OptionRow → Option (List ℕ) → Option (List ℕ)
wrong_if_given call option (Some word) = wrong_given call option word
wrong_if_given call option None =
    if option.is_needed then Some (missing call option.name) else None

-- an option is given twice, or is missing, or its value is wrong
abbrev pub wrong_option : List ℕ → OptionRow → List (List ℕ) → Option (List ℕ)
wrong_option call option words =
    if is_twice option.name words then Some (twice call option.name)
    else wrong_if_given call option (word_with option.name words)

-- of the options of a call, the first that is wrong
abbrev pub wrong_options : List ℕ → List OptionRow → List (List ℕ) → Option (List ℕ)
wrong_options call [] words = None
wrong_options call (option ∷ options) words =
    or_else (wrong_option call option words) (wrong_options call options words)

-- ---- the words of a call

-- the words that stand after those of the call; none where there are fewer
abbrev pub words_after : List WordRow → List (List ℕ) → Option (List (List ℕ))
words_after [] words = Some words
words_after (row ∷ rows) [] = None
words_after (row ∷ rows) (word ∷ words) = words_after rows words

abbrev pub wrong_options_of : CallRow → List (List ℕ) → Option (List (List ℕ)) → Option (List ℕ)
wrong_options_of row words None = Some (not_words row)
wrong_options_of row words (Some options) =
    if has_other row.options options then Some (not_words row)
    else or_else (wrong_words row.name row.words words)
    (wrong_options row.name row.options options)

abbrev pub wrong_with_options : CallRow → List (List ℕ) → Option (List ℕ)
wrong_with_options row words = wrong_options_of row words (words_after row.words words)

abbrev pub wrong_names_of : CallRow → List (List ℕ) → Option (List (List ℕ)) → Option (List ℕ)
wrong_names_of row words None = Some (not_words row)
wrong_names_of row words (Some names) =
    or_else (wrong_words row.name row.words words)
    (wrong_among row.name (word (codes "NAME") kinds.Text) names)

abbrev pub wrong_with_names : CallRow → List (List ℕ) → Option (List ℕ)
wrong_with_names row words = wrong_names_of row words (words_after row.words words)

-- one word is the call's own, whatever it is, and more or none are attributes
abbrev pub wrong_with_attributes : CallRow → List (List ℕ) → Option (List ℕ)
wrong_with_attributes row (own ∷ []) = wrong_words row.name row.words (own ∷ [])
wrong_with_attributes row words =
    wrong_among row.name (word (codes "ATTRIBUTE") kinds.Attribute) (after_where words)

abbrev pub complaint_by : Rest → CallRow → List (List ℕ) → Option (List ℕ)
complaint_by rests.Options row words = wrong_with_options row words
complaint_by rests.Names row words = wrong_with_names row words
complaint_by rests.Attributes row words = wrong_with_attributes row words
complaint_by rests.Nothing row words = Some (not_words row)

-- what is wrong with the words of a call
abbrev pub complaint : CallRow → List (List ℕ) → Option (List ℕ)
complaint row words = complaint_by row.rest row words

abbrev pub not_a_request : List ℕ → List ℕ
not_a_request call = call ++ codes ": the bytes are not the one canonical message of a request"

abbrev pub text_or : Option (List ℕ) → List ℕ → List ℕ
text_or (Some text) other = text
text_or None other = other

abbrev pub call_refusal : CallRow → List (List ℕ) → List ℕ
call_refusal row words = text_or (complaint row words) (not_a_request row.name)

-- ---- all words

-- the refusal of a word that names no call; an option is not shown, since it may be a password
abbrev pub wrong_name : List ℕ → List ℕ
wrong_name name =
    if has_equals name then codes "an option is out of its place, or there is none of its name"
    else codes "there is no call " ++ name

abbrev pub row_refusal : Option CallRow → List ℕ → List (List ℕ) → List ℕ
row_refusal (Some row) name words = call_refusal row words
row_refusal None name words = wrong_name name

abbrev pub not_of_grammar : List (List ℕ) → List ℕ
not_of_grammar [] = codes "no call is given"
not_of_grammar (name ∷ words) = row_refusal (row_of name) name words

-- why words are no call: why none is made of them, where they ask for what is not
-- meant; else which of them is wrong, and what may stand there
unfoldable pub refusal : List (List ℕ) → List ℕ
refusal words = text_or (why_refused words) (not_of_grammar words)
