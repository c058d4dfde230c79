-- No payload that words ask for has an empty identifier or handle.
use Rattle.std.proofs.Common.{◌≡◌, ℕ, List, [], ◌∷◌, ◌++◌, length, Option, Some, None, Bool, true, false, refl, ap, sym, subst}
use Rattle.std.specs.Prelude.{◌==◌, ◌&&◌, ◌||◌, nat_lt, ◌^◌, slice_get, bytes_eq, IfSome, if◌then◌else◌}
use Rattle.std.specs.Option.{option_map, option_and_then}
use Rattle.std.proofs.Math.Bool.{and-false}
use Rattle.std.proofs.lemmas.Bool.{and_parts, or_from, or_parts}
use Rattle.std.proofs.lemmas.Option.{none-some, same_Some}
use Rattle.std.specs.Int.{cast_signed, w32}
use Rattle.kmip_encodings.specs.Names.{enumeration_number}
use Rattle.kmip_wire.specs.Tree.{Tree, Scalar, scalar, trees_of, integer, long_integer, big_integer, enumeration, boolean, text_string, byte_string, date_time, interval}
use Rattle.kmip_request_words.specs.Keys.{uses_of}
use Rattle.kmip_request_words.specs.Options.{value_given}
use Rattle.kmip_request_words.specs.Values.{int_of, long_of, count_of, number_of, bytes_of, word_text}
use Rattle.kmip_request_words.specs.Words.{parts_between}
use Rattle.kmip_tags.specs.Tags.{ASYNCHRONOUS_CORRELATION_VALUE, ATTRIBUTE_VALUE, CRYPTOGRAPHIC_PARAMETERS}
use Rattle.kmip_enums.specs.declared.operation.Operation.{Operation}
use Rattle.kmip_operation_words.specs.declared.rows.Kind.{Kind as TheKind}
use Rattle.kmip_operation_words.specs.declared.rows.Kind.TheVariants as kinds
use Rattle.kmip_operation_words.specs.declared.rows.Group.{Group}
use Rattle.kmip_operation_words.specs.declared.rows.Group.TheVariants as groups
use Rattle.kmip_operation_words.specs.Rows.{Field, Form, bare, as_parameter, as_attribute, in_domain, as_name, Place, word_at, each_behind, optional, needed, usual, always, Part, Row}
use Rattle.kmip_operation_words.specs.Values.{value_of, not_empty, truth_of}
use Rattle.kmip_operation_words.specs.Items.{formed, value_tag, word_items, alone, both, all_items, Words, option_items, place_items, field_items, is_parameter, items_where, fields_items, around, structure_of, grouped, part_items}
use Rattle.kmip_operation_words.specs.Table.{calls}
use Rattle.kmip_operations.specs.Calls.{is_identifier, is_empty_identifier, has_empty_identifier, have_empty_identifier}
use Rattle.kmip_operation_words.specs.Calls.{payload, are_of, words_of, asked_by, row_in, operation_asked}

-- a value that is no empty identifier, and items of which none is one, where there are any
abbrev FullValue : ℕ → Option Scalar → Type 0
FullValue tag value = IfSome value (λ v. is_empty_identifier tag v ≡ false)

abbrev Full : Option (List Tree) → Type 0
Full given = IfSome given (λ items. have_empty_identifier (trees_of items) ≡ false)

append-full : (xs ys : List Tree) → have_empty_identifier (trees_of xs) ≡ false
    → have_empty_identifier (trees_of ys) ≡ false
    → have_empty_identifier (trees_of (xs ++ ys)) ≡ false
append-full [] ys a b = b
append-full (x ∷ xs) ys a b =
    let parts = or_parts (has_empty_identifier x) (have_empty_identifier (trees_of xs)) a in
    or_from (has_empty_identifier x) (have_empty_identifier (trees_of (xs ++ ys))) parts.0
    (append-full xs ys parts.1 b)

both-full : (first rest : Option (List Tree)) → Full first → Full rest → Full (both first rest)
both-full None rest a b = tt
both-full (Some xs) None a b = tt
both-full (Some xs) (Some ys) a b = append-full xs ys a b

-- what has only such elements
abbrev all_are : {A : Type 0} → (A → Bool) → List A → Bool
all_are test [] = true
all_are test (x ∷ xs) = test x && all_are test xs

all-full : {A : Type 0} (test : A → Bool) (items : A → Option (List Tree))
    → ((x : A) → test x ≡ true → Full (items x)) → (xs : List A) → all_are test xs ≡ true
    → Full (all_items items xs)
all-full test items full [] are = refl
all-full test items full (x ∷ xs) are =
    let parts = and_parts (test x) (all_are test xs) are in
    both-full (items x) (all_items items xs) (full x parts.0)
    (all-full test items full xs parts.1)

each-full : {A : Type 0} (items : A → Option (List Tree)) → ((x : A) → Full (items x))
    → (xs : List A) → Full (all_items items xs)
each-full items full [] = refl
each-full items full (x ∷ xs) =
    both-full (items x) (all_items items xs) (full x) (each-full items full xs)

-- a field that gives no empty identifier: under the tag of one stands no text, and under that of a
-- handle no bytes, that may be empty
abbrev keeps_kind : TheKind → ℕ → Bool
keeps_kind kinds.Text tag = if is_identifier tag then false else true
keeps_kind kinds.Hex tag = if tag == ASYNCHRONOUS_CORRELATION_VALUE then false else true
keeps_kind kind tag = true

abbrev keeps : Field → Bool
keeps field = keeps_kind field.kind field.tag

abbrev part_keeps : Part → Bool
part_keeps part = all_are keeps part.fields

abbrev row_keeps : Row → Bool
row_keeps row = all_are part_keeps row.parts

calls-keep : all_are row_keeps calls ≡ true
calls-keep = refl

under-attribute : (value : Scalar) → is_empty_identifier ATTRIBUTE_VALUE value ≡ false
under-attribute (text_string text) = refl
under-attribute (integer z) = refl
under-attribute (long_integer z) = refl
under-attribute (big_integer b) = refl
under-attribute (enumeration n) = refl
under-attribute (boolean b) = refl
under-attribute (byte_string b) = refl
under-attribute (date_time n) = refl
under-attribute (interval n) = refl

no-text : (tag : ℕ) (text : List ℕ) → is_identifier tag ≡ false
    → is_empty_identifier tag (text_string text) ≡ false
no-text tag text other = ap (λ b. b && length text == 0) other

no-bytes : (tag : ℕ) (bytes : List ℕ) → (tag == ASYNCHRONOUS_CORRELATION_VALUE) ≡ false
    → is_empty_identifier tag (byte_string bytes) ≡ false
no-bytes tag bytes other = ap (λ b. b && length bytes == 0) other

map-full : {A : Type 0} (f : A → Scalar) (tag : ℕ) (o : Option A)
    → ((x : A) → is_empty_identifier tag (f x) ≡ false) → FullValue tag (option_map f o)
map-full f tag None full = tt
map-full f tag (Some x) full = full x

full-if : (b : Bool) (tag : ℕ) (text : List ℕ) → (length text == 0) ≡ b
    → FullValue tag (option_map text_string (if b then None else Some text))
full-if true tag text is = tt
full-if false tag text is = rw is (and-false (is_identifier tag))

handle-if : (b : Bool) (tag : ℕ) (bytes : List ℕ) → (length bytes == 0) ≡ b
    → FullValue tag (option_map byte_string (if b then None else Some bytes))
handle-if true tag bytes is = tt
handle-if false tag bytes is = rw is (and-false (tag == ASYNCHRONOUS_CORRELATION_VALUE))

handle-full : (tag : ℕ) (o : Option (List ℕ))
    → FullValue tag (option_map byte_string (option_and_then not_empty o))
handle-full tag None = tt
handle-full tag (Some bytes) = handle-if (length bytes == 0) tag bytes refl

identifier-full : (tag : ℕ) (o : Option (List ℕ))
    → FullValue tag (option_map text_string (option_and_then not_empty o))
identifier-full tag None = tt
identifier-full tag (Some text) = full-if (length text == 0) tag text refl

other-than : (b : Bool) → (if b then false else true) ≡ true → b ≡ false
other-than false is = refl
other-than true is = sym is

kind-full : (kind : TheKind) (tag : ℕ) (text : List ℕ)
    → keeps_kind kind tag ≡ true
    → FullValue tag (value_of kind tag text)
kind-full kinds.Identifier tag text kept = identifier-full tag (word_text text)
kind-full kinds.Text tag text kept =
    map-full text_string tag (word_text text)
    (λ t. no-text tag t (other-than (is_identifier tag) kept))
kind-full kinds.Hex tag text kept =
    map-full byte_string tag (bytes_of text)
    (λ b. no-bytes tag b (other-than (tag == ASYNCHRONOUS_CORRELATION_VALUE) kept))
kind-full kinds.Handle tag text kept = handle-full tag (bytes_of text)
kind-full kinds.Int tag text kept = map-full integer tag (int_of text) (λ x. refl)
kind-full kinds.Count tag text kept =
    map-full long_integer tag (count_of text) (λ x. refl)
kind-full kinds.Date tag text kept = map-full date_time tag (long_of text) (λ x. refl)
kind-full kinds.Seconds tag text kept = map-full interval tag (number_of text) (λ x. refl)
kind-full kinds.Truth tag text kept = map-full boolean tag (truth_of text) (λ x. refl)
kind-full kinds.Name tag text kept =
    map-full enumeration tag (enumeration_number tag text) (λ x. refl)
kind-full kinds.Uses tag text kept =
    map-full (λ bits. integer (cast_signed w32 bits)) tag (uses_of (parts_between 44 text))
    (λ x. refl)

formed-full : (form : Form) (tag : ℕ) (value : Scalar) → is_empty_identifier tag value ≡ false
    → have_empty_identifier (trees_of (alone (formed form (scalar (value_tag form tag) value))))
    ≡ false
formed-full bare tag value full = rw full refl
formed-full as_parameter tag value full = rw full refl
formed-full (as_attribute name) tag value full =
    rw (under-attribute value) refl
formed-full in_domain tag value full = rw full refl
formed-full as_name tag value full = rw full refl

value-full : (form : Form) (tag : ℕ) (value : Option Scalar) → FullValue tag value
    → Full (option_map alone
    (option_map (λ value. formed form (scalar (value_tag form tag) value)) value))
value-full form tag None full = tt
value-full form tag (Some value) full = formed-full form tag value full

item-full : (b : Bool) (o : Option Tree) → Full (option_map alone o)
    → Full (option_map alone (if b then o else None))
item-full true o full = full
item-full false o full = tt

word-full : (field : Field) (text : List ℕ) → keeps field ≡ true → Full (word_items field text)
word-full field text kept =
    item-full (nat_lt field.tag (2 ^ 24))
    (option_map (λ value. formed field.form (scalar (value_tag field.form field.tag) value))
    (value_of field.kind field.tag text))
    (value-full field.form field.tag (value_of field.kind field.tag text)
    (kind-full field.kind field.tag text kept))

at-full : (field : Field) (text : Option (List ℕ)) → keeps field ≡ true
    → Full (option_and_then (word_items field) text)
at-full field None kept = tt
at-full field (Some text) kept = word-full field text kept

option-full : (field : Field) (otherwise : Option (List Tree)) (text : Option (List ℕ))
    → keeps field ≡ true → Full otherwise → Full (option_items field otherwise text)
option-full field otherwise None kept full = full
option-full field otherwise (Some text) kept full = word-full field text kept

place-full : (place : Place) (field : Field) (given : Words) → keeps field ≡ true
    → Full (place_items place field given)
place-full (word_at index) field given kept = at-full field (slice_get given.all index) kept
place-full each_behind field given kept =
    each-full (word_items field) (λ text. word-full field text kept) given.behind
place-full optional field given kept =
    option-full field (Some []) (value_given field.name given.behind) kept refl
place-full needed field given kept =
    option-full field None (value_given field.name given.behind) kept tt
place-full (usual text) field given kept =
    option-full field (word_items field text) (value_given field.name given.behind) kept
    (word-full field text kept)
place-full (always text) field given kept = word-full field text kept

around-full : (tag : ℕ) (items : List Tree) → have_empty_identifier (trees_of items) ≡ false
    → have_empty_identifier (trees_of (around tag items)) ≡ false
around-full tag [] full = refl
around-full tag (x ∷ xs) full =
    or_from (has_empty_identifier x || have_empty_identifier (trees_of xs)) false full refl

group-full : (tag : ℕ) (given : Option (List Tree)) → Full given
    → Full (option_map (around tag) given)
group-full tag None full = tt
group-full tag (Some items) full = around-full tag items full

tagged-full : (b : Bool) (o : Option (List Tree)) → Full o → Full (if b then o else None)
tagged-full true o full = full
tagged-full false o full = tt

structure-full : (tag : ℕ) (is_needed : Bool) (given : Option (List Tree)) → Full given
    → Full (option_map (structure_of tag is_needed) given)
structure-full tag is_needed None full = tt
structure-full tag true (Some items) full = rw full refl
structure-full tag false (Some items) full = around-full tag items full

grouped-full : (group : Group) (given : Option (List Tree)) → Full given
    → Full (grouped group given)
grouped-full groups.Payload given full = full
grouped-full (groups.Given tag) given full =
    tagged-full (nat_lt tag (2 ^ 24)) (option_map (structure_of tag false) given)
    (structure-full tag false given full)
grouped-full (groups.Needed tag) given full =
    tagged-full (nat_lt tag (2 ^ 24)) (option_map (structure_of tag true) given)
    (structure-full tag true given full)

where-first : (b : Bool) (items : Option (List Tree)) → Full items
    → Full (if b then items else Some [])
where-first true items full = full
where-first false items full = refl

where-second : (b : Bool) (items : Option (List Tree)) → Full items
    → Full (if b then Some [] else items)
where-second true items full = refl
where-second false items full = full

where-full : (of : Bool) (given : Words) (field : Field) → keeps field ≡ true
    → Full (items_where of given field)
where-full true given field kept =
    where-first (is_parameter field.form) (field_items given field)
    (place-full field.place field given kept)
where-full false given field kept =
    where-second (is_parameter field.form) (field_items given field)
    (place-full field.place field given kept)

fields-full : (given : Words) (fields : List Field) → all_are keeps fields ≡ true
    → Full (fields_items given fields)
fields-full given fields kept =
    both-full
    (option_map (around CRYPTOGRAPHIC_PARAMETERS) (all_items (items_where true given) fields))
    (all_items (items_where false given) fields)
    (group-full CRYPTOGRAPHIC_PARAMETERS (all_items (items_where true given) fields)
    (all-full keeps (items_where true given) (where-full true given) fields kept))
    (all-full keeps (items_where false given) (where-full false given) fields kept)

part-full : (given : Words) (part : Part) → part_keeps part ≡ true → Full (part_items given part)
part-full given part kept =
    grouped-full part.group (fields_items given part.fields)
    (fields-full given part.fields kept)

payload-full : (o : Option (List Tree)) (t : Tree) → Full o → option_map payload o ≡ Some t
    → has_empty_identifier t ≡ false
payload-full None t full is = absurd (none-some _ is)
payload-full (Some items) t full is =
    subst (λ t. has_empty_identifier t ≡ false) (same_Some _ _ is) full

by-full : (b : Bool) (operation : Operation) (o : Option (List Tree)) (asked : Operation × Tree)
    → Full o
    → option_map (λ tree. (operation, tree)) (if b then option_map payload o else None) ≡ Some asked
    → has_empty_identifier asked.1 ≡ false
by-full false operation o asked full is = absurd (none-some _ is)
by-full true operation None asked full is = absurd (none-some _ is)
by-full true operation (Some items) asked full is =
    payload-full (Some items) asked.1 full (ap (λ a. Some a.1) (same_Some _ _ is))

-- the row with a name is one of the rows
abbrev RowKeeps : Option Row → Type 0
RowKeeps found = IfSome found (λ row. row_keeps row ≡ true)

first-keeps : (b : Bool) (row : Row) (found : Option Row) → row_keeps row ≡ true → RowKeeps found
    → RowKeeps (if b then Some row else found)
first-keeps true row found kept rest = kept
first-keeps false row found kept rest = rest

found-keeps : (name : List ℕ) (rows : List Row) → all_are row_keeps rows ≡ true
    → RowKeeps (row_in rows name)
found-keeps name [] are = tt
found-keeps name (row ∷ rows) are =
    let parts = and_parts (row_keeps row) (all_are row_keeps rows) are in
    first-keeps (bytes_eq row.name name) row (row_in rows name) parts.0
    (found-keeps name rows parts.1)

row-full : (o : Option Row) (words : List (List ℕ)) (asked : Operation × Tree) → RowKeeps o
    → option_and_then (λ row. asked_by row words) o ≡ Some asked
    → has_empty_identifier asked.1 ≡ false
row-full None words asked kept is = absurd (none-some _ is)
row-full (Some row) words asked kept is =
    by-full (are_of row words) row.operation
    (all_items (part_items (words_of row words)) row.parts) asked
    (all-full part_keeps (part_items (words_of row words)) (part-full (words_of row words))
    row.parts kept) is

pub asked-full : (words : List (List ℕ)) (asked : Operation × Tree)
    → operation_asked words ≡ Some asked → has_empty_identifier asked.1 ≡ false
asked-full [] asked is = absurd (none-some _ is)
asked-full (name ∷ rest) asked is =
    row-full (row_in calls name) rest asked (found-keeps name calls calls-keep) is
