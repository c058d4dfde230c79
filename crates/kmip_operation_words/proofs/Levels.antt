-- What words ask for has few levels.
use Rattle.std.proofs.Common.{◌≡◌, ◌≤◌, ℕ, ◌+◌, List, [], ◌∷◌, ◌++◌, Option, Some, None, Bool, true, false, refl, ap, arith, subst}
use Rattle.std.specs.Prelude.{nat_lt, ◌^◌, slice_get, IfSome, if◌then◌else◌}
use Rattle.std.specs.Option.{option_map, option_and_then}
use Rattle.std.proofs.lemmas.Option.{none-some, same_Some}
use Rattle.kmip_wire.specs.Tree.{Tree, Scalar, scalar, trees_of}
use Rattle.kmip_wire.specs.Bytes.{levels, levels_of_all}
use Rattle.kmip_request_words.specs.Options.{value_given}
use Rattle.kmip_operation_words.specs.declared.rows.Group.{Group}
use Rattle.kmip_operation_words.specs.declared.rows.Group.TheVariants as groups
use Rattle.kmip_operation_words.specs.Rows.{Field, Form, bare, as_parameter, as_attribute, in_domain, as_name, Place, word_at, each_behind, optional, needed, usual, always, Part}
use Rattle.kmip_operation_words.specs.Values.{value_of}
use Rattle.kmip_operation_words.specs.Items.{formed, value_tag, word_items, alone, both, all_items, Words, option_items, place_items, field_items, is_parameter, items_where, fields_items, around, structure_of, grouped, part_items}
use Rattle.kmip_tags.specs.Tags.{CRYPTOGRAPHIC_PARAMETERS, REQUEST_PAYLOAD}
use Rattle.kmip_enums.specs.declared.operation.Operation.{Operation}
use Rattle.kmip_operation_words.specs.Rows.{Row}
use Rattle.kmip_operation_words.specs.Table.{calls}
use Rattle.kmip_operations.specs.Calls.{is_structure}
use Rattle.kmip_operation_words.specs.Calls.{payload, are_of, words_of, asked_by, row_in, operation_asked}

-- items of at most so many levels, where there are any
abbrev Low : ℕ → Option (List Tree) → Type 0
Low n given = IfSome given (λ items. levels_of_all (trees_of items) ≤ n)

append-low : (n : ℕ) (xs ys : List Tree) → levels_of_all (trees_of xs) ≤ n
    → levels_of_all (trees_of ys) ≤ n → levels_of_all (trees_of (xs ++ ys)) ≤ n
append-low n [] ys a b = b
append-low n (x ∷ xs) ys a b = omega (arith, append-low n xs ys (omega arith) b)

both-low : (n : ℕ) (first rest : Option (List Tree)) → Low n first → Low n rest
    → Low n (both first rest)
both-low n None rest a b = tt
both-low n (Some xs) None a b = tt
both-low n (Some xs) (Some ys) a b = append-low n xs ys a b

all-low : {A : Type 0} (n : ℕ) (items : A → Option (List Tree)) → ((x : A) → Low n (items x))
    → (xs : List A) → Low n (all_items items xs)
all-low n items low [] = omega arith
all-low n items low (x ∷ xs) =
    both-low n (items x) (all_items items xs) (low x) (all-low n items low xs)

-- how many levels a field's items have at most
abbrev depth : Form → ℕ
depth as_parameter = 1
depth form = 3

formed-low : (form : Form) (tag : ℕ) (value : Scalar)
    → levels_of_all (trees_of (alone (formed form (scalar (value_tag form tag) value))))
    ≤ depth form
formed-low bare tag value = omega arith
formed-low as_parameter tag value = omega arith
formed-low (as_attribute name) tag value = omega arith
formed-low in_domain tag value = omega arith
formed-low as_name tag value = omega arith

value-low : (form : Form) (tag : ℕ) (value : Option Scalar)
    → Low (depth form) (option_map alone
    (option_map (λ value. formed form (scalar (value_tag form tag) value)) value))
value-low form tag None = tt
value-low form tag (Some value) = formed-low form tag value

item-low : (n : ℕ) (b : Bool) (o : Option Tree) → Low n (option_map alone o)
    → Low n (option_map alone (if b then o else None))
item-low n true o low = low
item-low n false o low = tt

word-low : (field : Field) (text : List ℕ) → Low (depth field.form) (word_items field text)
word-low field text =
    item-low (depth field.form) (nat_lt field.tag (2 ^ 24))
    (option_map (λ value. formed field.form (scalar (value_tag field.form field.tag) value))
    (value_of field.kind field.tag text))
    (value-low field.form field.tag (value_of field.kind field.tag text))

at-low : (field : Field) (text : Option (List ℕ))
    → Low (depth field.form) (option_and_then (word_items field) text)
at-low field None = tt
at-low field (Some text) = word-low field text

option-low : (field : Field) (otherwise : Option (List Tree)) (text : Option (List ℕ))
    → Low (depth field.form) otherwise → Low (depth field.form) (option_items field otherwise text)
option-low field otherwise None low = low
option-low field otherwise (Some text) low = word-low field text

place-low : (place : Place) (field : Field) (given : Words)
    → Low (depth field.form) (place_items place field given)
place-low (word_at index) field given = at-low field (slice_get given.all index)
place-low each_behind field given = all-low (depth field.form) (word_items field) (word-low field) given.behind
place-low optional field given =
    option-low field (Some []) (value_given field.name given.behind) (omega arith)
place-low needed field given = option-low field None (value_given field.name given.behind) tt
place-low (usual text) field given =
    option-low field (word_items field text) (value_given field.name given.behind)
    (word-low field text)
place-low (always text) field given = word-low field text

around-low : (n tag : ℕ) (items : List Tree) → levels_of_all (trees_of items) ≤ n
    → levels_of_all (trees_of (around tag items)) ≤ n + 1
around-low n tag [] low = omega arith
around-low n tag (x ∷ xs) low = omega arith

group-low : (n tag : ℕ) (given : Option (List Tree)) → Low n given
    → Low (n + 1) (option_map (around tag) given)
group-low n tag None low = tt
group-low n tag (Some items) low = around-low n tag items low

own-low : (given : Option (List Tree)) → Low 3 given → Low 4 given
own-low None low = tt
own-low (Some items) low = omega arith

tagged-low : (b : Bool) (o : Option (List Tree)) → Low 4 o → Low 4 (if b then o else None)
tagged-low true o low = low
tagged-low false o low = tt

structure-low : (tag : ℕ) (is_needed : Bool) (given : Option (List Tree)) → Low 3 given
    → Low 4 (option_map (structure_of tag is_needed) given)
structure-low tag is_needed None low = tt
structure-low tag true (Some items) low = omega (arith, low)
structure-low tag false (Some items) low = around-low 3 tag items low

grouped-low : (group : Group) (given : Option (List Tree)) → Low 3 given
    → Low 4 (grouped group given)
grouped-low groups.Payload given low = own-low given low
grouped-low (groups.Given tag) given low =
    tagged-low (nat_lt tag (2 ^ 24)) (option_map (structure_of tag false) given)
    (structure-low tag false given low)
grouped-low (groups.Needed tag) given low =
    tagged-low (nat_lt tag (2 ^ 24)) (option_map (structure_of tag true) given)
    (structure-low tag true given low)

more-low : (n m : ℕ) (given : Option (List Tree)) → n ≤ m → Low n given → Low m given
more-low n m None le low = tt
more-low n m (Some items) le low = omega (arith, le)

parameter-low : (form : Form) (items : Option (List Tree)) → Low (depth form) items
    → Low 1 (if is_parameter form then items else Some [])
parameter-low as_parameter items low = low
parameter-low bare items low = omega arith
parameter-low (as_attribute name) items low = omega arith
parameter-low in_domain items low = omega arith
parameter-low as_name items low = omega arith

other-low : (form : Form) (items : Option (List Tree)) → Low (depth form) items
    → Low 3 (if is_parameter form then Some [] else items)
other-low as_parameter items low = omega arith
other-low bare items low = low
other-low (as_attribute name) items low = low
other-low in_domain items low = low
other-low as_name items low = low

fields-low : (given : Words) (fields : List Field) → Low 3 (fields_items given fields)
fields-low given fields =
    both-low 3 (option_map (around CRYPTOGRAPHIC_PARAMETERS) (all_items (items_where true given) fields))
    (all_items (items_where false given) fields)
    (more-low 2 3 _ (omega arith) (group-low 1 CRYPTOGRAPHIC_PARAMETERS (all_items (items_where true given) fields)
    (all-low 1 (items_where true given)
    (λ field. parameter-low field.form (field_items given field) (place-low field.place field given))
    fields)))
    (all-low 3 (items_where false given)
    (λ field. other-low field.form (field_items given field) (place-low field.place field given))
    fields)

part-low : (given : Words) (part : Part) → Low 4 (part_items given part)
part-low given part =
    grouped-low part.group (fields_items given part.fields) (fields-low given part.fields)

parts-low : (given : Words) (parts : List Part) → Low 4 (all_items (part_items given) parts)
parts-low given parts = all-low 4 (part_items given) (part-low given) parts

-- the payload that an operation and its items make
payload-low : (o : Option (List Tree)) (t : Tree) → Low 4 o → option_map payload o ≡ Some t
    → (levels t ≤ 5) × (is_structure REQUEST_PAYLOAD t ≡ true)
payload-low None t low is = absurd (none-some _ is)
payload-low (Some items) t low is =
    subst (λ t. (levels t ≤ 5) × (is_structure REQUEST_PAYLOAD t ≡ true)) (same_Some _ _ is)
    (omega arith, refl)

by-low : (b : Bool) (operation : Operation) (o : Option (List Tree)) (asked : Operation × Tree)
    → Low 4 o
    → option_map (λ tree. (operation, tree)) (if b then option_map payload o else None) ≡ Some asked
    → (levels asked.1 ≤ 5) × (is_structure REQUEST_PAYLOAD asked.1 ≡ true)
by-low false operation o asked low is = absurd (none-some _ is)
by-low true operation None asked low is = absurd (none-some _ is)
by-low true operation (Some items) asked low is =
    payload-low (Some items) asked.1 low (ap (λ a. Some a.1) (same_Some _ _ is))

row-low : (o : Option Row) (words : List (List ℕ)) (asked : Operation × Tree)
    → option_and_then (λ row. asked_by row words) o ≡ Some asked
    → (levels asked.1 ≤ 5) × (is_structure REQUEST_PAYLOAD asked.1 ≡ true)
row-low None words asked is = absurd (none-some _ is)
row-low (Some row) words asked is =
    by-low (are_of row words) row.operation
    (all_items (part_items (words_of row words)) row.parts) asked
    (parts-low (words_of row words) row.parts) is

pub asked-low : (words : List (List ℕ)) (asked : Operation × Tree)
    → operation_asked words ≡ Some asked
    → (levels asked.1 ≤ 5) × (is_structure REQUEST_PAYLOAD asked.1 ≡ true)
asked-low [] asked is = absurd (none-some _ is)
asked-low (name ∷ rest) asked is = row-low (row_in calls name) rest asked is
