-- A payload that is answered has the variant of the request's operation, since it was read by the operation of its batch item.
use Rattle.std.proofs.Common.{◌≡◌, ℕ, filter, pos, List, [], ◌∷◌, refl, ◌∙◌, ap, sym, arith, subst, Bool, true, false, cond, suc, ◌⊎◌, inl, inr, Option, Some, None, Ok, Err, codes, not}
use Rattle.std.specs.Option.{option_map, option_and_then}
use Rattle.std.proofs.lemmas.Grind.{common_steps}
use Rattle.std.proofs.lemmas.Bool.Decides.{Decides-int_eq, nat_tests}
use Rattle.kmip_tags.specs.Tags.{BATCH_ITEM, RESPONSE_PAYLOAD}
use Rattle.kmip_wire.specs.Tree.{Tree}
use Rattle.kmip_wire.specs.Parts.{children_in}
use Rattle.kmip_shape.specs.Val.{Val, Vals, Field, Fields, Number, Text, Bytes, Truth, Record, Case, Absent, One, Many, AndField, NoVal, AndVal}
use Rattle.kmip_shape.specs.Shape.{Shape, RowList, Cases, Rows, NoRow, AndRow, Mark, Required, Role, Plain, Custom, Place, Under, has_tag, outer_for, chosen_after, in_place, matches, NoCase, AndCase, ByNumbers, OuterValue, no_outer, NumberKey, chosen_by, among, AtLeastOne, Optional}
use Rattle.kmip_shape.specs.Reads.{each, marked_field, with_field, read_in, read_rows, read_case, root_read}
use Rattle.kmip_enums.specs.Operations.{operation_line}
use Rattle.kmip_enums.specs.declared.operation.Operation.{Operation}
use Rattle.kmip_response.specs.Tables.{response_message, batch_item, response_payload, response_payloads}
use Rattle.kmip_enums.specs.declared.result_status.ResultStatus.TheVariants.{OperationFailed, OperationPending, OperationUndone}
use Rattle.kmip_client.specs.declared.error.Error.{Error}
use Rattle.kmip_client.specs.declared.error.Error.TheVariants.{InternalError}
use Rattle.kmip_client.specs.Check.{check_response, check_items, check_item, payload_answer, has_operation, has_status, mismatch_text, operation_shown, is_number, batch_items, field_at, field_in, one_of, many_of}
use Rattle.kmip_client.specs.Outcome.{Answer, response_tag}
use Rattle.kmip_client.specs.Client.{IsOfOperation}

and_then_some : {A B : Type 0} (f : A → Option B) (o : Option A) (y : B)
    → option_and_then f o ≡ Some y → (x : A) × (o ≡ Some x) × (f x ≡ Some y)
and_then_some f None y h = absurd (cc)
and_then_some f (Some x) y h = (x, refl, h)

map_some : {A B : Type 0} (f : A → B) (o : Option A) (y : B) → option_map f o ≡ Some y → (x : A)
    × (o ≡ Some x) × (f x ≡ y)
map_some f None y h = absurd (cc)
map_some f (Some x) y h = (x, refl, cc)

cond_some : {A : Type 0} (b : Bool) (o : Option A) (x : A) → cond b o None ≡ Some x → o ≡ Some x
cond_some true o x h = h
cond_some false o x h = absurd (cc)

-- a field that was read, and the fields after it
record IsField (f : Option Field) (rest : Field → Option Fields) (fields : Fields) : Type 0 where
  field : Field
  others : Fields
  first : f ≡ Some field
  next : rest field ≡ Some others
  all : fields ≡ AndField field others

field_some : (f : Option Field) (rest : Field → Option Fields) (fields : Fields)
    → with_field f rest ≡ Some fields → IsField f rest fields
field_some None rest fields h = absurd (cc)
field_some (Some g) rest fields h =
    let it = map_some (AndField g) (rest g) fields h in
    record { field = g; others = it.0; first = refl; next = it.1; all = sym it.2 }

-- the fields of a record that was read
record IsRows (rows : RowList) (tree : Tree) (value : Val) : Type 0 where
  trees : List Tree
  fields : Fields
  children : children_in tree ≡ Some trees
  reads : read_rows rows no_outer no_outer trees ≡ Some fields
  all : value ≡ Record fields

rows_some : (rows : RowList) (tree : Tree) (value : Val)
    → read_in (Rows rows) NoCase no_outer tree ≡ Some value → IsRows rows tree value
rows_some rows tree value h =
    let it = and_then_some (λ (trees : List Tree).
    option_map Record (read_rows rows no_outer no_outer trees)) (children_in tree) value h in
    let fields = map_some Record (read_rows rows no_outer no_outer it.0) value it.2 in
    record { trees = it.0; fields = fields.0; children = it.1; reads = fields.1; all = sym fields.2 }

many_some : (read : Tree → Option Val) (trees : List Tree) (field : Field)
    → marked_field AtLeastOne read trees ≡ Some field → each read trees ≡ Some (many_of field)
many_some read [] field h = absurd (cc)
many_some read (tree ∷ trees) field h =
    let it = map_some Many (each read (tree ∷ trees)) field h in
    it.1 ∙ ap (λ f. Some (many_of f)) it.2

pub optional_some : (read : Tree → Option Val) (trees : List Tree) (field : Field) (val : Val)
    → marked_field Optional read trees ≡ Some field → one_of field ≡ Some val → (tree : Tree)
    × (read tree ≡ Some val) × (trees ≡ tree ∷ [])
optional_some read [] field val h is = absurd (let e : one_of field ≡ None = ap one_of (some_is (sym h)) in cc)
  where
    some_is : {f g : Field} → Some f ≡ Some g → f ≡ g
    some_is e = cc
optional_some read (tree ∷ []) field val h is =
    let it = map_some One (read tree) field h in
    let e : Some it.0 ≡ Some val = ap one_of it.2 ∙ is in
    (tree, it.1 ∙ e, refl)
optional_some read (tree ∷ next ∷ trees) field val h is = absurd (cc)

-- one value that was read of a list
pub single_some : (read : Tree → Option Val) (trees : List Tree) (val : Val)
    → each read trees ≡ Some (AndVal val NoVal) → (tree : Tree) × (read tree ≡ Some val) × (more : List Tree)
    × (trees ≡ tree ∷ more)
single_some read [] val h = absurd (cc)
single_some read (tree ∷ trees) val h =
    let it = and_then_some (λ (v : Val). option_map (AndVal v) (each read trees)) (read tree) (AndVal val NoVal) h in
    let more = map_some (AndVal it.0) (each read trees) (AndVal val NoVal) it.2 in
    let e : it.0 ≡ val = head_is more.2 in
    (tree, it.1 ∙ ap Some e, trees, refl)
  where
    head_is : {v w : Val} {vs ws : Vals} → AndVal v vs ≡ AndVal w ws → v ≡ w
    head_is e = cc

-- the first field and a later one of a record whose fields are known one by one
at_first : {fields gs : Fields} {g : Field} → fields ≡ AndField g gs → field_in 0 fields ≡ g
at_first e = ap (λ fs. field_in 0 fs) e

at_next : {fields gs : Fields} {g : Field} (n : ℕ) → fields ≡ AndField g gs → field_in (suc n) fields ≡ field_in n gs
at_next n e = ap (λ fs. field_in (suc n) fs) e

abbrev rows_in : Shape → RowList
rows_in (Rows rows) = rows
rows_in _ = NoRow

-- what the operation and the payload of a batch item were read as
pub record IsItem (tree : Tree) (item : Val) : Type 0 where
  children : List Tree
  operation : Field
  payload : Field
  trees : List Tree
  children_are : children_in tree ≡ Some children
  trees_are : trees ≡ filter (has_tag RESPONSE_PAYLOAD) children
  first : field_at 0 item ≡ operation
  sixth : field_at 5 item ≡ payload
  reads : marked_field Optional (read_in response_payload NoCase (chosen_by operation)) trees ≡ Some payload

abbrev tail_of : RowList → RowList
tail_of NoRow = NoRow
tail_of (AndRow name place mark role shape rows) = rows

abbrev mark_of : RowList → Mark
mark_of NoRow = Required
mark_of (AndRow name place mark role shape rows) = mark

abbrev place_of : RowList → Place
place_of NoRow = Under 0
place_of (AndRow name place mark role shape rows) = place

abbrev role_of : RowList → Role
role_of NoRow = Plain
role_of (AndRow name place mark role shape rows) = role

abbrev shape_of : RowList → Shape
shape_of NoRow = Custom
shape_of (AndRow name place mark role shape rows) = shape

abbrev has_row : RowList → Bool
has_row NoRow = false
has_row (AndRow name place mark role shape rows) = true

-- the first row of some was read, and then the others
record IsRow (rows : RowList) (chosen : OuterValue) (trees : List Tree) (fields : Fields) : Type 0 where
  field : Field
  others : Fields
  items : List Tree
  items_are : items ≡ filter (in_place (place_of rows) (shape_of rows)
      (outer_for (role_of rows) no_outer chosen)) trees
  first : marked_field (mark_of rows)
      (read_in (shape_of rows) NoCase (outer_for (role_of rows) no_outer chosen)) items ≡ Some field
  next : read_rows (tail_of rows) no_outer (chosen_after (role_of rows) field chosen) trees ≡ Some others
  all : fields ≡ AndField field others

row_some : (rows : RowList) (chosen : OuterValue) (trees : List Tree) (fields : Fields)
    → has_row rows ≡ true → read_rows rows no_outer chosen trees ≡ Some fields
    → IsRow rows chosen trees fields
row_some NoRow chosen trees fields some h = absurd (cc)
row_some (AndRow name place mark role shape rows) chosen trees fields some h =
    let items : List Tree = filter (in_place place shape (outer_for role no_outer chosen)) trees in
    let it = field_some (marked_field mark
    (read_in shape NoCase (outer_for role no_outer chosen)) items)
    (λ field. read_rows rows no_outer (chosen_after role field chosen) trees) fields h in
    record {
      field = it.field;
      others = it.others;
      items = items;
      items_are = refl;
      first = it.first;
      next = it.next;
      all = it.all;
    }

pub item_read : (tree : Tree) (item : Val) → read_in batch_item NoCase no_outer tree ≡ Some item → IsItem tree item
item_read tree item h =
    let it = rows_some (rows_in batch_item) tree item h in
    let r0 = row_some (rows_in batch_item) no_outer it.trees it.fields refl it.reads in
    let r1 = row_some (tail_of (rows_in batch_item)) (chosen_by r0.field) it.trees r0.others refl r0.next in
    let r2 = row_some (tail_of (tail_of (rows_in batch_item))) (chosen_by r0.field) it.trees r1.others refl r1.next in
    let r3 = row_some (tail_of (tail_of (tail_of (rows_in batch_item))))
    (chosen_by r0.field) it.trees r2.others refl r2.next in
    let r4 = row_some (tail_of (tail_of (tail_of (tail_of (rows_in batch_item)))))
    (chosen_by r0.field) it.trees r3.others refl r3.next in
    let r5 = row_some (tail_of (tail_of (tail_of (tail_of (tail_of (rows_in batch_item))))))
    (chosen_by r0.field) it.trees r4.others refl r4.next in
    record {
      children = it.trees;
      operation = r0.field;
      payload = r5.field;
      trees = r5.items;
      children_are = it.children;
      trees_are = r5.items_are;
      first = ap (λ v. field_at 0 v) it.all ∙ at_first r0.all;
      sixth = ap (λ v. field_at 5 v) it.all ∙ at_next 4 r0.all ∙ at_next 3 r1.all ∙ at_next 2 r2.all
          ∙ at_next 1 r3.all ∙ at_next 0 r4.all ∙ at_first r5.all;
      reads = r5.first;
    }

-- the batch items of a response message
pub items_read : (tree : Tree) (value : Val)
    → read_in response_message NoCase no_outer tree ≡ Some value → (trees : List Tree)
    × (each (read_in batch_item NoCase no_outer) trees ≡ Some (batch_items value))
    × (children : List Tree) × (children_in tree ≡ Some children)
    × (trees ≡ filter (has_tag BATCH_ITEM) children)
items_read tree value h =
    let it = rows_some (rows_in response_message) tree value h in
    let r0 = row_some (rows_in response_message) no_outer it.trees it.fields refl it.reads in
    let r1 = row_some (tail_of (rows_in response_message)) no_outer it.trees r0.others refl r0.next in
    let same : batch_items value ≡ many_of r1.field =
    ap batch_items it.all ∙ ap many_of (at_next 0 r0.all ∙ at_first r1.all) in (
      r1.items,
      many_some (read_in batch_item NoCase no_outer) r1.items r1.field r1.first ∙ ap Some (sym same),
      it.trees,
      it.children,
      r1.items_are,
    )

-- an item that answers with a payload names the operation and holds the payload
ok_else : (b : Bool) (x y : Answer) (payload : Val) → (x ≡ Ok payload → ⊥) → cond b x y ≡ Ok payload
    → (b ≡ false) × (y ≡ Ok payload)
ok_else true x y payload never h = absurd (never h)
ok_else false x y payload never h = (refl, h)

error_ok : (error : Error) (payload : Val) → ◌≡◌ {A = Answer} (Err error) (Ok payload) → ⊥
error_ok error payload h = cc

either_error : (b : Bool) (e f : Error) (payload : Val) → ◌≡◌ {A = Answer} (cond b (Err e) (Err f)) (Ok payload) → ⊥
either_error true e f payload h = error_ok e payload h
either_error false e f payload h = error_ok f payload h

payload_ok : (o : Option Val) (payload : Val) → payload_answer o ≡ Ok payload → o ≡ Some payload
payload_ok None payload h = absurd (error_ok _ payload h)
payload_ok (Some p) payload h = cc

not_false : (b : Bool) → not b ≡ false → b ≡ true
not_false true h = refl
not_false false h = absurd (cc)

item_ok : (operation : Operation) (item payload : Val) → check_item operation item ≡ Ok payload
    → (has_operation operation item ≡ true) × (one_of (field_at 5 item) ≡ Some payload)
unfolding check_item
item_ok operation item payload h =
    let a = ok_else (has_status OperationFailed item) _ _ payload (either_error _ _ _ payload) h in
    let b = ok_else (has_status OperationPending item) _ _ payload
    (error_ok (InternalError (codes "Result status 'operation pending' is not supported"))
    payload) a.1 in
    let c = ok_else (has_status OperationUndone item) _ _ payload
    (error_ok (InternalError (codes "Result status 'operation undone' is not supported"))
    payload) b.1 in
    let d = ok_else (not (has_operation operation item)) _ _ payload
    (error_ok (InternalError (mismatch_text operation
    (operation_shown (one_of (field_at 0 item))))) payload) c.1 in
    (not_false _ d.0, payload_ok _ payload d.1)

items_ok : (operation : Operation) (told : Bool) (vals : Vals) (payload : Val)
    → check_items operation told vals ≡ Ok payload → (item : Val) × (vals ≡ AndVal item NoVal)
    × (check_item operation item ≡ Ok payload)
items_ok operation false vals payload h = absurd (error_ok _ payload h)
items_ok operation true NoVal payload h = absurd (error_ok _ payload h)
items_ok operation true (AndVal item NoVal) payload h = (item, refl, h)
items_ok operation true (AndVal item (AndVal next vals)) payload h = absurd (error_ok _ payload h)

number_is : (n : ℕ) (o : Option Val) → is_number (pos n) o ≡ true → o ≡ Some (Number (pos n))
number_is n None h = absurd (cc)
number_is n (Some (Number y)) h = ap (λ z. Some (Number z)) (grind (arith, Decides-int_eq, common_steps))
number_is n (Some (Text s)) h = absurd (cc)
number_is n (Some (Bytes b)) h = absurd (cc)
number_is n (Some (Truth t)) h = absurd (cc)
number_is n (Some (Record fs)) h = absurd (cc)
number_is n (Some (Case k v)) h = absurd (cc)

one_is : (field : Field) (val : Val) → one_of field ≡ Some val → field ≡ One val
one_is Absent val h = absurd (cc)
one_is (One v) val h = cc
one_is (Many vs) val h = absurd (cc)

-- each case is selected by its own number alone
abbrev AreOwn : Cases → Type 0
AreOwn NoCase = Unit {0}
AreOwn (AndCase n name selector fixed shape cases) = (selector ≡ ByNumbers (n ∷ [])) × AreOwn cases

split : {A : Type 0} (b : Bool) (x y : Option A) (z : A) → cond b x y ≡ Some z
    → ((b ≡ true) × (x ≡ Some z)) ⊎ ((b ≡ false) × (y ≡ Some z))
split true x y z h = inl (refl, h)
split false x y z h = inr (refl, h)

among_one : (n m : ℕ) → among n (m ∷ []) ≡ true → m ≡ n
among_one n m h = grind (arith, nat_tests)

case_own : (cases around : Cases) (operation : Operation) (outer : OuterValue) (tree : Tree)
    (payload : Val) → AreOwn cases →
    read_case cases around (NumberKey (operation_line operation).number) outer tree ≡ Some payload
    → IsOfOperation operation payload
case_own NoCase around operation outer tree payload own h = absurd (cc)
case_own (AndCase m name selector fixed shape cases) around operation outer tree payload own h =
    elim (split (matches (NumberKey (operation_line operation).number) selector)
    (option_map (Case m) (read_in shape around outer tree))
    (read_case cases around (NumberKey (operation_line operation).number) outer tree) payload h) [
      | inl it ↦
          let v = map_some (Case m) (read_in shape around outer tree) payload it.1 in
          let key : among (operation_line operation).number (m ∷ []) ≡ true =
          ap (λ s. matches (NumberKey (operation_line operation).number) s) (sym own.0)
          ∙ it.0 in
          subst (IsOfOperation operation) v.2 (among_one (operation_line operation).number m key)
      | inr it ↦ case_own cases around operation outer tree payload own.1 it.1
    ]

own_payloads : AreOwn response_payloads
own_payloads = (
  refl,
  (
    refl,
    (
      refl,
      (
        refl,
        (
          refl,
          (
            refl,
            (refl, (refl, (refl, (refl, (refl, (refl, (refl, (refl, (refl, (refl, (refl, tt))))))))))),
          ),
        ),
      ),
    ),
  ),
)

-- where the payload of a response was read: of the one item with its tag of the one batch item
pub record IsHeld (operation : Operation) (tree : Tree) (payload : Val) : Type 0 where
  pub children : List Tree
  pub item : Tree
  pub more : List Tree
  pub item_children : List Tree
  pub read : Tree
  pub children_are : children_in tree ≡ Some children
  pub items_are : filter (has_tag BATCH_ITEM) children ≡ item ∷ more
  pub item_children_are : children_in item ≡ Some item_children
  pub payloads_are : filter (has_tag RESPONSE_PAYLOAD) item_children ≡ read ∷ []
  pub own : read_in response_payload NoCase
      (chosen_by (One (Number (pos (operation_line operation).number)))) read ≡ Some payload

pub held_in : (operation : Operation) (tree : Tree) (value payload : Val)
    → root_read response_message response_tag tree ≡ Some value
    → check_response operation value ≡ Ok payload → IsHeld operation tree payload
held_in operation tree value payload reads checks =
    let items = items_read tree value (cond_some _ _ value reads) in
    let single = items_ok operation _ (batch_items value) payload checks in
    let one = single_some _ items.0 single.0 (items.1 ∙ ap Some single.1) in
    let item = item_read one.0 single.0 one.1 in
    let ok = item_ok operation single.0 payload single.2 in
    let named : item.operation ≡ One (Number (pos (operation_line operation).number)) =
    sym item.first ∙ one_is _ _ (number_is _ _ ok.0) in
    let held : one_of item.payload ≡ Some payload = ap one_of (sym item.sixth) ∙ ok.1 in
    let read = optional_some _ item.trees item.payload payload item.reads held in
    record {
      children = items.2;
      item = one.0;
      more = one.2;
      item_children = item.children;
      read = read.0;
      children_are = items.3;
      items_are = sym items.4 ∙ one.3;
      item_children_are = item.children_are;
      payloads_are = sym item.trees_are ∙ read.2;
      own = ap (λ f. read_in response_payload NoCase (chosen_by f) read.0) (sym named) ∙ read.1;
    }

pub variant_of : (operation : Operation) (tree : Tree) (value payload : Val)
    → root_read response_message response_tag tree ≡ Some value
    → check_response operation value ≡ Ok payload → IsOfOperation operation payload
variant_of operation tree value payload reads checks =
    let held = held_in operation tree value payload reads checks in
    case_own response_payloads response_payloads operation
    (chosen_by (One (Number (pos (operation_line operation).number))))
    held.read payload own_payloads held.own
