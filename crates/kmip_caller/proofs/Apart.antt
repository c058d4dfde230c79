-- Words of the table are no typed call.
use Rattle.std.proofs.Common.{◌≡◌, ℕ, List, [], ◌∷◌, Bool, true, false, Option, Some, None, refl, subst, codes}
use Rattle.std.specs.Prelude.{bytes_eq, nat_eq, ◌&&◌, if◌then◌else◌}
use Rattle.std.specs.List.{starts_with}
use Rattle.std.specs.Option.{is_some, option_map, option_and_then}
use Rattle.std.proofs.lemmas.Bool.{and_parts}
use Rattle.std.proofs.lemmas.Option.{none-some}
use Rattle.std.proofs.lemmas.Slice.Eq.{bytes_eq-Decides}
use Rattle.kmip_client.specs.Operation.{TreeRequest}
use Rattle.kmip_request.specs.declared.payload.RequestPayload.{RequestPayload}
use Rattle.kmip_request_words.specs.Asked.{asked_by, asked_in}
use Rattle.kmip_request_words.specs.Refusals.{why_refused}
use Rattle.kmip_words.specs.Values.{word_text}
use Rattle.kmip_words.specs.Calls.{plain_call, key_call_of, or_request, unless_refused, typed_call}
use Rattle.kmip_words.specs.declared.call.Call.{Call}
use Rattle.kmip_operation_words.specs.Calls.{row_in, asked_by as row_asked, request_with, table_request}
use Rattle.kmip_operation_words.specs.Rows.{Row}
use Rattle.kmip_operation_words.specs.Table.{calls}
use Rattle.kmip_caller.specs.TreeWords.{item_id}
use Rattle.kmip_caller.specs.TableWords.{with_id, begins_with_name, is_of_table, table_words}

-- the names of the typed calls
abbrev typed_names : List (List ℕ)
typed_names =
    codes "discover"
    ∷ codes "query"
    ∷ codes "locate"
    ∷ codes "attributes"
    ∷ codes "rng"
    ∷ codes "raw"
    ∷ codes "activate"
    ∷ codes "revoke"
    ∷ codes "destroy"
    ∷ codes "get"
    ∷ codes "create-aes"
    ∷ codes "sign"
    ∷ codes "rename"
    ∷ codes "create-rsa"
    ∷ codes "attribute-add"
    ∷ codes "attribute-modify"
    ∷ codes "attribute-delete"
    ∷ codes "create"
    ∷ codes "register"
    ∷ []

abbrev is_other : List (List ℕ) → List ℕ → Bool
is_other [] name = true
is_other (first ∷ rest) name = if bytes_eq name first then false else is_other rest name

-- a name that no typed call has
record IsOther (name : List ℕ) : Type 0 where
  discover : bytes_eq name (codes "discover") ≡ false
  query : bytes_eq name (codes "query") ≡ false
  locate : bytes_eq name (codes "locate") ≡ false
  attributes : bytes_eq name (codes "attributes") ≡ false
  rng : bytes_eq name (codes "rng") ≡ false
  raw : bytes_eq name (codes "raw") ≡ false
  activate : bytes_eq name (codes "activate") ≡ false
  revoke : bytes_eq name (codes "revoke") ≡ false
  destroy : bytes_eq name (codes "destroy") ≡ false
  get : bytes_eq name (codes "get") ≡ false
  create_aes : bytes_eq name (codes "create-aes") ≡ false
  sign : bytes_eq name (codes "sign") ≡ false
  rename : bytes_eq name (codes "rename") ≡ false
  create_rsa : bytes_eq name (codes "create-rsa") ≡ false
  attribute_add : bytes_eq name (codes "attribute-add") ≡ false
  attribute_modify : bytes_eq name (codes "attribute-modify") ≡ false
  attribute_delete : bytes_eq name (codes "attribute-delete") ≡ false
  create : bytes_eq name (codes "create") ≡ false
  register : bytes_eq name (codes "register") ≡ false

first_other : (b r : Bool) → (if b then false else r) ≡ true → (b ≡ false) × (r ≡ true)
first_other true r is = absurd (cc)
first_other false r is = (refl, is)

other_of : (name : List ℕ) → is_other typed_names name ≡ true → IsOther name
other_of name is =
    let discover = first_other (bytes_eq name (codes "discover")) _ is in
    let query = first_other (bytes_eq name (codes "query")) _ discover.1 in
    let locate = first_other (bytes_eq name (codes "locate")) _ query.1 in
    let attributes = first_other (bytes_eq name (codes "attributes")) _ locate.1 in
    let rng = first_other (bytes_eq name (codes "rng")) _ attributes.1 in
    let raw = first_other (bytes_eq name (codes "raw")) _ rng.1 in
    let activate = first_other (bytes_eq name (codes "activate")) _ raw.1 in
    let revoke = first_other (bytes_eq name (codes "revoke")) _ activate.1 in
    let destroy = first_other (bytes_eq name (codes "destroy")) _ revoke.1 in
    let get = first_other (bytes_eq name (codes "get")) _ destroy.1 in
    let create_aes = first_other (bytes_eq name (codes "create-aes")) _ get.1 in
    let sign = first_other (bytes_eq name (codes "sign")) _ create_aes.1 in
    let rename = first_other (bytes_eq name (codes "rename")) _ sign.1 in
    let create_rsa = first_other (bytes_eq name (codes "create-rsa")) _ rename.1 in
    let attribute_add = first_other (bytes_eq name (codes "attribute-add")) _ create_rsa.1 in
    let attribute_modify = first_other (bytes_eq name (codes "attribute-modify")) _ attribute_add.1 in
    let attribute_delete = first_other (bytes_eq name (codes "attribute-delete")) _ attribute_modify.1 in
    let create = first_other (bytes_eq name (codes "create")) _ attribute_delete.1 in
    let register = first_other (bytes_eq name (codes "register")) _ create.1 in
    record {
      discover = discover.0;
      query = query.0;
      locate = locate.0;
      attributes = attributes.0;
      rng = rng.0;
      raw = raw.0;
      activate = activate.0;
      revoke = revoke.0;
      destroy = destroy.0;
      get = get.0;
      create_aes = create_aes.0;
      sign = sign.0;
      rename = rename.0;
      create_rsa = create_rsa.0;
      attribute_add = attribute_add.0;
      attribute_modify = attribute_modify.0;
      attribute_delete = attribute_delete.0;
      create = create.0;
      register = register.0;
    }

-- ---- words with such a name are no typed call

key_none : (name : List ℕ) (id : Option (List ℕ)) → IsOther name → key_call_of name id ≡ None
key_none name None o = refl
key_none name (Some id) o = rw (o.activate, o.revoke, o.destroy, o.get) refl

plain_none : (name : List ℕ) (words : List (List ℕ)) → IsOther name → plain_call (name ∷ words) ≡ None
plain_none name [] o = rw (o.discover, o.query) refl
plain_none name (a ∷ []) o = rw (o.locate, o.attributes, o.rng, o.raw) (key_none name (word_text a) o)
plain_none name (a ∷ b ∷ []) o = rw (o.create_aes, o.sign, o.rename) refl
plain_none name (a ∷ b ∷ c ∷ []) o = rw o.create_rsa refl
plain_none name (a ∷ b ∷ c ∷ d ∷ words) o = refl

asked_none : (name : List ℕ) (words : List (List ℕ)) → IsOther name → asked_by name words ≡ None
asked_none name words o =
    rw (
      o.sign,
      o.revoke,
      o.get,
      o.locate,
      o.attributes,
      o.attribute_add,
      o.attribute_modify,
      o.attribute_delete,
      o.create,
      o.create_rsa,
      o.register,
    ) refl

none_of_both : (why : Option (List ℕ)) (plain : Option Call) (asked : Option RequestPayload)
    → plain ≡ None → asked ≡ None → unless_refused why (or_request plain asked) ≡ None
none_of_both (Some text) plain asked a b = refl
none_of_both None plain asked a b = rw (a, b) refl

untyped : (name : List ℕ) (words : List (List ℕ)) → is_other typed_names name ≡ true
    → typed_call (name ∷ words) ≡ None
unfolding typed_call asked_in
untyped name words is =
    none_of_both (why_refused (name ∷ words)) (plain_call (name ∷ words)) (asked_by name words)
    (plain_none name words (other_of name is)) (asked_none name words (other_of name is))

-- ---- `item-id=` is no such name, and no call of the table has one

clash : {G : Type 0} (b : Bool) → b ≡ true → b ≡ false → G
clash b first second = absurd (cc)

not_named : (word name front : List ℕ) (b : Bool) → bytes_eq word name ≡ b
    → starts_with nat_eq word front ≡ true → starts_with nat_eq name front ≡ false
    → bytes_eq word name ≡ false
not_named word name front false is starts other = is
not_named word name front true is starts other =
    clash (starts_with nat_eq name front)
    (subst (λ u. starts_with nat_eq u front ≡ true) ((bytes_eq-Decides word name).0 is) starts) other

abbrev none_begins : List (List ℕ) → List ℕ → Bool
none_begins [] front = true
none_begins (first ∷ rest) front =
    if starts_with nat_eq first front then false else none_begins rest front

begins_other : (names : List (List ℕ)) (word front : List ℕ) → starts_with nat_eq word front ≡ true
    → none_begins names front ≡ true → is_other names word ≡ true
begins_other [] word front starts none = refl
begins_other (first ∷ rest) word front starts none =
    let parts = first_other (starts_with nat_eq first front) (none_begins rest front) none in
    rw (not_named word first front (bytes_eq word first) refl starts parts.0)
    (begins_other rest word front starts parts.1)

abbrev all_other : List Row → Bool
all_other [] = true
all_other (row ∷ rows) = is_other typed_names row.name && all_other rows

by_row : (b : Bool) (row : Row) (rows : List Row) (name : List ℕ) → bytes_eq row.name name ≡ b
    → is_other typed_names row.name ≡ true
    → (is_some (row_in rows name) ≡ true → is_other typed_names name ≡ true)
    → is_some (if b then Some row else row_in rows name) ≡ true → is_other typed_names name ≡ true
by_row true row rows name same other rest found =
    subst (λ n. is_other typed_names n ≡ true) ((bytes_eq-Decides row.name name).0 same) other
by_row false row rows name same other rest found = rest found

row_other : (rows : List Row) (name : List ℕ) → all_other rows ≡ true
    → is_some (row_in rows name) ≡ true → is_other typed_names name ≡ true
row_other [] name all found = absurd (cc)
row_other (row ∷ rows) name all found =
    let parts = and_parts (is_other typed_names row.name) (all_other rows) all in
    by_row (bytes_eq row.name name) row rows name refl parts.0 (row_other rows name parts.1) found

by_front : (b : Bool) (word : List ℕ) (words : List (List ℕ))
    → starts_with nat_eq word (codes "item-id=") ≡ b
    → (b ≡ false → begins_with_name (word ∷ words) ≡ true) → typed_call (word ∷ words) ≡ None
by_front true word words starts named =
    untyped word words (begins_other typed_names word (codes "item-id=") starts refl)
by_front false word words starts named =
    untyped word words (row_other calls word refl (named refl))

behind : (word : List ℕ) (words : List (List ℕ)) → is_of_table (word ∷ words) ≡ true
    → starts_with nat_eq word (codes "item-id=") ≡ false → begins_with_name (word ∷ words) ≡ true
behind word words is not = rw not at is

pub of_table_untyped : (words : List (List ℕ)) → is_of_table words ≡ true → typed_call words ≡ None
of_table_untyped [] is = absurd (cc)
of_table_untyped (word ∷ words) is =
    by_front (starts_with nat_eq word (codes "item-id=")) word words refl (behind word words is)

-- ---- what is a call of the table begins with the name of one

row_named : (row : Option Row) (words : List (List ℕ)) (id : Option (List ℕ)) (request : TreeRequest)
    → option_map (request_with id) (option_and_then (λ row. row_asked row words) row) ≡ Some request
    → is_some row ≡ true
row_named None words id request is = absurd (none-some _ is)
row_named (Some row) words id request is = refl

named : (words : List (List ℕ)) (id : Option (List ℕ)) (request : TreeRequest)
    → table_request words id ≡ Some request → begins_with_name words ≡ true
named [] id request is = absurd (none-some _ is)
named (name ∷ words) id request is = row_named (row_in calls name) words id request is

named_with : (words : List (List ℕ)) (id : Option (Option (List ℕ))) (request : TreeRequest)
    → option_and_then (table_request words) id ≡ Some request → begins_with_name words ≡ true
named_with words None request is = absurd (none-some _ is)
named_with words (Some id) request is = named words id request is

pub table_untyped : (words : List (List ℕ)) (request : TreeRequest) → table_words words ≡ Some request
    → typed_call words ≡ None
table_untyped words request is =
    of_table_untyped words
    (named_with (with_id words).rest (item_id (with_id words).value) request is)
