-- The message round a payload tree.
use Rattle.std.proofs.Common.{◌≡◌, ℕ, ◌+◌, ◌<◌, ◌≤◌, ◌%◌, ◌^◌, List, [], ◌∷◌, ◌++◌, length, refl, ◌∙◌, ap, sym, subst, arith, rules, pos, Bool, true, false, cond, ltb-true, Option, Some, None, length-append, append-nil, append_assoc, lit<, inl, inr}
use Rattle.std.specs.Int.{w32}
use Rattle.std.specs.Prelude.{option_map, nat_le, nat_lt, IfSome, IsUtf8, FitsSigned}
use Rattle.std.proofs.lemmas.Int.{ints}
use Rattle.std.specs.Option.{option_and_then}
use Rattle.std.proofs.lemmas.Bool.{cases_lt, le-leb, lt-leb, leb-true}
use Rattle.std.proofs.lemmas.Bool.Decides.{nat_tests}
use Rattle.kmip_tags.specs.Tags.{BATCH_COUNT, BATCH_ITEM, CREDENTIAL_VALUE, OPERATION, PROTOCOL_VERSION, PROTOCOL_VERSION_MAJOR, PROTOCOL_VERSION_MINOR, USERNAME, REQUEST_HEADER, REQUEST_MESSAGE, UNIQUE_BATCH_ITEM_ID}
use Rattle.kmip_wire.specs.Tree.{Tree, scalar, structure, more, none, trees_of, enumeration, integer, text_string, byte_string}
use Rattle.kmip_wire.specs.Bytes.{bytes, all_bytes, structure_bytes, in_order, item_bytes, levels, levels_of_all, AreBytes, HasRanges, HaveRanges}
use Rattle.kmip_wire.specs.declared.kind.Kind.TheVariants.{ByteString}
use Rattle.kmip_wire.specs.Parses.{Parses}
use Rattle.kmip_wire.proofs.Written.{written_parses}
use Rattle.kmip_wire.specs.Room.{Room, Appends}
use Rattle.kmip_shape.specs.Val.{Val, Number, Bytes}
use Rattle.kmip_shape.specs.Shape.{Shape, Scalar, OneOf, NoCase}
use Rattle.kmip_shape.specs.Trees.{tree_of}
use Rattle.kmip_shape.specs.Writes.{HasForm, size_of, text_of, wire_len_of, bytes_of, structure_head, leaf_text, leaf_size}
use Rattle.kmip_shape.proofs.Known.{value_known}
use Rattle.kmip_shape.proofs.Lengths.{wire_len_law}
use Rattle.kmip_shape.proofs.Aligned.{trees_aligned, flat, IsAligned}
use Rattle.kmip_shape.proofs.WrittenText.{written, head_len}
use Rattle.kmip_enums.specs.Operations.{operation_line}
use Rattle.kmip_enums.specs.declared.operation.Operation.{Operation}
use Rattle.kmip_enums.specs.declared.credential_type.CredentialType.{CredentialType}
use Rattle.kmip_enums.specs.declared.credential_type.CredentialType.TheVariants as types
use Rattle.kmip_request.specs.declared.authentication.Authentication.{Authentication}
use Rattle.kmip_request.specs.declared.authentication.CredentialValue.{CredentialValue}
use Rattle.kmip_request.specs.declared.authentication.CredentialValue.TheVariants as values
use Rattle.kmip_request.specs.declared.header.ProtocolVersion.{ProtocolVersion}
use Rattle.kmip_request.specs.Tables.{request_header}
use Rattle.kmip_request.specs.Values.{lent_header_val}
use Rattle.kmip_request.specs.Message.{header_tree, message_tree, authentication_trees, password_trees, credential_of}
use Rattle.kmip_request.specs.Fits.{FitsCredential}
use Rattle.kmip_types.specs.declared.auth.CredentialType.{CredentialType as TheCredential}
use Rattle.kmip_types.specs.declared.auth.CredentialType.TheVariants.{UsernameAndPassword}
use Rattle.kmip_client.specs.declared.operation.Version.{Version}
use Rattle.kmip_client.specs.declared.operation.Version.TheVariants.{V1_0, V1_1, V1_2}
use Rattle.kmip_client.specs.Operation.{TreeRequest, minor_number, identified_tree, operation_tree, operation_bytes}
use Rattle.kmip_client.specs.Written.{message_bytes, id_bytes, id_text, id_size, id_len}
use Rattle.kmip_client.specs.WholeMessage.{is_message}
use Rattle.kmip_client.proofs.WholeMessages.{append_within}

-- ---- the bytes of a message

-- the contents of a structure, where they are short enough
framed : (tag : ℕ) (c : List ℕ) → length c % 8 ≡ 0 → length c < 2 ^ 32
    → structure_bytes tag (Some c) ≡ Some (structure_head tag (length c) ++ c)
framed tag c even small =
    let whole : structure_bytes tag (Some c) ≡ Some (item_bytes tag 1 c) = grind (arith, nat_tests) in
    whole ∙ ap Some (flat tag c even)

too_long : (tag : ℕ) (c : List ℕ) → 2 ^ 32 ≤ length c → structure_bytes tag (Some c) ≡ None
too_long tag c long = grind (arith, nat_tests)

-- the item of an operation
operation_item : (n : ℕ) → (bytes (scalar OPERATION (enumeration n)) ≡ Some
    (leaf_text OPERATION (enumeration n))) × (length (leaf_text OPERATION (enumeration n)) ≡ 16)
operation_item n = written (Number (pos n)) NoCase (OneOf []) OPERATION (lit< tt)

-- canonical bytes come in eights
pub aligned : (tree : Tree) (b : List ℕ) → bytes tree ≡ Some b → length b % 8 ≡ 0
aligned tree b is =
    let all : all_bytes (more tree none) ≡ Some (b ++ []) = ap (λ o. in_order o (Some [])) is in
    let even : length (b ++ []) % 8 ≡ 0 = subst IsAligned all (trees_aligned (more tree none)) in
    subst (λ c. length c % 8 ≡ 0) (append-nil b) even

-- the contents of the batch item of a payload
contents : (payload : List ℕ) (n : ℕ)
    → in_order (bytes (scalar OPERATION (enumeration n))) (in_order (Some payload) (Some []))
    ≡ Some (leaf_text OPERATION (enumeration n) ++ payload)
contents payload n =
    ap (λ o. in_order o (Some (payload ++ []))) (operation_item n).0
    ∙ ap (λ p. Some (leaf_text OPERATION (enumeration n) ++ p)) (append-nil payload)

-- the message of a header and of the contents of a batch item
around : (header item : List ℕ) (framed : Option (List ℕ)) → framed ≡ Some item
    → in_order (Some header) (in_order framed (Some [])) ≡ Some (header ++ item)
around header item framed is = ap (λ o. in_order (Some header) (in_order o (Some []))) is
    ∙ ap (λ i. Some (header ++ i)) (append-nil item)

item_written : (payload : List ℕ) (n item : ℕ) → length payload % 8 ≡ 0 → item ≡ 16 + length payload → item < 2 ^ 32 →
    structure_bytes BATCH_ITEM (in_order (bytes (scalar OPERATION (enumeration n)))
    (in_order (Some payload) (Some [])))
    ≡ Some (structure_head BATCH_ITEM item ++ (leaf_text OPERATION (enumeration n) ++ payload))
item_written payload n item p i small =
    let c : List ℕ = leaf_text OPERATION (enumeration n) ++ payload in
    let long : length c ≡ 16 + length payload =
    length-append (leaf_text OPERATION (enumeration n)) payload
    ∙ ap (λ k. k + length payload) (operation_item n).1 in
    ap (structure_bytes BATCH_ITEM) (contents payload n)
    ∙ (framed BATCH_ITEM c (omega (arith, long, p)) (omega (arith, long))
    ∙ ap (λ k. Some (structure_head BATCH_ITEM k ++ c)) (long ∙ sym i))

item_len : (payload : List ℕ) (n item : ℕ)
    → length (structure_head BATCH_ITEM item ++ (leaf_text OPERATION (enumeration n) ++ payload))
    ≡ 8 + (16 + length payload)
item_len payload n item =
    omega (
      arith,
      length-append (structure_head BATCH_ITEM item)
          (leaf_text OPERATION (enumeration n) ++ payload),
      length-append (leaf_text OPERATION (enumeration n)) payload,
      head_len BATCH_ITEM item,
      (operation_item n).1,
    )

-- what is written round a header and a payload
pub message_written : (header payload : List ℕ) (n message item : ℕ) → length header % 8 ≡ 0
    → length payload % 8 ≡ 0 → message ≡ length header + (8 + (16 + length payload))
    → item ≡ 16 + length payload → message < 2 ^ 32 →
    message_bytes (Some header) n (Some payload)
    ≡ Some (structure_head REQUEST_MESSAGE message
    ++ (header ++ (structure_head BATCH_ITEM item
    ++ (leaf_text OPERATION (enumeration n) ++ payload))))
message_written header payload n message item h p m i small =
    let one : List ℕ = structure_head BATCH_ITEM item ++ (leaf_text OPERATION (enumeration n) ++ payload) in
    let long : length (header ++ one) ≡ length header + (8 + (16 + length payload)) =
    length-append header one ∙ ap (λ k. length header + k) (item_len payload n item) in
    ap (structure_bytes REQUEST_MESSAGE) (around header one _ (item_written payload n item p i (omega arith)))
    ∙ (framed REQUEST_MESSAGE (header ++ one) (omega (arith, long, h, p)) (omega (arith, long))
    ∙ ap (λ k. Some (structure_head REQUEST_MESSAGE k ++ (header ++ one))) (long ∙ sym m))

no_item : (header : List ℕ) (framed : Option (List ℕ)) → framed ≡ None
    → structure_bytes REQUEST_MESSAGE (in_order (Some header) (in_order framed (Some []))) ≡ None
no_item header framed is = ap (λ o. structure_bytes REQUEST_MESSAGE (in_order (Some header) (in_order o (Some [])))) is

pub message_too_long : (header payload : List ℕ) (n : ℕ) → length payload % 8 ≡ 0
    → 2 ^ 32 ≤ length header + (8 + (16 + length payload))
    → message_bytes (Some header) n (Some payload) ≡ None
message_too_long header payload n p long =
    elim (cases_lt (16 + length payload) (2 ^ 32)) [
      | inr over ↦
          let c : List ℕ = leaf_text OPERATION (enumeration n) ++ payload in
          let size : length c ≡ 16 + length payload =
          length-append (leaf_text OPERATION (enumeration n)) payload
          ∙ ap (λ k. k + length payload) (operation_item n).1 in
          no_item header _ (ap (structure_bytes BATCH_ITEM) (contents payload n)
          ∙ too_long BATCH_ITEM c (omega (arith, size)))
      | inl within ↦
          let one : List ℕ = structure_head BATCH_ITEM (16 + length payload)
          ++ (leaf_text OPERATION (enumeration n) ++ payload) in
          let size : length (header ++ one) ≡ length header + (8 + (16 + length payload)) =
          length-append header one ∙ ap (λ k. length header + k)
          (item_len payload n (16 + length payload)) in
          ap (structure_bytes REQUEST_MESSAGE)
          (around header one _ (item_written payload n (16 + length payload) p refl within))
          ∙ too_long REQUEST_MESSAGE (header ++ one) (omega (arith, size))
    ]

-- a batch item without bytes is of no message
no_bytes_in : (header : Option (List ℕ)) (n : ℕ) → message_bytes header n None ≡ None
no_bytes_in None n = refl
no_bytes_in (Some header) n = no_item header _ (ap (λ o. structure_bytes BATCH_ITEM (in_order o None)) (operation_item n).0)

-- ---- the item of an ID

-- what its length says: that it has no bytes, or which it has
record IsIdOf (id : Option (List ℕ)) (size : ℕ) : Type 0 where
  bytes_are : id_bytes id ≡ Some (id_text id)
  size_is : id_size id ≡ size
  len : length (id_text id) ≡ size
  even : size % 8 ≡ 0

sized_id : (id : List ℕ) (size : ℕ) (small : Bool) → nat_lt (length id) (2 ^ 32) ≡ small
    → cond small (Some (leaf_size (byte_string id))) None ≡ Some size → IsIdOf (Some id) size
sized_id id size false same is = absurd (cc)
sized_id id size true same is =
    let has = written (Bytes id) NoCase (Scalar ByteString) UNIQUE_BATCH_ITEM_ID (ltb-true (length id) (2 ^ 32) same) in
    let sizes : leaf_size (byte_string id) ≡ size = cc in
    let long : length (leaf_text UNIQUE_BATCH_ITEM_ID (byte_string id)) ≡ size = has.1 ∙ sizes in
    record {
      bytes_are = has.0;
      size_is = sizes;
      len = long;
      even = subst (λ k. k % 8 ≡ 0) long
          (aligned (scalar UNIQUE_BATCH_ITEM_ID (byte_string id)) (leaf_text UNIQUE_BATCH_ITEM_ID (byte_string id)) has.0);
    }

id_of_len : (id : Option (List ℕ)) (size : ℕ) → id_len id ≡ Some size → IsIdOf id size
id_of_len None size is =
    let zero : 0 ≡ size = cc in
    record { bytes_are = refl; size_is = zero; len = zero; even = omega (arith, zero) }
id_of_len (Some id) size is = sized_id id size (nat_lt (length id) (2 ^ 32)) refl is

long_id : (id : List ℕ) (small : Bool) → nat_lt (length id) (2 ^ 32) ≡ small
    → cond small (Some (leaf_size (byte_string id))) None ≡ None
    → id_bytes (Some id) ≡ None
long_id id true same is = absurd (cc)
long_id id false same is =
    ap (λ (b : Bool). cond b (Some (leaf_text UNIQUE_BATCH_ITEM_ID (byte_string id))) None) same

pub id_without_bytes : (header : Option (List ℕ)) (n : ℕ) (id : Option (List ℕ)) (payload : List ℕ)
    → id_len id ≡ None → message_bytes header n (in_order (id_bytes id) (Some payload)) ≡ None
id_without_bytes header n None payload is = absurd (cc)
id_without_bytes header n (Some id) payload is =
    ap (λ o. message_bytes header n (in_order o (Some payload)))
    (long_id id (nat_lt (length id) (2 ^ 32)) refl is)
    ∙ no_bytes_in header n

-- ---- the header

abbrev version_number : ℕ → ProtocolVersion
version_number minor = record { 0 = record { 0 = pos 1 }; 1 = record { 0 = pos minor } }

for_values : (minor : ℕ) (type : CredentialType) (value : CredentialValue) →
    tree_of request_header REQUEST_HEADER
    (lent_header_val (version_number minor)
    (Some (record { 0 = record { 0 = type; 1 = value } })))
    ≡ Some (header_tree minor (authentication_trees (Some
    (credential_of (record { 0 = record { 0 = type; 1 = value } })))))
for_values minor types.UsernameAndPassword (values.UsernameAndPassword username None) = refl
for_values minor types.UsernameAndPassword (values.UsernameAndPassword username (Some password)) = refl

header_is : (minor : ℕ) (credential : Option Authentication) →
    tree_of request_header REQUEST_HEADER (lent_header_val (version_number minor) credential)
    ≡ Some (header_tree minor (authentication_trees (option_map credential_of credential)))
header_is minor None = refl
header_is minor (Some a) = for_values minor (a.0).0 (a.0).1

-- the bytes of the header are those of its tree
pub header_bytes : (minor : ℕ) (credential : Option Authentication) →
    bytes_of request_header REQUEST_HEADER (lent_header_val (version_number minor) credential)
    ≡ bytes (header_tree minor (authentication_trees (option_map credential_of credential)))
header_bytes minor credential = ap (λ tree. option_and_then bytes tree) (header_is minor credential)

-- what the length of the header says: that it has no bytes, or that it has a form and of which size
no_bytes : (o : Option (List ℕ)) → None ≡ option_map length o → o ≡ None
no_bytes None h = refl
no_bytes (Some b) h = absurd (cc)

pub no_length : (shape : Shape) (tag : ℕ) (val : Val) (len : Option ℕ) → len ≡ wire_len_of shape val
    → len ≡ None → bytes_of shape tag val ≡ None
no_length shape tag val len h missing =
    no_bytes (bytes_of shape tag val) (sym missing ∙ (h ∙ wire_len_law shape tag val))

pub form_of_length : (shape : Shape) (val : Val) (len : Option ℕ) → len ≡ wire_len_of shape val
    → IfSome len (λ _. HasForm shape val)
form_of_length shape val None h = tt
form_of_length shape val (Some n) h = (value_known val NoCase shape n (sym h)).0

pub size_of_length : (shape : Shape) (val : Val) (len : Option ℕ) → len ≡ wire_len_of shape val
    → IfSome len (λ n. n ≡ size_of shape val)
size_of_length shape val None h = tt
size_of_length shape val (Some n) h = sym ((value_known val NoCase shape n (sym h)).1)

-- ---- the message as it is written

bytes_aligned : (o : Option Tree) (b : List ℕ) → option_and_then bytes o ≡ Some b → length b % 8 ≡ 0
bytes_aligned None b is = absurd (cc)
bytes_aligned (Some tree) b is = aligned tree b is

-- round a header, and whatever follows the operation in the batch item
parts_ok : (val : Val) (n : ℕ) (payload : List ℕ) (message item size : ℕ) (a b : Room)
    → HasForm request_header val → length payload % 8 ≡ 0 →
    message ≡ size_of request_header val + (8 + (16 + length payload)) → item ≡ 16 + length payload
    → message < 2 ^ 32 → a.bytes ≡ [] →
    Appends a b (structure_head REQUEST_MESSAGE message
    ++ (text_of request_header REQUEST_HEADER val
    ++ (structure_head BATCH_ITEM item ++ (leaf_text OPERATION (enumeration n) ++ payload))))
    size →
    message_bytes (bytes_of request_header REQUEST_HEADER val) n (Some payload) ≡ Some b.bytes
parts_ok val n payload message item size a b form even long short small empty appends =
    let header : List ℕ = text_of request_header REQUEST_HEADER val in
    let has = written val NoCase request_header REQUEST_HEADER form in
    let whole : List ℕ = structure_head REQUEST_MESSAGE message
    ++ (header ++ (structure_head BATCH_ITEM item
    ++ (leaf_text OPERATION (enumeration n) ++ payload))) in
    let is : b.bytes ≡ whole = appends.bytes ∙ ap (λ l. l ++ whole) empty in
    ap (λ o. message_bytes o n (Some payload)) has.0
    ∙ (message_written header payload n message item
    (bytes_aligned (tree_of request_header REQUEST_HEADER val) header has.0) even
    (long ∙ ap (λ k. k + (8 + (16 + length payload))) (sym has.1)) short small
    ∙ ap Some (sym is))

parts_no_form : (val : Val) (n : ℕ) (payload : List ℕ) (header : ℕ)
    → HasForm request_header val → length payload % 8 ≡ 0 → header ≡ size_of request_header val
    → 2 ^ 32 ≤ header + (8 + (16 + length payload)) →
    message_bytes (bytes_of request_header REQUEST_HEADER val) n (Some payload) ≡ None
parts_no_form val n payload header form even size long =
    let has = written val NoCase request_header REQUEST_HEADER form in
    ap (λ o. message_bytes o n (Some payload)) has.0
    ∙ message_too_long (text_of request_header REQUEST_HEADER val) payload n even
    (omega (arith, has.1, size))

-- an ID and a payload
id_and_payload : (id : Option (List ℕ)) (payload : List ℕ) (before : ℕ) → IsIdOf id before →
    length (id_text id ++ payload) ≡ before + length payload
id_and_payload id payload before has =
    length-append (id_text id) payload ∙ ap (λ k. k + length payload) has.len

pub message_ok : (val : Val) (n : ℕ) (id : Option (List ℕ)) (payload : List ℕ)
    (before message item size : ℕ) (a b : Room)
    → HasForm request_header val → id_len id ≡ Some before → length payload % 8 ≡ 0 →
    message ≡ size_of request_header val + (8 + (16 + (before + length payload)))
    → item ≡ 16 + (before + length payload) → message < 2 ^ 32 → a.bytes ≡ [] →
    Appends a b (structure_head REQUEST_MESSAGE message
    ++ (text_of request_header REQUEST_HEADER val
    ++ (structure_head BATCH_ITEM item
    ++ (leaf_text OPERATION (enumeration n) ++ (id_text id ++ payload)))))
    size →
    message_bytes (bytes_of request_header REQUEST_HEADER val) n
    (in_order (id_bytes id) (Some payload)) ≡ Some b.bytes
message_ok val n id payload before message item size a b form is even long short small empty appends =
    let has : IsIdOf id before = id_of_len id before is in
    let both : length (id_text id ++ payload) ≡ before + length payload = id_and_payload id payload before has in
    ap (λ o. message_bytes (bytes_of request_header REQUEST_HEADER val) n (in_order o (Some payload))) has.bytes_are
    ∙ parts_ok val n (id_text id ++ payload) message item size a b form
    (omega (arith, both, even, has.even))
    (long ∙ ap (λ k. size_of request_header val + (8 + (16 + k))) (sym both))
    (short ∙ ap (λ k. 16 + k) (sym both)) small empty appends

pub message_no_form : (val : Val) (n : ℕ) (id : Option (List ℕ)) (payload : List ℕ) (before header : ℕ)
    → HasForm request_header val → id_len id ≡ Some before → length payload % 8 ≡ 0
    → header ≡ size_of request_header val
    → 2 ^ 32 ≤ header + (8 + (16 + (before + length payload))) →
    message_bytes (bytes_of request_header REQUEST_HEADER val) n
    (in_order (id_bytes id) (Some payload)) ≡ None
message_no_form val n id payload before header form is even size long =
    let has : IsIdOf id before = id_of_len id before is in
    let both : length (id_text id ++ payload) ≡ before + length payload = id_and_payload id payload before has in
    ap (λ o. message_bytes (bytes_of request_header REQUEST_HEADER val) n (in_order o (Some payload))) has.bytes_are
    ∙ parts_no_form val n (id_text id ++ payload) header form
    (omega (arith, both, even, has.even)) size (omega (arith, long, both))

-- ---- levels

password_levels : (password : Option (List ℕ)) → levels_of_all (trees_of (password_trees password)) ≤ 1
password_levels None = omega arith
password_levels (Some password) = omega arith

credential_levels : (c : Option TheCredential) → levels_of_all (trees_of (authentication_trees c)) ≤ 4
credential_levels None = omega arith
credential_levels (Some (UsernameAndPassword c)) = omega (arith, password_levels c.password)

header_levels : (minor : ℕ) (c : Option TheCredential)
    → levels (header_tree minor (authentication_trees c)) ≤ 5
header_levels minor c =
    let rest : levels_of_all (trees_of (authentication_trees c ++ scalar BATCH_COUNT (integer (pos 1)) ∷ [])) ≤ 4 =
    append_within (authentication_trees c) (scalar BATCH_COUNT (integer (pos 1))) 4 (credential_levels c) (omega arith) in
    omega (arith, rest)

-- the message is of at most 64 levels where the payload is of at most 62
message_levels : (header payload : Tree) (n : ℕ) (id : Option (List ℕ)) → levels header ≤ 5
    → nat_le (levels payload) 62 ≡ is_message (identified_tree header n id payload)
message_levels header payload n None small =
    elim (cases_lt (levels payload) 63) [
      | inl within ↦
          le-leb (levels payload) 62 (omega (arith, within))
          ∙ sym (le-leb (levels (identified_tree header n None payload)) 64 (omega (arith, within, small)))
      | inr past ↦
          lt-leb (levels payload) 62 (omega (arith, past))
          ∙ sym (lt-leb (levels (identified_tree header n None payload)) 64 (omega (arith, past)))
    ]
message_levels header payload n (Some id) small =
    elim (cases_lt (levels payload) 63) [
      | inl within ↦
          le-leb (levels payload) 62 (omega (arith, within))
          ∙ sym (le-leb (levels (identified_tree header n (Some id) payload)) 64 (omega (arith, within, small)))
      | inr past ↦
          lt-leb (levels payload) 62 (omega (arith, past))
          ∙ sym (lt-leb (levels (identified_tree header n (Some id) payload)) 64 (omega (arith, past)))
    ]

-- ---- the request

nothing_before : (o : Option (List ℕ)) → in_order (Some []) o ≡ o
nothing_before None = refl
nothing_before (Some b) = refl

in_order_assoc : (a b c : Option (List ℕ)) → in_order (in_order a b) c ≡ in_order a (in_order b c)
in_order_assoc None b c = refl
in_order_assoc (Some a) None c = refl
in_order_assoc (Some a) (Some b) None = refl
in_order_assoc (Some a) (Some b) (Some c) = ap Some (append_assoc a b c)

-- the bytes of a message are those of its header, its ID and its payload
identified_is : (header payload : Tree) (n : ℕ) (id : Option (List ℕ)) →
    message_bytes (bytes header) n (in_order (id_bytes id) (bytes payload))
    ≡ bytes (identified_tree header n id payload)
identified_is header payload n None = ap (message_bytes (bytes header) n) (nothing_before (bytes payload))
identified_is header payload n (Some id) =
    ap (λ o. structure_bytes REQUEST_MESSAGE (in_order (bytes header) (in_order (structure_bytes BATCH_ITEM
    (in_order (bytes (scalar OPERATION (enumeration n))) o)) (Some []))))
    (in_order_assoc (bytes (scalar UNIQUE_BATCH_ITEM_ID (byte_string id))) (bytes payload) (Some []))

-- the request is the message round its ID and its payload's bytes
request_is : (operation : Operation) (version : Version) (credential : Option Authentication)
    (id : Option (List ℕ)) (payload : Tree) →
    message_bytes (bytes_of request_header REQUEST_HEADER
    (lent_header_val (version_number (minor_number version)) credential))
    (operation_line operation).number (in_order (id_bytes id) (bytes payload))
    ≡ bytes (operation_tree operation version (option_map credential_of credential) id payload)
request_is operation version credential id payload =
    ap (λ o. message_bytes o (operation_line operation).number (in_order (id_bytes id) (bytes payload)))
    (header_bytes (minor_number version) credential)
    ∙ identified_is (header_tree (minor_number version) (authentication_trees (option_map credential_of credential)))
    payload (operation_line operation).number id

-- which is sent where the payload has at most 62 levels, and has no bytes where it has more
within_is : (request : TreeRequest) (c : Option TheCredential) (within : Bool)
    → within ≡ nat_le (levels request.payload) 62 →
    operation_bytes request c
    ≡ cond within (bytes (operation_tree request.operation request.version c request.id request.payload)) None
within_is request c within is =
    ap (λ (b : Bool). cond b (bytes (operation_tree request.operation request.version c request.id request.payload)) None)
    (sym (is ∙ message_levels (header_tree (minor_number request.version) (authentication_trees c))
    request.payload (operation_line request.operation).number request.id
    (header_levels (minor_number request.version) c)))

pub too_deep : (request : TreeRequest) (c : Option TheCredential)
    → false ≡ nat_le (levels request.payload) 62 → operation_bytes request c ≡ None
too_deep request c is = within_is request c false is

-- a payload without bytes is of no message
none_after : (o : Option (List ℕ)) → in_order o None ≡ None
none_after None = refl
none_after (Some b) = refl

pub no_payload : (request : TreeRequest) (credential : Option Authentication)
    → true ≡ nat_le (levels request.payload) 62 → bytes request.payload ≡ None
    → operation_bytes request (option_map credential_of credential) ≡ None
no_payload request credential within is =
    within_is request (option_map credential_of credential) true within
    ∙ sym (request_is request.operation request.version credential request.id request.payload)
    ∙ ap (λ o. message_bytes (bytes_of request_header REQUEST_HEADER
    (lent_header_val (version_number (minor_number request.version)) credential))
    (operation_line request.operation).number o)
    (ap (in_order (id_bytes request.id)) is ∙ none_after (id_bytes request.id))
    ∙ no_bytes_in _ (operation_line request.operation).number

pub sent_is : (request : TreeRequest) (credential : Option Authentication)
    (made : ProtocolVersion) (blob sent : List ℕ)
    → true ≡ nat_le (levels request.payload) 62
    → made ≡ version_number (minor_number request.version) → bytes request.payload ≡ Some blob
    → sent ≡ blob →
    message_bytes (bytes_of request_header REQUEST_HEADER (lent_header_val made credential))
    (operation_line request.operation).number (in_order (id_bytes request.id) (Some sent))
    ≡ operation_bytes request (option_map credential_of credential)
sent_is request credential made blob sent within in_version written same =
    ap (λ (v : ProtocolVersion). message_bytes
    (bytes_of request_header REQUEST_HEADER (lent_header_val v credential))
    (operation_line request.operation).number (in_order (id_bytes request.id) (Some sent))) in_version
    ∙ (ap (λ o. message_bytes (bytes_of request_header REQUEST_HEADER
    (lent_header_val (version_number (minor_number request.version)) credential))
    (operation_line request.operation).number (in_order (id_bytes request.id) o)) (ap Some same ∙ sym written)
    ∙ (request_is request.operation request.version credential request.id request.payload
    ∙ sym (within_is request (option_map credential_of credential) true within)))

-- ---- each request parses

operation_test : (x : Operation) → nat_lt (operation_line x).number (2 ^ 32) ≡ true
operation_test x = search rules

minor_small : (version : Version) → minor_number version ≤ 2
minor_small V1_0 = omega arith
minor_small V1_1 = omega arith
minor_small V1_2 = omega arith

password_ranges : (password : Option (List ℕ)) → IfSome password (λ p. IsUtf8 p)
    → HaveRanges (trees_of (password_trees password))
password_ranges None h = tt
password_ranges (Some p) h = ((omega arith, h), tt)

credential_ranges : (c : Option TheCredential) → FitsCredential c → HaveRanges (trees_of (authentication_trees c))
credential_ranges None h = tt
credential_ranges (Some (UsernameAndPassword c)) h =
    let value : HasRanges (structure CREDENTIAL_VALUE
    (trees_of (scalar USERNAME (text_string c.username) ∷ password_trees c.password))) =
    (omega arith, ((omega arith, h.0), password_ranges c.password h.1)) in
    ((omega arith, ((omega arith, ((omega arith, omega arith), (value, tt))), tt)), tt)

append_ranges : (trees : List Tree) (tree : Tree) → HaveRanges (trees_of trees) → HasRanges tree
    → HaveRanges (trees_of (trees ++ tree ∷ []))
append_ranges [] tree all one = (one, tt)
append_ranges (t ∷ trees) tree all one = (all.0, append_ranges trees tree all.1 one)

-- a small number fits the four bytes of an Integer
small_fits : (n : ℕ) → n ≤ 2 → FitsSigned w32 (pos n)
small_fits n h = omega (arith, ints, h)

header_ranges : (minor : ℕ) (c : Option TheCredential) → minor ≤ 2 → FitsCredential c
    → HasRanges (header_tree minor (authentication_trees c))
header_ranges minor c small fits =
    let version : HasRanges (structure PROTOCOL_VERSION
    (trees_of (scalar PROTOCOL_VERSION_MAJOR (integer (pos 1)) ∷
    scalar PROTOCOL_VERSION_MINOR (integer (pos minor)) ∷ []))) =
    (omega arith, ((omega arith, small_fits 1 (omega arith)), ((omega arith, small_fits minor small), tt))) in
    let rest : HaveRanges (trees_of (authentication_trees c ++ scalar BATCH_COUNT (integer (pos 1)) ∷ [])) =
    append_ranges (authentication_trees c) (scalar BATCH_COUNT (integer (pos 1))) (credential_ranges c fits)
    (omega arith, small_fits 1 (omega arith)) in
    (omega arith, (version, rest))

message_ranges : (header payload : Tree) (n : ℕ) (id : Option (List ℕ)) → HasRanges header
    → IfSome id AreBytes → HasRanges payload → n < 2 ^ 32
    → HasRanges (identified_tree header n id payload)
message_ranges header payload n None h i p small =
    (omega arith, (h, ((omega arith, ((omega arith, small), (p, tt))), tt)))
message_ranges header payload n (Some id) h i p small =
    (omega arith, (h, ((omega arith, ((omega arith, small), ((omega arith, i), (p, tt)))), tt)))

tree_ranges : (request : TreeRequest) (c : Option TheCredential) → FitsCredential c
    → IfSome request.id AreBytes → HasRanges request.payload
    → HasRanges (operation_tree request.operation request.version c request.id request.payload)
tree_ranges request c fits id ranges =
    message_ranges (header_tree (minor_number request.version) (authentication_trees c)) request.payload
    (operation_line request.operation).number request.id
    (header_ranges (minor_number request.version) c (minor_small request.version) fits) id ranges
    (ltb-true (operation_line request.operation).number (2 ^ 32) (operation_test request.operation))

bytes_parse : (tree : Tree) (b : List ℕ) (within : Bool) → HasRanges tree → nat_le (levels tree) 64 ≡ within
    → cond within (bytes tree) None ≡ Some b → Parses tree 1 b
bytes_parse tree b false ranges same is = absurd (cc)
bytes_parse tree b true ranges same is =
    written_parses tree 1 b ranges (omega arith) (omega (arith, leb-true (levels tree) 64 same)) is

-- the message is a structure, so it may be sent where it is of at most 64 levels
by_levels : (header payload : Tree) (n : ℕ) (id : Option (List ℕ)) →
    nat_le (levels (identified_tree header n id payload)) 64
    ≡ is_message (identified_tree header n id payload)
by_levels header payload n None = refl
by_levels header payload n (Some id) = refl

pub each_parses : (request : TreeRequest) (c : Option TheCredential) (b : List ℕ) → FitsCredential c
    → IfSome request.id AreBytes → HasRanges request.payload → operation_bytes request c ≡ Some b
    → Parses (operation_tree request.operation request.version c request.id request.payload) 1 b
each_parses request c b fits id ranges is =
    bytes_parse (operation_tree request.operation request.version c request.id request.payload) b
    (is_message (operation_tree request.operation request.version c request.id request.payload))
    (tree_ranges request c fits id ranges)
    (by_levels (header_tree (minor_number request.version) (authentication_trees c)) request.payload
    (operation_line request.operation).number request.id)
    is
