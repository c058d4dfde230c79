-- What bytes are read as, by values: a plain message holds the request of its payload, and no other holds one.
use Rattle.std.proofs.Common.{◌≡◌, ℕ, ◌==◌, ◌&&◌, ℤ, pos, Bool, true, false, cond, List, [], ◌∷◌, Option, Some, None, refl, sym, ◌∙◌, ap, subst, ◌⊎◌, inl, inr, arith}
use Rattle.kmip_tags.specs.Tags.{REQUEST_MESSAGE, REQUEST_PAYLOAD}
use Rattle.std.specs.Bool.{Decides}
use Rattle.std.specs.Option.{option_map, option_and_then}
use Rattle.std.specs.Ordering.{int_eq}
use Rattle.std.specs.Prelude.{bytes_eq, Result, Err}
use Rattle.std.proofs.lemmas.Bool.Decides.{Decides-int_eq, Decides-eqb}
use Rattle.std.proofs.lemmas.Slice.Eq.{bytes_eq-Decides}
use Rattle.kmip_wire.specs.Tree.{Tree}
use Rattle.kmip_wire.specs.Parses.{IsLevel, Parses}
use Rattle.kmip_wire.specs.Bytes.{bytes}
use Rattle.kmip_wire.specs.Reading.{item_of}
use Rattle.kmip_wire.proofs.Computed.{tree_computed}
use Rattle.kmip_shape.specs.Val.{Val, Case, Number, Record, Absent, One, NoField, AndField}
use Rattle.kmip_shape.specs.Trees.{tree_of}
use Rattle.kmip_shape.specs.Reads.{root_read}
use Rattle.kmip_shape.specs.Writes.{bytes_of}
use Rattle.kmip_wire.specs.Same.{same_tree-sound, same_tree-refl}
use Rattle.kmip_shape.specs.Enumerations.{variant_at}
use Rattle.kmip_enums.specs.Operations.{operation_line, operation_variants, operation_found, operation_same}
use Rattle.kmip_enums.specs.declared.operation.Operation.{Operation}
use Rattle.kmip_types.specs.declared.auth.CredentialType.{CredentialType}
use Rattle.kmip_types.specs.TheUniqueBatchItemID.{UniqueBatchItemID}
use Rattle.kmip_request.specs.declared.authentication.Authentication.{Authentication}
use Rattle.kmip_request.specs.declared.header.ProtocolVersion.{ProtocolVersion}
use Rattle.kmip_request.specs.declared.header.RequestHeader.{RequestHeader}
use Rattle.kmip_request.specs.declared.numbers.BatchCount.{BatchCount}
use Rattle.kmip_request.specs.declared.numbers.MaximumResponseSize.{MaximumResponseSize}
use Rattle.kmip_request.specs.declared.message.BatchItem.{BatchItem}
use Rattle.kmip_request.specs.declared.message.RequestMessage.{RequestMessage}
use Rattle.kmip_request.specs.declared.payload.RequestPayload.{RequestPayload}
use Rattle.kmip_request.specs.declared.payload.RequestPayload.TheVariants.{Create, CreateKeyPair, Register, Locate, Get, GetAttributes, GetAttributeList, AddAttribute, ModifyAttribute, DeleteAttribute, Activate, Revoke, Destroy, Query, DiscoverVersions, Sign, RNGRetrieve}
use Rattle.kmip_request.specs.Tables.{request_message, request_payload}
use Rattle.kmip_request.specs.Values.{request_payload_val, request_header_val, batch_item_val, request_message_val}
use Rattle.kmip_request.specs.Message.{operation_of, minor_of, version_of, request_bytes, authentication_trees, header_tree, message_tree}
use Rattle.kmip_request_read.specs.Message.{message_of, IsClientMessage, IsCanonical, IsWrittenAs}
use Rattle.kmip_request.specs.Fits.{FitsRequest}
use Rattle.kmip_request_read.specs.declared.reading.RequestReadError.{RequestReadError}
use Rattle.kmip_request_read.specs.declared.reading.RequestReadError.TheVariants.{Malformed, NotCanonical}
use Rattle.kmip_request_read.specs.Matched.{IsMatched}
use Rattle.kmip_request_read.proofs.Canonical.{err_same, canonical_of, written_as, item_of as credential_item, parsed as root_of_request}
use Rattle.kmip_request_read.specs.Reading.{Request, request_for, minor_for, message_bytes, item_request, is_client_header, under_header, request_in, are_bytes, is_tree, canonical_in, request_read}

-- ---- a payload and its operation

minor_same : (p : RequestPayload) → minor_for (operation_of p) ≡ minor_of p
minor_same (Create a b) = refl
minor_same (CreateKeyPair a b c) = refl
minor_same (Register a b c) = refl
minor_same (Locate a) = refl
minor_same (Get a b c d) = refl
minor_same (GetAttributes a b) = refl
minor_same (GetAttributeList a) = refl
minor_same (AddAttribute a b) = refl
minor_same (ModifyAttribute a b) = refl
minor_same (DeleteAttribute a b c) = refl
minor_same (Activate a) = refl
minor_same (Revoke a b c) = refl
minor_same (Destroy a) = refl
minor_same (Query a) = refl
minor_same (DiscoverVersions a) = refl
minor_same (Sign a b c) = refl
minor_same (RNGRetrieve a) = refl

-- the value of a payload is the case of its operation
abbrev IsCase : RequestPayload → Type 0
IsCase p = (w : Val) × (request_payload_val p ≡ Case (operation_line (operation_of p)).number w)

is_case : (p : RequestPayload) → IsCase p
is_case (Create a b) = (_, refl)
is_case (CreateKeyPair a b c) = (_, refl)
is_case (Register a b c) = (_, refl)
is_case (Locate a) = (_, refl)
is_case (Get a b c d) = (_, refl)
is_case (GetAttributes a b) = (_, refl)
is_case (GetAttributeList a) = (_, refl)
is_case (AddAttribute a b) = (_, refl)
is_case (ModifyAttribute a b) = (_, refl)
is_case (DeleteAttribute a b c) = (_, refl)
is_case (Activate a) = (_, refl)
is_case (Revoke a b c) = (_, refl)
is_case (Destroy a) = (_, refl)
is_case (Query a) = (_, refl)
is_case (DiscoverVersions a) = (_, refl)
is_case (Sign a b c) = (_, refl)
is_case (RNGRetrieve a) = (_, refl)

-- the canonical message of a payload is that of its request
pub bytes_same : (p : RequestPayload) (c : Option CredentialType) → request_bytes p c ≡ message_bytes (request_for p) c
bytes_same p c =
    ap (λ (n : ℕ). option_and_then bytes
    (option_map (message_tree (header_tree n (authentication_trees c))
    (operation_line (operation_of p)).number)
    (tree_of request_payload REQUEST_PAYLOAD (request_payload_val p)))) (sym (minor_same p))

-- ---- a batch item

-- an item without an identifier, of the operation with this number and this value of a payload
abbrev item_with : ℕ → Val → Val
item_with n payload = Record (AndField (One (Number (pos n))) (AndField Absent (AndField (One payload) NoField)))

number_of : RequestPayload → ℕ
number_of p = (operation_line (operation_of p)).number

abbrev found_by : ℕ → ℕ → Val → Option Request
found_by n m w = cond (m == n)
    (option_map (λ operation. record { operation = operation; payload = Case m w })
    (variant_at operation_line operation_variants n)) None

own_item : (p : RequestPayload) → item_request
    (item_with (operation_line (operation_of p)).number (request_payload_val p))
    ≡ Some (request_for p)
own_item p =
    let k = is_case p in
    let n = (operation_line (operation_of p)).number in
    let same : (n == n) ≡ true = (Decides-eqb n n).1 refl in
    let found : found_by n n k.0 ≡ Some
    (record { operation = operation_of p; payload = Case n k.0 }) =
    rw (same, operation_found (operation_of p)) refl in
    subst (λ (v : Val). item_request (item_with n v)
    ≡ Some (record { operation = operation_of p; payload = v })) (sym k.1) found

other_item : (o : Operation) (p : RequestPayload) → (o ≡ operation_of p → ⊥)
    → item_request (item_with (operation_line o).number (request_payload_val p)) ≡ None
other_item o p other =
    let k = is_case p in
    let n = (operation_line o).number in
    let m = (operation_line (operation_of p)).number in
    subst (λ (v : Val). item_request (item_with n v) ≡ None) (sym k.1) (go k.0 (m == n) refl)
  where
    go : (w : Val) (b : Bool) → ((operation_line (operation_of p)).number ==
        (operation_line o).number) ≡ b → found_by (operation_line o).number
        (operation_line (operation_of p)).number w ≡ None
    go w true h =
        let same = (Decides-eqb (operation_line (operation_of p)).number (operation_line o).number).0 h in
        absurd (other (operation_same o (operation_of p) (ap (λ (n : ℕ). Number (pos n)) (sym same))))
    go w false h = rw h refl

-- ---- a header

abbrev pub plain_test : ℕ → ℤ → ℤ → ℤ → Bool
plain_test minor major own count = int_eq major (pos 1) && (int_eq own (pos minor) && int_eq count (pos 1))

plain_passes : (minor : ℕ) → plain_test minor (pos 1) (pos minor) (pos 1) ≡ true
plain_passes minor =
    let e : int_eq (pos minor) (pos minor) ≡ true =
    (Decides-int_eq (pos minor) (pos minor)).1 refl in rw e refl

pub both : (a b : Bool) → (a && b) ≡ true → (a ≡ true) × (b ≡ true)
both true b h = (refl, h)
both false b h = absurd (cc)

pub plain_says : (minor : ℕ) (major own count : ℤ) → plain_test minor major own count ≡ true
    → (major ≡ pos 1) × (own ≡ pos minor) × (count ≡ pos 1)
plain_says minor major own count h =
    let p = both (int_eq major (pos 1)) (int_eq own (pos minor) && int_eq count (pos 1)) h in
    let q = both (int_eq own (pos minor)) (int_eq count (pos 1)) p.1 in
    ((Decides-int_eq major (pos 1)).0 p.0, (Decides-int_eq own (pos minor)).0 q.0, (Decides-int_eq count (pos 1)).0 q.1)

-- ---- a message

plain_request : (p : RequestPayload) (a : Option Authentication)
    → request_in (request_message_val (message_of p a)) ≡ Some (request_for p)
plain_request p a =
    let header : Val = request_header_val (record { 0 = version_of p; 1 = None; 2 = a; 3 = record { 0 = pos 1 } }) in
    let plain : is_client_header (minor_for (operation_of p)) header ≡ true =
    subst (λ (n : ℕ). plain_test n (pos 1) (pos (minor_of p)) (pos 1) ≡ true) (sym (minor_same p))
    (plain_passes (minor_of p)) in
    let under : under_header header (Some (request_for p)) ≡ Some (request_for p) = rw plain refl in
    ap (under_header header) (own_item p) ∙ under

-- a message of one batch item, by its parts
abbrev parts_of : ProtocolVersion → Option MaximumResponseSize → Option Authentication → BatchCount
    → Operation → Option UniqueBatchItemID → RequestPayload → RequestMessage
parts_of version size a count o id p =
    record {
      0 = record { 0 = version; 1 = size; 2 = a; 3 = count };
      1 =
          record { 0 = o; 1 = id; 2 = p } ∷ [];
    }

not_under : (header : Val) (request : Request)
    → is_client_header (minor_for request.operation) header ≡ false
    → under_header header (Some request) ≡ None
not_under header request h = rw h refl

-- the header does not pass, where the message is not plain
not_plain : (version : ProtocolVersion) (a : Option Authentication) (count : BatchCount)
    (p : RequestPayload) → (IsClientMessage (parts_of version None a count (operation_of p) None p)
    → ⊥)
    → (b : Bool) → plain_test (minor_for (operation_of p)) (version.0).0 (version.1).0 count.0 ≡ b → b ≡ false
not_plain version a count p other false h = refl
not_plain version a count p other true h =
    let s = plain_says (minor_for (operation_of p)) (version.0).0 (version.1).0 count.0 h in
    let minor : (version.1).0 ≡ pos (minor_of p) = s.1 ∙ ap pos (minor_same p) in
    absurd (other (
      p,
      a,
      λ i. parts_of
          (record { 0 = record { 0 = s.0 i }; 1 = record { 0 = minor i } }) None a
          (record { 0 = s.2 i }) (operation_of p) None p,
    ))

other_parts : (version : ProtocolVersion) (size : Option MaximumResponseSize)
    (a : Option Authentication) (count : BatchCount) (o : Operation) (id : Option UniqueBatchItemID)
    (p : RequestPayload)
    → (IsClientMessage (parts_of version size a count o id p) → ⊥)
    → ((o ≡ operation_of p) ⊎ (o ≡ operation_of p → ⊥))
    → request_in (request_message_val (parts_of version size a count o id p)) ≡ None
other_parts version size a count o (Some id) p other same = refl
other_parts version size a count o None p other (inr differs) =
    ap (under_header (request_header_val (record { 0 = version; 1 = size; 2 = a; 3 = count }))) (other_item o p differs)
other_parts version (Some size) a count o None p other (inl same) =
    let header : Val = request_header_val (record { 0 = version; 1 = Some size; 2 = a; 3 = count }) in
    let own : item_request (item_with (operation_line o).number (request_payload_val p))
    ≡ Some (request_for p) = subst
    (λ (x : Operation). item_request
    (item_with (operation_line x).number (request_payload_val p)) ≡ Some (request_for p))
    (sym same) (own_item p) in
    ap (under_header header) own ∙ not_under header (request_for p) refl
other_parts version None a count o None p other (inl same) =
    let header : Val = request_header_val (record { 0 = version; 1 = None; 2 = a; 3 = count }) in
    let own : item_request (item_with (operation_line o).number (request_payload_val p))
    ≡ Some (request_for p) = subst
    (λ (x : Operation). item_request
    (item_with (operation_line x).number (request_payload_val p)) ≡ Some (request_for p))
    (sym same) (own_item p) in
    let other' : IsClientMessage (parts_of version None a count (operation_of p) None p) → ⊥ =
    subst (λ (x : Operation). IsClientMessage (parts_of version None a count x None p) → ⊥)
    same other in
    let fails = not_plain version a count p other'
    (plain_test (minor_for (operation_of p)) (version.0).0 (version.1).0 count.0) refl in
    ap (under_header header) own ∙ not_under header (request_for p) fails

same_or_not : (o p : Operation) → (o ≡ p) ⊎ (o ≡ p → ⊥)
same_or_not o p = go ((operation_line o).number == (operation_line p).number) refl
  where
    go : (b : Bool) → ((operation_line o).number == (operation_line p).number) ≡ b → (o ≡ p) ⊎ (o ≡ p → ⊥)
    go true h = inl (operation_same o p
        (ap (λ (n : ℕ). Number (pos n))
        ((Decides-eqb (operation_line o).number (operation_line p).number).0 h)))
    go false h = inr (λ is. let k : true ≡ false =
        sym ((Decides-eqb (operation_line o).number (operation_line p).number).1
        (ap (λ (x : Operation). (operation_line x).number) is)) ∙ h in cc)

other_items : (header : RequestHeader) (items : List BatchItem)
    → (IsClientMessage (record { 0 = header; 1 = items }) → ⊥)
    → request_in (request_message_val (record { 0 = header; 1 = items })) ≡ None
other_items header [] other = refl
other_items header (item ∷ []) other =
    other_parts header.0 header.1 header.2 header.3 item.0 item.1 item.2 other
    (same_or_not item.0 (operation_of item.2))
other_items header (item ∷ next ∷ items) other = refl

other_request : (m : RequestMessage) → (IsClientMessage m → ⊥) → request_in (request_message_val m) ≡ None
other_request m other = other_items m.0 m.1 other

-- ---- the bytes

pub first_level : IsLevel 1
first_level = (omega arith, omega arith)

parsed : (root : Tree) (b : List ℕ) → Parses root 1 b → item_of 64 b ≡ Some root
parsed root b p = (tree_computed root 1 b first_level).1 p

both_hold : (x y : Bool) → x ≡ true → y ≡ true → (x && y) ≡ true
both_hold x y p q = rw (p, q) refl

written : (b : List ℕ) (root : Tree) (message : Val)
    → tree_of request_message REQUEST_MESSAGE message ≡ Some root → bytes root ≡ Some b
    → canonical_in b root message ≡ request_in message
written b root message t h =
    let e : is_tree root (tree_of request_message REQUEST_MESSAGE message) ≡ true =
    ap (is_tree root) t ∙ same_tree-refl root in
    let f : are_bytes b (bytes root) ≡ true = ap (are_bytes b) h ∙ (bytes_eq-Decides b b).1 refl in
    let g : (is_tree root (tree_of request_message REQUEST_MESSAGE message)
    && are_bytes b (bytes root)) ≡ true = both_hold _ _ e f in rw g refl

-- where a message is canonical, what is read is what it holds
pub held : (root : Tree) (b : List ℕ) (message : Val) → Parses root 1 b
    → IsCanonical request_message REQUEST_MESSAGE root b message
    → request_read b ≡ request_in message
unfolding request_read
held root b message p c =
    let P : Option Val → Type 0 = λ o. option_and_then (canonical_in b root) o ≡ request_in message in
    let Q : Option Tree → Type 0 = λ o.
    option_and_then (λ tree. option_and_then (canonical_in b tree)
    (root_read request_message REQUEST_MESSAGE tree)) o ≡ request_in message in
    let tree : tree_of request_message REQUEST_MESSAGE message ≡ Some root = written_as message root b c.0 c.2 p in
    let own : bytes root ≡ Some b = sym (ap (λ (o : Option Tree). option_and_then bytes o) tree) ∙ c.2 in
    subst Q (sym (parsed root b p)) (subst P (sym c.1) (written b root message tree own))

pub plain_read : (m : RequestMessage) (p : RequestPayload) (a : Option Authentication) (root : Tree)
    (b : List ℕ) → m ≡ message_of p a → Parses root 1 b
    → IsCanonical request_message REQUEST_MESSAGE root b (request_message_val m)
    → request_read b ≡ Some (request_for p)
plain_read m p a root b is parses c =
    held root b (request_message_val m) parses c
    ∙ (ap (λ (x : RequestMessage). request_in (request_message_val x)) is ∙ plain_request p a)

pub other_read : (m : RequestMessage) (root : Tree) (b : List ℕ) → Parses root 1 b
    → IsCanonical request_message REQUEST_MESSAGE root b (request_message_val m)
    → (IsClientMessage m → ⊥) → request_read b ≡ None
other_read m root b parses c other = held root b (request_message_val m) parses c ∙ other_request m other

pub are_bytes_says : (b : List ℕ) (o : Option (List ℕ)) → are_bytes b o ≡ true → o ≡ Some b
are_bytes_says b None h = absurd (cc)
are_bytes_says b (Some c) h = ap (λ (x : List ℕ). Some x) ((bytes_eq-Decides c b).0 h)

pub is_tree_says : (root : Tree) (o : Option Tree) → is_tree root o ≡ true → o ≡ Some root
is_tree_says root None h = absurd (cc)
is_tree_says root (Some t) h = ap (λ (x : Tree). Some x) (same_tree-sound t root h)

not_written : (b : List ℕ) (root : Tree) (message : Val)
    → (tree_of request_message REQUEST_MESSAGE message ≡ Some root → bytes root ≡ Some b → ⊥)
    → (t : Bool) →
    (is_tree root (tree_of request_message REQUEST_MESSAGE message) && are_bytes b (bytes root)) ≡ t → t ≡ false
not_written b root message none false h = refl
not_written b root message none true h =
    let p = both (is_tree root (tree_of request_message REQUEST_MESSAGE message)) (are_bytes b (bytes root)) h in
    absurd (none (is_tree_says root _ p.0) (are_bytes_says b _ p.1))

-- where no value is written as the bytes that it is read from, nothing is read
pub none_read : (root : Tree) (b : List ℕ) → Parses root 1 b
    → ((val : Val) → IsWrittenAs request_message REQUEST_MESSAGE root b val → ⊥)
    → request_read b ≡ None
unfolding request_read
none_read root b p none =
    let Q : Option Tree → Type 0 = λ o.
    option_and_then (λ tree. option_and_then (canonical_in b tree)
    (root_read request_message REQUEST_MESSAGE tree)) o ≡ None in
    subst Q (sym (parsed root b p)) (go (root_read request_message REQUEST_MESSAGE root) refl)
  where
    go : (o : Option Val) → root_read request_message REQUEST_MESSAGE root ≡ o
        → option_and_then (canonical_in b root) o ≡ None
    go None h = refl
    go (Some val) h =
        let e : (is_tree root (tree_of request_message REQUEST_MESSAGE val) && are_bytes b (bytes root)) ≡ false =
        not_written b root val (λ tree own.
        none val (h, ap (λ (o : Option Tree). option_and_then bytes o) tree ∙ own)) _ refl in
        rw e refl

-- where the bytes are no item, nothing is read
pub no_item : (b : List ℕ) → ((t : Tree) → Parses t 1 b → ⊥) → request_read b ≡ None
unfolding request_read
no_item b none = go (item_of 64 b) refl
  where
    go : (o : Option Tree) → item_of 64 b ≡ o
        → option_and_then (λ tree. option_and_then (canonical_in b tree)
        (root_read request_message REQUEST_MESSAGE tree)) o ≡ None
    go None h = refl
    go (Some t) h = absurd (none t ((tree_computed t 1 b first_level).0 h))

-- what was refused by a reader that does not say Malformed is not canonical
pub refusal : {A : Type 0} (r : Result A RequestReadError) (x e : RequestReadError) → r ≡ Err x
    → x ≡ e → (e ≡ Malformed → ⊥) → (r ≡ Err Malformed) ⊎ (r ≡ Err NotCanonical) → e ≡ NotCanonical
refusal r x e was same other (inl is) = absurd (other (sym same ∙ err_same r x Malformed was is))
refusal r x e was same other (inr is) = sym same ∙ err_same r x NotCanonical was is

pub request_is_read : (p : RequestPayload) (c : Option CredentialType) (b : List ℕ)
    → FitsRequest p c → IsMatched p → request_bytes p c ≡ Some b
    → request_read b ≡ Some (request_for p)
request_is_read p c b h m e =
    let root = root_of_request p c b h e in
    plain_read (message_of p (option_map credential_item c)) p
    (option_map credential_item c) root.0 b refl root.1 (canonical_of p c root.0 b h m e root.1)
