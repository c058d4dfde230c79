-- What is read as a request is matched, and the bytes are its message.
use Rattle.std.proofs.Common.{◌≡◌, ℕ, ◌==◌, ◌&&◌, pos, Bool, true, false, cond, List, [], ◌∷◌, Option, Some, None, refl, sym, ◌∙◌, ap, subst}
use Rattle.kmip_tags.specs.Tags.{AUTHENTICATION, BATCH_COUNT, BATCH_ITEM, OPERATION, PROTOCOL_VERSION, PROTOCOL_VERSION_MAJOR, PROTOCOL_VERSION_MINOR, REQUEST_HEADER, REQUEST_MESSAGE, REQUEST_PAYLOAD}
use Rattle.std.specs.Prelude.{IsSome, nat_eq}
use Rattle.std.specs.Option.{option_map, option_and_then}
use Rattle.std.specs.Cmp.{unsigned_Decides}
use Rattle.std.proofs.lemmas.Bool.Decides.{Decides-eqb}
use Rattle.kmip_wire.specs.Tree.{Tree, scalar, structure, trees_of, integer, enumeration}
use Rattle.kmip_wire.specs.Bytes.{bytes}
use Rattle.kmip_wire.specs.Reading.{item_of}
use Rattle.kmip_wire.specs.Parses.{Parses}
use Rattle.kmip_wire.proofs.Computed.{tree_computed}
use Rattle.kmip_shape.specs.Val.{Val, Field, Fields, Case, Number, Record, Absent, One, Many, NoField, AndField, NoVal, AndVal}
use Rattle.kmip_shape.specs.Shape.{Entry, NoCase, Optional, no_outer}
use Rattle.kmip_shape.specs.Enumerations.{variant_at}
use Rattle.kmip_shape.specs.Trees.{tree_of, trees_in, structure_of, then_trees, one_tree}
use Rattle.kmip_shape.specs.Reads.{read_of, root_read}
use Rattle.kmip_shape.specs.Fits.{selected_in}
use Rattle.kmip_shape.proofs.Parts.{none_some, some_same}
use Rattle.kmip_shape.proofs.Selected.{selected}
use Rattle.kmip_enums.specs.Operations.{operation_line, operation_variants}
use Rattle.kmip_enums.specs.declared.operation.Operation.{Operation}
use Rattle.kmip_types.specs.declared.auth.CredentialType.{CredentialType}
use Rattle.kmip_request.specs.declared.payload.RequestPayload.{RequestPayload}
use Rattle.kmip_request.specs.Tables.{request_message, request_header, request_payload, authentication}
use Rattle.kmip_request.specs.Message.{authentication_trees, header_tree, message_tree, request_bytes}
use Rattle.kmip_request.specs.Fits.{FitsCredential, FitsRequest}
use Rattle.kmip_request_read.specs.Matched.{under_number, IsMatchedValue, IsMatched}
use Rattle.kmip_request_read.specs.Reading.{Request, minor_for, message_bytes, item_request, is_client_header, under_header, request_in, are_bytes, is_tree, canonical_in, request_read}
use Rattle.kmip_request.proofs.Tables.{message_once}
use Rattle.kmip_request_read.proofs.Canonical.{root_of}
use Rattle.kmip_request_read.proofs.Options.{and_then_some, map_some, test_some}
use Rattle.kmip_request_read.proofs.Authentications.{FieldReads, record_read, rows_of, field_trees_are, texts_parse}
use Rattle.kmip_request_read.proofs.Read.{both, plain_says, plain_test, first_level, is_tree_says, are_bytes_says, request_is_read}

-- ---- an item

variant_number : {T : Type 0} (line : T → Entry) (xs : List T) (n : ℕ) (x : T)
    → variant_at line xs n ≡ Some x → (line x).number ≡ n
variant_number line [] n x h = none_some _ h
variant_number {T} line (y ∷ ys) n x h = go (nat_eq (line y).number n) refl h (variant_number line ys n x)
  where
    go : (b : Bool) → nat_eq (line y).number n ≡ b → cond b (Some y) (variant_at line ys n) ≡ Some x
        → (variant_at line ys n ≡ Some x → (line x).number ≡ n) → (line x).number ≡ n
    go true e k later = ap (λ (z : T). (line z).number) (sym (some_same y x k))
        ∙ (unsigned_Decides (line y).number n).0 e
    go false e k later = later k

abbrev item_of_request : Request → Val
item_of_request r = Record (AndField (One (Number (pos (operation_line r.operation).number)))
    (AndField Absent (AndField (One r.payload) NoField)))

item_says : (item : Val) (r : Request) → item_request item ≡ Some r → item ≡ item_of_request r
item_says (Record (AndField (One (Number (pos n))) (AndField Absent (AndField (One (Case m val)) NoField)))) r h =
    let made : Operation → Request = λ operation. record { operation = operation; payload = Case m val } in
    let t = test_some (m == n) (option_map made (variant_at operation_line operation_variants n)) r h in
    let o = map_some (variant_at operation_line operation_variants n) made r t.1 in
    let number : (operation_line o.0).number ≡ n = variant_number operation_line operation_variants n o.0 o.1 in
    let made_is : Record (AndField (One (Number (pos n)))
    (AndField Absent (AndField (One (Case m val)) NoField))) ≡ item_of_request (made o.0) =
    ap (λ (k : ℕ). Record (AndField (One (Number (pos k)))
    (AndField Absent (AndField (One (Case m val)) NoField)))) (sym number) in
    made_is ∙ ap item_of_request o.2
item_says _ r h = none_some _ h

-- ---- a header

abbrev header_with : ℕ → Field → Val
header_with minor credential = Record
    (AndField (One (Record (AndField (One (Number (pos 1)))
    (AndField (One (Number (pos minor))) NoField))))
    (AndField Absent (AndField credential (AndField (One (Number (pos 1))) NoField))))

header_says : (minor : ℕ) (header : Val) → is_client_header minor header ≡ true
    → (credential : Field) × (header ≡ header_with minor credential)
header_says minor (Record (AndField (One (Record (AndField (One (Number major))
    (AndField (One (Number own)) NoField))))
    (AndField Absent (AndField credential (AndField (One (Number count)) NoField))))) h =
    let s = plain_says minor major own count h in (
      credential,
      λ i. Record (AndField (One (Record (AndField (One (Number (s.0 i)))
          (AndField (One (Number (s.1 i))) NoField))))
          (AndField Absent (AndField credential (AndField (One (Number (s.2 i))) NoField)))),
    )
header_says minor _ h = absurd (cc)

-- ---- a message

abbrev message_round : Val → Val → Val
message_round header item = Record (AndField (One header) (AndField (Many (AndVal item NoVal)) NoField))

abbrev Parts : Val → Request → Type 0
Parts message r = (header : Val) × (item : Val) × (message ≡ message_round header item)
    × (under_header header (item_request item) ≡ Some r)

parts_say : (message : Val) (r : Request) → request_in message ≡ Some r → Parts message r
parts_say (Record (AndField (One header) (AndField (Many (AndVal item NoVal)) NoField))) r h = (header, item, refl, h)
parts_say _ r h = none_some _ h

under_says : (header : Val) (o : Option Request) (r : Request) → under_header header o ≡ Some r
    → (o ≡ Some r) × (is_client_header (minor_for r.operation) header ≡ true)
under_says header None r h = none_some _ h
under_says header (Some s) r h =
    let t = test_some (is_client_header (minor_for s.operation) header) (Some s) r h in
    (t.1, subst (λ (q : Request). is_client_header (minor_for q.operation) header ≡ true) (some_same s r t.1) t.0)

-- a message of a request is one round its item and a plain header
abbrev IsOf : Val → Request → Type 0
IsOf message r = (credential : Field)
    × (message ≡ message_round (header_with (minor_for r.operation) credential) (item_of_request r))

message_says : (message : Val) (r : Request) → request_in message ≡ Some r → IsOf message r
message_says message r h =
    let p = parts_say message r h in
    let u = under_says p.0 (item_request p.1) r p.3 in
    let item : p.1 ≡ item_of_request r = item_says p.1 r u.0 in
    let header = header_says (minor_for r.operation) p.0 u.1 in
    (header.0, p.2 ∙ λ i. message_round (header.1 i) (item i))

-- the tree of a message, from the trees of its credential and of its payload
abbrev message_trees : ℕ → ℕ → Option (List Tree) → Option Tree → Option Tree
message_trees minor n credential payload =
    structure_of REQUEST_MESSAGE (then_trees (one_tree (structure_of REQUEST_HEADER (then_trees
    (Some (structure PROTOCOL_VERSION
    (trees_of (scalar PROTOCOL_VERSION_MAJOR (integer (pos 1))
    ∷ scalar PROTOCOL_VERSION_MINOR (integer (pos minor)) ∷ [])) ∷ []))
    (then_trees (Some []) (then_trees credential
    (then_trees (Some (scalar BATCH_COUNT (integer (pos 1)) ∷ [])) (Some [])))))))
    (then_trees (then_trees (one_tree
    (structure_of BATCH_ITEM (then_trees (Some (scalar OPERATION (enumeration n) ∷ []))
    (then_trees (Some []) (then_trees (one_tree payload) (Some [])))))) (Some [])) (Some [])))

whole_tree : (minor n : ℕ) (credential : List Tree) (payload : Option Tree) (root : Tree)
    → message_trees minor n (Some credential) payload ≡ Some root
    → option_map (message_tree (header_tree minor credential) n) payload ≡ Some root
whole_tree minor n credential None root h = none_some _ h
whole_tree minor n credential (Some p) root h = h

message_from : (minor n : ℕ) (trees : Option (List Tree)) (c : Option CredentialType)
    (payload : Option Tree) (root : Tree) → trees ≡ Some (authentication_trees c)
    → message_trees minor n trees payload ≡ Some root
    → option_map (message_tree (header_tree minor (authentication_trees c)) n) payload ≡ Some root
message_from minor n trees c payload root same h =
    whole_tree minor n (authentication_trees c) payload root
    (subst (λ (o : Option (List Tree)). message_trees minor n o payload ≡ Some root) same h)

has_payload : (o : Option Tree) (f : Tree → Tree) (root : Tree) → option_map f o ≡ Some root → IsSome o
has_payload None f root h = none_some _ h
has_payload (Some t) f root h = refl

payload_selected : (r : Request) (credential : Field) →
    selected_in (message_round (header_with (minor_for r.operation) credential) (item_of_request r))
    NoCase request_message no_outer REQUEST_MESSAGE →
    selected_in r.payload NoCase request_payload (under_number r.operation) REQUEST_PAYLOAD
payload_selected r credential s = ((s.2).1).0.2.2.1

-- the field of the header was read in the place of an Authentication
header_read : (minor : ℕ) (credential : Field) (item : Val) (root : Tree)
    → read_of request_message no_outer root
    ≡ Some (message_round (header_with minor credential) item)
    → FieldReads Optional authentication no_outer credential
header_read minor credential item root h =
    let all = record_read (rows_of request_message) no_outer
    (message_round (header_with minor credential) item) (root, h) in
    let first = all.2 in
    let header = record_read (rows_of request_header) no_outer first.3.0 first.3.2 in
    let version = header.2 in
    let size = version.4 in
    let third = size.4 in
    go first.3.0 first.0 first.1 all.1 first.2 first.3.1 header.1 version.0 version.1 version.2 size.0 size.1 size.2 third.0 third.1 third.2 third.3
  where
    go : {fs gs : Fields} (v : Val) (d : Field) (more : Fields)
        → message_round (header_with minor credential) item ≡ Record fs → fs ≡ AndField d more
        → d ≡ One v → v ≡ Record gs → (a : Field) (rest : Fields) → gs ≡ AndField a rest
        → (c : Field) (cs : Fields) → rest ≡ AndField c cs → (e : Field) (es : Fields)
        → cs ≡ AndField e es
        → FieldReads Optional authentication no_outer e → FieldReads Optional authentication no_outer credential
    go v d more i j k l a rest m c cs n e es o read =
        let same : e ≡ credential = cc in
        subst (λ (x : Field). FieldReads Optional authentication no_outer x) same read

-- the message of a request and a credential
abbrev IsMessageOf : Request → List ℕ → Type 0
IsMessageOf r b = (c : Option CredentialType) × FitsCredential c × (message_bytes r c ≡ Some b)

of_message : (message : Val) (r : Request) (root : Tree) (b : List ℕ) → IsOf message r
    → read_of request_message no_outer root ≡ Some message
    → tree_of request_message REQUEST_MESSAGE message ≡ Some root → bytes root ≡ Some b
    → Parses root 1 b →
    selected_in message NoCase request_message no_outer REQUEST_MESSAGE
    → IsMatchedValue r.operation r.payload × IsMessageOf r b
of_message message r root b is read tree own parses s =
    let minor = minor_for r.operation in
    let n = (operation_line r.operation).number in
    let payload = tree_of request_payload REQUEST_PAYLOAD r.payload in
    let made : Val = message_round (header_with minor is.0) (item_of_request r) in
    let read_made : read_of request_message no_outer root ≡ Some made =
    subst (λ (m : Val). read_of request_message no_outer root ≡ Some m) is.1 read in
    let tree_made : tree_of request_message REQUEST_MESSAGE made ≡ Some root =
    subst (λ (m : Val). tree_of request_message REQUEST_MESSAGE m ≡ Some root) is.1 tree in
    let s_made : selected_in made NoCase request_message no_outer REQUEST_MESSAGE =
    subst (λ (m : Val). selected_in m NoCase request_message no_outer REQUEST_MESSAGE) is.1 s in
    let c = field_trees_are no_outer is.0 (header_read minor is.0 (item_of_request r) root read_made) in
    let w = message_from minor n (trees_in is.0 NoCase authentication AUTHENTICATION) c.0 payload root c.1 tree_made in
    let m = map_some payload (message_tree (header_tree minor (authentication_trees c.0)) n) root w in (
      (has_payload payload _ root w, payload_selected r is.0 s_made),
      (
        c.0,
        texts_parse minor n c.0 m.0 b (subst (λ (t : Tree). Parses t 1 b) (sym m.2) parses),
        ap (λ (o : Option Tree). option_and_then bytes o) w ∙ own,
      ),
    )

pub read_matched : (b : List ℕ) (r : Request) → request_read b ≡ Some r
    → IsMatchedValue r.operation r.payload
    × ((c : Option CredentialType) × FitsCredential c × (message_bytes r c ≡ Some b))
unfolding request_read
read_matched b r h =
    let p = and_then_some (item_of 64 b)
    (λ tree. option_and_then (canonical_in b tree)
    (root_read request_message REQUEST_MESSAGE tree)) r h in
    let root : Tree = p.0 in
    let m = and_then_some (root_read request_message REQUEST_MESSAGE root) (canonical_in b root) r p.2 in
    let message : Val = m.0 in
    let t = test_some (is_tree root (tree_of request_message REQUEST_MESSAGE message)
    && are_bytes b (bytes root)) (request_in message) r m.2 in
    let tests = both (is_tree root (tree_of request_message REQUEST_MESSAGE message)) (are_bytes b (bytes root)) t.0 in
    let tree : tree_of request_message REQUEST_MESSAGE message ≡ Some root = is_tree_says root _ tests.0 in
    let read : read_of request_message no_outer root ≡ Some message =
    root_of request_message REQUEST_MESSAGE root message m.1 in
    of_message message r root b (message_says message r t.1) read tree (are_bytes_says b _ tests.1)
    ((tree_computed root 1 b first_level).0 p.1)
    (selected message NoCase request_message no_outer REQUEST_MESSAGE root message_once tree read)

-- where nothing is read, the bytes are the message of no matched request
pub unread_none : (b : List ℕ) → request_read b ≡ None
    → (p : RequestPayload) (c : Option CredentialType) → FitsRequest p c → IsMatched p
    → request_bytes p c ≡ Some b → ⊥
unread_none b none p c h m e = none_some ⊥ (sym none ∙ request_is_read p c b h m e)
