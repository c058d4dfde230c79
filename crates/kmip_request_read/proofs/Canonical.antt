-- What a matched request's message reads as, and that what is read is matched.
use Rattle.std.proofs.Common.{◌≡◌, ℕ, ◌≤◌, ◌<◌, ◌==◌, length, slice_index_or, pos, negsuc, Bool, true, false, cond, List, [], ◌∷◌, Option, Some, None, refl, sym, ◌∙◌, ap, subst, eq-eqb, arith}
use Rattle.kmip_tags.specs.Tags.{AUTHENTICATION, REQUEST_HEADER, REQUEST_MESSAGE, REQUEST_PAYLOAD}
use Rattle.std.specs.Prelude.{Result, Ok, Err, IsUtf8, IsSome, IfSome, ◌≤ℤ◌}
use Rattle.std.specs.Option.{option_map, option_and_then}
use Rattle.std.proofs.lemmas.Int.{ints}
use Rattle.kmip_wire.specs.Tree.{Tree}
use Rattle.kmip_wire.specs.Parts.{tag_of}
use Rattle.kmip_wire.specs.Bytes.{bytes, HasRanges}
use Rattle.kmip_wire.specs.Parses.{Parses}
use Rattle.kmip_wire.proofs.Written.{written_parses}
use Rattle.kmip_wire.proofs.Computed.{one_tree}
use Rattle.kmip_shape.specs.Val.{Val}
use Rattle.kmip_shape.specs.Shape.{Shape, NoCase, no_outer, in_table}
use Rattle.kmip_shape.specs.Trees.{tree_of}
use Rattle.kmip_shape.specs.Reads.{read_of, root_read}
use Rattle.kmip_shape.specs.Writes.{bytes_of}
use Rattle.kmip_shape.specs.Fits.{Fits, fits_in, selected_in}
use Rattle.kmip_shape.proofs.Parts.{none_some, some_same, tag_plain}
use Rattle.kmip_shape.proofs.Variants.{found_in_table}
use Rattle.kmip_shape.proofs.ReadBack.{read_back}
use Rattle.kmip_shape.proofs.Ranges.{depth, Keeps, fits_ranges}
use Rattle.kmip_enums.specs.Operations.{operation_line, operation_variants, operation_found, operations}
use Rattle.kmip_enums.specs.declared.credential_type.CredentialType.TheVariants as types
use Rattle.kmip_types.specs.declared.auth.CredentialType.{CredentialType}
use Rattle.kmip_types.specs.declared.auth.CredentialType.TheVariants.{UsernameAndPassword}
use Rattle.kmip_request.specs.declared.authentication.Authentication.{Authentication}
use Rattle.kmip_request.specs.declared.authentication.CredentialValue.TheVariants as values
use Rattle.kmip_request.specs.declared.authentication.Password.{Password}
use Rattle.kmip_request.specs.declared.header.ProtocolVersion.{ProtocolVersion}
use Rattle.kmip_request.specs.declared.header.RequestHeader.{RequestHeader}
use Rattle.kmip_request.specs.declared.message.BatchItem.{BatchItem}
use Rattle.kmip_request.specs.declared.message.RequestMessage.{RequestMessage}
use Rattle.kmip_request.specs.declared.payload.RequestPayload.{RequestPayload}
use Rattle.kmip_request.specs.declared.payload.RequestPayload.TheVariants.{Query, DiscoverVersions, Sign, RNGRetrieve}
use Rattle.kmip_request.specs.Tables.{request_payload, request_header, request_message, authentication}
use Rattle.kmip_request.specs.Values.{request_payload_val, request_header_val, request_message_val, authentication_val}
use Rattle.kmip_request.specs.Same.{request_message_same}
use Rattle.kmip_request.specs.Message.{operation_of, minor_of, version_of, credential_of, request_bytes}
use Rattle.kmip_request.specs.Fits.{FitsCredential, FitsRequest}
use Rattle.kmip_request.proofs.Messages.{bytes_are}
use Rattle.kmip_request.proofs.Tables.{message_once, message_in_range, message_depth}
use Rattle.kmip_request_read.specs.Matched.{under_number, IsMatched}
use Rattle.kmip_request_read.specs.Message.{message_of, IsClientMessage, IsCanonical}
use Rattle.kmip_shape.proofs.Selected.{selected}

-- ---- the tree of canonical bytes

some_bytes : (o : Option Tree) (b : List ℕ) → option_and_then bytes o ≡ Some b → (t : Tree)
    × (o ≡ Some t) × (bytes t ≡ Some b)
some_bytes None b h = none_some _ h
some_bytes (Some t) b h = (t, refl, h)

-- the tree that a message's bytes are written of, as which they parse
written : (val : Val) (b : List ℕ) → Fits request_message val
    → bytes_of request_message REQUEST_MESSAGE val ≡ Some b → (t : Tree)
    × (tree_of request_message REQUEST_MESSAGE val ≡ Some t) × Parses t 1 b
written val b f h =
    let s = some_bytes (tree_of request_message REQUEST_MESSAGE val) b h in
    let k : Keeps (Some s.0) (depth request_message) =
    subst (λ (o : Option Tree). Keeps o (depth request_message)) s.1
    (fits_ranges request_message val REQUEST_MESSAGE message_in_range (omega arith) f) in
    (s.0, s.1, written_parses s.0 1 b k.0 (omega arith) (omega (arith, k.1, message_depth)) s.2)

pub written_as : (val : Val) (root : Tree) (b : List ℕ) → Fits request_message val
    → bytes_of request_message REQUEST_MESSAGE val ≡ Some b → Parses root 1 b
    → tree_of request_message REQUEST_MESSAGE val ≡ Some root
written_as val root b f h p =
    let w = written val b f h in w.1 ∙ ap (λ (t : Tree). Some t) (one_tree w.0 root 1 b w.2 p)

-- it has its ranges
written_ranges : (val : Val) (root : Tree) (b : List ℕ) → Fits request_message val
    → bytes_of request_message REQUEST_MESSAGE val ≡ Some b → Parses root 1 b → HasRanges root
written_ranges val root b f h p =
    let k : Keeps (tree_of request_message REQUEST_MESSAGE val) (depth request_message) =
    fits_ranges request_message val REQUEST_MESSAGE message_in_range (omega arith) f in
    let l : Keeps (Some root) (depth request_message) =
    subst (λ (o : Option Tree). Keeps o (depth request_message))
    (written_as val root b f h p) k in
    l.0

pub root_of : (shape : Shape) (tag : ℕ) (t : Tree) (val : Val) → root_read shape tag t ≡ Some val
    → read_of shape no_outer t ≡ Some val
root_of shape tag t val h = go (tag_of t == tag) h
  where
    go : (b : Bool) → cond b (read_of shape no_outer t) None ≡ Some val → read_of shape no_outer t ≡ Some val
    go true h = h
    go false h = none_some _ h

-- what is read from the tree that it is written as is selected
pub canonical_selected : (val : Val) (root : Tree) (b : List ℕ) → Parses root 1 b
    → IsCanonical request_message REQUEST_MESSAGE root b val
    → selected_in val NoCase request_message no_outer REQUEST_MESSAGE
canonical_selected val root b p c =
    selected val NoCase request_message no_outer REQUEST_MESSAGE root message_once
    (written_as val root b c.0 c.2 p) (root_of request_message REQUEST_MESSAGE root val c.1)

-- ---- what is read is matched

payload_selected : (payload : RequestPayload) (a : Option Authentication)
    → selected_in (request_message_val (message_of payload a))
    NoCase request_message no_outer REQUEST_MESSAGE
    → selected_in (request_payload_val payload) NoCase request_payload (under_number (operation_of payload)) REQUEST_PAYLOAD
payload_selected payload a s = ((s.2).1).0.2.2.1

has_tree : (o : Option Tree) (f : Tree → Tree) (b : List ℕ) → option_and_then bytes (option_map f o) ≡ Some b → IsSome o
has_tree None f b h = none_some _ h
has_tree (Some t) f b h = refl

pub matched : (payload : RequestPayload) (a : Option Authentication) (message : RequestMessage)
    (root : Tree) (b : List ℕ) → message ≡ message_of payload a → Parses root 1 b
    → IsCanonical request_message REQUEST_MESSAGE root b (request_message_val message)
    → IsMatched payload × (request_bytes payload (option_map credential_of a) ≡ Some b)
matched payload a message root b e p c =
    let c' : IsCanonical request_message REQUEST_MESSAGE root b
    (request_message_val (message_of payload a)) =
    subst (λ (m : RequestMessage). IsCanonical request_message REQUEST_MESSAGE root b
    (request_message_val m)) e c in
    let same : request_bytes payload (option_map credential_of a) ≡ Some b = sym (bytes_are payload a) ∙ c'.2 in (
      (
        has_tree (tree_of request_payload REQUEST_PAYLOAD (request_payload_val payload)) _ b same,
        payload_selected payload a (canonical_selected
            (request_message_val (message_of payload a)) root b p c'),
      ),
      same,
    )

-- ---- the message of a matched request

-- the item of a credential
abbrev pub password_of : List ℕ → Password
password_of text = record { 0 = text }

abbrev pub item_of : CredentialType → Authentication
item_of (UsernameAndPassword c) = record {
  0 = record {
    0 = types.UsernameAndPassword;
    1 =
        values.UsernameAndPassword (record { 0 = c.username }) (option_map password_of c.password);
  };
}

password_back : (o : Option (List ℕ)) → option_map (λ (p : Password). p.0) (option_map password_of o) ≡ o
password_back None = refl
password_back (Some text) = refl

credential_back : (c : CredentialType) → credential_of (item_of c) ≡ c
credential_back (UsernameAndPassword c) =
    ap (λ (o : Option (List ℕ)). UsernameAndPassword
    (record { username = c.username; password = o })) (password_back c.password)

pub credentials_back : (c : Option CredentialType) → option_map credential_of (option_map item_of c) ≡ c
credentials_back None = refl
credentials_back (Some c) = ap (λ (d : CredentialType). Some d) (credential_back c)

minor_low : (p : RequestPayload) → negsuc 0x7fff_ffff ≤ℤ pos (minor_of p)
minor_low (Query a) = omega (arith, ints)
minor_low (DiscoverVersions a) = omega (arith, ints)
minor_low (Sign a b c) = omega (arith, ints)
minor_low (RNGRetrieve a) = omega (arith, ints)
minor_low _ = omega (arith, ints)

minor_high : (p : RequestPayload) → pos (minor_of p) ≤ℤ pos 0x7fff_ffff
minor_high (Query a) = omega (arith, ints)
minor_high (DiscoverVersions a) = omega (arith, ints)
minor_high (Sign a b c) = omega (arith, ints)
minor_high (RNGRetrieve a) = omega (arith, ints)
minor_high _ = omega (arith, ints)

one_low : negsuc 0x7fff_ffff ≤ℤ pos 1
one_low = omega (arith, ints)

one_high : pos 1 ≤ℤ pos 0x7fff_ffff
one_high = omega (arith, ints)

operation_fits : (p : RequestPayload) → in_table (operation_line (operation_of p)).number operations ≡ true
operation_fits p = found_in_table operation_line operation_variants
    (operation_line (operation_of p)).number (operation_of p) (operation_found (operation_of p))

authentication_fits : (c : CredentialType) → FitsCredential (Some c)
    → fits_in (authentication_val (item_of c)) NoCase authentication
authentication_fits (UsernameAndPassword c) h = go c.password h.1
  where
    go : (o : Option (List ℕ)) → IfSome o (λ text. IsUtf8 text)
        → fits_in (authentication_val
        (record {
          0 = record {
            0 = types.UsernameAndPassword;
            1 =
                values.UsernameAndPassword (record { 0 = c.username }) (option_map password_of o);
          };
        }))
        NoCase authentication
    go None k = (tt, (tt, refl, (tt, (tt, h.0, (tt, tt, tt)), tt)), tt)
    go (Some text) k = (tt, (tt, refl, (tt, (tt, h.0, (tt, k, tt)), tt)), tt)

abbrev header_of : RequestPayload → Option Authentication → RequestHeader
header_of p a = record { 0 = version_of p; 1 = None; 2 = a; 3 = record { 0 = pos 1 } }

header_fits : (p : RequestPayload) (c : Option CredentialType) → FitsCredential c
    → fits_in (request_header_val (header_of p (option_map item_of c))) NoCase request_header
header_fits p None h = (
  tt,
  (tt, (one_low, one_high), (tt, (minor_low p, minor_high p), tt)),
  (tt, tt, (tt, tt, (tt, (one_low, one_high), tt))),
)
header_fits p (Some c) h = (
  tt,
  (tt, (one_low, one_high), (tt, (minor_low p, minor_high p), tt)),
  (tt, tt, (tt, authentication_fits c h, (tt, (one_low, one_high), tt))),
)

message_fits : (p : RequestPayload) (c : Option CredentialType) → FitsRequest p c
    → Fits request_message (request_message_val (message_of p (option_map item_of c)))
message_fits p c h = (tt, header_fits p c h.1, (tt, ((tt, operation_fits p, (tt, tt, (tt, h.0, tt))), tt), tt))

authentication_selected : (c : CredentialType)
    → selected_in (authentication_val (item_of c)) NoCase authentication no_outer AUTHENTICATION
authentication_selected (UsernameAndPassword c) = go c.password
  where
    go : (o : Option (List ℕ)) → selected_in
        (authentication_val (record {
          0 = record {
            0 = types.UsernameAndPassword;
            1 =
                values.UsernameAndPassword (record { 0 = c.username }) (option_map password_of o);
          };
        }))
        NoCase authentication no_outer AUTHENTICATION
    go None = (tt, (tt, tt, (tt, (refl, (tt, tt, (tt, tt, tt))), tt)), tt)
    go (Some text) = (tt, (tt, tt, (tt, (refl, (tt, tt, (tt, tt, tt))), tt)), tt)

header_selected : (p : RequestPayload) (c : Option CredentialType)
    → selected_in (request_header_val (header_of p (option_map item_of c)))
    NoCase request_header no_outer REQUEST_HEADER
header_selected p None = (tt, (tt, tt, (tt, tt, tt)), (tt, tt, (tt, tt, (tt, tt, tt))))
header_selected p (Some c) = (tt, (tt, tt, (tt, tt, tt)), (tt, tt, (tt, authentication_selected c, (tt, tt, tt))))

message_selected : (p : RequestPayload) (c : Option CredentialType) → IsMatched p
    → selected_in (request_message_val (message_of p (option_map item_of c)))
    NoCase request_message no_outer REQUEST_MESSAGE
message_selected p c m = (tt, header_selected p c, (tt, ((tt, tt, (tt, tt, (tt, m.1, tt))), tt), tt))

read_root : (shape : Shape) (tag : ℕ) (t : Tree) (val : Val) → tag_of t ≡ tag
    → read_of shape no_outer t ≡ Some val → root_read shape tag t ≡ Some val
read_root shape tag t val e h =
    let k : (tag_of t == tag) ≡ true = eq-eqb (tag_of t) tag e in rw k h

-- the message round a matched request is read from the tree of its bytes
pub canonical_of : (p : RequestPayload) (c : Option CredentialType) (root : Tree) (b : List ℕ)
    → FitsRequest p c → IsMatched p → request_bytes p c ≡ Some b → Parses root 1 b
    → IsCanonical request_message REQUEST_MESSAGE root b
    (request_message_val (message_of p (option_map item_of c)))
canonical_of p c root b h m e parses =
    let val = request_message_val (message_of p (option_map item_of c)) in
    let f : Fits request_message val = message_fits p c h in
    let of : bytes_of request_message REQUEST_MESSAGE val ≡ Some b =
    bytes_are p (option_map item_of c)
    ∙ (ap (λ d. request_bytes p d) (credentials_back c) ∙ e) in
    let tree : tree_of request_message REQUEST_MESSAGE val ≡ Some root = written_as val root b f of parses in
    let read : read_of request_message no_outer root ≡ Some val =
    read_back val NoCase request_message no_outer REQUEST_MESSAGE root message_once f
    (message_selected p c m) tree in (
      f,
      read_root request_message REQUEST_MESSAGE root val
          (tag_plain val NoCase request_message REQUEST_MESSAGE root refl tree) read,
      of,
    )

-- the tree of a matched request's bytes
pub parsed : (p : RequestPayload) (c : Option CredentialType) (b : List ℕ) → FitsRequest p c
    → request_bytes p c ≡ Some b → (root : Tree) × Parses root 1 b
parsed p c b h e =
    let w = written (request_message_val (message_of p (option_map item_of c))) b
    (message_fits p c h) (bytes_are p (option_map item_of c)
    ∙ (ap (λ d. request_bytes p d) (credentials_back c) ∙ e)) in
    (w.0, w.2)

pub ranged : (p : RequestPayload) (c : Option CredentialType) (b : List ℕ) (root : Tree)
    → FitsRequest p c → request_bytes p c ≡ Some b → Parses root 1 b → HasRanges root
ranged p c b root h e parses =
    written_ranges (request_message_val (message_of p (option_map item_of c))) root b
    (message_fits p c h) (bytes_are p (option_map item_of c)
    ∙ (ap (λ d. request_bytes p d) (credentials_back c) ∙ e)) parses

-- ---- a message of the right parts

pub only_one : (xs : List BatchItem) (x : BatchItem) → 1 ≤ length xs → length xs < 2
    → x ≡ slice_index_or xs 0 x → xs ≡ x ∷ []
only_one [] x a b h = absurd (omega (arith, a))
only_one (y ∷ []) x a b h = ap (λ (z : BatchItem). z ∷ []) (sym h)
only_one (y ∷ z ∷ zs) x a b h = absurd (omega (arith, b))

pub plain_of : (message : RequestMessage) (item : BatchItem) (version : ProtocolVersion)
    → message.1 ≡ item ∷ [] → version ≡ version_of item.2
    → message.0 ≡ record { 0 = version; 1 = None; 2 = (message.0).2; 3 = record { 0 = pos 1 } }
    → item ≡ record { 0 = operation_of item.2; 1 = None; 2 = item.2 } → message ≡ message_of item.2 (message.0).2
plain_of message item version items v header own =
    let made : RequestHeader = header_of item.2 (message.0).2 in
    let first : BatchItem = record { 0 = operation_of item.2; 1 = None; 2 = item.2 } in
    let head : message.0 ≡ made = header
    ∙ ap (λ (x : ProtocolVersion). record
    { 0 = x; 1 = None; 2 = (message.0).2; 3 = record { 0 = pos 1 } }) v in
    let all : message.1 ≡ first ∷ [] = items ∙ ap (λ (x : BatchItem). x ∷ []) own in
    λ i. record { 0 = head i; 1 = all i }

-- ---- one message of one text

pub one_message : (m n : RequestMessage) (root : Tree) (b : List ℕ)
    → IsCanonical request_message REQUEST_MESSAGE root b (request_message_val m)
    → IsCanonical request_message REQUEST_MESSAGE root b (request_message_val n) → m ≡ n
one_message m n root b h k = request_message_same m n (some_same _ _ (sym h.1 ∙ k.1))

first_item : (x y : BatchItem) → x ∷ [] ≡ y ∷ [] → x ≡ y
first_item x y h = cc

pub same_parts : (p q : RequestPayload) (a d : Option Authentication)
    → message_of p a ≡ message_of q d → (p ≡ q) × (a ≡ d)
same_parts p q a d h = (
  ap (λ (x : BatchItem). x.2) (first_item (record { 0 = operation_of p; 1 = None; 2 = p })
      (record { 0 = operation_of q; 1 = None; 2 = q }) (ap (λ (m : RequestMessage). m.1) h)),
  ap (λ (m : RequestMessage). (m.0).2) h,
)

pub one_request : (p q : RequestPayload) (c d : Option CredentialType) (b : List ℕ)
    → FitsRequest p c → FitsRequest q d → IsMatched p → IsMatched q → request_bytes p c ≡ Some b
    → request_bytes q d ≡ Some b → (p ≡ q) × (c ≡ d)
one_request p q c d b h k m n e f =
    let root = parsed p c b h e in
    let same = one_message (message_of p (option_map item_of c))
    (message_of q (option_map item_of d)) root.0 b (canonical_of p c root.0 b h m e root.1)
    (canonical_of q d root.0 b k n f root.1) in
    let parts = same_parts p q (option_map item_of c) (option_map item_of d) same in
    (parts.0, sym (credentials_back c) ∙ (ap (λ x. option_map credential_of x) parts.1 ∙ credentials_back d))

-- what is read of a matched request's bytes
pub read_parts : (p q : RequestPayload) (a : Option Authentication) (c : Option CredentialType)
    (message : RequestMessage) (root : Tree) (b : List ℕ) → message ≡ message_of q a
    → IsCanonical request_message REQUEST_MESSAGE root b (request_message_val message)
    → FitsRequest p c → IsMatched p → request_bytes p c ≡ Some b → Parses root 1 b → (q ≡ p)
    × (option_map credential_of a ≡ c)
read_parts p q a c message root b e k h m f parses =
    let same = one_message message (message_of p (option_map item_of c)) root b k
    (canonical_of p c root b h m f parses) in
    let parts = same_parts q p a (option_map item_of c) (sym e ∙ same) in
    (parts.0, ap (λ x. option_map credential_of x) parts.1 ∙ credentials_back c)

-- ---- what is not read

pub err_same : {A E : Type 0} (r : Result A E) (x y : E) → r ≡ Err x → r ≡ Err y → x ≡ y
err_same (Ok a) x y h k = absurd (cc)
err_same (Err e) x y h k = let i : e ≡ x = cc in let j : e ≡ y = cc in sym i ∙ j

-- where no value is canonical, the bytes are those of no matched request
pub none_canonical : (root : Tree) (b : List ℕ) → Parses root 1 b
    → ((val : Val) → IsCanonical request_message REQUEST_MESSAGE root b val → ⊥)
    → (p : RequestPayload) (c : Option CredentialType) → FitsRequest p c → IsMatched p
    → request_bytes p c ≡ Some b → ⊥
none_canonical root b parses none p c h m e =
    none (request_message_val (message_of p (option_map item_of c)))
    (canonical_of p c root b h m e parses)

-- nor are they where the message that is read has other parts
pub other_parts : (message : RequestMessage) (root : Tree) (b : List ℕ) → Parses root 1 b
    → IsCanonical request_message REQUEST_MESSAGE root b (request_message_val message)
    → (IsClientMessage message → ⊥) → (p : RequestPayload) (c : Option CredentialType)
    → FitsRequest p c → IsMatched p → request_bytes p c ≡ Some b → ⊥
other_parts message root b parses k other p c h m e =
    other (
      p,
      option_map item_of c,
      one_message message
          (message_of p (option_map item_of c)) root b k (canonical_of p c root b h m e parses),
    )
