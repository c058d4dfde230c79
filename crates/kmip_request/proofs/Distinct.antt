-- Requests of the same bytes have the same tree, and no request's bytes begin another's.
use Rattle.std.proofs.Common.{◌≡◌, ℕ, ◌<◌, ◌≤◌, ◌^◌, nat_lt, ltb-true, pos, true, List, [], ◌∷◌, ◌++◌, Option, Some, None, refl, ap, arith}
use Rattle.kmip_tags.specs.Tags.{BATCH_COUNT, REQUEST_PAYLOAD}
use Rattle.std.specs.Prelude.{IsUtf8, IfSome, FitsSigned}
use Rattle.std.specs.Int.{w32}
use Rattle.std.proofs.lemmas.Int.{ints}
use Rattle.std.specs.Option.{option_map, option_and_then}
use Rattle.kmip_wire.specs.Tree.{Tree, trees_of, scalar, integer}
use Rattle.kmip_wire.specs.Bytes.{bytes, HasRanges, levels, levels_of_all}
use Rattle.kmip_wire.proofs.Written.{one_text, written_parses}
use Rattle.kmip_wire.proofs.Computed.{no_longer}
use Rattle.kmip_shape.specs.Trees.{tree_of}
use Rattle.kmip_enums.specs.Operations.{operation_line}
use Rattle.kmip_types.specs.declared.auth.CredentialType.{CredentialType}
use Rattle.kmip_types.specs.declared.auth.CredentialType.TheVariants.{UsernameAndPassword}
use Rattle.kmip_request.specs.declared.payload.RequestPayload.{RequestPayload}
use Rattle.kmip_request.specs.declared.payload.RequestPayload.TheVariants.{Create, CreateKeyPair, Register, Locate, Get, GetAttributes, GetAttributeList, AddAttribute, ModifyAttribute, DeleteAttribute, Activate, Revoke, Destroy, Query, DiscoverVersions, Sign, RNGRetrieve}
use Rattle.kmip_request.specs.Tables.{request_payload}
use Rattle.kmip_request.specs.Values.{request_payload_val}
use Rattle.kmip_request.specs.Message.{operation_of, minor_of, password_trees, authentication_trees, header_tree, message_tree, request_tree, request_bytes}
use Rattle.kmip_request.specs.Fits.{FitsCredential, FitsRequest}
use Rattle.kmip_request.proofs.Tables.{payload_in_range, payload_depth}
use Rattle.kmip_shape.proofs.Ranges.{depth, Keeps, AllKeep, keeps_more, then_keeps, fits_ranges}

-- ---- the table of a payload

payload_keeps : (p : RequestPayload) (c : Option CredentialType) → FitsRequest p c
    → Keeps (tree_of request_payload REQUEST_PAYLOAD (request_payload_val p)) 32
payload_keeps p c h =
    keeps_more (tree_of request_payload REQUEST_PAYLOAD (request_payload_val p))
    (depth request_payload) 32 payload_depth
    (fits_ranges request_payload (request_payload_val p) REQUEST_PAYLOAD payload_in_range (omega arith) h.0)

-- ---- the head of a request, and the message

-- a test of numbers that computes
below : (m n : ℕ) → nat_lt m n ≡ true → m < n
below m n h = ltb-true m n h

operation_test : (p : RequestPayload) → nat_lt (operation_line (operation_of p)).number (2 ^ 32) ≡ true
operation_test (Create a b) = refl
operation_test (CreateKeyPair a b c) = refl
operation_test (Register a b c) = refl
operation_test (Locate a) = refl
operation_test (Get a b c d) = refl
operation_test (GetAttributes a b) = refl
operation_test (GetAttributeList a) = refl
operation_test (AddAttribute a b) = refl
operation_test (ModifyAttribute a b) = refl
operation_test (DeleteAttribute a b c) = refl
operation_test (Activate a) = refl
operation_test (Revoke a b c) = refl
operation_test (Destroy a) = refl
operation_test (Query a) = refl
operation_test (DiscoverVersions a) = refl
operation_test (Sign a b c) = refl
operation_test (RNGRetrieve a) = refl

operation_fits : (p : RequestPayload) → (operation_line (operation_of p)).number < 2 ^ 32
operation_fits p = below (operation_line (operation_of p)).number (2 ^ 32) (operation_test p)

minor_test : (p : RequestPayload) → nat_lt (minor_of p) 3 ≡ true
minor_test (Create a b) = refl
minor_test (CreateKeyPair a b c) = refl
minor_test (Register a b c) = refl
minor_test (Locate a) = refl
minor_test (Get a b c d) = refl
minor_test (GetAttributes a b) = refl
minor_test (GetAttributeList a) = refl
minor_test (AddAttribute a b) = refl
minor_test (ModifyAttribute a b) = refl
minor_test (DeleteAttribute a b c) = refl
minor_test (Activate a) = refl
minor_test (Revoke a b c) = refl
minor_test (Destroy a) = refl
minor_test (Query a) = refl
minor_test (DiscoverVersions a) = refl
minor_test (Sign a b c) = refl
minor_test (RNGRetrieve a) = refl

minor_fits : (p : RequestPayload) → minor_of p ≤ 2
minor_fits p = let h : minor_of p < 3 = below (minor_of p) 3 (minor_test p) in omega (arith, h)

password_keeps : (password : Option (List ℕ)) → IfSome password (λ p. IsUtf8 p)
    → AllKeep (Some (password_trees password)) 1
password_keeps None h = (tt, omega arith)
password_keeps (Some p) h = (((omega arith, h), tt), omega arith)

authentication_keeps : (c : Option CredentialType) → FitsCredential c → AllKeep (Some (authentication_trees c)) 4
authentication_keeps None h = (tt, omega arith)
authentication_keeps (Some (UsernameAndPassword c)) h =
    let p = password_keeps c.password h.1 in
    let deep : levels_of_all (trees_of (password_trees c.password)) ≤ 1 = p.1 in (
      (
        (
          omega arith,
          (
            (
              omega arith,
              ((omega arith, omega arith), ((omega arith, ((omega arith, h.0), p.0)), tt)),
            ),
            tt,
          ),
        ),
        tt,
      ),
      omega arith,
    )

-- a small number fits the four bytes of an Integer
small_fits : (n : ℕ) → n ≤ 2 → FitsSigned w32 (pos n)
small_fits n h = omega (arith, ints, h)

header_keeps : (minor : ℕ) (trees : List Tree) → minor ≤ 2 → AllKeep (Some trees) 4
    → HasRanges (header_tree minor trees) × (levels (header_tree minor trees) ≤ 5)
header_keeps minor trees m h =
    let count : AllKeep (Some (scalar BATCH_COUNT (integer (pos 1)) ∷ [])) 4 =
    (((omega arith, small_fits 1 (omega arith)), tt), omega arith) in
    let rest : AllKeep (Some (trees ++ scalar BATCH_COUNT (integer (pos 1)) ∷ [])) 4 =
    then_keeps (Some trees) (Some (scalar BATCH_COUNT (integer (pos 1)) ∷ [])) 4 4 4 (omega arith)
    (omega arith) h count in (
      (
        omega arith,
        (
          (
            omega arith,
            ((omega arith, small_fits 1 (omega arith)), ((omega arith, small_fits minor m), tt)),
          ),
          rest.0,
        ),
      ),
      omega (arith, rest.1),
    )

message_keeps : (header : Tree) (operation : ℕ) (payload : Option Tree) → HasRanges header
    × (levels header ≤ 5) → operation < 2 ^ 32 → Keeps payload 32
    → Keeps (option_map (message_tree header operation) payload) 64
message_keeps header operation None h o k = tt
message_keeps header operation (Some t) h o k =
    ((omega arith, (h.0, ((omega arith, ((omega arith, o), (k.0, tt))), tt))), omega (arith, h.1, k.1))

request_keeps : (p : RequestPayload) (c : Option CredentialType) → FitsRequest p c → Keeps (request_tree p c) 64
request_keeps p c h =
    message_keeps (header_tree (minor_of p) (authentication_trees c))
    (operation_line (operation_of p)).number
    (tree_of request_payload REQUEST_PAYLOAD (request_payload_val p))
    (header_keeps (minor_of p) (authentication_trees c) (minor_fits p) (authentication_keeps c h.1))
    (operation_fits p) (payload_keeps p c h)

-- ---- trees of the same bytes

same_bytes : (x y : Option Tree) (b : List ℕ) → Keeps x 64 → Keeps y 64
    → option_and_then bytes x ≡ Some b → option_and_then bytes y ≡ Some b → x ≡ y
same_bytes None y b h k e f = absurd (cc)
same_bytes (Some t) None b h k e f = absurd (cc)
same_bytes (Some t) (Some u) b h k e f = ap (λ (v : Tree). Some v) (one_text t u b h.0 k.0 e f)

no_more : (x y : Option Tree) (b rest : List ℕ) → Keeps x 64 → Keeps y 64
    → option_and_then bytes x ≡ Some b → option_and_then bytes y ≡ Some (b ++ rest) → rest ≡ []
no_more None y b rest h k e f = absurd (cc)
no_more (Some t) None b rest h k e f = absurd (cc)
no_more (Some t) (Some u) b rest h k e f =
    no_longer t u 1 1 b rest (written_parses t 1 b h.0 (omega arith) (omega (arith, h.1)) e)
    (written_parses u 1 (b ++ rest) k.0 (omega arith) (omega (arith, k.1)) f)

-- ---- requests

pub equal : (p q : RequestPayload) (c d : Option CredentialType) (b : List ℕ) → FitsRequest p c
    → FitsRequest q d → request_bytes p c ≡ Some b → request_bytes q d ≡ Some b
    → request_tree p c ≡ request_tree q d
equal p q c d b h k e f = same_bytes (request_tree p c) (request_tree q d) b (request_keeps p c h)
    (request_keeps q d k) e f

pub apart : (p q : RequestPayload) (c d : Option CredentialType) (b rest : List ℕ) → FitsRequest p c
    → FitsRequest q d → request_bytes p c ≡ Some b → request_bytes q d ≡ Some (b ++ rest)
    → rest ≡ []
apart p q c d b rest h k e f = no_more (request_tree p c) (request_tree q d) b rest
    (request_keeps p c h) (request_keeps q d k) e f
