-- The bytes of the responses that `make` makes, part by part.
use Rattle.std.proofs.Common.{◌≡◌, ℕ, ◌+◌, ◌<◌, ◌^◌, List, [], ◌∷◌, ◌++◌, length, Some, refl, sym, ap, ◌∙◌, arith, length-append, append_assoc, append-nil}
use Rattle.std.specs.Prelude.{ℤ, pos, codes}
use Rattle.kmip_tags.specs.Tags.{BATCH_COUNT, BATCH_ITEM, OPERATION, PROTOCOL_VERSION, PROTOCOL_VERSION_MAJOR, PROTOCOL_VERSION_MINOR, RESPONSE_HEADER, RESPONSE_MESSAGE, RESPONSE_PAYLOAD, RESULT_MESSAGE, RESULT_REASON, RESULT_STATUS, TIME_STAMP}
use Rattle.kmip_wire.specs.Tree.{Tree, Scalar, scalar, structure, trees_of, integer, text_string, date_time}
use Rattle.kmip_wire.specs.Bytes.{bytes, all_bytes}
use Rattle.kmip_shape.specs.Writes.{structure_head, leaf_form, leaf_size, leaf_text}
use Rattle.kmip_shape.proofs.Forms.{leaf_law}
use Rattle.kmip_shape.proofs.Aligned.{item_len}
use Rattle.kmip_shape.proofs.WrittenText.{head_len, leaf_bytes, leaf_len, structure_written}
use Rattle.kmip_enums.specs.Operations.{operation_line}
use Rattle.kmip_enums.specs.ResultStatuses.{result_status_line}
use Rattle.kmip_enums.specs.ResultReasons.{result_reason_line}
use Rattle.kmip_enums.specs.declared.operation.Operation.{Operation}
use Rattle.kmip_enums.specs.declared.operation.Operation.TheVariants as operations
use Rattle.kmip_enums.specs.declared.result_status.ResultStatus.TheVariants as statuses
use Rattle.kmip_enums.specs.declared.result_reason.ResultReason.TheVariants as reasons
use Rattle.kmip_words.specs.Exchange.{or_empty}
use Rattle.kmip_run.specs.Making.{version_tree, head_tree, response_tree, operation_tree, done_trees, gone_trees, queried_made, destroyed_made}
use Rattle.kmip_run.specs.Written.{enumeration_bytes, front, success_front}

-- a structure has a head, and the bytes of its items
framed : (tag : ℕ) (items : List Tree) (v : List ℕ) (n : ℕ) → all_bytes (trees_of items) ≡ Some v
    → length v ≡ n → n < 2 ^ 32
    → bytes (structure tag (trees_of items)) ≡ Some (structure_head tag n ++ v)
framed tag items v n written long short = (structure_written tag (Some items) v n written long short).0

version_text : ℤ → List ℕ
version_text minor =
    structure_head PROTOCOL_VERSION 32
    ++ (leaf_text PROTOCOL_VERSION_MAJOR (integer (pos 1))
    ++ leaf_text PROTOCOL_VERSION_MINOR (integer minor))

version_bytes : (minor : ℤ) → bytes (version_tree minor) ≡ Some (version_text minor)
unfolding version_text
version_bytes minor =
    let major = leaf_text PROTOCOL_VERSION_MAJOR (integer (pos 1)) in
    let last = leaf_text PROTOCOL_VERSION_MINOR (integer minor) in
    framed PROTOCOL_VERSION
    (scalar PROTOCOL_VERSION_MAJOR (integer (pos 1)) ∷ scalar PROTOCOL_VERSION_MINOR (integer minor) ∷ [])
    (major ++ last) 32 (ap (λ (l : List ℕ). Some (major ++ l)) (append-nil last))
    (grind (arith, length-append, item_len)) (omega arith)

version_len : (minor : ℤ) → length (version_text minor) ≡ 40
unfolding version_text
version_len minor = grind (arith, length-append, item_len, head_len)

header_text : ℤ → List ℕ
header_text minor =
    structure_head RESPONSE_HEADER 72
    ++ (version_text minor
    ++ (leaf_text TIME_STAMP (date_time 1) ++ leaf_text BATCH_COUNT (integer (pos 1))))

header_bytes : (minor : ℤ) → bytes (head_tree minor) ≡ Some (header_text minor)
unfolding header_text
header_bytes minor =
    let time = leaf_text TIME_STAMP (date_time 1) in
    let count = leaf_text BATCH_COUNT (integer (pos 1)) in
    framed RESPONSE_HEADER
    (version_tree minor ∷ scalar TIME_STAMP (date_time 1) ∷ scalar BATCH_COUNT (integer (pos 1)) ∷ [])
    (version_text minor ++ (time ++ count)) 72
    (rw (version_bytes minor)
    (ap (λ (l : List ℕ). Some (version_text minor ++ (time ++ l))) (append-nil count)))
    (grind (arith, length-append, item_len, version_len)) (omega arith)

header_len : (minor : ℤ) → length (header_text minor) ≡ 80
unfolding header_text
header_len minor = grind (arith, length-append, item_len, head_len, version_len)

-- what is appended for a header, item by item
pub header_put : (minor : ℤ) (before : List ℕ) →
    (((((before ++ structure_head RESPONSE_HEADER 72) ++ structure_head PROTOCOL_VERSION 32)
    ++ leaf_text PROTOCOL_VERSION_MAJOR (integer (pos 1)))
    ++ leaf_text PROTOCOL_VERSION_MINOR (integer minor))
    ++ leaf_text TIME_STAMP (date_time 1)) ++ leaf_text BATCH_COUNT (integer (pos 1))
    ≡ before ++ or_empty (bytes (head_tree minor))
unfolding header_text version_text
header_put minor before = rw (header_bytes minor) (simp append_assoc)

-- the response whose batch item has these fields after its operation
with_fields : (minor : ℤ) (operation : Operation) (fields : List Tree) (v : List ℕ) (n : ℕ)
    → all_bytes (trees_of fields) ≡ Some v → length v ≡ n → n < 2 ^ 31
    → or_empty (bytes (response_tree minor (operation_tree operation ∷ fields)))
    ≡ front minor operation n ++ v
with_fields minor operation fields v n written long short =
    let op : List ℕ = enumeration_bytes OPERATION (operation_line operation).number in
    let item = structure BATCH_ITEM (trees_of (operation_tree operation ∷ fields)) in
    let in_item : List ℕ = structure_head BATCH_ITEM (16 + n) ++ (op ++ v) in
    let item_is : bytes item ≡ Some in_item =
    framed BATCH_ITEM (operation_tree operation ∷ fields) (op ++ v) (16 + n) (rw written refl)
    (grind (arith, length-append, item_len)) (omega arith) in
    let whole : bytes (response_tree minor (operation_tree operation ∷ fields))
    ≡ Some (structure_head RESPONSE_MESSAGE (104 + n) ++ (header_text minor ++ in_item)) =
    framed RESPONSE_MESSAGE (head_tree minor ∷ item ∷ []) (header_text minor ++ in_item) (104 + n)
    (rw (header_bytes minor, item_is)
    (ap (λ (l : List ℕ). Some (header_text minor ++ l)) (append-nil in_item)))
    (grind (arith, length-append, item_len, head_len, header_len)) (omega arith) in
    rw (whole, header_bytes minor) (simp append_assoc)

-- the response of success whose payload has these items
success_is : (minor : ℤ) (operation : Operation) (payload : List Tree) (v : List ℕ) (n : ℕ)
    → all_bytes (trees_of payload) ≡ Some v → length v ≡ n → n < 2 ^ 30
    → or_empty (bytes (response_tree minor (operation_tree operation ∷ done_trees payload)))
    ≡ success_front minor operation n ++ v
success_is minor operation payload v n written long short =
    let status : List ℕ = enumeration_bytes RESULT_STATUS (result_status_line statuses.Success).number in
    let in_payload : List ℕ = structure_head RESPONSE_PAYLOAD n ++ v in
    let payload_is : bytes (structure RESPONSE_PAYLOAD (trees_of payload)) ≡ Some in_payload =
    framed RESPONSE_PAYLOAD payload v n written long (omega arith) in
    with_fields minor operation (done_trees payload) (status ++ in_payload) (24 + n)
    (rw payload_is (ap (λ (l : List ℕ). Some (status ++ l)) (append-nil in_payload)))
    (grind (arith, length-append, item_len, head_len)) (omega arith)
    ∙ simp append_assoc

-- the response of success that was written with these items in its payload
made : (minor : ℤ) (operation : Operation) (payload : List Tree) (v : List ℕ) (n : ℕ)
    {before after : List ℕ} → all_bytes (trees_of payload) ≡ Some v → length v ≡ n → n < 2 ^ 30
    → before ≡ success_front minor operation n → after ≡ before ++ v
    → after ≡ or_empty (bytes (response_tree minor (operation_tree operation ∷ done_trees payload)))
made minor operation payload v n written long short before_is after_is =
    after_is ∙ ap (λ (l : List ℕ). l ++ v) before_is
    ∙ sym (success_is minor operation payload v n written long short)

one_item : (tag : ℕ) (leaf : Scalar) → leaf_form leaf
    → all_bytes (trees_of (scalar tag leaf ∷ [])) ≡ Some (leaf_text tag leaf)
one_item tag leaf form = rw (leaf_bytes tag leaf, leaf_law leaf form)
    (ap (λ (l : List ℕ). Some l) (append-nil (leaf_text tag leaf)))

-- the same, of one item
pub item_made : (minor : ℤ) (operation : Operation) (tag : ℕ) (leaf : Scalar) (n : ℕ)
    {before after response : List ℕ} → leaf_form leaf → n ≡ leaf_size leaf → n < 2 ^ 30
    → before ≡ success_front minor operation n → after ≡ before ++ leaf_text tag leaf
    → response ≡ after → response ≡ or_empty (bytes
    (response_tree minor (operation_tree operation ∷ done_trees (scalar tag leaf ∷ []))))
item_made minor operation tag leaf n form size short before_is after_is response_is =
    response_is
    ∙ made minor operation (scalar tag leaf ∷ []) (leaf_text tag leaf) n (one_item tag leaf form)
    (leaf_len tag leaf ∙ sym size) short before_is after_is

-- the response to `query`
pub query_made : {before one both response : List ℕ}
    → before ≡ success_front (pos 2) operations.Query 32
    → one ≡ before ++ enumeration_bytes OPERATION (operation_line operations.Create).number
    → both ≡ one ++ enumeration_bytes OPERATION (operation_line operations.Query).number
    → response ≡ both → response ≡ queried_made.response
query_made before_is one_is both_is response_is =
    let create : List ℕ = enumeration_bytes OPERATION (operation_line operations.Create).number in
    let query : List ℕ = enumeration_bytes OPERATION (operation_line operations.Query).number in
    response_is
    ∙ made (pos 2) operations.Query
    (operation_tree operations.Create ∷ operation_tree operations.Query ∷ []) (create ++ query) 32
    (ap (λ (l : List ℕ). Some (create ++ l)) (append-nil query))
    (grind (arith, length-append, item_len)) (omega arith) before_is
    (rw (both_is, one_is) (simp append_assoc))

-- the response to `destroy`
pub gone_made : (id : List ℕ) {before one two three response : List ℕ}
    → before ≡ front (pos 0) operations.Destroy 48
    → one ≡ before
    ++ enumeration_bytes RESULT_STATUS (result_status_line statuses.OperationFailed).number
    → two ≡ one ++ enumeration_bytes RESULT_REASON (result_reason_line reasons.ItemNotFound).number
    → three ≡ two ++ leaf_text RESULT_MESSAGE (text_string (codes "gone")) → response ≡ three
    → response ≡ (destroyed_made id).response
gone_made id {three = three} before_is one_is two_is three_is response_is =
    let status : List ℕ =
    enumeration_bytes RESULT_STATUS (result_status_line statuses.OperationFailed).number in
    let reason : List ℕ =
    enumeration_bytes RESULT_REASON (result_reason_line reasons.ItemNotFound).number in
    let message : List ℕ = leaf_text RESULT_MESSAGE (text_string (codes "gone")) in
    let in_item : List ℕ = status ++ (reason ++ message) in
    let written : three ≡ front (pos 0) operations.Destroy 48 ++ in_item =
    rw (three_is, two_is, one_is, before_is) (simp append_assoc) in
    response_is ∙ written
    ∙ sym (with_fields (pos 0) operations.Destroy gone_trees in_item 48
    (ap (λ (l : List ℕ). Some (status ++ (reason ++ l))) (append-nil message))
    (grind (arith, length-append, item_len)) (omega arith))
