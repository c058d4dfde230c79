-- The bytes of a request of any operation, in the parts in which they are written: words of private
-- functions alone, which no promise of the crate cites.
use Rattle.std.specs.Prelude.{ℕ, List, [], Option, Some, None}
use Rattle.kmip_tags.specs.Tags.{BATCH_ITEM, OPERATION, REQUEST_MESSAGE, UNIQUE_BATCH_ITEM_ID}
use Rattle.kmip_wire.specs.Tree.{scalar, enumeration, byte_string}
use Rattle.kmip_wire.specs.Bytes.{bytes, structure_bytes, in_order}
use Rattle.kmip_shape.specs.Writes.{leaf_text, leaf_size, maybe_len}

-- the bytes of a message, from those of its header and of what follows the operation in its batch
-- item
abbrev pub message_bytes : Option (List ℕ) → ℕ → Option (List ℕ) → Option (List ℕ)
message_bytes header operation payload =
    structure_bytes REQUEST_MESSAGE (in_order header (in_order (structure_bytes BATCH_ITEM
    (in_order (bytes (scalar OPERATION (enumeration operation))) (in_order payload (Some []))))
    (Some [])))

-- the item of a Unique Batch Item ID: its bytes, with none where none is sent; the text that is
-- written, its size, and its length where it has a wire form
abbrev pub id_bytes : Option (List ℕ) → Option (List ℕ)
id_bytes None = Some []
id_bytes (Some id) = bytes (scalar UNIQUE_BATCH_ITEM_ID (byte_string id))

abbrev pub id_text : Option (List ℕ) → List ℕ
id_text None = []
id_text (Some id) = leaf_text UNIQUE_BATCH_ITEM_ID (byte_string id)

abbrev pub id_size : Option (List ℕ) → ℕ
id_size None = 0
id_size (Some id) = leaf_size (byte_string id)

abbrev pub id_len : Option (List ℕ) → Option ℕ
id_len None = Some 0
id_len (Some id) = maybe_len (Some (byte_string id))
