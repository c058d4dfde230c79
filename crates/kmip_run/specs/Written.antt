-- What is written of a response before the fields in which responses differ: words of private
-- functions alone, which no promise of the crate cites.
use Rattle.std.specs.Prelude.{ℕ, ℤ, ◌+◌, List, ◌++◌}
use Rattle.kmip_tags.specs.Tags.{BATCH_ITEM, OPERATION, RESPONSE_MESSAGE, RESPONSE_PAYLOAD, RESULT_STATUS}
use Rattle.kmip_wire.specs.Tree.{scalar, enumeration}
use Rattle.kmip_wire.specs.Bytes.{bytes}
use Rattle.kmip_shape.specs.Writes.{structure_head}
use Rattle.kmip_enums.specs.Operations.{operation_line}
use Rattle.kmip_enums.specs.ResultStatuses.{result_status_line}
use Rattle.kmip_enums.specs.declared.operation.Operation.{Operation}
use Rattle.kmip_enums.specs.declared.result_status.ResultStatus.TheVariants as statuses
use Rattle.kmip_words.specs.Exchange.{or_empty}
use Rattle.kmip_run.specs.Making.{head_tree}

-- the bytes of the item of an Enumeration (KMIP 1.0, 9.1.1.4)
abbrev pub enumeration_bytes : ℕ → ℕ → List ℕ
enumeration_bytes tag number = or_empty (bytes (scalar tag (enumeration number)))

-- what a response has up to its operation, where this many bytes of the batch item follow
abbrev pub front : ℤ → Operation → ℕ → List ℕ
front minor operation len =
    structure_head RESPONSE_MESSAGE (104 + len)
    ++ (or_empty (bytes (head_tree minor))
    ++ (structure_head BATCH_ITEM (16 + len)
    ++ enumeration_bytes OPERATION (operation_line operation).number))

-- what a response of success has up to the items of its payload, which have this many bytes
abbrev pub success_front : ℤ → Operation → ℕ → List ℕ
success_front minor operation len =
    front minor operation (24 + len)
    ++ (enumeration_bytes RESULT_STATUS (result_status_line statuses.Success).number
    ++ structure_head RESPONSE_PAYLOAD len)
