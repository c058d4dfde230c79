-- Values that are bytes.
use Rattle.std.specs.Prelude.{ℕ, List}
use Rattle.std.proofs.Common.{ap}
use Rattle.kmip_shape.specs.Val.{Val, Bytes}
use Rattle.kmip_shape.specs.Same.{IsFaithful, same_bytes}
use Rattle.kmip_names.specs.declared.byte_strings.Data.{Data}
use Rattle.kmip_names.specs.declared.byte_strings.UniqueBatchItemID.{UniqueBatchItemID}

abbrev pub data_val : Data → Val
data_val x = Bytes x.0

pub data_same : IsFaithful data_val
data_same x y h = let made : List ℕ → Data = λ value. record { 0 = value } in ap made (same_bytes h)

abbrev pub unique_batch_item_id_val : UniqueBatchItemID → Val
unique_batch_item_id_val x = Bytes x.0

pub unique_batch_item_id_same : IsFaithful unique_batch_item_id_val
unique_batch_item_id_same x y h =
    let made : List ℕ → UniqueBatchItemID = λ value. record { 0 = value } in ap made (same_bytes h)
