use Rattle.std.proofs.Common.{ℕ, subst}
use Rattle.json.specs.Value.{value_view}
use Rattle.kmip_encodings.specs.Reading.{tree_of, read_item, Reads}
use Rattle.kmip_encodings.proofs.Items.{text_read}
use Rattle.kmip_encodings.proofs.read_json.from_json.Goals as goal

pub returns-in-Ok : goal.returns-in-Ok
unfolding tree_of
returns-in-Ok c = text_read c.read_item.result c.args.text.now
    (value_view c.in-Ok.value) c.in-Ok.ensures.ok c.in-Ok.ensures.unique
    (subst (λ (n : ℕ). Reads c.read_item.result (read_item 64 n (value_view c.in-Ok.value)))
    c.unnamed.ensures c.read_item.ensures)
