use Rattle.kmip_wire.specs.Items.{item_tree}
use Rattle.kmip_client.specs.Untyped.{all_under}
use Rattle.kmip_words.proofs.Tagged.{none_first}
use Rattle.kmip_words.proofs.items.has_none_under.Goals as goal

pub returns : goal.returns
returns c =
    none_first item_tree c.nth_under.result (all_under c.args.tag (item_tree c.args.parent)) c.is_none.result
    c.nth_under.ensures c.is_none.ensures
