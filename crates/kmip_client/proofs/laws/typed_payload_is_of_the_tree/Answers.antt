use Rattle.kmip_client.proofs.Typed.{typed_of_tree}
use Rattle.kmip_client.proofs.laws.typed_payload_is_of_the_tree.Goals as goal

pub returns : goal.returns
returns c = typed_of_tree
