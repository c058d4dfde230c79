use Rattle.std.proofs.Common.{refl}
use Rattle.kmip_operation_words.proofs.table.operation_calls.Goals as goal

pub returns : goal.returns
returns c = refl
