use Rattle.std.proofs.Common.{refl}
use Rattle.kmip_operation_words.proofs.laws.call_names.Goals as goal

pub returns-clause-once : goal.returns-clause-once
returns-clause-once c = refl

pub returns-clause-untyped : goal.returns-clause-untyped
returns-clause-untyped c = refl
