use Rattle.std.proofs.Common.{sym}
use Rattle.kmip_diag.proofs.Wire.{no_front_deep}
use Rattle.kmip_diag.proofs.steps.front.Goals as goal

pub returns-then-level-gt64-clause-tree : goal.returns-then-level-gt64-clause-tree
returns-then-level-gt64-clause-tree c = sym (no_front_deep c.args.level c.args.bytes.now c.if-level-gt64.true)
