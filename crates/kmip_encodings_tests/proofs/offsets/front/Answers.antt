use Rattle.std.proofs.Common.{arith, take}
use Rattle.std.proofs.lemmas.List.{length-take}
use Rattle.kmip_encodings.proofs.Parsed.{parsed_size}
use Rattle.kmip_encodings_tests.proofs.offsets.front.Goals as goal

pub returns-in-Ok : goal.returns-in-Ok
returns-in-Ok c = omega (
  arith,
  c.in-Ok.ensures.found.0,
  (parsed_size c.in-Ok.tree 1 (take c.in-Ok.field-0-1 c.args.bytes.now) c.in-Ok.ensures.found.1).0,
  length-take c.in-Ok.field-0-1 c.args.bytes.now,
)
