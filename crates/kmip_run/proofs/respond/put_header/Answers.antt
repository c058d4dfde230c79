use Rattle.std.proofs.Common.{arith, rules, w32}
use Rattle.std.proofs.lemmas.Int.{to_z-of_z}
use Rattle.kmip_run.proofs.Responses.{header_put}
use Rattle.kmip_run.proofs.respond.put_header.Goals as goal

pub returns : goal.returns
returns c = record {
  bytes = rw (
    c.put_integer-3.ensures.bytes,
    c.put_date.ensures.bytes,
    c.put_integer-2.ensures.bytes,
    c.put_integer.ensures.bytes,
    c.put_structure-2.ensures.bytes,
    c.put_structure.ensures.bytes,
    c.of.ensures,
    c.of-2.ensures,
    c.of-3.ensures,
    c.of-4.ensures,
    c.of-5.ensures,
    c.of-6.ensures,
    to_z-of_z w32 c.args.minor (search rules),
  )
      (header_put c.args.minor c.args.out.now.bytes);
  spare = omega (
    arith,
    c.put_structure.ensures.spare,
    c.put_structure-2.ensures.spare,
    c.put_integer.ensures.spare,
    c.put_integer-2.ensures.spare,
    c.put_date.ensures.spare,
    c.put_integer-3.ensures.spare,
  );
}
