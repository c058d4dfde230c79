use Rattle.std.proofs.Common.{sym, subst}
use Rattle.std.proofs.lemmas.Str.{IsUtf8-from_ascii}
use Rattle.std.specs.Str.{IsUtf8}
use Rattle.kmip_shape.proofs.text_writer.TextWriter.put_block.Goals as goal

pub unreachable-requires : goal.unreachable-requires
unreachable-requires c =
    c.in-Err.ensures.cases.0 (subst IsUtf8 (sym c.write_digits.ensures.digits)
    (IsUtf8-from_ascii _ c.write_digits.ensures.ascii))
