use Rattle.std.proofs.Common.{arith}
use Rattle.kmip_shape.proofs.Escapes.{plain}
use Rattle.kmip_shape.proofs.text_writer.TextWriter.put_escaped.Goals as goal

pub returns-in_default : goal.returns-in_default
returns-in_default c = plain c.args.ch (λ e. grind arith) (λ e. grind arith) (grind arith)
    (λ e. grind arith) c.put_char.ensures
