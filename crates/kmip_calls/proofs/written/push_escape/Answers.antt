use Rattle.std.proofs.Common.{arith, flat_map}
use Rattle.std.specs.Char.{encode_utf8}
use Rattle.kmip_calls.specs.Written.{escaped}
use Rattle.kmip_calls.proofs.Escapes.{pushed, other}
use Rattle.kmip_calls.proofs.written.push_escape.Goals as goal

pub returns-in_default : goal.returns-in_default
returns-in_default c =
    pushed c.push.result c.push.new.self c.args.out.now (encode_utf8 c.args.ch)
    (flat_map escaped (encode_utf8 c.args.ch)) c.push.ensures
    (other c.args.ch (λ e. grind arith) (λ e. grind arith))
