use Rattle.std.proofs.Common.{rules}
use Rattle.std.specs.Str.Iter.{chars_rest}
use Rattle.std.specs.Char.{encode_utf8}
use Rattle.kmip_shape.specs.Shown.{escape}
use Rattle.kmip_shape.proofs.Growth.{bytes_step, bytes_done}
use Rattle.kmip_shape.proofs.text_writer.TextWriter.put_characters.Goals as goal

pub loop-ch-preserved : goal.loop-ch-preserved
loop-ch-preserved c = λ new h.
    c.loop-ch.invariant new (bytes_step escape (chars_rest c.loop-ch.ch-iterator)
    (encode_utf8 c.in-Some.ch) (chars_rest c.next.new.self)
    (search rules) c.put_escaped.ensures h)

pub returns : goal.returns
returns c = c.loop-ch.invariant c.loop-ch.self (bytes_done escape (chars_rest c.loop-ch.ch-iterator) (search rules))
