use Rattle.std.proofs.Common.{◌≡◌, ◌++◌, sym}
use Rattle.std.proofs.lemmas.List.{take-append-drop}
use Rattle.kmip_shape.specs.Shown.{hex_byte}
use Rattle.kmip_shape.proofs.Growth.{bytes_step}
use Rattle.kmip_shape.proofs.text_writer.TextWriter.put_digits.Goals as goal

pub loop-rest-preserved : goal.loop-rest-preserved
loop-rest-preserved c = λ new h.
    let parts : c.loop-rest.rest.now ≡ c.split_at.result.0.now ++ c.split_at.result.1.now =
    rw (c.split_at.ensures.front, c.split_at.ensures.back) (sym (take-append-drop 32 c.loop-rest.rest.now)) in
    c.loop-rest.invariant new (bytes_step (λ o. hex_byte)
    c.loop-rest.rest.now c.split_at.result.0.now c.split_at.result.1.now parts c.put_block.ensures h)

pub returns : goal.returns
returns c = c.loop-rest.invariant c.put_block-2.new.self c.put_block-2.ensures
