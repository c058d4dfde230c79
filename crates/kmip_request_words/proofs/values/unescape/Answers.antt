use Rattle.std.proofs.Common.{◌≡◌, ◌∙◌, ap, sym, arith, length}
use Rattle.std.proofs.lemmas.Bool.Decides.{nat_tests}
use Rattle.kmip_request_words.specs.Values.{unescape}
use Rattle.kmip_request_words.proofs.Texts.{onto, onto_push, onto_end}
use Rattle.kmip_request_words.proofs.values.unescape.Goals as goal

pub loop-rest-preserved : goal.loop-rest-preserved
loop-rest-preserved c =
    let front = c.loop-rest.bytes.items in
    rw c.in_ok-push.ensures.items
    (sym (onto_push front c.in-Some.byte (unescape c.in-Some.after.now))
    ∙ ap (onto front) (sym c.in-Some.ensures.next) ∙ c.loop-rest.invariant)

pub returns : goal.returns
returns c =
    let none : length c.loop-rest.rest.now ≡ 0 = grind (arith, nat_tests) in
    sym (onto_end c.loop-rest.bytes.items c.loop-rest.rest.now none) ∙ c.loop-rest.invariant
