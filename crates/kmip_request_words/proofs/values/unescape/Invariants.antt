use Rattle.std.proofs.Common.{◌≡◌, length}
use Rattle.kmip_request_words.specs.Values.{unescape}
use Rattle.kmip_request_words.proofs.Texts.{onto}
use Rattle.kmip_request_words.proofs.values.unescape.Given as goal

abbrev pub invariant-loop-rest : goal.invariant-loop-rest
invariant-loop-rest l = onto l.bytes.items (unescape l.rest) ≡ unescape l.initial.rest

abbrev pub decreases-loop-rest : goal.decreases-loop-rest
decreases-loop-rest l = length l.rest
