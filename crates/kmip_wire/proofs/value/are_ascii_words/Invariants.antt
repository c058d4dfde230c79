use Rattle.std.proofs.Common.{length}
use Rattle.kmip_wire.proofs.Ascii.{Passed}
use Rattle.kmip_wire.proofs.value.are_ascii_words.Given as goal

abbrev pub decreases-words : goal.decreases-words
decreases-words l = length l.rest

abbrev pub invariant-words : goal.invariant-words
invariant-words l = Passed l.bytes l.rest
