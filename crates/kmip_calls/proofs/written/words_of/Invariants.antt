use Rattle.std.proofs.Common.{◌≡◌, length, drop}
use Rattle.kmip_calls.specs.Places.{may_be_option}
use Rattle.kmip_calls.specs.Written.{words_of, words_from}
use Rattle.kmip_calls.proofs.Words.{onto}
use Rattle.kmip_calls.proofs.written.words_of.Given as goal

-- with the words that are left, there are all
abbrev pub invariant-loop-index : goal.invariant-loop-index
invariant-loop-index l =
    words_of l.words l.name ≡ onto l.written
    (words_from (may_be_option l.name (length l.words)) l.index (drop l.index l.words))
