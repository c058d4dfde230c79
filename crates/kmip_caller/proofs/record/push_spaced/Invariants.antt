use Rattle.std.proofs.Common.{◌≡◌, ◌++◌, drop}
use Rattle.kmip_caller.specs.Record.{with_spaces}
use Rattle.kmip_caller.proofs.record.push_spaced.Given as goal

-- the words that are left make the whole
abbrev pub invariant-loop-word : goal.invariant-loop-word
invariant-loop-word l = l.line ++ with_spaces (drop l.word-index l.words) ≡ l.fn.line ++ with_spaces l.words
