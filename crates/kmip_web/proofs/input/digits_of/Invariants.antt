use Rattle.std.proofs.Common.{◌≡◌, ◌++◌, length, drop}
use Rattle.std.specs.List.{slice_split}
use Rattle.kmip_web.specs.Input.{digits_of, is_feed}
use Rattle.kmip_web.proofs.input.digits_of.Given as goal

abbrev pub invariant-loop-line : goal.invariant-loop-line
invariant-loop-line l = digits_of l.side (slice_split is_feed l.text)
    ≡ l.digits.items ++ digits_of l.side (drop (length l.yielded) (slice_split is_feed l.text))
