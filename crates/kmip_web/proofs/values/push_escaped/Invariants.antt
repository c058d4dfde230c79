use Rattle.std.proofs.Common.{◌≡◌, ◌++◌, length, drop}
use Rattle.std.specs.Str.{chars}
use Rattle.kmip_web.specs.Listing.{escaped}
use Rattle.kmip_web.proofs.values.push_escaped.Given as goal

abbrev pub invariant-loop-ch : goal.invariant-loop-ch
invariant-loop-ch l = l.initial.text ++ escaped (chars l.shown)
    ≡ l.text ++ escaped (drop (length l.yielded) (chars l.shown))
