use Rattle.std.proofs.Common.{◌≡◌, ◌++◌, length, drop}
use Rattle.std.specs.Str.{chars}
use Rattle.kmip_xml.specs.Values.{plain}
use Rattle.kmip_xml.proofs.values.put_plain.Given as goal

abbrev pub invariant-loop-ch : goal.invariant-loop-ch
invariant-loop-ch l =
    l.initial.out ++ plain 0 (chars l.text) ≡ l.out ++ plain l.before (drop (length l.yielded) (chars l.text))
