use Rattle.std.proofs.Common.{◌≡◌, ◌++◌, length, drop}
use Rattle.std.specs.Str.{chars}
use Rattle.kmip_encodings.specs.Xml.{escaped}
use Rattle.kmip_encodings.proofs.write_xml.put_value.Given as goal

abbrev pub invariant-loop-ch : goal.invariant-loop-ch
invariant-loop-ch l = l.initial.out ++ escaped (chars l.value)
    ≡ l.out ++ escaped (drop (length l.yielded) (chars l.value))
