use Rattle.std.proofs.Common.{◌≡◌, drop}
use Rattle.kmip_encodings.specs.Lines.{lines}
use Rattle.kmip_encodings.specs.Names.{name_in, enumeration_name}
use Rattle.kmip_encodings.proofs.names.enumeration_name.Given as goal

abbrev pub invariant-loop-index : goal.invariant-loop-index
invariant-loop-index l = name_in (drop l.index lines) l.tag l.number ≡ enumeration_name l.tag l.number
