use Rattle.std.proofs.Common.{◌≡◌, drop}
use Rattle.kmip_encodings.specs.Lines.{lines}
use Rattle.kmip_encodings.specs.Names.{number_in, enumeration_number}
use Rattle.kmip_encodings.proofs.names.enumeration_number.Given as goal

abbrev pub invariant-loop-index : goal.invariant-loop-index
invariant-loop-index l = number_in (drop l.index lines) l.tag l.name ≡ enumeration_number l.tag l.name
