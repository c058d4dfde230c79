use Rattle.std.proofs.Common.{◌≡◌, length, drop}
use Rattle.std.specs.List.{list_all}
use Rattle.std.specs.Str.{chars}
use Rattle.kmip_encodings.specs.XmlGrammar.{is_xml_char}
use Rattle.kmip_xml.proofs.read.foreign_at.Given as goal

abbrev pub invariant-loop-ch : goal.invariant-loop-ch
invariant-loop-ch l =
    list_all is_xml_char (chars l.text) ≡ list_all is_xml_char (drop (length l.yielded) (chars l.text))
