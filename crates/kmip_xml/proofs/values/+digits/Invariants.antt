use Rattle.std.proofs.Common.{length}
use Rattle.kmip_xml.proofs.values.+digits.Given as goal

abbrev pub decreases-digits : goal.decreases-digits
decreases-digits l = length l.text.now
