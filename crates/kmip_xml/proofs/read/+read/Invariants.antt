use Rattle.std.proofs.Common.{◌≡◌, ◌+◌, ◌*◌, ◌-◌, length}
use denote.Text.{Utf8}
use denote.Shadow.{shadow}
use Rattle.kmip_tags.specs.Tags.{ATTRIBUTE_VALUE}
use Rattle.kmip_xml.specs.Reading.{item, contents}
use Rattle.kmip_xml.proofs.Turns.{onto}
use Rattle.kmip_xml.proofs.read.+read.Given as goal

abbrev pub decreases-read_item : goal.decreases-read_item
decreases-read_item l = 4 * l.levels

abbrev pub decreases-read_turn : goal.decreases-read_turn
decreases-read_turn l = 4 * l.levels + 1

abbrev pub decreases-read_contents : goal.decreases-read_contents
decreases-read_contents l = 4 * l.levels + 2

abbrev pub decreases-read_inner : goal.decreases-read_inner
decreases-read_inner l = 4 * l.levels + 3

abbrev pub invariant-read_contents-loop : goal.invariant-read_contents-loop
invariant-read_contents-loop l =
    shadow (Utf8 l.rest)
    × (onto l.trees (contents (item l.levels) (length l.text - l.counter) l.named l.rest)
    ≡ contents (item l.levels) (length l.text) ATTRIBUTE_VALUE l.text)
