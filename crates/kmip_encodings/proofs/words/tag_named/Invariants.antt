use Rattle.std.proofs.Common.{◌≡◌, ◌+◌, map, drop}
use Rattle.kmip_tags.specs.Table.{first_tag}
use Rattle.kmip_encodings.specs.Words.{tag_named, named_from}
use Rattle.kmip_encodings.proofs.words.tag_named.Given as goal

abbrev pub invariant-loop-index : goal.invariant-loop-index
invariant-loop-index l =
    named_from (first_tag + l.index) (map (λ w. w.now) (drop l.index l.words)) l.word
    ≡ tag_named l.word
