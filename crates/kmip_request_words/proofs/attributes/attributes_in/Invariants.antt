use Rattle.std.proofs.Common.{◌≡◌, drop}
use Rattle.kmip_request_words.specs.Attributes.{attribute_in, all_of}
use Rattle.kmip_request_words.proofs.Gathered.{before_those}
use Rattle.kmip_request_words.proofs.attributes.attributes_in.Given as goal

abbrev pub invariant-loop-word : goal.invariant-loop-word
invariant-loop-word l = before_those l.attributes (all_of attribute_in (drop l.word-index l.words))
    ≡ all_of attribute_in l.words
