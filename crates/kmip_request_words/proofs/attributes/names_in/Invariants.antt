use Rattle.std.proofs.Common.{◌≡◌, drop}
use Rattle.kmip_request_words.specs.Attributes.{attribute_name, all_of}
use Rattle.kmip_request_words.proofs.Gathered.{before_those}
use Rattle.kmip_request_words.proofs.attributes.names_in.Given as goal

abbrev pub invariant-loop-word : goal.invariant-loop-word
invariant-loop-word l = before_those l.names (all_of attribute_name (drop l.word-index l.words))
    ≡ all_of attribute_name l.words
