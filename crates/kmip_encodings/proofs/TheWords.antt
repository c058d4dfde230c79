-- The constant is the list of the words.
use Rattle.std.specs.Prelude.{◌≡◌, refl, map}
use Rattle.kmip_tags.specs.Table.{names}
use Rattle.kmip_encodings.specs.Words.{words}
use Rattle.kmip_encodings.specs.declared.table.TheConstants.{WORDS}

pub constant_is_words : map (λ s. s.now) WORDS ≡ words
unfolding words names
constant_is_words = refl
