use Rattle.kmip_encodings.proofs.TheWords.{constant_is_words}
use Rattle.kmip_encodings.proofs.words.all_words.Goals as goal

pub returns-clause-table : goal.returns-clause-table
returns-clause-table c = constant_is_words
