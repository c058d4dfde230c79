use Rattle.kmip_calls.proofs.Texts.{text_read}
use Rattle.kmip_calls.proofs.laws.text_words.Goals as goal

pub returns : goal.returns
returns c = text_read
