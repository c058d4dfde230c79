use Rattle.kmip_calls.proofs.Texts.{data_read}
use Rattle.kmip_calls.proofs.laws.data_words.Goals as goal

pub returns : goal.returns
returns c = data_read
