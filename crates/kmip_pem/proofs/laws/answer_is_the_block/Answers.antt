use Rattle.kmip_pem.proofs.Exact.{is_read}
use Rattle.kmip_pem.proofs.Real.{read_is}
use Rattle.kmip_pem.proofs.laws.answer_is_the_block.Goals as goal

pub returns : goal.returns
returns c = record { found = is_read; real = read_is }
