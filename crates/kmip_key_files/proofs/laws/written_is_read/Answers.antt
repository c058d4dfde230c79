use Rattle.kmip_key_files.proofs.Written.{type_kept, is_told, is_told_in_pem}
use Rattle.kmip_key_files.proofs.laws.written_is_read.Goals as goal

pub returns : goal.returns
returns c = record {
  object_type = type_kept;
  der = is_told;
  pem = is_told_in_pem c.written_back.ensures c.answer_is_the_block.ensures.found;
}
