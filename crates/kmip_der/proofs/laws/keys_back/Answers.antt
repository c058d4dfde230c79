use Rattle.kmip_der.proofs.KeysBack.{rsa_public_read, rsa_private_read, sec1_read, point_read}
use Rattle.kmip_der.proofs.laws.keys_back.Goals as goal

pub returns : goal.returns
returns c = record {
  rsa_public = rsa_public_read;
  rsa_private = rsa_private_read;
  ec_private = sec1_read;
  ec_public = point_read;
}
