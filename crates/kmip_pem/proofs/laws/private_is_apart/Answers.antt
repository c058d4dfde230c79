use Rattle.kmip_pem.proofs.Written.{private_no_public, private_no_certificate}
use Rattle.kmip_pem.proofs.laws.private_is_apart.Goals as goal

pub returns : goal.returns
returns c = record { public = private_no_public; certificate = private_no_certificate }
