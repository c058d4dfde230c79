use Rattle.kmip_key_files.proofs.Telling.{private_told, private_in_der, private_in_pem, private_type}
use Rattle.kmip_key_files.proofs.Written.{is_told}
use Rattle.kmip_key_files.proofs.laws.private_is_apart.Goals as goal

pub returns : goal.returns
returns c =
    let public = c.private_is_apart.ensures.public in
    let certificate = c.private_is_apart.ensures.certificate in
    record {
      label = private_told public certificate;
      der = private_in_der public certificate;
      pem = private_in_pem public certificate;
      written = λ block file p h.
          let t = is_told block file h in private_type public certificate file.label file.der t.0 p t.1;
    }
