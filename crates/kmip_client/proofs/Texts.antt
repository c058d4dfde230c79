-- The texts of a credential are UTF-8, as its item is known to be.
use Rattle.std.specs.Prelude.{Some, None}
use Rattle.kmip_shape.specs.Shape.{NoCase, Choice, OfNumber}
use Rattle.kmip_shape.specs.Fits.{Fits, fits_in}
use Rattle.kmip_enums.specs.declared.credential_type.CredentialType.{CredentialType}
use Rattle.kmip_request.specs.declared.authentication.Authentication.{Authentication}
use Rattle.kmip_request.specs.declared.authentication.CredentialValue.{CredentialValue}
use Rattle.kmip_request.specs.declared.authentication.CredentialValue.TheVariants.{UsernameAndPassword}
use Rattle.kmip_request.specs.Fits.{FitsCredential}
use Rattle.kmip_request.specs.Message.{credential_of}
use Rattle.kmip_request.specs.Tables.{authentication, credential_values}
use Rattle.kmip_request.specs.Values.{authentication_val, credential_value_val}

texts_in : (kind : CredentialType) (value : CredentialValue)
    → fits_in (credential_value_val value) NoCase (Choice OfNumber credential_values)
    → FitsCredential (Some (credential_of (record { 0 = record { 0 = kind; 1 = value } })))
texts_in kind (UsernameAndPassword username None) fits = (fits.1, tt)
texts_in kind (UsernameAndPassword username (Some password)) fits = (fits.1, fits.2.1)

pub texts_known : (a : Authentication) → Fits authentication (authentication_val a)
    → FitsCredential (Some (credential_of a))
texts_known a fits = texts_in (a.0).0 (a.0).1 fits.1.2.1
