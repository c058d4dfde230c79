-- What the types of Rust guarantee of a payload and a credential: numbers in range, texts in UTF-8,
-- bytes below 256.
use Rattle.std.specs.Prelude.{Option, Some, None, IsUtf8, IfSome}
use Rattle.kmip_shape.specs.Fits.{Fits}
use Rattle.kmip_types.specs.declared.auth.CredentialType.{CredentialType}
use Rattle.kmip_types.specs.declared.auth.CredentialType.TheVariants.{UsernameAndPassword}
use Rattle.kmip_request.specs.declared.payload.RequestPayload.{RequestPayload}
use Rattle.kmip_request.specs.Tables.{request_payload}
use Rattle.kmip_request.specs.Values.{request_payload_val}

abbrev pub FitsPayload : RequestPayload → Type 0
FitsPayload payload = Fits request_payload (request_payload_val payload)

-- the username and the password of a credential are UTF-8
abbrev pub FitsCredential : Option CredentialType → Type 0
FitsCredential None = Unit {0}
FitsCredential (Some (UsernameAndPassword c)) =
    IsUtf8 c.username × IfSome c.password (λ password. IsUtf8 password)

abbrev pub FitsRequest : RequestPayload → Option CredentialType → Type 0
FitsRequest payload credential = FitsPayload payload × FitsCredential credential
