use Rattle.std.proofs.Common.{refl}
use Rattle.std.proofs.lemmas.Slice.Eq.{bytes_eq-Decides}
use Rattle.kmip_client.specs.declared.error.Error.TheVariants.{ConfigurationError, SerializeError, RequestWriteError, ResponseReadError, DeserializeError, ServerError, InternalError, ItemNotFound, Unknown, OutOfMemory}
use Rattle.kmip_equality.proofs.Rows.{exact_of}
use Rattle.kmip_equality.proofs.errors.client_errors.Goals as goal

pub returns : goal.returns
returns c (ConfigurationError x) (ConfigurationError y) =
    exact_of ConfigurationError (λ s t p. cc) bytes_eq-Decides x y
returns c (SerializeError x) (SerializeError y) = exact_of SerializeError (λ s t p. cc) bytes_eq-Decides x y
returns c (RequestWriteError x) (RequestWriteError y) = exact_of RequestWriteError (λ s t p. cc) bytes_eq-Decides x y
returns c (ResponseReadError x) (ResponseReadError y) = exact_of ResponseReadError (λ s t p. cc) bytes_eq-Decides x y
returns c (DeserializeError x) (DeserializeError y) = exact_of DeserializeError (λ s t p. cc) bytes_eq-Decides x y
returns c (ServerError x) (ServerError y) = exact_of ServerError (λ s t p. cc) bytes_eq-Decides x y
returns c (InternalError x) (InternalError y) = exact_of InternalError (λ s t p. cc) bytes_eq-Decides x y
returns c (ItemNotFound x) (ItemNotFound y) = exact_of ItemNotFound (λ s t p. cc) bytes_eq-Decides x y
returns c (Unknown x) (Unknown y) = exact_of Unknown (λ s t p. cc) bytes_eq-Decides x y
returns c OutOfMemory OutOfMemory = (λ p. refl, λ p. refl)
returns c _ _ = (λ p. absurd (cc), λ p. absurd (cc))
