-- A client, as a value.
use Rattle.std.specs.Prelude.{◌≡◌, ℕ, ◌+◌, ◌%◌, List, Bool, true, false, Option, Some, None, Result, Ok, Err}
use Rattle.kmip_shape.specs.Val.{Val, Case}
use Rattle.kmip_enums.specs.Operations.{operation_line}
use Rattle.kmip_enums.specs.declared.operation.Operation.{Operation}
use Rattle.kmip_types.specs.declared.auth.CredentialType.{CredentialType}
use Rattle.kmip_types.specs.declared.auth.CredentialType.TheVariants.{UsernameAndPassword}
use Rattle.kmip_client.specs.declared.error.Error.{Error}
use Rattle.kmip_client.specs.declared.error.Error.TheVariants.{RequestWriteError, ResponseReadError, OutOfMemory}

pub record ClientState (T : Type 0) : Type 0 where
  pub link : T
  -- what each request shows, where it shows any
  pub credential : Option CredentialType
  -- the most bytes that a response may have, its head counted
  pub limit : Option ℕ
  -- whether diagnostics are kept
  pub buffered : Bool
  -- connection errors so far, modulo 256
  pub errors : ℕ
  -- the diagnostics of the last call
  pub request_text : Option (List ℕ)
  pub response_text : Option (List ℕ)

-- a client that is to be built
pub record BuilderState (T : Type 0) : Type 0 where
  pub link : T
  pub username : Option (List ℕ)
  pub password : Option (List ℕ)
  pub limit : Option ℕ
  pub buffered : Bool

-- A credential is sent exactly where username and password are both set.
abbrev pub credential_for : Option (List ℕ) → Option (List ℕ) → Option CredentialType
credential_for (Some username) (Some password) =
    Some (UsernameAndPassword (record { username = username; password = Some password }))
credential_for _ _ = None

abbrev pub is_connection_error : Error → Bool
is_connection_error (RequestWriteError text) = true
is_connection_error (ResponseReadError text) = true
is_connection_error error = false

abbrev pub loses_connection : {A : Type 0} → Result A Error → Bool
loses_connection (Ok payload) = false
loses_connection (Err error) = is_connection_error error

-- the count of connection errors after a call, modulo 256
abbrev pub count_after : ℕ → Bool → ℕ
count_after errors true = (errors + 1) % 256
count_after errors false = errors

abbrev pub lacks_memory : {A : Type 0} → Result A Error → Bool
lacks_memory (Err OutOfMemory) = true
lacks_memory answer = false

-- The value of a payload has the variant of the operation.
abbrev pub IsOfOperation : Operation → Val → Type 0
IsOfOperation operation (Case n val) = n ≡ (operation_line operation).number
IsOfOperation operation val = ⊥
