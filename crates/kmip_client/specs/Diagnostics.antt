-- The diagnostics of a call.
use Rattle.std.specs.Prelude.{◌≡◌, ℕ, List, Bool, true, false, Option, Some, None, Result, Err, ◌⊎◌}
use Rattle.kmip_diag.specs.Diagnostic.{diagnostic}
use Rattle.kmip_client.specs.declared.error.Error.{Error}
use Rattle.kmip_client.specs.declared.error.Error.TheVariants.{SerializeError, RequestWriteError, OutOfMemory}

-- the diagnostic of these bytes, where the buffer is on
abbrev pub diagnostic_for : Bool → List ℕ → Option (List ℕ)
diagnostic_for true bytes = Some (diagnostic (Some 0x4200) bytes)
diagnostic_for false bytes = None

-- and of bytes that there may be
abbrev pub diagnostic_of : Bool → Option (List ℕ) → Option (List ℕ)
diagnostic_of buffered None = None
diagnostic_of buffered (Some bytes) = diagnostic_for buffered bytes

-- The text is the diagnostic of the request, or none after memory ran out.
abbrev pub IsRequestText : {A : Type 0} → Bool → Option (List ℕ) → Result A Error →
    Option (List ℕ) → Type 0
IsRequestText buffered request (Err OutOfMemory) text =
    (text ≡ None) ⊎ (text ≡ diagnostic_of buffered request)
IsRequestText buffered request answer text = text ≡ diagnostic_of buffered request

-- The text is the diagnostic of the bytes that were taken, or none where the request was not sent
-- or memory ran out.
abbrev pub IsResponseText : {A : Type 0} → Bool → List ℕ → Result A Error → Option (List ℕ) →
    Type 0
IsResponseText buffered taken (Err OutOfMemory) text =
    (text ≡ None) ⊎ (text ≡ diagnostic_for buffered taken)
IsResponseText buffered taken (Err (SerializeError reason)) text = text ≡ None
IsResponseText buffered taken (Err (RequestWriteError reason)) text = text ≡ None
IsResponseText buffered taken answer text = text ≡ diagnostic_for buffered taken

-- whether a response was read, wholly or in part
abbrev pub has_response : {A : Type 0} → Result A Error → Bool
has_response (Err OutOfMemory) = false
has_response (Err (SerializeError reason)) = false
has_response (Err (RequestWriteError reason)) = false
has_response answer = true
