-- What a writer of responses answers, where the message is held.
use Rattle.std.proofs.Common.{List, ℕ, refl}
use Rattle.std.specs.Prelude.{Result, Ok, Err}
use Rattle.kmip_wire.specs.declared.error.WireError.{WireError}
use Rattle.kmip_wire.specs.declared.error.WireError.TheVariants.{NoForm, Malformed, OutOfMemory}
use Rattle.kmip_wire.specs.Found.{GivesBytes}
use Rattle.kmip_response.specs.declared.message.ResponseMessage.{ResponseMessage}
use Rattle.kmip_response_write.specs.Settled.{IsHeld, response_bytes}
use Rattle.kmip_server_core.specs.Answering.{IsWritten}

pub is_written : (m : ResponseMessage) (r : Result (List ℕ) WireError) → IsHeld m
    → GivesBytes r (response_bytes m) → IsWritten m r
is_written m (Ok bytes) held w = (held, w)
is_written m (Err NoForm) held w = w
is_written m (Err Malformed) held w = w
is_written m (Err OutOfMemory) held w = tt
