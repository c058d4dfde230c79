-- The call of a line without a response.
use Rattle.std.specs.Prelude.{ℕ, List, Option, Some, None}
use Rattle.std.specs.Option.{option_and_then}
use Rattle.kmip_store.specs.declared.call.Call.{Call as HelperCall}
use Rattle.kmip_store.specs.declared.call.Call.TheVariants as helpers
use Rattle.kmip_words.specs.Calls.{call_alone}
use Rattle.kmip_words.specs.declared.call.Call.{Call}
use Rattle.kmip_words.specs.declared.call.Call.TheVariants.{Query, CreateRsa, Rng, Sign, Activate, Revoke, Destroy, Rename, Get, Raw, Request}

-- a call, where one of the nine helpers of a client makes it
abbrev pub if_helper : Call → Option Call
if_helper (Raw request) = None
if_helper (Request payload) = None
if_helper call = Some call

-- a helper's call, as the call of a line
abbrev pub line_call : HelperCall → Call
line_call helpers.Query = Query
line_call (helpers.CreateRsaKeyPair key_length private_name public_name) =
    CreateRsa key_length private_name public_name
line_call (helpers.RngRetrieve num_bytes) = Rng num_bytes
line_call (helpers.Sign id bytes) = Sign id bytes
line_call (helpers.ActivateKey id) = Activate id
line_call (helpers.RevokeKey id) = Revoke id
line_call (helpers.DestroyKey id) = Destroy id
line_call (helpers.RenameKey id new_name) = Rename id new_name
line_call (helpers.GetKey id) = Get id

-- the call of a line without `raw` and without a response
unfoldable pub helper_call : List ℕ → Option Call
helper_call line = option_and_then if_helper (call_alone line)
