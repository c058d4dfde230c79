-- A server, as contracts see it.
use Rattle.std.specs.Prelude.{ℕ, ℤ, List, Result}
use Rattle.kmip_wire.specs.declared.error.WireError.{WireError}
use Rattle.kmip_store.specs.Makers.{MakerState}
use Rattle.kmip_store.specs.declared.object.Object.{Object}
use Rattle.kmip_server_core.specs.Served.{served, asks}
use Rattle.kmip_server_core.specs.Answering.{AnswersBy}

pub record ServerState (M : Type 0) : Type 0 where
  pub objects : List Object
  pub maker : M
  -- the time stamp of its responses
  pub time : ℤ

-- what a server returned for these bytes, and did; `state` is its maker as contracts see it
abbrev pub AnswersRequest : {M : Type 0} → (M → MakerState) → ServerState M → ServerState M → List ℕ →
    Result (List ℕ) WireError → Type 0
AnswersRequest state before after b result = AnswersBy (asks before.objects b)
    (λ made. served before.objects b made before.time)
    before.objects (state before.maker) (state after.maker) after.objects result
