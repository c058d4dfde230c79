-- A call that was made and shown ran as its step says.
use Rattle.std.proofs.Common.{◌≡◌, ℕ, List, ◌∙◌, sym, subst, Bool, Some, Result, Ok, Err, IfOk, slice_get}
use Rattle.kmip_client.specs.Client.{ClientState}
use Rattle.kmip_store.specs.Plain.{PlainMemory}
use Rattle.kmip_store.specs.declared.call.Call.{Call}
use Rattle.kmip_server.specs.Link.{ServerLinkState}
use Rattle.kmip_server.specs.declared.answers.CallAnswer.{CallAnswer}
use Rattle.kmip_wire.specs.declared.memory.OutOfMemory.{OutOfMemory}
use Rattle.kmip_words.specs.Exchange.{settings_of, Step}
use Rattle.kmip_joined.specs.Lines.{line_call}
use Rattle.kmip_joined.specs.World.{joined_step, world_of}
use Rattle.kmip_joined.specs.Reports.{IsJoined, IsMade, IsShown, Runs, ReportsStep}
use Rattle.kmip_joined.proofs.AfterCall.{IsMadeSo}
use Rattle.kmip_joined.proofs.Calls.{made_so}

abbrev Clients : Type 0
Clients = ClientState (ServerLinkState PlainMemory)

ran_so : (before after : Clients) (call : Call) (xs : List CallAnswer) (told : CallAnswer)
    (diag failed : Bool) (old new : List ℕ) → IsJoined before.link → diag ≡ before.buffered →
    IsMade before after call xs → slice_get xs 0 ≡ Some told → IsShown diag told failed old new →
    Runs (joined_step (settings_of before) (line_call call) (world_of before.link)) (world_of after.link) failed old new
ran_so before after call xs told diag failed old new joined kept made is shown =
    let m : IsMadeSo before after call told = made_so before after call xs told joined made is in
    let s : Step = (joined_step (settings_of before) (line_call call) (world_of before.link)).step in
    let tells : ReportsStep s diag told = subst (λ (b : Bool). ReportsStep s b told) (sym kept) m.tells in
    record { text = shown.text s tells; failed_is = shown.failed_is ∙ tells.failed; world = m.world }

pub ran_ok : (before after : Clients) (call : Call) (xs : List CallAnswer) (told : CallAnswer)
    (diag : Bool) (result : Result Bool OutOfMemory) (old new : List ℕ) → IsJoined before.link
    → diag ≡ before.buffered →
    IsMade before after call xs → slice_get xs 0 ≡ Some told → IfOk result (λ failed. IsShown diag told failed old new) →
    IfOk result (λ failed. Runs (joined_step (settings_of before) (line_call call)
    (world_of before.link)) (world_of after.link) failed old new)
ran_ok before after call xs told diag (Ok failed) old new joined kept made is shown =
    ran_so before after call xs told diag failed old new joined kept made is shown
ran_ok before after call xs told diag (Err error) old new joined kept made is shown = tt
