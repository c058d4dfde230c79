-- What is known of a client after a call, beside the report of the call.
use Rattle.std.specs.Prelude.{◌≡◌}
use Rattle.kmip_store.specs.declared.call.Call.{Call}
use Rattle.kmip_store.specs.Plain.{PlainMemory}
use Rattle.kmip_client.specs.Client.{ClientState}
use Rattle.kmip_server.specs.Link.{ServerLinkState}
use Rattle.kmip_server.specs.declared.answers.CallAnswer.{CallAnswer}
use Rattle.kmip_words.specs.Exchange.{settings_of as line_settings, Step}
use Rattle.kmip_joined.specs.Lines.{line_call}
use Rattle.kmip_joined.specs.World.{Joined, joined_step, world_of}
use Rattle.kmip_joined.specs.Reports.{IsJoined, ReportsStep}

-- a call was made on a client, with this report
pub record IsMadeSo (before after : ClientState (ServerLinkState PlainMemory)) (call : Call)
    (report : CallAnswer) : Type 0 where
  pub settings : line_settings after ≡ line_settings before
  pub joined : IsJoined after.link
  pub world : world_of after.link ≡ (joined_step (line_settings before) (line_call call)
      (world_of before.link)).after
  pub tells : ReportsStep (joined_step (line_settings before) (line_call call)
      (world_of before.link)).step before.buffered report
