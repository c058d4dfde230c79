use Rattle.kmip_client.specs.Calls.{asked}
use Rattle.kmip_client.proofs.client.Client.ask.Goals as goal

pub returns-in-Ok : goal.returns-in-Ok
returns-in-Ok g c = asked c.in-Ok.payload c.in-Ok.is c.request.ensures.call
