use Rattle.kmip_caller.proofs.Refusing.{json_line}
use Rattle.kmip_caller.proofs.refusal.refusals_are_json.Goals as goal

pub returns : goal.returns
returns c = json_line
