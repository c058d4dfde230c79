use Rattle.std.proofs.Common.{sym}
use Rattle.kmip_audit.proofs.Framing.{falls}
use Rattle.kmip_audit.proofs.frames.after_frame.Goals as goal

pub rest_from-requires : goal.rest_from-requires
rest_from-requires c = (falls c.args.bytes.now c.in-Some.frame.now (sym (rw c.in-Some.is at c.requires))).within
