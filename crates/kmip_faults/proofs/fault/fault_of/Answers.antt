use Rattle.std.proofs.Common.{refl, arith}
use Rattle.kmip_faults.specs.Fault.{fault_of}
use Rattle.kmip_faults.proofs.fault.fault_of.Goals as goal

pub shown-init : goal.shown-init
unfolding fault_of
shown-init c = (omega arith, omega arith, refl)
