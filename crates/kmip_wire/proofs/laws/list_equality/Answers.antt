use Rattle.std.proofs.Common.{refl}
use Rattle.std.proofs.lemmas.Slice.Eq.{slice_eq-Decides}
use Rattle.kmip_wire.proofs.laws.list_equality.Goals as goal

pub returns : goal.returns
returns g c = λ h xs ys. slice_eq-Decides h xs ys _ refl
