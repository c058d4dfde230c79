use Rattle.kmip_shape.proofs.big.BigOptShowRow.show.Goals as goal

pub returns-in-Some-clause-text : goal.returns-in-Some-clause-text
returns-in-Some-clause-text g c = rw c.in-Some.is c.show.ensures.text
