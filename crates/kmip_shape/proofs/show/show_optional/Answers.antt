use Rattle.kmip_shape.proofs.show.show_optional.Goals as goal

pub returns-in-Some-clause-text : goal.returns-in-Some-clause-text
returns-in-Some-clause-text g c = rw c.in-Some.is c.show_one.ensures.text
