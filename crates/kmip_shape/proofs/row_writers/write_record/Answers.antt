use Rattle.std.proofs.Common.{◌≡◌, ℕ, ◌∙◌, subst}
use Rattle.kmip_wire.specs.Room.{Appends}
use Rattle.kmip_shape.specs.Writes.{fields_size, structure_head}
use Rattle.kmip_shape.proofs.Appended.{appended}
use Rattle.kmip_shape.proofs.Forms.{fields_len_law}
use Rattle.kmip_shape.proofs.Parts.{some_same}
use Rattle.kmip_shape.proofs.row_writers.write_record.Goals as goal

pub returns : goal.returns
returns g c =
    let size : ℕ = fields_size (g.R.WriteRows.fields c.args.lent) g.R.WriteRows.row_list in
    let e : c.in-Some.len ≡ size = some_same c.in-Some.len size
    (c.in-Some.ensures.len ∙ fields_len_law
    (g.R.WriteRows.fields c.args.lent) g.R.WriteRows.row_list c.requires.form c.requires.below)
    in
    appended {c = c.write.new.out}
    (subst (λ (n : ℕ). Appends c.args.out.now c.put_structure.new.out
    (structure_head c.args.tag n) 8) e c.put_structure.ensures) c.write.ensures
