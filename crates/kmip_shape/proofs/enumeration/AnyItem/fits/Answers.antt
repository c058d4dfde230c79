use Rattle.kmip_shape.proofs.Variants.{found_in_table}
use Rattle.kmip_shape.proofs.enumeration.AnyItem.fits.Goals as goal

pub returns : goal.returns
returns g c = found_in_table g.T.Enumeration.line g.T.Enumeration.variants _ _
    (g.met.T.Enumeration.found c.args.self.now)
