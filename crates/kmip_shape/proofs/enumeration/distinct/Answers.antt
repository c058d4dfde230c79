use Rattle.kmip_shape.proofs.Variants.{variants_distinct}
use Rattle.kmip_shape.proofs.enumeration.distinct.Goals as goal

pub returns : goal.returns
returns g c = record {
  distinct =
      variants_distinct g.T.Enumeration.line g.T.Enumeration.variants g.met.T.Enumeration.found g.met.T.Enumeration.distinct;
  table = g.met.T.Enumeration.distinct;
  found = g.met.T.Enumeration.found;
}
