use Rattle.std.proofs.Common.{sym, subst}
use Rattle.kmip_shape.specs.Shape.{NoCase}
use Rattle.kmip_shape.specs.Json.{IsJson}
use Rattle.kmip_shape.proofs.Json.{value_is}
use Rattle.kmip_shape.proofs.laws.shown_as_json.Goals as goal

pub returns : goal.returns
returns g c = λ e. record {
  grammar = subst IsJson (sym e)
      (value_is (g.T.Item.val c.args.value.now) NoCase g.T.Item.shape c.fits.ensures);
  utf8 = c.utf8.shown;
}
