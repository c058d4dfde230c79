use Rattle.std.proofs.Common.{arith, sym, ap, ◌∙◌, ◌++◌}
use Rattle.kmip_diag.specs.Diagnostic.{shown_within}
use Rattle.kmip_tags.specs.Tags as tags
use Rattle.kmip_web.specs.Listing.{listing, shown_listed}
use Rattle.kmip_web.proofs.listing.list_bytes.Goals as goal

pub shown-init : goal.shown-init
unfolding listing
shown-init c = (
  omega arith,
  omega arith,
  ap (λ x. x ++ shown_listed 0 tags.ATTRIBUTE_VALUE (shown_within 1 c.args.bytes.now)) (sym c.new-text.ensures)
      ∙ ap (λ n. c.new-text.result ++ shown_listed 0 n (shown_within 1 c.args.bytes.now)) (sym c.of-named.ensures),
)
