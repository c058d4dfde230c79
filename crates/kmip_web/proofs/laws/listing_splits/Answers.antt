use Rattle.kmip_web.proofs.Splits as splits
use Rattle.kmip_web.proofs.laws.listing_splits.Goals as goal

pub returns : goal.returns
returns c = splits.listing_splits
