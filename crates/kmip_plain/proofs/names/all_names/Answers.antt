use Rattle.std.proofs.Common.{◌≡◌, refl, map}
use Rattle.kmip_tags.specs.Table.{names}
use Rattle.kmip_encodings.specs.Words.{words}
use Rattle.kmip_plain.specs.Names.{plain_names}
use Rattle.kmip_plain.specs.declared.table.TheConstants.{NAMES}
use Rattle.kmip_plain.proofs.names.all_names.Goals as goal

the_names : map (λ name. name.now) NAMES ≡ plain_names
unfolding plain_names words names
the_names = refl

pub returns : goal.returns
returns c = the_names
