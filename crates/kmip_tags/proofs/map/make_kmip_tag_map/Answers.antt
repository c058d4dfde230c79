use Rattle.std.proofs.Common.{ap}
use Rattle.kmip_tags.specs.Table.{first_tag}
use Rattle.kmip_tags.specs.Names.{entries_from, entries}
use Rattle.kmip_tags.proofs.map.make_kmip_tag_map.Goals as goal

pub returns : goal.returns
unfolding entries
returns c = ap (entries_from first_tag) c.all_names.ensures.table
