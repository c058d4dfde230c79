use Rattle.std.proofs.Common.{sym, ◌∙◌, ap, length}
use Rattle.kmip_tags.specs.Table.{first_tag}
use Rattle.kmip_tags.proofs.Entries.{entries_count}
use Rattle.kmip_tags.proofs.map.TagMap.len.Goals as goal

pub returns-clause-length : goal.returns-clause-length
returns-clause-length c = sym (ap length (sym c.self.view_is) ∙ entries_count (λ n. n.now)
    first_tag c.self.inside.names.now)
