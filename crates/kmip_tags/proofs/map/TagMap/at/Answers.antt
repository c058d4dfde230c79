use Rattle.std.proofs.Common.{ℕ, List, [], sym, ◌∙◌, ap, slice_get, Some, Bor, get_or}
use Rattle.kmip_tags.specs.Table.{first_tag}
use Rattle.kmip_tags.proofs.Entries.{entry_within, entry_past}
use Rattle.kmip_tags.proofs.map.TagMap.at.Goals as goal

pub returns-then-index-self : goal.returns-then-index-self
returns-then-index-self c =
    sym (ap (λ xs. slice_get xs c.args.index) (sym c.self.view_is)
    ∙ entry_past (λ n. n.now)
    first_tag c.args.index c.self.inside.names.now c.if-index-self.true)

pub returns : goal.returns
returns c =
    let nothing : Bor (List ℕ) = record { ref_ptr = (0, 0); now = [] }
    in ap (λ tag. Some (tag, (get_or c.self.inside.names.now c.args.index nothing).now)) c.in_ok-tag.ensures.0
    ∙ sym (ap (λ xs. slice_get xs c.args.index) (sym c.self.view_is)
    ∙ entry_within (λ n. n.now)
    first_tag c.args.index c.self.inside.names.now nothing c.if-index-self.false)
