use Rattle.std.proofs.Common.{sym, ◌∙◌}
use Rattle.kmip_types.specs.SameValues.{same_value}
use Rattle.kmip_types.proofs.SameMembers.{lists_long}
use Rattle.kmip_types.proofs.attribute_equality.+same_attribute.Goals as goal

pub are_same-returns-in-CryptographicParameters-CryptographicParameters : goal.are_same-returns-in-CryptographicParameters-CryptographicParameters
are_same-returns-in-CryptographicParameters-CryptographicParameters t c =
    let both = c.in-CryptographicParameters-CryptographicParameters in
    c.same_parameters.ensures ∙ (λ i. same_value (sym both.is-0 i) (sym both.is-1 i))

pub are_same_members-returns-in-len1-up-rights-2 : goal.are_same_members-returns-in-len1-up-rights-2
are_same_members-returns-in-len1-up-rights-2 t c =
    lists_long c.loop-lefts.lefts.now c.loop-lefts.rights.now c.in_default.len_below c.in-len1-up-rights-2.len_at_least ∙ c.loop-lefts.invariant.same
