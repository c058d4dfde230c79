use Rattle.kmip_diag.proofs.Expanding.{expansion_says, expansion_where, none_says, none_where}
use Rattle.kmip_diag.proofs.laws.expansion_is_of_skeletons.Goals as goal

pub returns-clause-lines : goal.returns-clause-lines
returns-clause-lines c = λ p text lines. (expansion_says p text lines, expansion_where p text lines)

pub returns-clause-none : goal.returns-clause-none
returns-clause-none c = λ p text. (none_says p text, none_where p text)
