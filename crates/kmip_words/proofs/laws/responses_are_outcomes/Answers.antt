use Rattle.kmip_words.proofs.Replies.{line_same, ending_same}
use Rattle.kmip_words.proofs.laws.responses_are_outcomes.Goals as goal

pub returns-clause-line : goal.returns-clause-line
returns-clause-line c = line_same

pub returns-clause-ending : goal.returns-clause-ending
returns-clause-ending c = ending_same
