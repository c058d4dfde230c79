use Rattle.kmip_operation_words.proofs.refusals.why_none_of.Goals as goal

pub returns : goal.returns
returns c = (c.as_str.result.now, c.in_ok-with_form.ensures)
