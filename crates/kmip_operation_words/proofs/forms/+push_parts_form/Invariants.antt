use Rattle.std.proofs.Common.{length}
use Rattle.kmip_operation_words.proofs.forms.+push_parts_form.Given as goal

abbrev pub decreases-push_parts_form : goal.decreases-push_parts_form
decreases-push_parts_form l = length l.parts.now
