use Rattle.std.proofs.Common.{length}
use Rattle.kmip_operation_words.proofs.forms.+push_fields_form.Given as goal

abbrev pub decreases-push_fields_form : goal.decreases-push_fields_form
decreases-push_fields_form l = length l.fields.now
