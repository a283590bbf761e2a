use Rattle.std.proofs.Common.{length}
use Rattle.calls_text.proofs.form.+are_number_forms.Given as goal

abbrev pub decreases-are_number_forms : goal.decreases-are_number_forms
decreases-are_number_forms l = length l.list.now
