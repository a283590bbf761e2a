use Rattle.std.proofs.Common.{length}
use Rattle.ec_script.proofs.form.+are_value_forms.Given as goal

abbrev pub decreases-are_value_forms : goal.decreases-are_value_forms
decreases-are_value_forms l = length l.list.now
