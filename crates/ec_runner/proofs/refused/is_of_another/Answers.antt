use Rattle.std.proofs.Common.{Bool, true, false, not, ◌≡◌, refl, sym, ◌∙◌}
use Rattle.ec_runner.proofs.Walking.{none_there, more_there}
use Rattle.ec_runner.proofs.refused.is_of_another.Goals as goal

is_not : (b : Bool) → not b ≡ true → b ≡ false
is_not true h = cc
is_not false h = refl

is_yes : (b : Bool) → not b ≡ false → b ≡ true
is_yes true h = refl
is_yes false h = cc

pub returns-clause-same : goal.returns-clause-same
returns-clause-same c = λ yes.
    none_there c.args.worker c.args.run.now.entries c.args.place c.in-Some.entry (sym c.in-Some.ensures)
    (sym c.is_of.ensures ∙ is_not c.is_of.result yes)

pub returns-clause-more : goal.returns-clause-more
returns-clause-more c = λ no.
    more_there c.args.worker c.args.run.now.entries c.args.place c.in-Some.entry (sym c.in-Some.ensures)
    (sym c.is_of.ensures ∙ is_yes c.is_of.result no)
