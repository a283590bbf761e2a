use Rattle.std.proofs.Common.{rules, ◌≡◌, true, take, drop, length, get_or, ◌-◌, ◌+◌}
use Rattle.ec_text.specs.Words.{has_form}
use Rattle.ec_text.proofs.EndLemmas.{ends_so, ends_not}
use Rattle.ec_text.proofs.at_end.behind_space.Goals as goal
use Rattle.ec_text.proofs.at_end.behind_space.Goals.{else-text-place-eq32-via-then-text-place-eq32+else-has_form, else-text-place-eq32-via-else-text-place-eq32}

pub returns-then-has_form-clause-ends : goal.returns-then-has_form-clause-ends
returns-then-has_form-clause-ends c =
    let text = c.args.text.now in
    let i = c.args.place in
    let space : get_or text i 0 ≡ 32 = search rules in
    let form : has_form (take (length text - (i + 1)) (drop (i + 1) text)) ≡ true = search rules in
    ends_so text i c.args.number c.requires.within c.requires.short c.requires.digits space form

pub returns-else-text-place-eq32-clause-none : goal.returns-else-text-place-eq32-clause-none
returns-else-text-place-eq32-clause-none c none q m ends =
    let text = c.args.text.now in
    let not = ends_not text c.args.place c.args.number q m c.requires.within c.requires.digits c.requires.other ends in
    elim c.else-text-place-eq32.branch [
      | else-text-place-eq32-via-then-text-place-eq32+else-has_form w ↦ search (rules, not.1)
      | else-text-place-eq32-via-else-text-place-eq32 w ↦ search (rules, not.0)
    ]
