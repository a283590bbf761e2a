use Rattle.std.proofs.Common.{ℕ, [], ◌∷◌, subst, sym}
use Rattle.ec_text.specs.Puts.{Puts}
use Rattle.ec_heading.specs.Spelling.{lines_text}
use Rattle.evc_scripts.specs.OutcomeNotes.{outcome_lines}
use Rattle.evc_scripts.proofs.OutcomeLines.{outcome_put}
use Rattle.evc_scripts.proofs.outcomes.put_outcomes.Goals as goal

pub loop-place-preserved : goal.loop-place-preserved
loop-place-preserved g c =
    let value = rw c.unwrap-worker.ensures at c.new.ensures.value in
    outcome_put _ _ _ c.args.spellings.now c.args.outcomes.now c.loop-place.place c.in-Some.outcome
    (sym c.in-Some.ensures) c.loop-place.invariant
    (subst (λ (w : ℕ). Puts c.loop-place.out c.put_outcome_line.new.out (lines_text (outcome_lines c.args.spellings.now w (c.in-Some.outcome ∷ []))))
    value c.put_outcome_line.ensures)
