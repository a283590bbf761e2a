use Rattle.std.proofs.Common.{◌∙◌, ◌≡◌, ℕ}
use Rattle.calls_schedule.specs.declared.job.Job.{Job}
use Rattle.calls_schedule.specs.declared.timed.Timed.{Timed}
use Rattle.calls_schedule.proofs.Limiting.{first_limit}
use Rattle.calls_schedule.proofs.limits.timed.Goals as goal

same_timed : (j : Job) (e b l e' b' l' : ℕ) → e ≡ e' → b ≡ b' → l ≡ l'
    → (let t : Timed = record { job = j; early = e; by = b; late = l } in t)
    ≡ record { job = j; early = e'; by = b'; late = l' }
same_timed j e b l e' b' l' p q r = cc

pub returns : goal.returns
returns c jobs all =
    let starts = c.args.starts.now in
    let j = c.args.job.now in
    same_timed j _ _ _ _ _ _ (c.count_before.ensures ∙ first_limit jobs starts j.early all)
    (c.count_before-2.ensures ∙ first_limit jobs starts j.by all)
    (c.count_before-3.ensures ∙ first_limit jobs starts j.late all)
