use Rattle.std.proofs.Common.{rules}
use Rattle.std.proofs.lemmas.List.Sorted.{IsNonDecreasingBy-from_sort_by_key}
use Rattle.calls_schedule.specs.declared.job.Job.{Job}
use Rattle.calls_schedule.proofs.scheduling.sorted_jobs.Goals as goal

pub returns-clause-sorted : goal.returns-clause-sorted
returns-clause-sorted c =
    IsNonDecreasingBy-from_sort_by_key (λ (j : Job). j.early) _ c.in_ok-sort_by_key.ensures.sorted
    (λ a r q k. search rules)
