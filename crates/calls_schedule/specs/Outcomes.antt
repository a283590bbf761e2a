-- What is decided of jobs.
use Rattle.std.specs.Prelude.{ℕ, List, reverse}
use Rattle.calls_schedule.specs.declared.job.Job.{Job}
use Rattle.calls_schedule.specs.declared.scheduling.Outcome.{Outcome}
use Rattle.calls_schedule.specs.declared.scheduling.Outcome.TheVariants.{Scheduled, Refuted}
use Rattle.calls_schedule.specs.Schedules.{IsSchedule, Refute}

-- the jobs have this schedule, or these bounds leave them none
abbrev pub IsOutcome : ℕ → List Job → Outcome → Type 0
IsOutcome n jobs (Scheduled order) = IsSchedule n jobs order.items
IsOutcome n jobs (Refuted bounds) = Refute n jobs (reverse bounds.items)
