-- Theorems about all jobs.
use Rattle.std.specs.Prelude.{ℕ, List}
use Rattle.calls_schedule.specs.declared.job.Job.{Job}
use Rattle.calls_schedule.specs.declared.job.Bound.{Bound}
use Rattle.calls_schedule.specs.Schedules.{AreRanks, Refute}

-- bounds that end so leave the jobs no ranks
abbrev pub BoundsLeaveNoRanks : Type 0
BoundsLeaveNoRanks =
    (n : ℕ) (jobs : List Job) (bs : List Bound) (most : ℕ → ℕ) (rank : Job → ℕ)
    → Refute n jobs bs → AreRanks n jobs most rank → ⊥
