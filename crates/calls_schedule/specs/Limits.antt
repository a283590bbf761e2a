-- Jobs with the limits at their positions.
use Rattle.std.specs.Prelude.{ℕ, ◌+◌, ◌-◌, min, Bool, ◌&&◌, ◌||◌, nat_le, List, if◌then◌else◌}
use Rattle.calls_schedule.specs.declared.job.Job.{Job}
use Rattle.calls_schedule.specs.declared.job.Bound.{Bound}
use Rattle.calls_schedule.specs.declared.timed.Timed.{Timed}
use Rattle.calls_schedule.specs.Schedules.{limit}

-- a job with the limits at its positions
abbrev pub timed_of : List Job → List Bound → Job → Timed
timed_of jobs bs j = record {
  job = j;
  early = limit jobs bs j.early;
  by = limit jobs bs j.by;
  late = limit jobs bs j.late;
}

-- what a bound leaves of a limit at a position
abbrev pub lower_at : Bound → ℕ → ℕ → ℕ
lower_at b p x = if nat_le p b.at then min (b.due - b.jobs) x else x

-- what it leaves of the limits of a job
abbrev pub lowered_by : Bound → Timed → Timed
lowered_by b t = record {
  job = t.job;
  early = lower_at b t.job.early t.early;
  by = lower_at b t.job.by t.by;
  late = lower_at b t.job.late t.late;
}

-- whether a bound counts a job
abbrev pub is_counted : ℕ → Bound → Timed → Bool
is_counted n b t = nat_le b.at t.job.early && (nat_le t.late b.due || nat_le (t.by + n) b.due)
