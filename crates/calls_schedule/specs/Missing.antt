-- Jobs that are given ranks too late, and the bounds that show it.
use Rattle.std.specs.Prelude.{◌≡◌, ℕ, ◌<◌, ◌≤◌, ◌⊎◌, List, [], ◌∷◌, length, count_by, reverse}
use Rattle.std.specs.Prelude.{slice_index_or, MatchBool}
use Rattle.std.specs.List.{sum_by}
use Rattle.calls_core.specs.Lists.{Each, EachPair}
use Rattle.calls_schedule.specs.declared.job.Bound.{Bound}
use Rattle.calls_schedule.specs.declared.timed.Timed.{Timed}
use Rattle.calls_schedule.specs.declared.missing.Misses.{Misses}
use Rattle.calls_schedule.specs.Limits.{lower_at, is_counted}
use Rattle.calls_schedule.specs.Serving.{due_by, nothing}

-- what bounds, the last one first, leave of a limit at a position
abbrev pub lowered_at : List Bound → ℕ → ℕ → ℕ
lowered_at [] p x = x
lowered_at (b ∷ bs) p x = lower_at b p (lowered_at bs p x)

-- a bound counts as many of the jobs as it says
pub record IsMissed (n : ℕ) (given : List Timed) (b : Bound) : Type 0 where
  pub some : 0 < b.jobs
  pub counted : b.jobs ≤ count_by (is_counted n b) given

-- bounds lower the limits
abbrev pub Lowers : List Timed → List Bound → Type 0
Lowers given bs =
    sum_by (λ (t : Timed). lowered_at bs t.job.early t.early) given
    < sum_by (λ (t : Timed). t.early) given

-- the last one, which is the first here, is of more jobs than they can be
abbrev pub EndsRefuted : List Bound → Type 0
EndsRefuted [] = ⊥
EndsRefuted (b ∷ bs) = b.due < b.jobs

-- b is of no earlier position than the last one
abbrev pub IsAbove : Bound → List Bound → Type 0
IsAbove b [] = Unit {0}
IsAbove b (c ∷ cs) = c.at ≤ b.at

-- bounds, the last one first, of positions that do not descend
pub record AreMissed (n : ℕ) (given : List Timed) (bs : List Bound) : Type 0 where
  pub each : Each (IsMissed n given) bs
  pub ascend : EachPair (λ (b c : Bound). c.at ≤ b.at) bs

-- the jobs that have ranks below this one are not too late
abbrev pub AreInTime : ℕ → List Timed → ℕ → Type 0
AreInTime n given end = (k : ℕ) → k < end → k < due_by n (slice_index_or given k nothing)

-- no bound where no job is too late, and otherwise they lower the limits
abbrev pub IsDecided : ℕ → List Timed → ℕ → List Bound → Type 0
IsDecided n given end bounds = ((bounds ≡ []) × AreInTime n given end)
    ⊎ Lowers given (reverse bounds)

pub record AreMisses (n : ℕ) (given : List Timed) (m : Misses) : Type 0 where
  pub missed : AreMissed n given (reverse m.bounds.items)
  pub decided : MatchBool m.refuted (EndsRefuted (reverse m.bounds.items))
      (IsDecided n given (length given) m.bounds.items)

-- what they leave of the limits of a job
abbrev pub lowered_all : List Bound → Timed → Timed
lowered_all bs t = record {
  job = t.job;
  early = lowered_at bs t.job.early t.early;
  by = lowered_at bs t.job.by t.by;
  late = lowered_at bs t.job.late t.late;
}
