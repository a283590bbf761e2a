-- Jobs of one unit each, done one after another. How many are done before a position bounds which
-- ones they may be, and this in turn bounds how many they may be.
use Rattle.std.specs.Prelude.{◌≡◌, ℕ, ◌+◌, ◌-◌, ◌<◌, ◌≤◌, min, Bool, ◌&&◌, ◌||◌, nat_le, nat_lt}
use Rattle.std.specs.Prelude.{count_by, List, [], ◌∷◌, if◌then◌else◌}
use Rattle.std.specs.List.Sorted.{IsPermutation}
use Rattle.calls_core.specs.Lists.{Each, EachPair}
use Rattle.calls_schedule.specs.declared.job.Job.{Job}
use Rattle.calls_schedule.specs.declared.job.Bound.{Bound}

-- TIMES

-- a job may have this rank, from 0, if most p jobs are done before position p: it is not done before
-- j.early, it is done before j.late, and before j.by at most n jobs of lower rank are not done yet
pub record IsTimed (n : ℕ) (most : ℕ → ℕ) (rank : ℕ) (j : Job) : Type 0 where
  pub early : most j.early ≤ rank
  pub late : rank < most j.late
  pub by : rank < most j.by + n

-- the numbers of jobs done before each position can be these: they do not decrease, and count no
-- job that is not done before
pub record AreCounts (jobs : List Job) (most : ℕ → ℕ) : Type 0 where
  pub rises : (p q : ℕ) → p ≤ q → most p ≤ most q
  pub started : (p : ℕ) → most p ≤ count_by (λ (j : Job). nat_lt j.early p) jobs

-- RANKS

-- each job has its own rank, and is timed
pub record AreRanks (n : ℕ) (jobs : List Job) (most : ℕ → ℕ) (rank : Job → ℕ) : Type 0 where
  pub counts : AreCounts jobs most
  pub timed : Each (λ (j : Job). IsTimed n most (rank j) j) jobs
  pub apart : EachPair (λ (i j : Job). rank i ≡ rank j → ⊥) jobs

-- the jobs in this order, from this rank on, are timed
abbrev pub AreTimed : ℕ → (ℕ → ℕ) → ℕ → List Job → Type 0
AreTimed n most rank [] = Unit {0}
AreTimed n most rank (j ∷ js) = IsTimed n most rank j × AreTimed n most (rank + 1) js

-- i may be done no later than j, has to be done no later, and has to have begun earlier
pub record Precedes (i j : Job) : Type 0 where
  pub early : i.early ≤ j.early
  pub late : i.late ≤ j.late
  pub by : i.by < j.by

-- an order of the jobs by rank, in which no job comes after one that it precedes
pub record IsSchedule (n : ℕ) (jobs order : List Job) : Type 0 where
  pub all : IsPermutation jobs order
  pub most : ℕ → ℕ
  pub counts : AreCounts jobs most
  pub timed : AreTimed n most 0 order
  pub preferred : EachPair (λ (i j : Job). Precedes j i → ⊥) order

-- BOUNDS

-- the greatest number of jobs that can be done before a position, by their earliest positions and
-- these bounds, the last one first
abbrev pub limit : List Job → List Bound → ℕ → ℕ
limit jobs [] p = count_by (λ (j : Job). nat_lt j.early p) jobs
limit jobs (b ∷ bs) p =
    if nat_le p b.at then min (b.due - b.jobs) (limit jobs bs p) else limit jobs bs p

-- whether a job is among the first q, by these bounds
abbrev pub is_among : ℕ → List Job → List Bound → ℕ → Job → Bool
is_among n jobs bs q j = nat_le (limit jobs bs j.late) q || nat_le (limit jobs bs j.by + n) q

-- at least b.jobs jobs, and at least one, are not done before position b.at, and are among the
-- first b.due. So before that position at most b.due - b.jobs are done
pub record IsBound (n : ℕ) (jobs : List Job) (bs : List Bound) (b : Bound) : Type 0 where
  pub some : 0 < b.jobs
  pub counted : b.jobs ≤ count_by (λ (j : Job). nat_le b.at j.early && is_among n jobs bs b.due j)
      jobs

-- each of the bounds follows from those before it, the last one first
abbrev pub AreBounds : ℕ → List Job → List Bound → Type 0
AreBounds n jobs [] = Unit {0}
AreBounds n jobs (b ∷ bs) = IsBound n jobs bs b × AreBounds n jobs bs

-- and the last one is of more jobs than they can be
abbrev pub Refute : ℕ → List Job → List Bound → Type 0
Refute n jobs [] = ⊥
Refute n jobs (b ∷ bs) = (b.due < b.jobs) × AreBounds n jobs (b ∷ bs)
