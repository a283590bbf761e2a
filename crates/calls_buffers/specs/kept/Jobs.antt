-- The items of a history as jobs.
use Rattle.std.specs.Prelude.{◌≡◌, ℕ, ◌+◌, ◌-◌, ◌<◌, ◌≤◌, ◌⊎◌, max, List, [], ◌∷◌}
use Rattle.std.specs.List.{Contains}
use Rattle.std.specs.List.Sorted.{IsPermutation, IsNonDecreasingBy}
use Rattle.calls_core.specs.Lists.{Each}
use Rattle.calls_schedule.specs.declared.job.Job.{Job}
use Rattle.calls_buffers.specs.declared.jobs.Reach.{Reach}
use Rattle.calls_buffers.specs.declared.windows.Window.{Window}
use Rattle.calls_buffers.specs.kept.Windows.{in_by, out_from}

-- REACHES

abbrev pub early_reach : Window → Reach
early_reach w = record { from = in_by w; to = out_from w }

abbrev pub late_reach : ℕ → Window → Reach
late_reach end w = record { from = end - w.put_first; to = end - w.take_last }

-- the greatest second positions so far, and of these
abbrev pub tops_of : ℕ → List Reach → List Reach
tops_of m [] = []
tops_of m (r ∷ rs) = record { from = r.from; to = max r.to m } ∷ tops_of (max r.to m) rs

pub record Climbs (list tops : List Reach) : Type 0 where
  pub sorted : List Reach
  pub moved : IsPermutation list sorted
  pub rises : IsNonDecreasingBy (λ (r : Reach). r.from) sorted
  pub is : tops ≡ tops_of 0 sorted

pub record HasTop (list : List Reach) (p m : ℕ) : Type 0 where
  pub reach : Reach
  pub known : Contains list reach
  pub before : reach.from < p
  pub is : reach.to ≡ m

-- the greatest second position of those whose first one is before p
pub record IsTop (list : List Reach) (p m : ℕ) : Type 0 where
  pub each : Each (λ (r : Reach). r.from < p → r.to ≤ m) list
  pub some : (m ≡ 0) ⊎ HasTop list p m

-- JOBS

-- x was in before the produce of y was invoked
abbrev pub Before : Window → Window → Type 0
Before x y = in_by x < y.put_first

-- an item that was in before and is taken out no earlier
pub record IsHeld (ws : List Window) (w : Window) (p : ℕ) : Type 0 where
  pub other : Window
  pub known : Contains ws other
  pub before : Before other w
  pub is : p ≡ out_from other

-- an item that was put in after, and taken out by then
pub record IsPushed (ws : List Window) (w : Window) (p : ℕ) : Type 0 where
  pub other : Window
  pub known : Contains ws other
  pub before : Before w other
  pub is : p ≡ other.take_last + 1

-- the job of an item
pub record IsJobFrom (ws : List Window) (w : Window) (j : Job) : Type 0 where
  pub item : j.item ≡ w.item
  pub by : j.by ≡ in_by w + 1
  pub early : out_from w ≤ j.early
  pub early_each : Each (λ (z : Window). Before z w → out_from z ≤ j.early) ws
  pub early_some : (j.early ≡ out_from w) ⊎ IsHeld ws w j.early
  pub late : j.late ≤ w.take_last + 1
  pub late_each : Each (λ (z : Window). Before w z → j.late ≤ z.take_last + 1) ws
  pub late_some : (j.late ≡ w.take_last + 1) ⊎ IsPushed ws w j.late

-- those of some of the items, in their order
abbrev pub AreJobsFrom : List Window → List Window → List Job → Type 0
AreJobsFrom ws [] [] = Unit {0}
AreJobsFrom ws [] (j ∷ js) = ⊥
AreJobsFrom ws (w ∷ more) [] = ⊥
AreJobsFrom ws (w ∷ more) (j ∷ js) = IsJobFrom ws w j × AreJobsFrom ws more js
