-- Items in the order of their jobs.
use Rattle.std.specs.Prelude.{ℕ, ◌<◌, ◌≤◌, ◌==◌, Option, Some, None, List, [], ◌∷◌, ◌++◌, reverse}
use Rattle.std.specs.Prelude.{if◌then◌else◌}
use Rattle.calls_core.specs.Lists.{Each, EachPair}
use Rattle.calls_schedule.specs.declared.job.Job.{Job}
use Rattle.calls_schedule.specs.Schedules.{Refute}
use Rattle.calls_buffers.specs.declared.windows.Window.{Window}
use Rattle.calls_buffers.specs.declared.ranking.Ranking.{Ranking}
use Rattle.calls_buffers.specs.declared.ranking.Ranking.TheVariants.{Ranked, Refuted}
use Rattle.calls_buffers.specs.kept.Windows.{in_by, IsWithin, AreRanked}
use Rattle.calls_buffers.specs.kept.Jobs.{AreJobsFrom}

-- the window of an item
abbrev pub find_window : List Window → ℕ → Option Window
find_window [] v = None
find_window (w ∷ ws) v = if w.item == v then Some w else find_window ws v

abbrev pub one_window : Option Window → List Window
one_window None = []
one_window (Some w) = w ∷ []

-- the windows of the items of jobs
abbrev pub windows_at : List Window → List Job → List Window
windows_at ws [] = []
windows_at ws (j ∷ js) = one_window (find_window ws j.item) ++ windows_at ws js

abbrev pub Ascend : List Window → Type 0
Ascend ws = EachPair (λ (x y : Window). x.item < y.item) ws

-- windows that have jobs
pub record AreFit (end : ℕ) (ws : List Window) : Type 0 where
  pub ascend : Ascend ws
  pub within : Each (IsWithin end) ws
  pub some : Each (λ (w : Window). in_by w < end) ws
  pub begun : Each (λ (w : Window). w.put_first ≤ in_by w) ws

-- the items have these ranks, or their jobs none
abbrev pub IsRanking : ℕ → List Window → Ranking → Type 0
IsRanking n ws (Ranked order) = AreRanked n ws order.items
IsRanking n ws (Refuted jobs bounds) =
    AreJobsFrom ws ws jobs.items × Refute n jobs.items (reverse bounds.items)
