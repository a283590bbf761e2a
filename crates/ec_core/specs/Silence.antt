-- Read-only workers, and a history without some workers.
use Rattle.std.specs.Prelude.{◌≡◌, ℕ, ◌<◌, Bool, false, ◌==◌, not, List, None, filter}
use Rattle.ec_count.specs.Tables.{Tables, may_take, may_write}
use Rattle.ec_core.specs.declared.act.Entry.{Entry}
use Rattle.ec_core.specs.declared.act.Act.{Act}
use Rattle.ec_core.specs.declared.act.Act.TheVariants.{Hand}
use Rattle.ec_core.specs.Counts.{past_at, component_at}

-- w is declared, signals no eventcount at any moment of the history, takes from no sequencer and writes no cell
pub record IsSilent (t : Tables) (h : List Entry) (w : ℕ) : Type 0 where
  pub declared : w < t.workers
  pub signals : (k e : ℕ) → component_at t e (past_at k h) w ≡ None
  pub takes : (q : ℕ) → may_take t q w ≡ false
  pub writes : (x : ℕ) → may_write t x w ≡ false

-- whether an act transfers a component to w
abbrev pub hands_to : ℕ → Act → Bool
hands_to w (Hand e b) = b == w
hands_to w _ = false

-- the entries, in their order, without those of the workers in s
abbrev pub without : (ℕ → Bool) → List Entry → List Entry
without s entries = filter (λ x. not (s x.worker)) entries
