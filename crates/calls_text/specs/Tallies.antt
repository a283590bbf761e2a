-- How many advances each worker has called of each eventcount.
use Rattle.std.specs.Prelude.{◌≡◌, ℕ, ◌+◌, ◌<◌, Bool, false, ◌&&◌, ◌==◌, List, [], if◌then◌else◌}
use Rattle.std.specs.Prelude.{count_by, slice_index_or}
use Rattle.calls_core.specs.declared.history.Action.{Action}
use Rattle.calls_core.specs.declared.history.Action.TheVariants.{Invoke, Respond}
use Rattle.calls_core.specs.declared.history.Event.{Event}
use Rattle.calls_counts.specs.Faults.{is_advance}
use Rattle.calls_text.specs.declared.tally.Tally.{Tally}

-- whether an event is an invocation of an advance of the object with index k
abbrev pub advances : ℕ → Action → Bool
advances k (Invoke j op) = is_advance op && (j == k)
advances k (Respond r) = false

abbrev pub is_advance_by : ℕ → ℕ → Event → Bool
is_advance_by w k x = (x.worker == w) && advances k x.action

-- how many advances of that object the worker has called
abbrev pub advances_by : ℕ → ℕ → List Event → ℕ
advances_by w k events = count_by (is_advance_by w k) events

abbrev pub tally_at : Tally → ℕ → ℕ → ℕ
tally_at t w e = slice_index_or (slice_index_or t.counts w []) e 0

-- these are the numbers of the advances among these events
abbrev pub IsTallyOf : Tally → List Event → Type 0
IsTallyOf t events = (w e : ℕ) → w < 16 → e < 32 → tally_at t w e ≡ advances_by w e events

-- one more for this worker and this eventcount, and the same for others
abbrev pub IsCountedFurther : Tally → Tally → ℕ → ℕ → Type 0
IsCountedFurther old new w e =
    (v f : ℕ) → v < 16 → f < 32
    → tally_at new v f ≡ (if (v == w) && (f == e) then tally_at old v f + 1 else tally_at old v f)
