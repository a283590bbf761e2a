-- The states of the workers of a board, by number; the state of a waiter says what it waits for.
use Rattle.std.specs.Prelude.{ℕ, Bool, true, false, ◌==◌, ◌&&◌, not, nat_le, List, map, if◌then◌else◌, slice_get, unwrap_or}
use Rattle.std.specs.List.{list_any}
use Rattle.ec_core.specs.declared.act.Act.{Act}
use Rattle.ec_core.specs.declared.act.Act.TheVariants.{Advance}
use Rattle.ec_core.specs.declared.act.Entry.{Entry}
use Rattle.ec_core.specs.Counts.{total}
use Rattle.ec_runner.specs.declared.worker_state.WorkerState.{WorkerState}
use Rattle.ec_runner.specs.declared.worker_state.WorkerState.TheVariants.{Gone, Running, Waiting}

-- a worker is active until it leaves
abbrev pub is_active : WorkerState → Bool
is_active Gone = false
is_active Running = true
is_active (Waiting e v) = true

abbrev pub is_waiting : WorkerState → Bool
is_waiting Gone = false
is_waiting Running = false
is_waiting (Waiting e v) = true

abbrev pub is_running : WorkerState → Bool
is_running Gone = false
is_running Running = true
is_running (Waiting e v) = false

-- the state of a worker
abbrev pub worker_state : List WorkerState → ℕ → WorkerState
worker_state states w = unwrap_or (slice_get states w) Gone

-- every active worker is a waiter: none is active that doesn't wait
abbrev pub every_active_waits : List WorkerState → Bool
every_active_waits states = not (list_any is_running states)

-- some worker is active, and every active worker is a waiter
abbrev pub is_deadlocked : List WorkerState → Bool
is_deadlocked states = list_any is_active states && every_active_waits states

-- a state once the total of e has reached this: a waiter on e with at most this threshold is
-- released
abbrev pub state_at_total : ℕ → ℕ → WorkerState → WorkerState
state_at_total e sum Gone = Gone
state_at_total e sum Running = Running
state_at_total e sum (Waiting f v) = if f == e && nat_le v sum then Running else Waiting f v

-- the states after an act that is the newest of the history so far: an advance releases those whose
-- threshold it reaches, and no other act releases any (a hand changes no total)
abbrev pub states_after_act : Act → List Entry → List WorkerState → List WorkerState
states_after_act (Advance e) past states = map (state_at_total e (total e past)) states
states_after_act _ past states = states
