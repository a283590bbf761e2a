-- A board: a run, a state for each worker, and a flag that is set once all active workers wait.
use Rattle.std.specs.Prelude.{◌≡◌, ℕ, ◌<◌, Bool, true, ◌==◌, ◌&&◌, ◌||◌, not, nat_lt, List, [], ◌∷◌, ◌++◌, reverse, Option, Some, None, if◌then◌else◌, slice_get, slice_set, Result, false, Err, IsOk}
use Rattle.std.specs.Option.{option_and_then}
use Rattle.ec_count.specs.Tables.{Tables}
use Rattle.ec_core.specs.declared.act.Act.{Act}
use Rattle.ec_core.specs.declared.act.Act.TheVariants.{Await}
use Rattle.ec_core.specs.declared.act.Entry.{Entry}
use Rattle.ec_core.specs.declared.act.Reply.{Reply}
use Rattle.ec_core.specs.declared.act.Refusal.{Refusal}
use Rattle.ec_core.specs.RunModel.{RunModel}
use Rattle.ec_core.specs.Counts.{total}
use Rattle.ec_core.specs.Calls.{CallSoFar, under_way}
use Rattle.ec_core.specs.Rounds.{event_or, next_component}
use Rattle.ec_core.specs.Acceptance.{answer_of}
use Rattle.ec_runner.specs.declared.worker_state.WorkerState.{WorkerState}
use Rattle.ec_runner.specs.declared.worker_state.WorkerState.TheVariants.{Running, Waiting}
use Rattle.ec_runner.specs.declared.wait.Wait.{Wait}
use Rattle.ec_runner.specs.WorkerStates.{is_active, worker_state, every_active_waits, is_deadlocked, states_after_act}
use Rattle.ec_runner.specs.declared.board.BoardFault.{BoardFault}
use Rattle.ec_runner.specs.declared.board.BoardFault.TheVariants.{Stopped, Refused, Memory}

pub record BoardModel : Type 0 where
  pub run : RunModel
  pub states : List WorkerState
  pub deadlocked : Bool

-- the history so far of a run, the newest entry first
abbrev pub past_of : RunModel → List Entry
past_of run = reverse run.entries

-- what a call waits for if its next entry reads this component: an await that is to read the first
-- one again has just ended a round that fell short
abbrev pub short_at : Act → ℕ → Option Wait
short_at (Await e v) c = if c == 0 then Some (record { event = e; threshold = v }) else None
short_at act c = None

abbrev pub fallen_short : Tables → CallSoFar → Option Wait
fallen_short t call = short_at call.op (next_component t (event_or call.op) call.moments)

-- the await of w whose last round fell short, if w's latest entry ended it
abbrev pub await_fallen_short : Tables → ℕ → List Entry → Option Wait
await_fallen_short t w past = option_and_then (fallen_short t) (under_way w past)

-- that await, if the total of its eventcount has not reached its threshold since
abbrev pub unmet : List Entry → Option Wait → Option Wait
unmet past None = None
unmet past (Some a) = if nat_lt (total a.event past) a.threshold then Some a else None

-- what an active worker has to wait for; nothing if it may go on
abbrev pub wait_of : BoardModel → ℕ → Option Wait
wait_of b w = if is_active (worker_state b.states w) then unmet (past_of b.run) (await_fallen_short b.run.setup w (past_of b.run)) else None

-- THE WAITERS, among the active workers. Every active worker is declared. A waiter is active; its
-- latest entry ended a round of an await that fell short; and the total is still below its
-- threshold. If the flag is set every active worker is a waiter.
pub record AreWaiters (b : BoardModel) : Type 0 where
  pub declared : (w : ℕ) → is_active (worker_state b.states w) ≡ true → w < b.run.setup.workers
  pub short : (w e v : ℕ) → slice_get b.states w ≡ Some (Waiting e v) → await_fallen_short b.run.setup w (past_of b.run) ≡ Some (record { event = e; threshold = v })
  pub above : (w e v : ℕ) → slice_get b.states w ≡ Some (Waiting e v) → total e (past_of b.run) < v
  pub all : b.deadlocked ≡ true → every_active_waits b.states ≡ true

-- the board after the state of w is set: the flag is set if then some worker is active and every
-- active worker waits, and is never cleared
abbrev pub with_worker_state : BoardModel → ℕ → WorkerState → BoardModel
with_worker_state b w state =
    let states = slice_set b.states w state in
    record b { states = states; deadlocked = b.deadlocked || is_deadlocked states }

-- the board after an entry: its worker waits no more, and an advance releases those whose threshold
-- is reached
abbrev pub after_entry : BoardModel → Entry → BoardModel
after_entry b x =
    let entries = b.run.entries ++ x ∷ [] in
    record b { run = record b.run { entries = entries }; states = states_after_act x.act (reverse entries) (slice_set b.states x.worker Running) }

-- whether w is a declared worker that has left
abbrev pub has_left : BoardModel → ℕ → Bool
has_left b w = nat_lt w b.run.setup.workers && not (is_active (worker_state b.states w))

-- whether w makes no more steps: the board is deadlocked, or w has left
abbrev pub is_stopped : BoardModel → ℕ → Bool
is_stopped b w = b.deadlocked || has_left b w

-- the answer of the run to an act of w
abbrev pub answer_on : BoardModel → ℕ → Act → Result Reply Refusal
answer_on b w act = answer_of b.run.setup (past_of b.run) w act

-- a worker that is stopped is reported so, whatever it asks for; otherwise the refusal is reported;
-- and out of memory only if the step is not refused
abbrev pub IsBoardFault : BoardFault → BoardModel → ℕ → Act → Type 0
IsBoardFault Stopped b w act = is_stopped b w ≡ true
IsBoardFault (Refused r) b w act = (is_stopped b w ≡ false) × (answer_on b w act ≡ Err r)
IsBoardFault Memory b w act = (is_stopped b w ≡ false) × IsOk (answer_on b w act)
