-- One critical section of a worker on a board.
use Rattle.std.specs.Prelude.{◌≡◌, ℕ, ◌<◌, Bool, true, false, ◌==◌, ◌&&◌, not, List, [], ◌∷◌, ◌++◌, length, Option, Some, None, Ok, Err, IsOk, if◌then◌else◌, slice_get}
use Rattle.std.specs.List.{list_any}
use Rattle.ec_core.specs.declared.act.Act.{Act}
use Rattle.ec_core.specs.declared.act.Act.TheVariants.{Advance}
use Rattle.ec_core.specs.declared.act.Entry.{Entry}
use Rattle.ec_core.specs.declared.act.Reply.{Reply}
use Rattle.ec_core.specs.Calls.{is_pending}
use Rattle.ec_core.specs.Procedures.{IsReply}
use Rattle.ec_machine.specs.declared.outcome.Outcome.{Outcome}
use Rattle.ec_machine.specs.declared.outcome.Outcome.TheVariants as outcomes
use Rattle.ec_runner.specs.declared.worker_state.WorkerState.{WorkerState}
use Rattle.ec_runner.specs.declared.worker_state.WorkerState.TheVariants.{Waiting}
use Rattle.ec_runner.specs.declared.wait.Wait.{Wait}
use Rattle.ec_runner.specs.declared.summary.LastRequest.{LastRequest}
use Rattle.ec_runner.specs.declared.holding.Next.{Next}
use Rattle.ec_runner.specs.declared.holding.Next.TheVariants as next
use Rattle.ec_runner.specs.WorkerStates.{is_waiting, worker_state}
use Rattle.ec_runner.specs.kept.WaitQueues.{waits_on}
use Rattle.ec_runner.specs.Works.{IsStop}
use Rattle.ec_runner.specs.BoardModel.{BoardModel, after_entry, with_worker_state, wait_of, is_stopped, answer_on}

-- whether w is to sleep: it is a waiter, and may still be released
abbrev pub is_asleep : BoardModel → ℕ → Bool
is_asleep b w = is_waiting (worker_state b.states w) && not b.deadlocked

-- whether v is to be woken after w has changed the board b to d: its sleep ends there
abbrev pub is_woken : BoardModel → ℕ → BoardModel → ℕ → Bool
is_woken b w d v = not (v == w) && (is_asleep b v && not (is_asleep d v))

-- exactly those are woken, and nobody if there is no table
abbrev pub AreWoken : Option (List Bool) → BoardModel → ℕ → BoardModel → Type 0
AreWoken None b w d = (v : ℕ) → v < 16 → is_woken b w d v ≡ false
AreWoken (Some table) b w d = (v : ℕ) → v < 16 → slice_get table v ≡ Some (is_woken b w d v)

-- the board after w has become a waiter, if it has something to wait for
abbrev pub waiting_for : BoardModel → ℕ → Option Wait → BoardModel
waiting_for b w None = b
waiting_for b w (Some a) = with_worker_state b w (Waiting a.event a.threshold)

abbrev pub park : BoardModel → ℕ → BoardModel
park b w = waiting_for b w (wait_of b w)

-- whether somebody waits for the eventcount that an act advances
abbrev pub is_awaited : Act → List WorkerState → Bool
is_awaited (Advance e) states = list_any (waits_on e) states
is_awaited _ states = false

-- the board after a step of w that was answered: if the answer is Pending and w may wait, it parks
abbrev pub after_hold : BoardModel → ℕ → Act → Bool → Reply → BoardModel
after_hold b w act may_park reply =
    let d = after_entry b (record { worker = w; act = act; reply = reply }) in
    if may_park && is_pending reply then park d w else d

-- the step was made, and answered with this reply
pub record IsMade (reply : Reply) (b : BoardModel) (w : ℕ) (act : Act) (may_park : Bool) (d : BoardModel) : Type 0 where
  pub free : is_stopped b w ≡ false
  pub answer : answer_on b w act ≡ Ok reply
  pub kind : IsReply act reply
  pub board : d ≡ after_hold b w act may_park reply

-- why w got no reply
abbrev pub IsHalt : Outcome → BoardModel → ℕ → Act → Type 0
IsHalt outcomes.Stopped b w act = is_stopped b w ≡ true
IsHalt (outcomes.Refused r) b w act = (is_stopped b w ≡ false) × (answer_on b w act ≡ Err r)
IsHalt outcomes.Memory b w act = (is_stopped b w ≡ false) × IsOk (answer_on b w act)
IsHalt _ b w act = ⊥

-- ONE CRITICAL SECTION: what w does next, if it asked the board b for an act and the board is d
-- after it. If it got no reply, that comes with how many entries the run had
abbrev pub IsNext : Next → BoardModel → ℕ → Act → Bool → BoardModel → Type 0
IsNext (next.GoOn reply) b w act may_park d = IsMade reply b w act may_park d × (is_asleep d w ≡ false)
IsNext (next.Sleep reply) b w act may_park d = IsMade reply b w act may_park d × (is_asleep d w ≡ true)
IsNext (next.Leave outcome moment) b w act may_park d = (d ≡ b) × (moment ≡ length b.run.entries) × IsHalt outcome b w act

-- what a worker that asked for an act knows of what it does next, whatever the board was
abbrev pub FitsAct : Next → Act → Type 0
FitsAct (next.GoOn reply) act = IsReply act reply
FitsAct (next.Sleep reply) act = IsReply act reply
FitsAct (next.Leave outcome moment) act = IsStop outcome

-- whether it goes to sleep
abbrev pub is_sleep : Next → Bool
is_sleep (next.GoOn reply) = false
is_sleep (next.Sleep reply) = true
is_sleep (next.Leave outcome moment) = false

-- what w does with the result, by its log and the outcome of its program: the reply is in the log;
-- or the program has ended with this outcome, and w records what it asked for, and when
abbrev pub IsTaken : Next → ℕ → Act → List Entry → List Entry → Outcome → Option LastRequest
    → Type 0
IsTaken (next.GoOn reply) w act old new o asked = (new ≡ old ++ record { worker = w; act = act; reply = reply } ∷ []) × (asked ≡ None)
IsTaken (next.Sleep reply) w act old new o asked = (new ≡ old ++ record { worker = w; act = act; reply = reply } ∷ []) × (asked ≡ None)
IsTaken (next.Leave outcome moment) w act old new o asked = (new ≡ old) × (o ≡ outcome) × (asked ≡ Some (record { act = act; moment = moment }))
