-- What a monitor of a bank represents, and its verdicts.
use Rattle.std.specs.Prelude.{◌≡◌, ℕ, ◌+◌, ◌-◌, ◌^◌, ◌<◌, ◌≤◌, List, [], ◌∷◌, length, count_by}
use Rattle.std.specs.Prelude.{slice_index, Result, Ok, Err, Vec}
use Rattle.std.specs.declared.alloc.Global.{Global}
use Rattle.calls_core.specs.declared.history.Kind.TheVariants.{Semaphores}
use Rattle.calls_core.specs.declared.history.Action.{Action}
use Rattle.calls_core.specs.declared.history.Action.TheVariants.{Invoke, Respond}
use Rattle.calls_core.specs.declared.history.Event.{Event}
use Rattle.calls_core.specs.declared.history.PendingCall.{PendingCall}
use Rattle.calls_core.specs.declared.history.Call.{Call}
use Rattle.calls_core.specs.Histories.{IsHistoryOf, completed_calls, pending_calls, clock}
use Rattle.calls_core.specs.Outcomes.{IsOrderOf, HasOrderOf}
use Rattle.calls_semaphores.specs.declared.bank.Bank.{Bank}
use Rattle.calls_semaphores.specs.declared.fault.Fault.{Fault}
use Rattle.calls_semaphores.specs.declared.monitor.Monitor.{Monitor}
use Rattle.calls_semaphores.specs.Banks.{took, adds}
use Rattle.calls_semaphores.specs.Faults.{Shows}

-- how many units of semaphore i the calls took
abbrev pub units_taken : ℕ → List Event → ℕ
units_taken i past = count_by (λ (c : Call). took i c.op c.reply) (completed_calls past)

-- how many units the calls add to semaphore i, also those that are pending
abbrev pub units_added : ℕ → List Event → ℕ
units_added i past =
    count_by (λ (c : Call). adds i c.op) (completed_calls past)
    + count_by (λ (o : PendingCall). adds i o.op) (pending_calls past)

-- the units that semaphore i has left
abbrev pub units_left : Bank → ℕ → ℕ
units_left b i = slice_index b.left.items i + slice_index b.added.items i

-- each semaphore of the bank has the units left that it had at first, plus those that were added,
-- minus those that were taken
pub record AreLeft (units : List ℕ) (past : List Event) (b : Bank) : Type 0 where
  pub same : length b.added.items ≡ length units
  pub each : (i : ℕ) → i < length units
      → units_left b i + units_taken i past ≡ slice_index units i + units_added i past

-- the monitor represents the history so far of a bank with these units at first, and this history
-- has a linearization
pub record Represents (units : Vec ℕ Global) (past : List Event) (m : Monitor) : Type 0 where
  pub pending : m.pending.items ≡ pending_calls past
  pub left : AreLeft units.items past m.bank
  pub order : HasOrderOf (Semaphores units) past

-- each of the numbers is at most n
abbrev pub UpTo : ℕ → List ℕ → Type 0
UpTo n xs = (i : ℕ) → slice_index xs i ≤ n

-- the greatest of the numbers grows by at most one
abbrev pub GrowsByOne : List ℕ → List ℕ → Type 0
GrowsByOne old new = (n : ℕ) → UpTo n old → UpTo (n + 1) new

-- at an invocation the greatest number grows by at most one, and at a response none grows
abbrev pub Grows : Action → List ℕ → List ℕ → Type 0
Grows (Invoke k op) old new = GrowsByOne old new
Grows (Respond r) old new = (i : ℕ) → slice_index new i ≤ slice_index old i

-- the monitor of a bank with these units, before any event
abbrev pub Starts : Vec ℕ Global → Monitor → Type 0
Starts units m = Represents units [] m × UpTo 0 m.bank.added.items

-- the call that the event completes shows a fault, and so there is no linearization
pub record IsRefusedAt (units : Vec ℕ Global) (past : List Event) (x : Event) (f : Fault)
    : Type 0 where
  pub ended : completed_calls (x ∷ past) ≡ f.call ∷ completed_calls past
  pub shows : Shows (Semaphores units) (x ∷ past) f
  pub none : (t : ℕ) → clock (x ∷ past) ≤ t → (cs : List Call)
      → IsOrderOf (Semaphores units) (x ∷ past) t cs → ⊥

abbrev pub Verdict : Vec ℕ Global → List Event → Event → Monitor → Result Unit Fault → Type 0
Verdict units past x new (Ok u) = Represents units (x ∷ past) new
Verdict units past x new (Err f) = IsRefusedAt units past x f

-- for every bank and every history of it that the monitor represents: if the event extends this
-- history, and there is room for one more unit, the verdict on the longer history is right
abbrev pub Judges : Monitor → Monitor → Event → Result Unit Fault → Type 0
Judges old new x result = (units : Vec ℕ Global) (past : List Event)
    → IsHistoryOf (Semaphores units) (x ∷ past) → Represents units past old
    → UpTo (2 ^ 64 - 2) old.bank.added.items → Verdict units past x new result
