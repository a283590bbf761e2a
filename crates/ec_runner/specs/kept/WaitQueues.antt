-- Queues of waiters: those of one eventcount, by ascending threshold and, at equal thresholds, by
-- worker.
use Rattle.std.specs.Prelude.{◌≡◌, ℕ, ◌+◌, ◌≤◌, Bool, true, false, ◌==◌, ◌&&◌, ◌||◌, not, nat_le, nat_lt, ◌⊎◌, List, [], ◌∷◌, length, filter, suc, slice_set, Option, Some, None, if◌then◌else◌, slice_get}
use Rattle.ec_core.specs.kept.Fields.{map_at}
use Rattle.ec_runner.specs.declared.wait_queue.Waiter.{Waiter}
use Rattle.ec_runner.specs.declared.worker_state.WorkerState.{WorkerState}
use Rattle.ec_runner.specs.declared.worker_state.WorkerState.TheVariants.{Gone, Running, Waiting}

abbrev pub comes_before : Waiter → Waiter → Bool
comes_before a b = nat_lt a.threshold b.threshold || (a.threshold == b.threshold && nat_lt a.worker b.worker)

abbrev pub Each : (Waiter → Type 0) → List Waiter → Type 0
Each P [] = Unit {0}
Each P (x ∷ xs) = P x × Each P xs

-- the waiter is one of them
abbrev pub IsAmong : Waiter → List Waiter → Type 0
IsAmong z [] = ⊥
IsAmong z (x ∷ xs) = (z ≡ x) ⊎ IsAmong z xs

-- each comes before all that follow it
abbrev pub AreInOrder : List Waiter → Type 0
AreInOrder [] = Unit {0}
AreInOrder (x ∷ xs) = Each (λ y. comes_before x y ≡ true) xs × AreInOrder xs

-- the position of one more, and the queue with it
abbrev pub insertion_index : Waiter → List Waiter → ℕ
insertion_index y [] = 0
insertion_index y (x ∷ xs) = if comes_before x y then suc (insertion_index y xs) else 0

abbrev pub insert_waiter : Waiter → List Waiter → List Waiter
insert_waiter y [] = y ∷ []
insert_waiter y (x ∷ xs) = if comes_before x y then x ∷ insert_waiter y xs else y ∷ x ∷ xs

-- the queue without a worker
abbrev pub without : ℕ → List Waiter → List Waiter
without w queue = filter (λ x. not (x.worker == w)) queue

-- the first of the queue, if the total has reached its threshold
abbrev pub first_ready : ℕ → List Waiter → Option Waiter
first_ready sum [] = None
first_ready sum (x ∷ xs) = if nat_le x.threshold sum then Some x else None

-- whether the state is that of a waiter on e
abbrev pub waits_on : ℕ → WorkerState → Bool
waits_on e Gone = false
waits_on e Running = false
waits_on e (Waiting f v) = f == e

-- how many wait on e
abbrev pub number_on : ℕ → List WorkerState → ℕ
number_on e [] = 0
number_on e (s ∷ states) = (if waits_on e s then 1 else 0) + number_on e states

-- a queue is that of e: its workers wait on e for their thresholds, every worker that waits on e is
-- in it, and it is in order
pub record IsWaitQueue (e : ℕ) (states : List WorkerState) (queue : List Waiter) : Type 0 where
  pub order : AreInOrder queue
  pub wait : Each (λ x. slice_get states x.worker ≡ Some (Waiting e x.threshold)) queue
  pub all : (w v : ℕ) → slice_get states w ≡ Some (Waiting e v) → IsAmong (record { threshold = v; worker = w }) queue
  pub few : length queue ≤ number_on e states

-- the queues after a worker with this state is removed from its own, if it waits
abbrev pub remove_waiter : WorkerState → ℕ → List (List Waiter) → List (List Waiter)
remove_waiter Gone w queues = queues
remove_waiter Running w queues = queues
remove_waiter (Waiting e v) w queues = map_at (without w) queues e

-- one waiter on e, whose threshold the sum has reached, is released
pub record LetsOneGo (e sum : ℕ) (old new : List WorkerState) : Type 0 where
  pub worker : ℕ
  pub threshold : ℕ
  pub waits : slice_get old worker ≡ Some (Waiting e threshold)
  pub reached : threshold ≤ sum
  pub states : new ≡ slice_set old worker Running

-- each queue is that of its eventcount
pub record AreWaitQueues (states : List WorkerState) (queues : List (List Waiter)) : Type 0 where
  pub workers : length states ≡ 16
  pub events : length queues ≡ 32
  pub each : (e : ℕ) (queue : List Waiter) → slice_get queues e ≡ Some queue
      → IsWaitQueue e states queue
