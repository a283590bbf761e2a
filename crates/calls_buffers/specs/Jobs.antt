-- The items of a history as jobs: an item is done when it is taken out.
use Rattle.std.specs.Prelude.{◌≡◌, ℕ, ◌<◌, ◌≤◌, ◌⊎◌, List, count_by}
use Rattle.std.specs.List.{Contains}
use Rattle.calls_core.specs.declared.history.Op.TheVariants.{Produce, Consume}
use Rattle.calls_core.specs.declared.history.Reply.TheVariants.{Done, Number}
use Rattle.calls_core.specs.declared.history.PendingCall.{PendingCall}
use Rattle.calls_core.specs.declared.history.Call.{Call}
use Rattle.calls_core.specs.Lists.{Each, EachPair}
use Rattle.calls_schedule.specs.declared.job.Job.{Job}
use Rattle.calls_buffers.specs.Counts.{item, is_take, is_consume, all_puts}

-- p is a completed produce of v
pub record IsProduceOf (done : List Call) (v : ℕ) (p : Call) : Type 0 where
  pub known : Contains done p
  pub asks : p.op ≡ Produce v
  pub returns : p.reply ≡ Done

-- c is a completed consume that returned v
pub record IsConsumeOf (done : List Call) (v : ℕ) (c : Call) : Type 0 where
  pub known : Contains done c
  pub asks : c.op ≡ Consume
  pub returns : c.reply ≡ Number v

-- a completed produce of v returned before position p
pub record IsPutBefore (done : List Call) (v p : ℕ) : Type 0 where
  pub call : Call
  pub produce : IsProduceOf done v call
  pub before : call.last < p

-- a consume returned v before position p
pub record IsTakenBefore (done : List Call) (v p : ℕ) : Type 0 where
  pub call : Call
  pub consume : IsConsumeOf done v call
  pub before : call.last < p

-- before position p item v was put in: its produce returned, or the consume that returned it
abbrev pub IsInBefore : List Call → ℕ → ℕ → Type 0
IsInBefore done v p = IsPutBefore done v p ⊎ IsTakenBefore done v p

-- a completed or pending produce of v was invoked at position p
pub record IsPutCompleted (done : List Call) (v p : ℕ) : Type 0 where
  pub call : Call
  pub produce : IsProduceOf done v call
  pub at : call.first ≡ p

pub record IsPutPending (pending : List PendingCall) (v p : ℕ) : Type 0 where
  pub call : PendingCall
  pub known : Contains pending call
  pub asks : call.op ≡ Produce v
  pub at : call.first ≡ p

abbrev pub IsPutInvoked : List Call → List PendingCall → ℕ → ℕ → Type 0
IsPutInvoked done pending v p = IsPutCompleted done v p ⊎ IsPutPending pending v p

-- v is put in at most once
abbrev pub IsOnce : List Call → List PendingCall → ℕ → Type 0
IsOnce done pending v = all_puts (item v) done pending ≤ 1

-- the consume that returned v was invoked at position p or later
pub record IsTakenFrom (done : List Call) (v p : ℕ) : Type 0 where
  pub call : Call
  pub consume : IsConsumeOf done v call
  pub from : p ≤ call.first

-- the produce of v was invoked at position p or later
pub record IsPutFrom (done : List Call) (pending : List PendingCall) (v p : ℕ) : Type 0 where
  pub first : ℕ
  pub invoked : IsPutInvoked done pending v first
  pub from : p ≤ first

-- nobody took v, and nobody may have: no consume is pending
pub record Stays (done : List Call) (pending : List PendingCall) (v : ℕ) : Type 0 where
  pub untaken : count_by (is_take (item v)) done ≡ 0
  pub none : count_by (λ (o : PendingCall). is_consume o.op) pending ≡ 0

-- v was not taken before position p, by its own calls
abbrev pub IsOutFrom : List Call → List PendingCall → ℕ → ℕ → Type 0
IsOutFrom done pending v p =
    IsTakenFrom done v p ⊎ IsPutFrom done pending v p ⊎ Stays done pending v

-- or since an item was not that was put in before it
pub record IsBehind (done : List Call) (pending : List PendingCall) (v p : ℕ) : Type 0 where
  pub other : ℕ
  pub once : IsOnce done pending other
  pub out : IsOutFrom done pending other p
  pub first : ℕ
  pub invoked : IsPutInvoked done pending v first
  pub before : IsInBefore done other first

-- v was taken before position p, since an item was that was put in after it
pub record IsAhead (done : List Call) (pending : List PendingCall) (v p : ℕ) : Type 0 where
  pub other : ℕ
  pub once : IsOnce done pending other
  pub taken : IsTakenBefore done other p
  pub first : ℕ
  pub invoked : IsPutInvoked done pending other first
  pub before : IsInBefore done v first

-- an item that is put in once, as a job. What is not taken is done at `end`
pub record IsJob (done : List Call) (pending : List PendingCall) (end : ℕ) (j : Job) : Type 0 where
  pub once : IsOnce done pending j.item
  pub early : IsOutFrom done pending j.item j.early ⊎ IsBehind done pending j.item j.early
  pub within : j.early ≤ end
  pub by : IsInBefore done j.item j.by
  pub late : IsTakenBefore done j.item j.late ⊎ IsAhead done pending j.item j.late ⊎ (end < j.late)

-- jobs of different items
pub record AreJobs (done : List Call) (pending : List PendingCall) (end : ℕ) (jobs : List Job)
    : Type 0 where
  pub each : Each (IsJob done pending end) jobs
  pub apart : EachPair (λ (i j : Job). i.item ≡ j.item → ⊥) jobs
