-- What shows that the calls of a buffer have no linearization. Each fault is a few calls and counts
-- of others, by one of their positions. A call that timed out is not counted.
use Rattle.std.specs.Prelude.{◌≡◌, ℕ, ◌+◌, ◌<◌, ◌≤◌, ◌⊎◌, List, reverse}
use Rattle.std.specs.List.{Contains}
use Rattle.calls_core.specs.declared.history.Event.{Event}
use Rattle.calls_core.specs.declared.history.PendingCall.{PendingCall}
use Rattle.calls_core.specs.declared.history.Call.{Call}
use Rattle.calls_core.specs.Histories.{pending_calls, completed_calls}
use Rattle.calls_schedule.specs.declared.job.Job.{Job}
use Rattle.calls_schedule.specs.declared.job.Bound.{Bound}
use Rattle.calls_schedule.specs.Schedules.{Refute}
use Rattle.calls_turns.specs.declared.turn.Turn.{Turn}
use Rattle.calls_turns.specs.declared.turn.Taker.{Taker}
use Rattle.calls_turns.specs.declared.turn.Step.{Step}
use Rattle.calls_turns.specs.declared.turn.Clash.{Clash}
use Rattle.calls_turns.specs.Steps as steps_of
use Rattle.calls_buffers.specs.declared.fault.Fault.{Fault}
use Rattle.calls_buffers.specs.declared.fault.Fault.TheVariants.{Unproduced, Overfull, Crowded}
use Rattle.calls_buffers.specs.declared.fault.Fault.TheVariants.{Overtaken, Passed, Squeezed}
use Rattle.calls_buffers.specs.declared.fault.Fault.TheVariants.{Overdue, Outrun}
use Rattle.calls_buffers.specs.declared.fault.Flow.{Flow}
use Rattle.calls_buffers.specs.Counts.{any_item, item, untaken, returned_puts, invoked_puts}
use Rattle.calls_buffers.specs.Counts.{all_puts, returned_takes, invoked_takes, later_takes}
use Rattle.calls_buffers.specs.Counts.{pending_takes}
use Rattle.calls_buffers.specs.Jobs.{IsProduceOf, IsConsumeOf, AreJobs}
use Rattle.calls_buffers.specs.Turns.{AreTurns}
use Rattle.calls_buffers.specs.Accesses.{AreWithin}

-- up to the response of c, so many consumes had returned its item, and fewer produces of it were
-- invoked
pub record FromUnproduced (done : List Call) (pending : List PendingCall) (c : Call) (taken put : ℕ)
    : Type 0 where
  pub value : ℕ
  pub consume : IsConsumeOf done value c
  pub takes : taken ≡ returned_takes (item value) c.last done
  pub puts : put ≡ invoked_puts (item value) c.last done pending
  pub more : put < taken

-- up to the response of c, more produces had returned than there is room for and items that the
-- consumes invoked by then may have taken
pub record FromOverfull (n : ℕ) (done : List Call) (pending : List PendingCall) (c : Call)
    (put taken : ℕ) : Type 0 where
  pub known : Contains done c
  pub puts : put ≡ returned_puts any_item c.last done
  pub takes : taken ≡ invoked_takes any_item c.last done + pending_takes c.last pending
  pub more : n + taken < put

-- up to the response of c, more produces had returned of items that no consume invoked by then
-- returned, than there is room for and pending consumes may have taken
pub record FromCrowded (n : ℕ) (done : List Call) (pending : List PendingCall) (c : Call)
    (left asked : ℕ) : Type 0 where
  pub known : Contains done c
  pub puts : left ≡ returned_puts (untaken c.last done) c.last done
  pub asks : asked ≡ pending_takes c.last pending
  pub more : n + asked < left

-- c returned item y, and no produce of y had been invoked up to the response of p. So what had been
-- produced up to there was taken before c took y. That leaves fewer produces of the item x of p than
-- consumes of x that were invoked after the response of c
pub record FromOvertaken (done : List Call) (pending : List PendingCall) (p c : Call)
    (before later all : ℕ) : Type 0 where
  pub x : ℕ
  pub y : ℕ
  pub produce : IsProduceOf done x p
  pub consume : IsConsumeOf done y c
  pub none : invoked_puts (item y) p.last done pending ≡ 0
  pub puts : before ≡ returned_puts (item x) p.last done
  pub takes : later ≡ later_takes (item x) c.last done
  pub made : all ≡ all_puts (item x) done pending
  pub more : all < before + later

-- c returned item y, and no produce of y had been invoked up to the response of p. Up to there more
-- items had been produced that no consume invoked up to the response of c returned, than pending
-- consumes were invoked up to there
pub record FromPassed (done : List Call) (pending : List PendingCall) (p c : Call) (left asked : ℕ)
    : Type 0 where
  pub y : ℕ
  pub known : Contains done p
  pub consume : IsConsumeOf done y c
  pub none : invoked_puts (item y) p.last done pending ≡ 0
  pub puts : left ≡ returned_puts (untaken c.last done) p.last done
  pub asks : asked ≡ pending_takes c.last pending
  pub more : asked < left

-- up to the response of q, at least as many produces had returned as there is room for and pending
-- consumes may have taken. These are of items that no consume returned that was invoked up to the
-- response of p. And p is the only produce of z, which returned later, but z was not taken up to
-- the response of q: no consume that returned it was invoked by then, or no produce of it was. So
-- at some moment all these items are inside
pub record FromSqueezed (n : ℕ) (done : List Call) (pending : List PendingCall) (q p : Call)
    (left asked : ℕ) : Type 0 where
  pub z : ℕ
  pub known : Contains done q
  pub produce : IsProduceOf done z p
  pub before : q.last < p.last
  pub once : all_puts (item z) done pending ≡ 1
  pub none :
      (invoked_takes (item z) q.last done ≡ 0) ⊎ (invoked_puts (item z) q.last done pending ≡ 0)
  pub puts : left ≡ returned_puts (untaken p.last done) q.last done
  pub asks : asked ≡ pending_takes p.last pending
  pub more : n + asked ≤ left

-- items that are put in once, as jobs that end when the item is taken out, have no ranks: a bound
-- on how many were taken before a position is of more items than they can be
pub record FromOverdue (n : ℕ) (done : List Call) (pending : List PendingCall)
    (bounds : List Bound) : Type 0 where
  pub end : ℕ
  pub jobs : List Job
  pub are : AreJobs done pending end jobs
  pub refuted : Refute n jobs (reverse bounds)

-- items are taken out, or put in, in an order that is known. At least so many have to be by some
-- positions, and not so many can be. All calls are before `end`
pub record FromOutrun (n : ℕ) (done : List Call) (pending : List PendingCall) (flow : Flow)
    (steps : List Step) (clash : Clash) : Type 0 where
  pub end : ℕ
  pub within : AreWithin end done pending
  pub turns : List Turn
  pub takers : List Taker
  pub are : AreTurns flow n end done pending turns takers
  pub refuted : steps_of.Refute end turns takers (reverse steps) clash

-- completed and pending calls of a buffer with room for n items show a fault
abbrev pub ShowsIn : ℕ → List Call → List PendingCall → Fault → Type 0
ShowsIn n done pending (Unproduced c taken put) = FromUnproduced done pending c taken put
ShowsIn n done pending (Overfull c put taken) = FromOverfull n done pending c put taken
ShowsIn n done pending (Crowded c left asked) = FromCrowded n done pending c left asked
ShowsIn n done pending (Overtaken p c before later all) =
    FromOvertaken done pending p c before later all
ShowsIn n done pending (Passed p c left asked) = FromPassed done pending p c left asked
ShowsIn n done pending (Squeezed q p left asked) = FromSqueezed n done pending q p left asked
ShowsIn n done pending (Overdue bounds) = FromOverdue n done pending bounds.items
ShowsIn n done pending (Outrun flow steps clash) =
    FromOutrun n done pending flow steps.items clash

-- a history shows a fault
abbrev pub Shows : ℕ → List Event → Fault → Type 0
Shows n past f = ShowsIn n (completed_calls past) (pending_calls past) f
