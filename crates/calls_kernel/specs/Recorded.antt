-- Histories of calls that a program recorded of a kernel without seeing its steps.
use Rattle.std.specs.Prelude.{ℕ, ◌≤◌, List, [], ◌∷◌, ◌++◌, reverse, Option, Some}
use Rattle.std.specs.List.{filter, AllZip}
use Rattle.std.specs.List.Sorted.{IsPermutation}
use Rattle.ec_count.specs.Tables.{Tables}
use Rattle.ec_core.specs.declared.act.Entry.{Entry}
use Rattle.ec_core.specs.Acceptance.{IsAccepted}
use Rattle.ec_order.specs.declared.call.Call.{Call as FinishedCall}
use Rattle.ec_order.specs.Calls.{finished_calls}
use Rattle.calls_core.specs.declared.history.Reply.{Reply}
use Rattle.calls_core.specs.declared.history.Reply.TheVariants.{Done}
use Rattle.calls_core.specs.declared.history.Event.{Event}
use Rattle.calls_core.specs.declared.history.PendingCall.{PendingCall}
use Rattle.calls_core.specs.declared.history.Call.{Call}
use Rattle.calls_core.specs.Lists.{Each}
use Rattle.calls_core.specs.Histories.{clock, completed_calls, pending_calls}
use Rattle.calls_core.specs.Linearizations.{answered_calls}
use Rattle.calls_kernel.specs.Outside.{is_call}
use Rattle.calls_kernel.specs.Made.{IsMadeAs, IsGranted, KeepsLimit}

-- the call c was recorded of the kernel's call d, if the entry at position i happened at the
-- position `moment i` of the record: all its entries are between its invocation and its response
pub record IsRecordedAs (t : Tables) (moment : ℕ → ℕ) (d : FinishedCall) (c : Call) : Type 0 where
  pub made : IsMadeAs t d c
  pub from_first : c.first ≤ moment d.first
  pub to_last : moment d.last ≤ c.last

abbrev pub AreRecordedAs : Tables → (ℕ → ℕ) → List FinishedCall → List Call → Type 0
AreRecordedAs t moment ds cs = AllZip (IsRecordedAs t moment) ds cs

-- a history of calls that can have been recorded of a kernel: there is an accepted history of
-- steps, and its entries happened at positions of the record that never fall. Its completed calls,
-- without the hands, are the completed calls of the record and some of the pending ones, whose
-- responses were not recorded
pub record IsRecord (t : Tables) (past : List Event) : Type 0 where
  pub steps : List Entry
  pub accepted : IsAccepted t (reverse steps)
  pub moment : ℕ → ℕ
  pub rises : (i j : ℕ) → i ≤ j → moment i ≤ moment j
  pub answer : PendingCall → Option Reply
  pub calls : List Call
  pub each_once : IsPermutation
      (answered_calls (clock past) answer (pending_calls past) ++ completed_calls past) calls
  pub recorded : AreRecordedAs t moment
      (filter (λ (d : FinishedCall). is_call d.op) (finished_calls t (reverse steps))) calls

-- the calls of a history, the pending ones as if they returned at its end
abbrev pub all_calls : List Event → List Call
all_calls past =
    answered_calls (clock past) (λ (o : PendingCall). Some Done) (pending_calls past)
    ++ completed_calls past

-- each call of a history is within the declared rights and the limit
pub record IsWithin (t : Tables) (past : List Event) : Type 0 where
  pub granted : Each (IsGranted t) (all_calls past)
  pub limit : KeepsLimit t (all_calls past)
