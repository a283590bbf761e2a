-- What the functions of the pass do. Only the proofs and the private contracts use this.
use Rattle.std.specs.Prelude.{◌≡◌, ℕ, ◌+◌, ◌-◌, ◌<◌, ◌≤◌, List, [], ◌∷◌, ◌++◌, length}
use Rattle.std.specs.Prelude.{reverse}
use Rattle.std.specs.Prelude.{Option, Some, None, MatchOption, Bool, IsTrue, ◌↔◌}
use Rattle.calls_core.specs.declared.history.Kind.TheVariants.{Cell}
use Rattle.calls_core.specs.declared.history.Op.TheVariants.{Get}
use Rattle.calls_core.specs.declared.history.Reply.{Reply}
use Rattle.calls_core.specs.declared.history.Reply.TheVariants.{Number}
use Rattle.calls_core.specs.declared.history.Event.{Event}
use Rattle.calls_core.specs.declared.history.PendingCall.{PendingCall}
use Rattle.calls_core.specs.declared.history.Call.{Call}
use Rattle.calls_core.specs.Lists.{Each}
use Rattle.calls_core.specs.Histories.{clock, pending_of, without, completion, completed_calls}
use Rattle.calls_core.specs.Histories.{pending_calls, IsHistoryOf, Takes, Suits}
use Rattle.calls_core.specs.Calls.{Early}
use Rattle.calls_serial.specs.declared.outcome.Fault.{Fault}
use Rattle.calls_serial.specs.declared.stage.Stage.{Stage}
use Rattle.calls_serial.specs.declared.stage.Link.{Link}
use Rattle.calls_serial.specs.declared.stage.Pass.{Pass}
use Rattle.calls_serial.specs.declared.stage.Stop.{Stop}
use Rattle.calls_serial.specs.declared.stage.Stop.TheVariants.{Fails, Overlaps}
use Rattle.calls_serial.specs.Faults.{Leaves, Shows}
use Rattle.calls_serial.specs.Outcomes.{AreBothPending}
use Rattle.calls_serial.specs.kept.Stages.{StageView, helds, Current, current}
use Rattle.calls_serial.specs.kept.Stages.{AreStages}
use Rattle.calls_serial.specs.kept.Stages.{as_get, links_with, with_get, with_late, with_response}

abbrev pub first_of : {X : Type 0} → List X → Option X
first_of [] = None
first_of (x ∷ xs) = Some x

-- how many of n stages have a completed put, or the initial value, if this is the pending put
abbrev pub completed_of : Option PendingCall → ℕ → ℕ
completed_of None n = n
completed_of (Some o) n = n - 1

-- STAGES THAT ARE CHANGED

abbrev pub AddsGet : List Stage → List Stage → ℕ → Call → Type 0
AddsGet old new i get =
    (prefix : List StageView) (h : StageView) (back : List StageView) → length prefix ≡ i
    → helds old ≡ prefix ++ h ∷ back
    → helds new ≡ prefix ++ with_get (as_get h.value get) h ∷ back

abbrev pub Responds : List Stage → List Stage → Call → Type 0
Responds old new call =
    (prefix : List StageView) (h : StageView) → helds old ≡ prefix ++ h ∷ []
    → helds new ≡ prefix ++ with_response call h ∷ []

-- a get is added when there are n links; it is the first one if the stage had no link
pub record IsLate (old new : StageView) (get : Call) (n : ℕ) (first : Bool) : Type 0 where
  pub stage : new ≡ with_late (as_get old.value get) n old
  pub said : IsTrue first ↔ (old.link ≡ None)

abbrev pub AddsLate : List Stage → List Stage → List Link → List Link → Link → Type 0
AddsLate old new links more link =
    (prefix : List StageView) (h : StageView) → helds old ≡ prefix ++ h ∷ []
    → (helds new ≡ prefix ++ with_late (as_get h.value link.get) (length links) h ∷ [])
    × (reverse more ≡ links_with h.link link (reverse links))

-- THE PASS

-- stages of completed and pending calls, and links, the latest first
pub record Holding (end t : ℕ) (done : List Call) (pending : List PendingCall) (hs : List StageView)
    (links : List Link) : Type 0 where
  pub prefix : List StageView
  pub now : Option Current
  pub all : hs ≡ prefix ++ current now
  pub represents : AreStages end t done pending prefix now links

pub record IsResponse (end t : ℕ) (done : List Call) (pending : List PendingCall) (w at : ℕ)
    (o : PendingCall) : Type 0 where
  pub ours : pending_of w pending ≡ Some o
  pub early : Each (λ (c : Call). c.last < t) done
  pub waiting : Each (Early t) pending
  pub later : t ≤ at
  pub before : at < end

-- a get that was pending is completed: it is added to a stage, or no put is left for it
abbrev pub EndsGet : Pass → Pass → Call → ℕ → Option Fault → Type 0
EndsGet old new get x fault =
    (end t : ℕ) (done : List Call) (pending : List PendingCall) (w at : ℕ) (r : Reply)
    (o : PendingCall) → IsResponse end t done pending w at o → o.op ≡ Get → r ≡ Number x
    → get ≡ completion at r o → old.pending.items ≡ without w pending
    → Holding end t done pending (helds old.stages.items) (reverse old.links.items)
    → MatchOption fault
    ((new.pending.items ≡ without w pending)
    × Holding end (at + 1) (get ∷ done) (without w pending) (helds new.stages.items)
    (reverse new.links.items))
    (λ (f : Fault). Leaves (get ∷ done) (without w pending) f.gets.items None)

-- a put or a get, with a reply of its form
pub record IsFitting (o : PendingCall) (r : Reply) : Type 0 where
  pub takes : Takes (Some Cell) o.op
  pub suits : Suits o.op r

-- the same for any call
abbrev pub EndsCall : Pass → Pass → Call → Option Fault → Type 0
EndsCall old new call fault =
    (end t : ℕ) (done : List Call) (pending : List PendingCall) (w at : ℕ) (r : Reply)
    (o : PendingCall) → IsResponse end t done pending w at o → IsFitting o r
    → call ≡ completion at r o → old.pending.items ≡ without w pending
    → Holding end t done pending (helds old.stages.items) (reverse old.links.items)
    → MatchOption fault
    ((new.pending.items ≡ without w pending)
    × Holding end (at + 1) (call ∷ done) (without w pending) (helds new.stages.items)
    (reverse new.links.items))
    (λ (f : Fault). Leaves (call ∷ done) (without w pending) f.gets.items None)

-- a call is invoked: it is pending with the others, or two puts are pending at once
abbrev pub IsInvoked : ℕ → ℕ → List Call → List PendingCall → Pass → PendingCall → Option Stop
    → Type 0
IsInvoked end t done pending new call None =
    (new.pending.items ≡ pending ++ call ∷ [])
    × Holding end (call.first + 1) done (pending ++ call ∷ []) (helds new.stages.items)
    (reverse new.links.items)
IsInvoked end t done pending new call (Some (Fails fault)) = ⊥
IsInvoked end t done pending new call (Some (Overlaps o p)) =
    AreBothPending (pending ++ call ∷ []) o p

abbrev pub Invokes : ℕ → Pass → Pass → PendingCall → Option Stop → Type 0
Invokes end old new call stop =
    (t : ℕ) (done : List Call) (pending : List PendingCall)
    → Each (λ (c : Call). c.last < t) done → Each (Early t) pending → t ≤ call.first
    → call.first < end → old.pending.items ≡ pending
    → Holding end t done pending (helds old.stages.items) (reverse old.links.items)
    → IsInvoked end t done pending new call stop

pub record Holds (end : ℕ) (past : List Event) (pass : Pass) : Type 0 where
  pub pending : pass.pending.items ≡ pending_calls past
  pub holding : Holding end (clock past) (completed_calls past) (pending_calls past)
      (helds pass.stages.items) (reverse pass.links.items)

-- after one more event the pass represents the history, or it shows a fault or two overlapping puts
abbrev pub Stops : ℕ → List Event → Pass → Option Stop → Type 0
Stops end past new None = Holds end past new
Stops end past new (Some (Fails fault)) = Shows past fault
Stops end past new (Some (Overlaps o p)) = AreBothPending (pending_calls past) o p

abbrev pub TakesIn : ℕ → Pass → Pass → Event → Option Stop → Type 0
TakesIn end old new x stop =
    (past : List Event) → IsHistoryOf Cell (x ∷ past) → x.at < end → Holds end past old
    → Stops end (x ∷ past) new stop
