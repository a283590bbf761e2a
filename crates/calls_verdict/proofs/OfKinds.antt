-- What the crates for the kinds of objects prove, for any kind.
use Rattle.std.proofs.Common.{◌≡◌, ℕ, ◌+◌, ◌<◌, ◌≤◌, ◌⊎◌, inl, inr, arith, List, [], ◌∷◌}
use Rattle.std.proofs.Common.{refl, sym, ◌∙◌, subst}
use Rattle.calls_core.specs.declared.history.Kind.{Kind}
use Rattle.calls_core.specs.declared.history.Kind.TheVariants.{Eventcount, Sequencer, Semaphores}
use Rattle.calls_core.specs.declared.history.Kind.TheVariants.{Cell, Database, Buffer}
use Rattle.calls_core.specs.declared.history.Event.{Event}
use Rattle.calls_core.specs.declared.history.Call.{Call}
use Rattle.calls_core.specs.Histories.{clock, pending_calls, completed_calls, IsHistoryOf}
use Rattle.calls_core.specs.Beginnings.{until}
use Rattle.calls_core.specs.Outcomes.{IsOrderOf, HasOrderOf}
use Rattle.calls_counts.proofs.Necessity as counts
use Rattle.calls_counts.proofs.Exactly as counted
use Rattle.calls_tickets.proofs.Histories.{tickets_until}
use Rattle.calls_tickets.proofs.Refuting as tickets
use Rattle.calls_tickets.proofs.Wholes as numbered
use Rattle.calls_semaphores.proofs.Necessity as semaphores
use Rattle.calls_semaphores.proofs.Deciding as taken
use Rattle.calls_serial.proofs.Databases.{database_is_cell}
use Rattle.calls_cells.proofs.Faults as stores
use Rattle.calls_cells.proofs.Classes as stored
use Rattle.calls_distinct.proofs.Earlier.{order_of_none as nothing_ordered}
use Rattle.calls_buffers.proofs.Refuting as buffers
use Rattle.calls_verdict.specs.declared.verdict.Fault.{Fault}
use Rattle.calls_verdict.specs.declared.verdict.Fault.TheVariants.{Count, Ticket, Units, Value}
use Rattle.calls_verdict.specs.declared.verdict.Fault.TheVariants.{Items}
use Rattle.calls_verdict.specs.declared.verdict.Cause.{Cause}
use Rattle.calls_verdict.specs.declared.verdict.Cause.TheVariants.{Values, Unfound}
use Rattle.calls_verdict.specs.Faults.{Shows, ShowsUndecided, IsDecided, IsFaulty}
use Rattle.calls_verdict.proofs.Untils.{until_out}

-- a history of a database is one of a cell
cell_history : (n : ℕ) (past : List Event) → IsHistoryOf (Database n) past → IsHistoryOf Cell past
cell_history n past h = (database_is_cell n []).history past h

-- a fault that is shown is a fault of the object
pub shown : (kind : Kind) (past : List Event) (f : Fault) → Shows kind past f → IsFaulty kind past
shown (Eventcount n) past (Count f) s = (f, s)
shown Sequencer past (Ticket f) s = (f, s)
shown (Semaphores units) past (Units f) s = (f, s)
shown Cell past (Value f) s = stores.shown past f s
shown (Database n) past (Value f) s = stores.shown past f s
shown (Buffer n) past (Items f) s = (f, s)
shown (Eventcount n) past (Ticket f) s = absurd s
shown (Eventcount n) past (Units f) s = absurd s
shown (Eventcount n) past (Value f) s = absurd s
shown (Eventcount n) past (Items f) s = absurd s
shown Sequencer past (Count f) s = absurd s
shown Sequencer past (Units f) s = absurd s
shown Sequencer past (Value f) s = absurd s
shown Sequencer past (Items f) s = absurd s
shown (Semaphores units) past (Count f) s = absurd s
shown (Semaphores units) past (Ticket f) s = absurd s
shown (Semaphores units) past (Value f) s = absurd s
shown (Semaphores units) past (Items f) s = absurd s
shown Cell past (Count f) s = absurd s
shown Cell past (Ticket f) s = absurd s
shown Cell past (Units f) s = absurd s
shown Cell past (Items f) s = absurd s
shown (Database n) past (Count f) s = absurd s
shown (Database n) past (Ticket f) s = absurd s
shown (Database n) past (Units f) s = absurd s
shown (Database n) past (Items f) s = absurd s
shown (Buffer n) past (Count f) s = absurd s
shown (Buffer n) past (Ticket f) s = absurd s
shown (Buffer n) past (Units f) s = absurd s
shown (Buffer n) past (Value f) s = absurd s

-- a fault leaves no order
pub fault_leaves_no_order : (kind : Kind) (past : List Event) (t : ℕ) (cs : List Call)
    → IsHistoryOf kind past → clock past ≤ t → IsFaulty kind past → IsOrderOf kind past t cs → ⊥
fault_leaves_no_order (Eventcount n) past t cs h le f l = counts.no_order n past f.0 t cs h f.1 l
fault_leaves_no_order Sequencer past t cs h le f l =
    tickets.no_order (completed_calls past) (pending_calls past) t
    (tickets_until past t h (omega (arith, le))) cs l f.0 f.1
fault_leaves_no_order (Semaphores units) past t cs h le f l =
    semaphores.fault_leaves_no_order units past f.0 h f.1 t le cs l
fault_leaves_no_order Cell past t cs h le f l = stores.no_order past t cs h le f l
fault_leaves_no_order (Database n) past t cs h le f l =
    stores.no_order past t cs (cell_history n past h) le f
    ((database_is_cell n []).order past t cs l)
fault_leaves_no_order (Buffer n) past t cs h le f l =
    buffers.fault_leaves_no_order n past f.0 t cs h le f.1 l

abbrev pub OneOf : Kind → List Event → Type 0
OneOf kind past = HasOrderOf kind past
    ⊎ (IsFaulty kind past ⊎ ((u : Cause) × ShowsUndecided kind past u))

until_none : (past : List Event) → until 0 past ≡ []
until_none [] = refl
until_none (x ∷ past) = until_out 0 x past (omega arith) ∙ until_none past

-- nothing is decided of a buffer from its first event on
nothing_decided : (n : ℕ) (past : List Event)
    → HasOrderOf (Buffer n) past ⊎ ((u : Cause) × ShowsUndecided (Buffer n) past u)
nothing_decided n [] = inl (nothing_ordered (Buffer n))
nothing_decided n (x ∷ past) = inr (
  Unfound 0,
  record {
    within = (let later : 0 < x.at + 1 = omega arith in later);
    before = subst (HasOrderOf (Buffer n)) (sym (until_none (x ∷ past)))
        (nothing_ordered (Buffer n));
  },
)

-- each history of one object has an order, has a fault or isn't decided
pub every_kind_is_decided : (kind : Kind) (past : List Event) → IsHistoryOf kind past
    → OneOf kind past
every_kind_is_decided (Eventcount n) past h =
    elim (counted.every_history n past h) [ inl l ↦ inl l | inr w ↦ inr (inl w) ]
every_kind_is_decided Sequencer past h =
    elim (numbered.decided (completed_calls past) (pending_calls past) (clock past)
    (tickets_until past (clock past) h (omega arith))) [
      | inl l ↦ inl l
      | inr w ↦ inr (inl w)
    ]
every_kind_is_decided (Semaphores units) past h =
    elim (taken.decided units past h) [ inl l ↦ inl l | inr w ↦ inr (inl w) ]
every_kind_is_decided Cell past h = elim (stored.every_history past h) [
  | inl l ↦ inl l
  | inr other ↦ elim other [ inl w ↦ inr (inl w) | inr w ↦ inr (inr (Values w.0, w.1)) ]
]
every_kind_is_decided (Database n) past h =
    elim (stored.every_history past (cell_history n past h)) [
      | inl l ↦ inl l
      | inr other ↦ elim other [ inl w ↦ inr (inl w) | inr w ↦ inr (inr (Values w.0, w.1)) ]
    ]
every_kind_is_decided (Buffer n) past h =
    elim (nothing_decided n past) [ inl l ↦ inl l | inr w ↦ inr (inr w) ]

-- what is decided and isn't has an order: it is a buffer
pub decided_order : (kind : Kind) (past : List Event) (u : Cause) → IsDecided kind past
    → ShowsUndecided kind past u → HasOrderOf kind past
decided_order (Eventcount n) past u d s = absurd (d u s)
decided_order Sequencer past u d s = absurd (d u s)
decided_order (Semaphores units) past u d s = absurd (d u s)
decided_order Cell past u d s = absurd (d u s)
decided_order (Database n) past u d s = absurd (d u s)
decided_order (Buffer n) past u d s = d
