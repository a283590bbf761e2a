-- The whole decision, by the recorded tickets.
use Rattle.std.proofs.Common.{◌≡◌, ℕ, ◌+◌, ◌<◌, ◌≤◌, List, ◌∷◌, length, reverse, get_or, sym, arith}
use Rattle.std.proofs.Common.{subst}
use Rattle.calls_core.specs.declared.history.Kind.TheVariants.{Sequencer}
use Rattle.calls_core.specs.declared.history.Event.{Event}
use Rattle.calls_core.specs.declared.history.Call.{Call}
use Rattle.calls_core.specs.Histories.{clock, pending_calls, completed_calls, IsHistoryOf}
use Rattle.calls_core.specs.Beginnings.{past_at}
use Rattle.calls_core.specs.Outcomes.{IsOrderOf, HasOrderOf, IsFirstFault}
use Rattle.calls_core.specs.Pending.{noted_calls}
use Rattle.calls_core.proofs.Beginnings.{past_next, past_all, history_next, orders_before}
use Rattle.calls_tickets.specs.declared.fault.Fault.{Fault}
use Rattle.calls_tickets.specs.declared.table.Decision.{Decision}
use Rattle.calls_tickets.specs.declared.recorded.RecordedTickets.{RecordedTickets}
use Rattle.calls_tickets.specs.Faults.{Shows}
use Rattle.calls_tickets.specs.kept.Tables.{AreTickets, IsDecided}
use Rattle.calls_tickets.specs.kept.Recording.{AreGathered, Records, IsFaulty}
use Rattle.calls_tickets.proofs.Histories.{tickets_until}
use Rattle.calls_tickets.proofs.Refuting.{no_order}
use Rattle.calls_tickets.proofs.Answering.{watching_order, shown_no_order}

-- the recorded tickets are the calls of the history so far
pub tickets_gathered : (past : List Event) (r : RecordedTickets) (t : ℕ)
    → IsHistoryOf Sequencer past
    → clock past ≤ t + 1 → AreGathered past r → AreTickets (reverse r.done.items)
    (noted_calls r.pending.items) t
tickets_gathered past r t h le g =
    subst (λ ds. AreTickets ds (noted_calls r.pending.items) t) (sym g.done_are)
    (subst (λ os. AreTickets (completed_calls past) os t) (sym g.pending_are)
    (tickets_until past t h le))

pub decided_of : (past : List Event) (r : RecordedTickets) (t : ℕ) (d e : Decision)
    → AreGathered past r
    → d ≡ e → IsDecided (reverse r.done.items) (noted_calls r.pending.items) t d
    → IsDecided (completed_calls past) (pending_calls past) t e
decided_of past r t d e g is h =
    subst (IsDecided (completed_calls past) (pending_calls past) t) is
    (subst (λ ds. IsDecided ds (pending_calls past) t d) g.done_are
    (subst (λ os. IsDecided (reverse r.done.items) os t d) g.pending_are h))

pub not_ordered : (past : List Event) (t : ℕ) (cs : List Call) → IsHistoryOf Sequencer past
    → clock past ≤ t + 1 → (r : RecordedTickets) → IsFaulty past r → IsOrderOf Sequencer past t cs
    → ⊥
not_ordered past t cs h le r f l =
    no_order (completed_calls past) (pending_calls past) t (tickets_until past t h le) cs l f.fault
    f.shows

pub not_faulty : (past : List Event) (r : RecordedTickets) (g : Fault) → IsHistoryOf Sequencer past
    → Records past r → Shows past g → ⊥
not_faulty past r g h k s = shown_no_order past g h s (watching_order past r.top r.holes.items
    r.pending.items h k.watching)

module _ (events : List Event) (i : ℕ) (d : Event) (lt : i < length events)
    (history : IsHistoryOf Sequencer (reverse events)) where
  abbrev pub here : List Event
  here = get_or events i d ∷ past_at i events

  pub history_here : IsHistoryOf Sequencer (get_or events i d ∷ past_at i events)
  history_here = history_next Sequencer i events d lt history

  pub has_order : (r : RecordedTickets) → Records (past_at i events) r
      → HasOrderOf Sequencer (past_at i events)
  has_order r k = watching_order (past_at i events) r.top r.holes.items r.pending.items
      history_here.2 k.watching

  pub first_fault : (old : RecordedTickets) (g : Fault) → Records (past_at i events) old
      → Shows (get_or events i d ∷ past_at i events) g → IsFirstFault (λ past.
      Shows past g) Sequencer events i
  first_fault old g k shows = record {
    within = lt;
    shows = subst (λ past. Shows past g) (sym (past_next events i d lt)) shows;
    before = λ j le. orders_before Sequencer i j events le history_here.2 (has_order old k);
  }

  pub records_next : (new : RecordedTickets) → Records (get_or events i d ∷ past_at i events) new
      → Records (past_at (i + 1) events) new
  records_next new next = subst (λ p. Records p new) (sym (past_next events i d lt)) next

pub records_all : (events : List Event) (i : ℕ) (r : RecordedTickets) → length events ≤ i
    → Records (past_at i events) r → Records (reverse events) r
records_all events i r le k = subst (λ p. Records p r) (past_all events i le) k
