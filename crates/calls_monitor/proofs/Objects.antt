-- The monitor of one object, kind by kind.
use Rattle.std.proofs.Common.{◌≡◌, ℕ, ◌+◌, ◌-◌, ◌^◌, ◌≤◌, arith, true, false, List, [], ◌∷◌, length}
use Rattle.std.proofs.Common.{None, Result, Ok, Err, MatchResult, IsErrAnd, ap, sym, ◌∙◌, subst}
use Rattle.std.proofs.lemmas.List.{length-map}
use Rattle.std.proofs.lemmas.List.Sorted.{IsPermutation-refl}
use Rattle.calls_core.specs.declared.history.Kind.{Kind}
use Rattle.calls_core.specs.declared.history.Kind.TheVariants.{Eventcount, Sequencer, Semaphores}
use Rattle.calls_core.specs.declared.history.Kind.TheVariants.{Cell, Database, Buffer}
use Rattle.calls_core.specs.declared.history.Action.{Action}
use Rattle.calls_core.specs.declared.history.Action.TheVariants.{Invoke, Respond}
use Rattle.calls_core.specs.declared.history.Event.{Event}
use Rattle.calls_core.specs.Histories.{clock, pending_calls, IsHistoryOf}
use Rattle.calls_core.specs.Outcomes.{HasOrderOf}
use Rattle.calls_core.proofs.Lists.{all_pairs_from_each}
use Rattle.calls_core.specs.Linearizations.{KeepsOrder}
use Rattle.calls_core.specs.declared.pending.NotedCall.{NotedCall}
use Rattle.calls_core.specs.Pending.{HasRoom}
use Rattle.calls_counts.specs.declared.monitor.Monitor.{Monitor as CountMonitor}
use Rattle.calls_counts.specs.Monitors.{IsTaken, Starts as CountStarts}
use Rattle.calls_counts.specs.Watching.{Watching}
use Rattle.calls_counts.proofs.Watching.{taken_by}
use Rattle.calls_tickets.specs.declared.monitor.Monitor.{Monitor as TicketMonitor}
use Rattle.calls_tickets.specs.Monitors.{IsAccepted as IsTicketed, Watches as TicketWatches}
use Rattle.calls_semaphores.specs.declared.monitor.Monitor.{Monitor as UnitMonitor}
use Rattle.calls_semaphores.specs.Monitors.{Grows, UpTo, Judges as UnitJudges}
use Rattle.calls_semaphores.specs.declared.fault.Fault.{Fault}
use Rattle.calls_spsc.specs.declared.monitor.Monitor.{Monitor as ItemMonitor}
use Rattle.calls_spsc.specs.Monitors.{IsAccepted as IsFlowing, Watches as ItemWatches}
use Rattle.calls_monitor.specs.declared.object.Watch.{Watch}
use Rattle.calls_monitor.specs.declared.object.Watch.TheVariants.{Count, Ticket, Units, Items}
use Rattle.calls_monitor.specs.declared.object.Watch.TheVariants.{Nothing}
use Rattle.calls_monitor.specs.declared.object.Refusal.{Refusal}
use Rattle.calls_monitor.specs.declared.object.Refusal.TheVariants.{Count as CountRefusal}
use Rattle.calls_monitor.specs.declared.object.Refusal.TheVariants.{Ticket as TicketRefusal}
use Rattle.calls_monitor.specs.declared.object.Refusal.TheVariants.{Units as UnitRefusal}
use Rattle.calls_monitor.specs.declared.object.Refusal.TheVariants.{Items as ItemRefusal}
use Rattle.calls_monitor.specs.Refusals.{Explains}
use Rattle.calls_monitor.specs.kept.Watching.{call_count, WatchesOf, RoomFor, VerdictOf, has_monitor}
use Rattle.calls_monitor.proofs.Begun.{one, begun_next, advances_few}

-- NO EVENTS

order_of_none : (kind : Kind) → HasOrderOf kind []
order_of_none kind = (
  [],
  record {
    answer = λ o. None;
    each_once = IsPermutation-refl [];
    in_order = all_pairs_from_each KeepsOrder [] tt;
    run = tt;
  },
)

pub count_opened : (n : ℕ) (m : CountMonitor) → CountStarts n m → IsTaken n [] m
count_opened n m s = taken_by n [] m s.0 tt
    (subst (λ z. Watching z [] m.begun m.total m.free.items m.pending.items) s.0 s.1)

pub ticket_opened : (m : TicketMonitor) → TicketWatches [] m → IsTicketed [] m
ticket_opened m w = record { watches = w; order = order_of_none Sequencer }

pub items_opened : (n : ℕ) (m : ItemMonitor) → ItemWatches n [] m → IsFlowing n [] m
items_opened n m w = record { watches = w; order = order_of_none (Buffer n) }

-- WHAT IS KNOWN OF A LINEARIZATION

no_calls : (kind : Kind) (past : List Event) → past ≡ [] → HasOrderOf kind past
no_calls kind past none = subst (HasOrderOf kind) (sym none) (order_of_none kind)

pub order_of_watch : (kind : Kind) (past : List Event) (w : Watch) → WatchesOf kind past w
    → HasOrderOf kind past
order_of_watch (Eventcount n) past (Count m) h = h.order
order_of_watch (Eventcount n) past (Ticket m) h = absurd h
order_of_watch (Eventcount n) past (Units m) h = absurd h
order_of_watch (Eventcount n) past (Items m) h = absurd h
order_of_watch (Eventcount n) past Nothing h = absurd h
order_of_watch Sequencer past (Count m) h = absurd h
order_of_watch Sequencer past (Ticket m) h = h.order
order_of_watch Sequencer past (Units m) h = absurd h
order_of_watch Sequencer past (Items m) h = absurd h
order_of_watch Sequencer past Nothing h = absurd h
order_of_watch (Semaphores units) past (Count m) h = absurd h
order_of_watch (Semaphores units) past (Ticket m) h = absurd h
order_of_watch (Semaphores units) past (Units m) h = h.0.order
order_of_watch (Semaphores units) past (Items m) h = absurd h
order_of_watch (Semaphores units) past Nothing h = absurd h
order_of_watch Cell past (Count m) h = absurd h
order_of_watch Cell past (Ticket m) h = absurd h
order_of_watch Cell past (Units m) h = absurd h
order_of_watch Cell past (Items m) h = absurd h
order_of_watch Cell past Nothing h = no_calls Cell past h
order_of_watch (Database n) past (Count m) h = absurd h
order_of_watch (Database n) past (Ticket m) h = absurd h
order_of_watch (Database n) past (Units m) h = absurd h
order_of_watch (Database n) past (Items m) h = absurd h
order_of_watch (Database n) past Nothing h = no_calls (Database n) past h
order_of_watch (Buffer n) past (Count m) h = absurd h
order_of_watch (Buffer n) past (Ticket m) h = absurd h
order_of_watch (Buffer n) past (Units m) h = absurd h
order_of_watch (Buffer n) past (Items m) h = h.order
order_of_watch (Buffer n) past Nothing h = no_calls (Buffer n) past h

pub none_of : (kind : Kind) (past : List Event) (x : Event) (r : Refusal) → Explains kind past x r
    → HasOrderOf kind (x ∷ past) → ⊥
none_of (Eventcount n) past x (CountRefusal f) e = e.none
none_of (Eventcount n) past x (TicketRefusal f) e = λ o. e
none_of (Eventcount n) past x (UnitRefusal f) e = λ o. e
none_of (Eventcount n) past x (ItemRefusal f) e = λ o. e
none_of Sequencer past x (CountRefusal f) e = λ o. e
none_of Sequencer past x (TicketRefusal f) e = e.none
none_of Sequencer past x (UnitRefusal f) e = λ o. e
none_of Sequencer past x (ItemRefusal f) e = λ o. e
none_of (Semaphores units) past x (CountRefusal f) e = λ o. e
none_of (Semaphores units) past x (TicketRefusal f) e = λ o. e
none_of (Semaphores units) past x (UnitRefusal f) e = λ o.
    e.none (clock (x ∷ past)) (omega arith) o.0 o.1
none_of (Semaphores units) past x (ItemRefusal f) e = λ o. e
none_of Cell past x (CountRefusal f) e = λ o. e
none_of Cell past x (TicketRefusal f) e = λ o. e
none_of Cell past x (UnitRefusal f) e = λ o. e
none_of Cell past x (ItemRefusal f) e = λ o. e
none_of (Database n) past x (CountRefusal f) e = λ o. e
none_of (Database n) past x (TicketRefusal f) e = λ o. e
none_of (Database n) past x (UnitRefusal f) e = λ o. e
none_of (Database n) past x (ItemRefusal f) e = λ o. e
none_of (Buffer n) past x (CountRefusal f) e = λ o. e
none_of (Buffer n) past x (TicketRefusal f) e = λ o. e
none_of (Buffer n) past x (UnitRefusal f) e = λ o. e
none_of (Buffer n) past x (ItemRefusal f) e = e.none

-- ROOM

at_most : (a : Action) (m n : ℕ) → m ≡ n → HasRoom a n → HasRoom a m
at_most (Invoke k op) m n e h = omega (arith, e, h)
at_most (Respond r) m n e h = tt

module _ (x : Event) (past : List Event) (a : Action)
    (room : HasRoom a (length (pending_calls past))) (few : call_count past ≤ 2 ^ 64 - 2) where
  count_roomy : (n : ℕ) (m : CountMonitor) → IsHistoryOf (Eventcount n) past → IsTaken n past m
      → RoomFor (Count m) a
  count_roomy n m h t =
      let os = m.pending.items in
      let same : length os ≡ length (pending_calls past) =
      sym (length-map os (λ (u : NotedCall). u.call)) ∙ ap length t.watches.holds.pending_is in
      let upto : m.begun ≤ call_count past = omega (
        arith,
        t.watches.holds.begun_is,
        advances_few (Eventcount n) past h,
      ) in (
        at_most a (length os) (length (pending_calls past)) same room,
        omega
            (arith, upto, few),
        t.counted,
      )

  ticket_roomy : (m : TicketMonitor) → IsTicketed past m → RoomFor (Ticket m) a
  ticket_roomy m t =
      let os = m.pending.items in
      at_most a (length os) (length (pending_calls past))
      (sym (length-map os (λ (u : NotedCall). u.call)) ∙ sym
      (ap length t.watches.follows.pending_is)) room

  pub roomy : (kind : Kind) (w : Watch) → has_monitor w ≡ true → IsHistoryOf kind past
      → WatchesOf kind past w → RoomFor w a
  roomy (Eventcount n) (Count m) is y h = count_roomy n m y h
  roomy (Eventcount n) (Ticket m) is y h = absurd h
  roomy (Eventcount n) (Units m) is y h = absurd h
  roomy (Eventcount n) (Items m) is y h = absurd h
  roomy (Eventcount n) Nothing is y h = absurd h
  roomy Sequencer (Count m) is y h = absurd h
  roomy Sequencer (Ticket m) is y h = ticket_roomy m h
  roomy Sequencer (Units m) is y h = absurd h
  roomy Sequencer (Items m) is y h = absurd h
  roomy Sequencer Nothing is y h = absurd h
  roomy (Semaphores units) (Count m) is y h = absurd h
  roomy (Semaphores units) (Ticket m) is y h = absurd h
  roomy (Semaphores units) (Units m) is y h = at_most a (length m.pending.items)
      (length (pending_calls past))
      (ap length h.0.pending) room
  roomy (Semaphores units) (Items m) is y h = absurd h
  roomy (Semaphores units) Nothing is y h = absurd h
  roomy Cell (Count m) is y h = absurd h
  roomy Cell (Ticket m) is y h = absurd h
  roomy Cell (Units m) is y h = absurd h
  roomy Cell (Items m) is y h = absurd h
  roomy Cell Nothing is y h = absurd (let never : false ≡ true = is in cc)
  roomy (Database n) (Count m) is y h = absurd h
  roomy (Database n) (Ticket m) is y h = absurd h
  roomy (Database n) (Units m) is y h = absurd h
  roomy (Database n) (Items m) is y h = absurd h
  roomy (Database n) Nothing is y h = absurd (let never : false ≡ true = is in cc)
  roomy (Buffer n) (Count m) is y h = absurd h
  roomy (Buffer n) (Ticket m) is y h = absurd h
  roomy (Buffer n) (Units m) is y h = absurd h
  roomy (Buffer n) (Items m) is y h = tt
  roomy (Buffer n) Nothing is y h = absurd (let never : false ≡ true = is in cc)

-- UNITS

grown : (a : Action) (old new : List ℕ) (n : ℕ) → Grows a old new → UpTo n old
    → UpTo (n + one a) new
grown (Invoke k op) old new n g up = g n up
grown (Respond r) old new n g up = λ i. omega (arith, g i, up i)

-- the step of the monitor of semaphores
units_taken : (x : Event) (past : List Event) (old new : UnitMonitor) (u : Unit)
    → UnitJudges old new x (Ok u) → Grows x.action old.bank.added.items new.bank.added.items
    → (kind : Kind) → IsHistoryOf kind (x ∷ past) → WatchesOf kind past (Units old)
    → call_count past ≤ 2 ^ 64 - 2 → WatchesOf kind (x ∷ past) (Units new)
units_taken x past old new u judges grows (Eventcount n) h w few = absurd w
units_taken x past old new u judges grows Sequencer h w few = absurd w
units_taken x past old new u judges grows (Semaphores units) h w few = (
  judges units past h w.0 (λ i. omega (arith, w.1 i, few)),
  subst (λ n. UpTo n new.bank.added.items) (sym (begun_next (Semaphores units) x past h))
      (grown x.action old.bank.added.items new.bank.added.items (call_count past) grows w.1),
)
units_taken x past old new u judges grows Cell h w few = absurd w
units_taken x past old new u judges grows (Database n) h w few = absurd w
units_taken x past old new u judges grows (Buffer n) h w few = absurd w

-- the monitor of semaphores explains what it rejects
units_explained : (x : Event) (past : List Event) (old new : UnitMonitor) (f : Fault)
    → UnitJudges old new x (Err f) → (kind : Kind) → IsHistoryOf kind (x ∷ past)
    → WatchesOf kind past (Units old) → call_count past ≤ 2 ^ 64 - 2
    → Explains kind past x (UnitRefusal f)
units_explained x past old new f judges (Eventcount n) h w few = absurd w
units_explained x past old new f judges Sequencer h w few = absurd w
units_explained x past old new f judges (Semaphores units) h w few =
    judges units past h w.0 (λ i. omega (arith, w.1 i, few))
units_explained x past old new f judges Cell h w few = absurd w
units_explained x past old new f judges (Database n) h w few = absurd w
units_explained x past old new f judges (Buffer n) h w few = absurd w

pub units_judged : (x : Event) (past : List Event) (old new : UnitMonitor)
    (r : Result Unit Fault) (mapped : Result Unit Refusal) → UnitJudges old new x r
    → Grows x.action old.bank.added.items new.bank.added.items
    → MatchResult r (λ u. mapped ≡ Ok u) (λ f. IsErrAnd mapped (λ e. e ≡ UnitRefusal f))
    → (kind : Kind) → IsHistoryOf kind (x ∷ past) → WatchesOf kind past (Units old)
    → call_count past ≤ 2 ^ 64 - 2 → VerdictOf kind past x (Units new) mapped
units_judged x past old new (Ok u) mapped judges grows is kind h w few =
    subst (VerdictOf kind past x (Units new)) (sym is)
    (units_taken x past old new u judges grows kind h w few)
units_judged x past old new (Err f) (Ok u) judges grows is kind h w few = absurd is
units_judged x past old new (Err f) (Err e) judges grows is kind h w few =
    subst (Explains kind past x) (sym is) (units_explained x past old new f judges kind h w few)
