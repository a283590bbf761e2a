-- The first faulty event.
use Rattle.std.proofs.Common.{◌≡◌, ℕ, ◌+◌, ◌<◌, ◌≤◌, List, ◌∷◌, length}
use Rattle.std.proofs.Common.{get_or, reverse, ap, sym, arith, subst, Vec}
use Rattle.std.specs.declared.alloc.Global.{Global}
use Rattle.std.proofs.lemmas.List.{take_all}
use Rattle.calls_core.specs.declared.history.Kind.{Kind}
use Rattle.calls_core.specs.declared.history.Kind.TheVariants.{Semaphores}
use Rattle.calls_core.specs.declared.history.Event.{Event}
use Rattle.calls_core.specs.Beginnings.{past_at}
use Rattle.calls_core.specs.Histories.{IsHistoryOf, clock}
use Rattle.calls_core.specs.Outcomes.{IsOrderOf, HasOrderOf, IsFirstFault}
use Rattle.calls_core.proofs.Beginnings.{past_next, clock_at, history_at, orders_before}
use Rattle.calls_semaphores.specs.declared.fault.Fault.{Fault}
use Rattle.calls_semaphores.specs.declared.scan.Scan.{Scan}
use Rattle.calls_semaphores.specs.Faults.{Shows}
use Rattle.calls_semaphores.specs.Monitors.{IsRefusedAt}
use Rattle.calls_semaphores.specs.kept.Keeping.{Holds}
use Rattle.calls_semaphores.proofs.Deciding.{order_of_kept, kept_of_order, has_order}

module _ (units : Vec ℕ Global) (events : List Event) (end : ℕ) (h : IsHistoryOf (Semaphores units)
    (reverse events)) (le : clock (reverse events) ≤ end) where
  abbrev kind : Kind
  kind = Semaphores units

  pub next_clock : (i : ℕ) (d : Event) → i < length events
      → clock (get_or events i d ∷ past_at i events) ≤ end
  next_clock i d lt = subst (λ past. clock past ≤ end) (past_next events i d lt)
      (let at = clock_at kind (i + 1) events h in omega (arith, le))

  module _ (s : Scan) (same : s.end ≡ end) where
    held_order : (i : ℕ) → Holds units (past_at i events) s → HasOrderOf kind (past_at i events)
    held_order i k =
        has_order units (past_at i events)
        (kept_of_order units (past_at i events) (history_at kind i events h) s.end
        (let ends = clock_at kind i events h in omega (arith, same, le)) s.order
        (order_of_kept units (past_at i events) s.end s.order k.kept))

    pub held_whole : (i : ℕ) → length events ≤ i → Holds units (past_at i events) s
        → IsOrderOf kind (reverse events) end s.order
    held_whole i ge k =
        let all : past_at i events ≡ reverse events = ap reverse (take_all i events ge) in
        subst (λ t. IsOrderOf kind (reverse events) t s.order) same
        (subst (λ past. IsOrderOf kind past s.end s.order) all
        (order_of_kept units (past_at i events) s.end s.order k.kept))

    pub first_fault : (i : ℕ) (d : Event) (f : Fault) → i < length events
        → IsRefusedAt units (past_at i events) (get_or events i d) f
        → Holds units (past_at i events) s
        → IsFirstFault (λ past. Shows kind past f) kind events i
    first_fault i d f lt r k = record {
      within = lt;
      shows = subst (λ past. Shows kind past f) (sym (past_next events i d lt)) r.shows;
      before = λ j le. orders_before kind i j events le (history_at kind i events h)
          (held_order i k);
    }
