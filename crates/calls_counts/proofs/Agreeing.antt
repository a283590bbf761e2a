-- What a monitor says agrees with the decision.
use Rattle.std.proofs.Common.{◌≡◌, ℕ, ◌+◌, inl, inr, List, [], ◌∷◌, ◌++◌, refl, sym, arith, subst}
use Rattle.std.proofs.Common.{drop, reverse, Result, Ok, Err}
use Rattle.std.proofs.lemmas.Bool.{cases_lt}
use Rattle.calls_core.specs.declared.history.Kind.TheVariants.{Eventcount}
use Rattle.calls_core.specs.declared.history.Event.{Event}
use Rattle.calls_core.specs.declared.history.Call.{Call}
use Rattle.calls_core.specs.Histories.{clock, IsHistoryOf}
use Rattle.calls_core.specs.Beginnings.{past_at}
use Rattle.calls_core.specs.Outcomes.{IsOrderOf, HasOrderOf}
use Rattle.calls_core.proofs.Beginnings.{past_split, history_at}
use Rattle.calls_counts.specs.declared.fault.Fault.{Fault}
use Rattle.calls_counts.specs.declared.outcome.Outcome.{Outcome}
use Rattle.calls_counts.specs.declared.outcome.Outcome.TheVariants.{Ordered, Refused}
use Rattle.calls_counts.specs.declared.monitor.Refusal.{Refusal}
use Rattle.calls_counts.specs.Faults.{Shows}
use Rattle.calls_counts.specs.Outcomes.{IsOutcome}
use Rattle.calls_counts.specs.Laws.{Agrees, AMonitorAgrees}
use Rattle.calls_counts.proofs.Necessity.{no_order}
use Rattle.calls_counts.proofs.Lasting.{shows_next}
use Rattle.calls_counts.proofs.Exactly.{every_history}

shows_more : (start : ℕ) (late past : List Event) (f : Fault)
    → IsHistoryOf (Eventcount start) (late ++ past) → Shows start past f
    → Shows start (late ++ past) f
shows_more start [] past f h s = s
shows_more start (x ∷ late) past f h s = shows_next start x (late ++ past) f h
    (shows_more start late past f h.2 s)

-- each prefix of a history with an order has one
beginning_ordered : (start : ℕ) (events : List Event) (end : ℕ) (cs : List Call) (j : ℕ)
    → IsHistoryOf (Eventcount start) (reverse events) → IsOrderOf (Eventcount start)
    (reverse events) end cs → HasOrderOf (Eventcount start) (past_at j events)
beginning_ordered start events end cs j h o =
    let part = past_split j events in
    elim (every_history start (past_at j events) (history_at (Eventcount start) j events h)) [
      | inl order ↦ order
      | inr fault ↦
          absurd (no_order start (reverse events) fault.0 end cs h
          (subst (λ p. Shows start p fault.0) (sym part) (shows_more start (reverse (drop j events))
          (past_at j events) fault.0 (subst (IsHistoryOf (Eventcount start)) part h) fault.1))
          o)
    ]

agrees : (start : ℕ) (events : List Event) (end : ℕ) (outcome : Outcome) (j : ℕ)
    (answer : Result Unit Refusal) → IsHistoryOf (Eventcount start) (reverse events)
    → IsOutcome start events end outcome
    → ((u : Unit) → answer ≡ Ok u → HasOrderOf (Eventcount start) (past_at (j + 1) events))
    → ((r : Refusal) → answer ≡ Err r → HasOrderOf (Eventcount start) (past_at (j + 1) events)
    → ⊥) → Agrees outcome j answer
agrees start events end (Ordered v) j (Ok u) h is yes' no' = tt
agrees start events end (Ordered v) j (Err r) h is yes' no' =
    no' r refl (beginning_ordered start events end v (j + 1) h is)
agrees start events end (Refused i f) j (Ok u) h is yes' no' = λ same.
    (let order = yes' u refl in
    let shows = subst (λ k. Shows start (past_at (k + 1) events) f) (sym same) is.shows in
    no_order start (past_at (j + 1) events) f (clock (past_at (j + 1) events)) order.0
    (history_at (Eventcount start) (j + 1) events h) shows order.1)
agrees start events end (Refused i f) j (Err r) h is yes' no' =
    elim (cases_lt j i) [
      | inl lt ↦ absurd (no' r refl (is.before (j + 1) (omega arith)))
      | inr le ↦
          le
    ]

pub monitor_agrees : AMonitorAgrees
monitor_agrees start events end outcome j x new (Ok u) h is next v =
    agrees start events end outcome j (Ok u) h is (λ w e.
    subst (HasOrderOf (Eventcount start)) (sym next) v.order) (λ r e. absurd (cc))
monitor_agrees start events end outcome j x new (Err r) h is next v =
    agrees start events end outcome j (Err r) h is (λ w e. absurd (cc)) (λ q e o.
    v.none (subst (HasOrderOf (Eventcount start)) next o))
