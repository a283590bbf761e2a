-- Beginnings of the events of a buffer.
use Rattle.std.proofs.Common.{◌≡◌, ℕ, ◌+◌, ◌<◌, ◌≤◌, inl, inr, List, [], ◌∷◌, ◌++◌, length, reverse, take}
use Rattle.std.proofs.Common.{get_or, drop, None}
use Rattle.std.proofs.Common.{sym, ◌∙◌, arith, subst}
use Rattle.std.proofs.lemmas.List.Sorted.{IsPermutation-refl}
use Rattle.calls_core.specs.declared.history.Kind.{Kind}
use Rattle.calls_core.specs.declared.history.Kind.TheVariants.{Buffer}
use Rattle.calls_core.specs.declared.history.Event.{Event}
use Rattle.calls_core.specs.Histories.{IsHistoryOf, clock}
use Rattle.calls_core.specs.Linearizations.{KeepsOrder}
use Rattle.calls_core.specs.Beginnings.{past_at, until}
use Rattle.calls_core.specs.Outcomes.{IsOrderOf, HasOrderOf}
use Rattle.calls_core.proofs.Beginnings.{history_at, orders_before, past_next}
use Rattle.calls_core.proofs.Lists.{all_pairs_from_each}
use Rattle.calls_core.proofs.Settling.{has_order_from}
use Rattle.calls_cells.proofs.Staying.{longer_split}
use Rattle.calls_cells.proofs.Trying.{before_end}
use Rattle.calls_buffers.specs.declared.fault.Fault.{Fault}
use Rattle.calls_buffers.specs.declared.deciding.Outcome.{Outcome}
use Rattle.calls_buffers.specs.declared.deciding.Outcome.TheVariants.{Ordered, Refused, NotDecided}
use Rattle.calls_buffers.specs.Faults.{Shows}
use Rattle.calls_buffers.specs.Outcomes.{IsOutcome}
use Rattle.calls_verdict.specs.declared.verdict.Cause.TheVariants.{Unfound}
use Rattle.calls_verdict.specs.Faults.{IsUnfound}
use Rattle.calls_verdict.specs.Verdicts.{IsHard, IsOrdered, IsOpenFrom}
use Rattle.calls_verdict.proofs.Untils.{until_out, until_all}

-- no events have an order with no calls
pub no_events : (kind : Kind) (events : List Event) (t : ℕ) → length events ≡ 0
    → IsOrderOf kind (reverse events) t []
no_events kind [] t e = record {
  answer = λ o. None;
  each_once = IsPermutation-refl [];
  in_order = all_pairs_from_each KeepsOrder [] tt;
  run = tt;
}
no_events kind (x ∷ events) t e = absurd (omega (arith, e))

-- what isn't found of a buffer stays so with more events
unfound_on : (n m : ℕ) (late past : List Event) → IsHistoryOf (Buffer n) (late ++ past)
    → IsUnfound n past m → IsUnfound n (late ++ past) m
unfound_on n m [] past h s = s
unfound_on n m (x ∷ late) past h s =
    (let rest = unfound_on n m late past h.2 s in
    let early : m < clock (late ++ past) = rest.within in
    let next : clock (late ++ past) ≤ x.at = h.0 in
    record {
      within = omega arith;
      before = subst (HasOrderOf (Buffer n))
          (sym (until_out m x (late ++ past) (omega arith))) rest.before;
    })

-- the first events have an order: so nothing is found from the next one on
pub unfound_from : (n t : ℕ) (events : List Event) (low : ℕ) (d : Event)
    → IsHistoryOf (Buffer n) (reverse events) → low < length events
    → HasOrderOf (Buffer n) (past_at low events) → IsHard (Buffer n) t (reverse events)
    → IsOpenFrom (Buffer n) events t low (Unfound (get_or events low d).at)
unfound_from n t events low d h lt order hard =
    let e = get_or events low d in
    let is : past_at (low + 1) events ≡ e ∷ past_at low events = past_next events low d lt in
    let next : IsHistoryOf (Buffer n) (e ∷ past_at low events) =
    subst (IsHistoryOf (Buffer n)) is (history_at (Buffer n) (low + 1) events h) in
    let early : clock (past_at low events) ≤ e.at = next.0 in
    let same : until e.at (e ∷ past_at low events) ≡ past_at low events =
    until_out e.at e (past_at low events) (omega arith)
    ∙ until_all e.at (past_at low events) early in
    let shown : IsUnfound n (past_at (low + 1) events) e.at =
    subst (λ q. IsUnfound n q e.at) (sym is) (record {
      within = omega arith;
      before = subst (HasOrderOf (Buffer n)) (sym same) order;
    }) in
    record {
      within = lt;
      shows = λ j after.
          (let split = longer_split events (low + 1) j (omega arith) in
          subst (λ q. IsUnfound n q e.at) (sym split)
          (unfound_on n e.at (reverse (drop (low + 1) (take j events))) (past_at (low + 1) events)
          (subst (IsHistoryOf (Buffer n)) split (history_at (Buffer n) j events h)) shown));
      before = λ j le. orders_before (Buffer n) low j events le (history_at (Buffer n) low events h)
          order;
      hard = hard;
    }

-- THE SEARCH FOR AN EVENT WITH A FAULT

-- the first `high` events show the fault. The first `low` have an order, or are not of the class
-- that is always decided
pub record IsBetween (n t : ℕ) (events : List Event) (low high : ℕ) (f : Fault) : Type 0 where
  pub apart : low < high
  pub within : high ≤ length events
  pub shown : Shows n (past_at high events) f
  pub ordered : IsOrdered (Buffer n) t (past_at low events) (past_at low events)

-- each shorter prefix has an order, or the first `low` are not of that class
pub ordered_before : (n t : ℕ) (events : List Event) (low : ℕ)
    → IsHistoryOf (Buffer n) (reverse events)
    → IsOrdered (Buffer n) t (past_at low events) (past_at low events) → (j : ℕ) → j ≤ low
    → IsOrdered (Buffer n) t (past_at j events) (past_at low events)
ordered_before n t events low h (inl l) j le =
    inl (orders_before (Buffer n) low j events le (history_at (Buffer n) low events h) l)
ordered_before n t events low h (inr hard) j le = inr hard

same_between : (n t : ℕ) (events : List Event) (low high i j : ℕ) (f g : Fault) → i ≡ low
    → j ≡ high → g ≡ f → IsBetween n t events low high f → IsBetween n t events i j g
same_between n t events low high i j f g a b c w =
    subst (λ z. IsBetween n t events z j g) (sym a)
    (subst (λ z. IsBetween n t events low z g) (sym b)
    (subst (IsBetween n t events low high) (sym c) w))

-- what the decision on the first `mid` events makes of the bounds and of the fault
abbrev pub IsNarrowed : Outcome → ℕ → ℕ → ℕ → Fault → ℕ → ℕ → Fault → Type 0
IsNarrowed (Refused found) low high mid f i j g = (i ≡ low) × (j ≡ mid) × (g ≡ found)
IsNarrowed (Ordered cs) low high mid f i j g = (i ≡ mid) × (j ≡ high) × (g ≡ f)
IsNarrowed NotDecided low high mid f i j g = (i ≡ mid) × (j ≡ high) × (g ≡ f)

module _ (n t : ℕ) (events : List Event) (h : IsHistoryOf (Buffer n) (reverse events))
    (le : clock (reverse events) ≤ t) (low high mid : ℕ) (f : Fault)
    (w : IsBetween n t events low high f) (above : low < mid) (below : mid < high) where
  raised : IsOrdered (Buffer n) t (past_at mid events) (past_at mid events)
      → IsBetween n t events mid high f
  raised l = record {
    apart = below;
    within = w.within;
    shown = w.shown;
    ordered = l;
  }

  narrowed_by : (o : Outcome) → IsOutcome n (take mid events) t o → (i j : ℕ) (g : Fault)
      → IsNarrowed o low high mid f i j g → IsBetween n t events i j g
  narrowed_by (Refused found) outcome i j g (a, b, c) =
      same_between n t events low mid i j found g a b c (record {
        apart = above;
        within = omega (arith, w.within);
        shown = outcome;
        ordered = w.ordered;
      })
  narrowed_by (Ordered cs) outcome i j g (a, b, c) =
      same_between n t events mid high i j f g a b c (raised
      (inl (has_order_from (Buffer n) (past_at mid events) t cs (history_at (Buffer n) mid events h)
      (before_end (Buffer n) mid t events h le) outcome)))
  narrowed_by NotDecided outcome i j g (a, b, c) =
      same_between n t events mid high i j f g a b c (raised (inr outcome))

  pub narrowed : (beginning : List Event) (o r : Outcome) (i j : ℕ) (g : Fault)
      → beginning ≡ take mid events → IsOutcome n beginning t o → o ≡ r
      → IsNarrowed r low high mid f i j g → IsBetween n t events i j g
  narrowed beginning o r i j g are outcome is =
      narrowed_by r (subst (IsOutcome n (take mid events) t) is
      (subst (λ zs. IsOutcome n zs t o) are outcome)) i j g
