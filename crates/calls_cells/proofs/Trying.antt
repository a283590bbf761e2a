-- What is found of a prefix, and what it says of all events.
use Rattle.std.proofs.Common.{◌≡◌, ℕ, zero, suc, ◌+◌, ◌<◌, ◌≤◌, List, [], ◌∷◌, ◌++◌, length, take}
use Rattle.std.proofs.Common.{drop, reverse, inl, inr}
use Rattle.std.proofs.Common.{refl, ap, arith, subst}
use Rattle.std.specs.List.{Contains}
use Rattle.std.proofs.lemmas.Bool.{cases_lt}
use Rattle.calls_core.specs.declared.history.Kind.{Kind}
use Rattle.calls_core.specs.declared.history.Kind.TheVariants.{Cell}
use Rattle.calls_core.specs.declared.history.Call.{Call}
use Rattle.calls_core.specs.declared.history.Event.{Event}
use Rattle.calls_core.specs.declared.history.PendingCall.{PendingCall}
use Rattle.calls_core.specs.Histories.{clock, IsHistoryOf, pending_calls}
use Rattle.calls_core.specs.Beginnings.{past_at}
use Rattle.calls_core.specs.Outcomes.{HasOrderOf, IsFirstFault}
use Rattle.calls_core.proofs.Beginnings.{past_split, clock_at, history_at, orders_before}
use Rattle.calls_serial.specs.Outcomes.{AreOverlapping}
use Rattle.calls_distinct.specs.declared.cell.Fault.TheVariants.{Nowhere}
use Rattle.calls_distinct.specs.Outcomes.{AreAllPut, IsFirstNowhere}
use Rattle.calls_cells.specs.declared.outcome.Fault.{Fault}
use Rattle.calls_cells.specs.declared.outcome.Fault.TheVariants.{Distinct}
use Rattle.calls_cells.specs.declared.outcome.Undecided.{Undecided}
use Rattle.calls_cells.specs.Faults.{Shows, DoOverlap, IsOutside, ShowsUndecided}
use Rattle.calls_cells.specs.Outcomes.{IsRefusedAt, IsUndecidedFrom}
use Rattle.calls_cells.proofs.Staying.{stays_at}

-- two puts that overlap at a moment of the events do so in the reversed history
pub overlap_shown : (events : List Event) (o p : PendingCall) → AreOverlapping events o p
    → DoOverlap (reverse events) o p
overlap_shown events o p h = record {
  late = reverse (drop h.moment events);
  earlier = past_at h.moment events;
  is = past_split h.moment events;
  both = h.both;
}

pub before_end : (kind : Kind) (i end : ℕ) (events : List Event) → IsHistoryOf kind (reverse events)
    → clock (reverse events) ≤ end → clock (past_at i events) ≤ end
before_end kind i end events h late =
    (let le = clock_at kind i events h in
    omega arith)

taken_less : {X : Type 0} (n i : ℕ) (xs : List X) → i < length (take n xs) → i < length xs
taken_less zero i xs lt = absurd (omega arith)
taken_less (suc n) i [] lt = lt
taken_less (suc n) zero (x ∷ xs) lt = omega arith
taken_less (suc n) (suc i) (x ∷ xs) lt =
    (let less : i < length xs = taken_less n i xs (omega arith) in omega arith)

taken_same : {X : Type 0} (n j : ℕ) (xs : List X) → j ≤ length (take n xs)
    → take j (take n xs) ≡ take j xs
taken_same n zero xs le = refl
taken_same zero (suc j) xs le = absurd (omega arith)
taken_same (suc n) (suc j) [] le = refl
taken_same (suc n) (suc j) (x ∷ xs) le =
    ap (λ zs. x ∷ zs) (taken_same n j xs (omega arith))

-- what is a first fault of a prefix is one of all events
pub fault_longer : (Shows : List Event → Type 0) (kind : Kind) (n i : ℕ) (events : List Event)
    → IsFirstFault Shows kind (take n events) i → IsFirstFault Shows kind events i
fault_longer Shows kind n i events f =
    let lt : i < length (take n events) = f.within in
    record {
      within = taken_less n i events lt;
      shows = subst (λ zs. Shows (reverse zs)) (taken_same n (i + 1) events (omega arith)) f.shows;
      before = λ j le.
          subst (λ zs. HasOrderOf kind (reverse zs)) (taken_same n j events (omega arith))
          (f.before j le);
    }

-- WHAT FOLLOWS FROM IT

-- the first faulty event of a class is refused
pub refused_first : (events : List Event) (i : ℕ) (f : Fault)
    → IsFirstFault (λ past. Shows past f) Cell events i → IsRefusedAt Cell events i f
refused_first events i f r = record {
  within = r.within;
  shows = r.shows;
  before = λ j le. inl (r.before j le);
}

-- the calls are of neither class from the event at index low on, and have an order before
module _ (events : List Event) (low : ℕ) (u : Undecided) (h : IsHistoryOf Cell (reverse events))
    (ordered : HasOrderOf Cell (past_at low events))
    (outside : IsOutside (past_at (low + 1) events) u) where
  order_up_to : (j : ℕ) → j ≤ low → HasOrderOf Cell (past_at j events)
  order_up_to j le = orders_before Cell low j events le (history_at Cell low events h) ordered

  undecided_at : (j : ℕ) → low < j → AreAllPut (past_at j events)
      → ShowsUndecided (past_at j events) u
  undecided_at j lt put = record {
    outside = stays_at events (low + 1) j u h (omega arith) outside;
    put = put;
  }

  -- a get of a value that was never put
  pub refused_nowhere : (i : ℕ) (g : Call) → IsFirstNowhere events i g
      → IsRefusedAt Cell events i (Distinct (Nowhere g))
  refused_nowhere i g w = record {
    within = w.within;
    shows = w.shows;
    before = λ j le. elim (cases_lt low j) [
      | inl lt ↦ inr (u, undecided_at j lt (w.before j le))
      | inr ge ↦ inl (order_up_to j ge)
    ];
  }

  -- there is none
  pub undecided_from : low < length events → ((j : ℕ) → AreAllPut (past_at j events))
      → IsUndecidedFrom Cell events low u
  undecided_from lt put = record {
    within = lt;
    shows = λ j after. undecided_at j after (put j);
    before = order_up_to;
  }

-- if puts overlap, there are events
pub some_events : (events : List Event) (o p : PendingCall) → DoOverlap (reverse events) o p
    → 0 < length events
some_events [] o p h = absurd (none h.late h.earlier h.is h.both.one)
  where
    none : (late earlier : List Event) → [] ≡ late ++ earlier → Contains (pending_calls earlier) o
        → ⊥
    none [] [] is one = (let lt : one.0 < 0 = one.1 in omega arith)
    none [] (x ∷ earlier) is one = cc
    none (y ∷ late) earlier is one = cc
some_events (x ∷ events) o p h = omega arith
