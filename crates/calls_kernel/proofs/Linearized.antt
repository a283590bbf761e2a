-- The order by points of an accepted history of steps is a linearization of its calls.
use Rattle.std.proofs.Common.{◌≡◌, ℕ, ◌+◌, ◌*◌, ◌<◌, List, [], ◌∷◌, ◌++◌}
use Rattle.std.proofs.Common.{get_or, reverse, None, refl, ap, sym, arith, subst}
use Rattle.std.specs.List.{AllPairs, filter}
use Rattle.std.specs.List.Sorted.{IsPermutation}
use Rattle.std.specs.Option.{option_map}
use Rattle.std.proofs.lemmas.List.Kept.{AllPairs-filter}
use Rattle.std.proofs.lemmas.List.Sorted.{All-permutation, IsPermutation-map, IsPermutation-reverse}
use Rattle.std.proofs.lemmas.List.Sorted.{IsPermutation-trans, IsPermutation-sym}
use Rattle.ec_count.specs.Tables.{Tables}
use Rattle.ec_core.specs.declared.act.Entry.{Entry}
use Rattle.ec_core.specs.Calls.{under_way}
use Rattle.ec_core.specs.Acceptance.{IsAccepted}
use Rattle.ec_order.specs.declared.call.Call.{Call as FinishedCall}
use Rattle.ec_order.specs.Calls.{finished_calls}
use Rattle.ec_order.specs.Orders.{Precedes, calls_in}
use Rattle.ec_order.specs.Points.{ordered_by_points}
use Rattle.ec_order.specs.Sequential.{zero_state}
use Rattle.ec_order.specs.Laws.{OrderByPointsIsGood}
use Rattle.ec_order.specs.Verdicts.{IsLinearizationWithPoints}
use Rattle.calls_core.specs.declared.history.Kind.{Kind}
use Rattle.calls_core.specs.declared.history.Event.{Event}
use Rattle.calls_core.specs.declared.history.PendingCall.{PendingCall}
use Rattle.calls_core.specs.Histories.{IsHistory, completed_calls, pending_calls, pending_of, clock}
use Rattle.calls_core.specs.Linearizations.{KeepsOrder, start, initial, answered_calls}
use Rattle.calls_core.specs.Linearizations.{IsAnsweredLinearization}
use Rattle.calls_core.specs.declared.history.Call.{Call}
use Rattle.calls_core.specs.Completions.{IsLinearizable}
use Rattle.calls_local.specs.Laws.{AnswersBecomeResponses}
use Rattle.calls_core.proofs.Filters.{permutation_filter}
use Rattle.calls_kernel.specs.Outside.{kinds_of, is_call, events_of, outside_call, outside_calls}
use Rattle.calls_kernel.specs.Outside.{outside_pending}
use Rattle.calls_kernel.specs.Laws.{CallsOfAcceptedHistoriesAreLinearizable}
use Rattle.calls_kernel.proofs.Events.{events_past, events_turned}
use Rattle.calls_kernel.proofs.Objects.{event_kind, sequencer_kind, cell_kind}
use Rattle.calls_kernel.proofs.Steps.{IsView, view_of}
use Rattle.calls_kernel.proofs.Known.{IsKnown, all_known}
use Rattle.calls_kernel.proofs.Runs.{Agrees, seen_runs}
use Rattle.ec_order.proofs.Sorting.{AllPairs-map as pairs_map}

-- no pending call takes effect
answered_none : (n : ℕ) (os : List PendingCall) → answered_calls n (λ o. None) os ≡ []
answered_none n [] = refl
answered_none n (o ∷ os) = answered_none n os

module _ (t : Tables) where
  pub at_first : Agrees t zero_state (start (kinds_of t))
  at_first = record {
    events = λ e h. ap (λ o. initial o 0) (event_kind t e h);
    sequencers = λ q h. ap (λ o. initial o 0) (sequencer_kind t q h);
    cells = λ x h. ap (λ o. initial o 0) (cell_kind t x h);
  }

  abbrev pub NotAfter : FinishedCall → FinishedCall → Type 0
  NotAfter a b = Precedes b a → ⊥

  kept_seen : (a b : FinishedCall) → NotAfter a b → KeepsOrder (outside_call t a) (outside_call t b)
  kept_seen a b h before =
      h (let lt : 2 * b.last + 1 < 2 * a.first = before in
      let is : b.last < a.first = omega arith in is)

  seen_in_order : (cs : List FinishedCall) → AllPairs NotAfter cs
      → AllPairs KeepsOrder (outside_calls t cs)
  seen_in_order cs h =
      let kept = filter (λ (c : FinishedCall). is_call c.op) cs in
      let in_order : AllPairs NotAfter kept =
      AllPairs-filter NotAfter (λ (c : FinishedCall). is_call c.op) cs h in
      pairs_map KeepsOrder (outside_call t) kept
      (λ i j d lt le. kept_seen (get_or kept i d) (get_or kept j d) (in_order i j d lt le))

  seen_moves : (cs ds : List FinishedCall) → IsPermutation cs ds
      → IsPermutation (reverse (outside_calls t cs)) (outside_calls t ds)
  seen_moves cs ds h =
      IsPermutation-trans (reverse (outside_calls t cs)) (outside_calls t cs) (outside_calls t ds)
      (IsPermutation-sym (outside_calls t cs) (reverse (outside_calls t cs))
      (IsPermutation-reverse (outside_calls t cs)))
      (IsPermutation-map (outside_call t) (filter (λ (c : FinishedCall). is_call c.op) cs)
      (filter (λ (c : FinishedCall). is_call c.op) ds)
      (permutation_filter (λ (c : FinishedCall). is_call c.op) cs ds h))

  abbrev ordered : List Entry → List FinishedCall
  ordered past = calls_in (ordered_by_points t past)

  linearized : (past : List Entry) (es : List Event) → IsAccepted t past
      → IsLinearizationWithPoints t past (ordered_by_points t past)
      → IsPermutation (completed_calls es) (outside_calls t (ordered past))
      → IsAnsweredLinearization (kinds_of t) es (outside_calls t (ordered past))
  linearized past es acc good moves = record {
    answer = λ o. None;
    each_once = subst (λ zs. IsPermutation (zs ++ completed_calls es)
        (outside_calls t (ordered past))) (sym (answered_none (clock es) (pending_calls es))) moves;
    in_order = seen_in_order (ordered past) good.legal.in_order;
    run = seen_runs t (ordered past) zero_state (start (kinds_of t)) at_first
        (All-permutation (IsKnown t) (finished_calls t past) (ordered past) good.legal.each_once
        (all_known t past acc)) good.legal.run;
  }

  -- the same for a list that equals these events
  seen_of : (h : List Entry) (es : List Event) → es ≡ events_past t (reverse h)
      → IsAccepted t (reverse h)
      → IsLinearizationWithPoints t (reverse h) (ordered_by_points t (reverse h))
      → IsHistory (kinds_of t) es × (completed_calls es
      ≡ reverse (outside_calls t (finished_calls t (reverse h)))) × ((w : ℕ)
      → pending_of w (pending_calls es)
      ≡ option_map (outside_pending t w) (under_way w (reverse h)))
      × IsPermutation (completed_calls es) (outside_calls t (ordered (reverse h)))
  seen_of h es is acc good =
      let view : IsView t (reverse h) es =
      subst (IsView t (reverse h)) (sym is) (view_of t (reverse h) acc) in (
        view.keeps.history,
        view.keeps.done_is,
        view.keeps.pending_is,
        subst (λ zs. IsPermutation zs (outside_calls t (ordered (reverse h))))
            (sym view.keeps.done_is)
            (seen_moves (finished_calls t (reverse h)) (ordered (reverse h))
            good.legal.each_once),
      )

-- a linearization by answers makes a history linearizable
pub linearizable_by : AnswersBecomeResponses → (kinds : List Kind) (past : List Event)
    (cs : List Call) → IsHistory kinds past → IsAnsweredLinearization kinds past cs
    → IsLinearizable kinds past
linearizable_by answered kinds past cs h l = (let r = answered kinds past cs h l in (r.0, r.1))

pub accepted_are_linearizable : OrderByPointsIsGood → AnswersBecomeResponses
    → CallsOfAcceptedHistoriesAreLinearizable
accepted_are_linearizable orders answered t h d acc =
    let good = orders t h d acc in
    let s = seen_of t h (reverse (events_of t h)) (events_turned t h) acc good in
    let l = linearized t (reverse h) (reverse (events_of t h)) acc good s.3 in
    record {
      history = s.0;
      completed = s.1;
      pending = s.2;
      linearization = l;
      linearizable = linearizable_by answered (kinds_of t) (reverse (events_of t h))
          (outside_calls t (calls_in (ordered_by_points t (reverse h)))) s.0 l;
      completed_alone = s.3;
    }
