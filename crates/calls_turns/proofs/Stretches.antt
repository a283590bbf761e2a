-- Steps to a demand that is not met.
use Rattle.std.proofs.Common.{◌≡◌, ℕ, zero, suc, ◌+◌, ◌<◌, ◌≤◌, inl, inr}
use Rattle.std.proofs.Common.{Bool, true, false, ◌&&◌}
use Rattle.std.proofs.Common.{List, ap, sym, ◌∙◌, arith, set, length}
use Rattle.std.proofs.Common.{subst, count_by, cond, eqb, Option, Some, None, refl}
use Rattle.std.specs.Prelude.{IfSome, nat_le}
use Rattle.std.proofs.lemmas.Bool.{cases_lt, le-leb, lt-ltb, ne_eqb}
use Rattle.std.proofs.lemmas.Bool.{and_from, and_left, and_parts, leb-true}
use Rattle.std.proofs.lemmas.List.{get_or-set_other, length-set}
use Rattle.std.proofs.lemmas.List.Sums.{sum_by_more}
use Rattle.calls_core.proofs.Lists.{all_from_each}
use Rattle.calls_core.proofs.Counting.{one, one_yes}
use Rattle.calls_turns.specs.declared.turn.Turn.{Turn}
use Rattle.calls_turns.specs.declared.turn.Taker.{Taker}
use Rattle.calls_turns.specs.declared.turn.Step.{Step}
use Rattle.calls_turns.specs.declared.turn.Reason.TheVariants.{Takers}
use Rattle.calls_turns.specs.declared.demand.Fill.{Fill}
use Rattle.calls_turns.specs.declared.chaining.Stretch.{Stretch}
use Rattle.calls_turns.specs.Turns.{OthersNotDue}
use Rattle.calls_turns.specs.Steps.{has_item, is_of, turns_of, known, is_later, is_within}
use Rattle.calls_turns.specs.Steps.{reached_after}
use Rattle.calls_turns.specs.Steps.{AreTooMany}
use Rattle.calls_turns.specs.Sweeps.{taker_at, turn_at, fill_at, filler, nobody, no_turn, IsFree}
use Rattle.calls_turns.specs.Sweeps.{IsFilled, AreFilled, IsTakerDue}
use Rattle.calls_turns.proofs.Counts.{turns_rise}
use Rattle.calls_turns.proofs.Tallies.{passing_between, set_counted, distinct, turns_counted}
use Rattle.calls_turns.proofs.Tallies.{item_yes, of_item}
use Rattle.calls_turns.specs.Chains.{after, position_of, IsBarrier, IsStretch, Reaches, IsLink}

-- COUNTS

-- one turn more
turn_more : (turns : List Turn) (v k : ℕ) → k < length turns
    → turns_of turns v (k + 1) ≡ turns_of turns v k + one (has_item (turn_at turns k).item v)
turn_more turns v k lt =
    sum_by_more (λ (t : Turn). cond (has_item t.item v) 1 0) turns k no_turn lt

pub same_turn_more : (turns : List Turn) (v k : ℕ) → k < length turns
    → (turn_at turns k).item ≡ Some v → turns_of turns v (k + 1) ≡ turns_of turns v k + 1
same_turn_more turns v k lt e =
    omega (
      arith,
      turn_more turns v k lt,
      one_yes (has_item (turn_at turns k).item v) (item_yes (turn_at turns k).item v e),
    )

-- WHO IS IN A STRETCH

-- somebody who took no turn before the barrier, and is due before its taker, had not come by then
came_after : (end : ℕ) (turns : List Turn) (takers : List Taker) (fills : List Fill)
    (v p b j : ℕ) → IsFilled end turns takers fills b → IsBarrier turns takers fills v p b
    → j < length takers → IsFree fills b j → (taker_at takers j).item ≡ Some v
    → (taker_at takers j).by ≤ p → (fill_at fills b).demand.at < (taker_at takers j).from
came_after end turns takers fills v p b j filled barrier within free item due =
    elim (cases_lt (fill_at fills b).demand.at (taker_at takers j).from) [
      | inl less ↦ less
      | inr le ↦ absurd (omega (
        arith,
        barrier.later,
        due,
        filled.preferred v j barrier.item within free item le,
      ))
    ]

pub within_stretch : (v p : ℕ) (since : Option ℕ) (x : Taker) → x.item ≡ Some v → x.by ≤ p
    → IfSome since (λ q. q < x.from) → is_within v since p x ≡ true
within_stretch v p since x item due later =
    and_from (is_of v x) (is_later since x.from && nat_le x.by p) (item_yes x.item v item)
    (and_from (is_later since x.from) (nat_le x.by p) (
    elim since as (λ o. IfSome o (λ q. q < x.from) → is_later o x.from ≡ true) [
      | None ↦ λ none. refl
      | Some q ↦ λ less. lt-ltb q x.from less
    ] later
    ) (le-leb x.by p due))

-- the same by the index of a taker who took no turn up to the barrier
pub taker_within : (end : ℕ) (turns : List Turn) (takers : List Taker) (fills : List Fill)
    (v p j : ℕ) (barrier : Option ℕ)
    → ((b : ℕ) → b < after barrier → IsFilled end turns takers fills b)
    → IfSome barrier (IsBarrier turns takers fills v p)
    → j < length takers → IsFree fills (after barrier) j → (taker_at takers j).item ≡ Some v
    → (taker_at takers j).by ≤ p
    → is_within v (position_of fills barrier) p (taker_at takers j) ≡ true
taker_within end turns takers fills v p j None h is within free item due =
    within_stretch v p None (taker_at takers j) item due tt
taker_within end turns takers fills v p j (Some b) h is within free item due =
    within_stretch v p (Some (fill_at fills b).demand.at) (taker_at takers j) item due
    (came_after end turns takers fills v p b j (h b (omega arith)) is within
    (λ i less. free i (omega arith)) item due)

turns_there : (end : ℕ) (turns : List Turn) (takers : List Taker) (fills : List Fill) (k : ℕ)
    → AreFilled end turns takers fills → k ≤ length fills → k ≤ length turns
turns_there end turns takers fills zero h to = omega arith
turns_there end turns takers fills (suc k) h to = (h.each k (omega arith)).turn

pub some_item : (o : Option ℕ) → (o ≡ None → ⊥) → (w : ℕ) × (o ≡ Some w)
some_item None h = absurd (h refl)
some_item (Some w) h = (w, refl)

-- who is due has an item
pub due_item : (end : ℕ) (takers : List Taker) (j : ℕ) → OthersNotDue end takers
    → j < length takers → (taker_at takers j).by < end
    → (w : ℕ) × ((taker_at takers j).item ≡ Some w)
due_item end takers j others lt due = some_item (taker_at takers j).item (λ e.
    absurd (omega (
      arith,
      all_from_each (λ (x : Taker). x.item ≡ None → end ≤ x.by) takers others j nobody lt e,
    )))

-- who takes a turn of an item, and is due, is of the item
pub filler_item : (end : ℕ) (turns : List Turn) (takers : List Taker) (fills : List Fill)
    (i v : ℕ) → IsFilled end turns takers fills i → OthersNotDue end takers
    → (filler takers fills i).by < end → (turn_at turns i).item ≡ Some v
    → (filler takers fills i).item ≡ Some v
filler_item end turns takers fills i v filled others due same =
    let r = due_item end takers (fill_at fills i).taker others filled.taker due in
    r.1 ∙ ap Some (filled.may.item r.0 v r.1 same)

-- one who is within no stretch of item v
abbrev pub outsider : ℕ → Taker
outsider v = record { call = 0; item = Some (suc v); from = 0; by = 0 }

pub outside : (v p : ℕ) (since : Option ℕ) → is_within v since p (outsider v) ≡ false
outside v p since = and_left (eqb (suc v) v) (is_later since 0 && nat_le 0 p)
    (ne_eqb (suc v) v (λ e. absurd (omega (arith, e))))

-- the takers of a stretch, with one who is due and took none of its turns
stretch_counted : (end : ℕ) (turns : List Turn) (takers : List Taker) (fills : List Fill)
    (v p k j : ℕ) (s : Stretch) → AreFilled end turns takers fills → OthersNotDue end takers
    → p < end → k ≤ length fills → IsStretch turns takers fills v p k s
    → IsTakerDue takers fills k p j → (taker_at takers j).item ≡ Some v
    → s.takers ≤ count_by (is_within v (position_of fills s.barrier) p) takers
stretch_counted end turns takers fills v p k j s h others before to is due item =
    let low : ℕ = after s.barrier in
    let pass : Taker → Bool = is_within v (position_of fills s.barrier) p in
    let of_turn : ℕ → Bool = λ i. has_item (turn_at turns i).item v in
    let from_low : ℕ → Bool = λ i. nat_le low i && of_turn i in
    let g : ℕ → ℕ = λ i. (fill_at fills i).taker in
    let left : List Taker = set takers j (outsider v) in
    let there : k ≤ length turns = turns_there end turns takers fills k h to in
    let early : (b : ℕ) → b < low → IsFilled end turns takers fills b =
    λ b less. h.each b (omega (arith, is.before)) in
    let passes : pass (taker_at takers j) ≡ true =
    taker_within end turns takers fills v p j s.barrier early is.barrier due.within
    (λ i less. due.free i (omega (arith, is.before))) item (omega (arith, due.by)) in
    omega (
      arith,
      is.before,
      is.counted,
      turns_counted turns v k there,
      turns_counted turns v low (omega (arith, is.before)),
      passing_between of_turn from_low low k is.before
          (λ i from lt e. and_from (nat_le low i) (of_turn i) (le-leb low i from) e),
      set_counted pass nobody (outsider v) takers j (outside v p (position_of fills s.barrier))
          due.within passes,
      distinct pass nobody (outsider v) from_low g k left
          (outside v p (position_of fills s.barrier)) (λ i lt e.
          let both = and_parts (nat_le low i) (of_turn i) e in
          let from : low ≤ i = leb-true low i both.0 in
          let same = of_item (turn_at turns i).item v both.1 in
          let filled = h.each i (omega arith) in
          let by : (filler takers fills i).by ≤ p = is.due i from lt same in (
            subst (λ m. g i < m) (sym (length-set takers j (outsider v))) filled.taker,
            subst (λ x. pass x ≡ true)
                (sym (get_or-set_other takers j (g i) (outsider v) nobody (due.free i lt)))
                (taker_within end turns takers fills v p (g i) s.barrier early is.barrier
                filled.taker
                (λ a less. filled.free a (omega arith))
                (filler_item end turns takers fills i v filled others (omega arith) same) by),
          ))
          (λ a b less stop same. (h.each b (omega arith)).free a less same),
    )

-- STEPS

pub barrier_reached : (fills : List Fill) (ss : List Step) (barrier : Option ℕ)
    → IfSome barrier (Reaches fills ss)
    → after barrier ≤ reached_after ss (position_of fills barrier)
barrier_reached fills ss None reaches = omega arith
barrier_reached fills ss (Some b) reaches = omega (arith, reaches)

-- the step of takers who need a turn each
pub takers_step : (end : ℕ) (turns : List Turn) (takers : List Taker) (fills : List Fill)
    (v p k j : ℕ) (s : Stretch) (ss : List Step) → AreFilled end turns takers fills
    → OthersNotDue end takers → p < end → k ≤ length fills → k ≤ known turns
    → IsStretch turns takers fills v p k s → IsTakerDue takers fills k p j
    → (taker_at takers j).item ≡ Some v → IfSome s.barrier (Reaches fills ss)
    → AreTooMany turns takers ss p k v (position_of fills s.barrier) s.takers
takers_step end turns takers fills v p k j s ss h others lt to early is due item reaches =
    let before : after s.barrier ≤ reached_after ss (position_of fills s.barrier) =
    barrier_reached fills ss s.barrier reaches in
    record {
      some = omega (arith, is.counted, turns_rise turns v (after s.barrier) k is.before);
      counted = stretch_counted end turns takers fills v p k j s h others lt to is due item;
      few = inl (record {
        before = early;
        few = omega (
          arith,
          is.counted,
          turns_rise turns v (after s.barrier)
              (reached_after ss (position_of fills s.barrier)) before,
        );
      });
    }

pub takers_link : (end : ℕ) (turns : List Turn) (takers : List Taker) (fills : List Fill)
    (v p k j : ℕ) (s : Stretch) (since : Option ℕ) → AreFilled end turns takers fills
    → OthersNotDue end takers → k ≤ length fills → k ≤ known turns
    → IsStretch turns takers fills v p k s → p < end
    → IsTakerDue takers fills k p j → (taker_at takers j).item ≡ Some v
    → since ≡ position_of fills s.barrier
    → IsLink end turns takers fills k p (record {
      step = record { at = p; count = k + 1; reason = Takers v since s.takers };
      needs = s.barrier;
    })
takers_link end turns takers fills v p k j s since h others to early is before due item same =
    record {
      at = refl;
      count = omega arith;
      needs = (elim s.barrier as (λ o. after o ≤ k → IfSome o (λ i. i < k)) [
        | None ↦ λ le. tt
        | Some b ↦ λ le. omega arith
      ] is.before);
      step = λ ss reaches. record {
        before = before;
        last = k;
        count = refl;
        reason = subst (λ o. AreTooMany turns takers ss p k v o s.takers) (sym same)
            (takers_step end turns takers fills v p k j s ss h others before to early is due item
            reaches);
      };
    }
