-- Prefixes of a history: their class, their clock, and the first fault.
use Rattle.std.proofs.Common.{◌≡◌, ℕ, ◌+◌, ◌-◌, ◌/◌, ◌<◌, ◌≤◌, Bool, true}
use Rattle.std.proofs.Common.{false, ◌==◌, cond, Option, Some, None, List, [], ◌∷◌, ◌++◌}
use Rattle.std.proofs.Common.{length, drop, reverse, get_or, refl, ap, sym, ◌∙◌, arith, subst}
use Rattle.std.proofs.Common.{count_by}
use Rattle.std.proofs.lemmas.Bool.{le-leb, leb-true}
use Rattle.std.proofs.lemmas.Option.{same_Some, none-some}
use Rattle.std.proofs.lemmas.List.{take_all}
use Rattle.std.proofs.lemmas.List.Sorted.{IsPermutation-refl}
use Rattle.calls_core.specs.declared.history.Kind.{Kind}
use Rattle.calls_core.specs.declared.history.Action.{Action}
use Rattle.calls_core.specs.declared.history.Action.TheVariants.{Invoke, Respond}
use Rattle.calls_core.specs.declared.history.Reply.{Reply}
use Rattle.calls_core.specs.declared.history.Event.{Event}
use Rattle.calls_core.specs.declared.history.PendingCall.{PendingCall}
use Rattle.calls_core.specs.declared.history.Call.{Call}
use Rattle.calls_core.specs.Histories.{clock, pending_of, without, invoked_by, pending_after}
use Rattle.calls_core.specs.Histories.{pending_calls, completion, ended_call, completed_calls}
use Rattle.calls_core.specs.Histories.{IsNextOf, IsHistoryOf}
use Rattle.calls_core.specs.Outcomes.{HasOrderOf, IsFirstFault}
use Rattle.calls_core.specs.Beginnings.{past_at}
use Rattle.calls_core.proofs.Lists.{all_pairs_from_each}
use Rattle.calls_core.specs.Linearizations.{KeepsOrder}
use Rattle.calls_core.proofs.Counting.{one, count_cons, count_append}
use Rattle.calls_core.proofs.Beginnings.{past_split, history_at, orders_before}
use Rattle.calls_distinct.specs.declared.cell.Fault.{Fault}
use Rattle.calls_distinct.specs.declared.cell.Fault.TheVariants.{Nowhere, Stale, Alternate}
use Rattle.calls_distinct.specs.kept.Verdicts.{IsFaultOf}
use Rattle.calls_distinct.specs.Cells.{IsStore, IsStoreHistory, put_call, put_pending, times, gets}
use Rattle.calls_distinct.specs.Cells.{IsDistinctHistory, IsDistinct, is_got, Shows}
use Rattle.calls_distinct.specs.Outcomes.{IsRepeated, is_put_at, put_pending_at}
use Rattle.calls_distinct.proofs.Accesses.{same_history}
use Rattle.calls_distinct.proofs.Steps.{past_more}

-- THE CLASS

pub count_without : (p : PendingCall → Bool) (w : ℕ) (os : List PendingCall) (o : PendingCall)
    → pending_of w os ≡ Some o → count_by p os ≡ one (p o) + count_by p (without w os)
count_without p w [] o e = absurd (none-some o e)
count_without p w (y ∷ os) o e =
    elim (y.worker == w) as (λ b. cond b (Some y) (pending_of w os) ≡ Some o
    → count_by p (y ∷ os) ≡ one (p o) + count_by p (cond b os (y ∷ without w os))) [
      | true ↦ λ is. count_cons p y os ∙ ap (λ z. one (p z) + count_by p os) (same_Some y o is)
      | false ↦ λ is. omega (
        arith,
        count_cons p y os,
        count_cons p y (without w os),
        count_without
            p w os o is,
      )
    ] e

-- the pending call that an event adds, counted by a test
abbrev pub invoked : (PendingCall → Bool) → Event → Action → ℕ
invoked q x (Invoke k op) = one (q (invoked_by x k op))
invoked q x (Respond r) = 0

-- counts of calls, whether or not they have completed, with one more event
pub counted_next : (p : Call → Bool) (q : PendingCall → Bool)
    → ((t : ℕ) (r : Reply) (o : PendingCall) → p (completion t r o) ≡ q o) → (kind : Kind)
    → (x : Event) (action : Action) (o : Option PendingCall) (os : List PendingCall)
    → (cs : List Call) → pending_of x.worker os ≡ o → IsNextOf kind action o
    → count_by p (ended_call x action o ++ cs) + count_by q (pending_after x action os)
    ≡ count_by p cs + count_by q os + invoked q x action
counted_next p q same kind x (Invoke k op) o os cs e h = omega (
  arith,
  count_append q os (invoked_by x k op ∷ []),
  count_cons q (invoked_by x k op) [],
)
counted_next p q same kind x (Respond r) None os cs e h = absurd h
counted_next p q same kind x (Respond r) (Some o) os cs e h = omega (
  arith,
  count_without q x.worker os o e,
  count_cons p (completion x.at r o) cs,
  ap one (same x.at r o),
)

-- an event makes no count of calls smaller
counted_more : (p : Call → Bool) (q : PendingCall → Bool)
    → ((t : ℕ) (r : Reply) (o : PendingCall) → p (completion t r o) ≡ q o)
    → (kind : Kind) (x : Event) (action : Action) (o : Option PendingCall)
    (os : List PendingCall) (cs : List Call) → pending_of x.worker os ≡ o → IsNextOf kind action o
    → count_by p cs + count_by q os
    ≤ count_by p (ended_call x action o ++ cs) + count_by q (pending_after x action os)
counted_more p q same kind x action o os cs e h = omega (
  arith,
  counted_next p q same kind x action o os cs e h,
)

pub times_more : (kind : Kind) (v : ℕ) (x : Event) (past : List Event) → IsHistoryOf kind (x ∷ past)
    → times (completed_calls past) (pending_calls past) v
    ≤ times (completed_calls (x ∷ past)) (pending_calls (x ∷ past)) v
times_more kind v x past h = counted_more (put_call v) (put_pending v) (λ n r o. refl) kind x
    x.action (pending_of x.worker (pending_calls past)) (pending_calls past) (completed_calls past)
    refl h.1

got_more : (v : ℕ) (x : Event) (past : List Event) → is_got (completed_calls past) v ≡ true
    → is_got (completed_calls (x ∷ past)) v ≡ true
got_more v x past got =
    let ended = ended_call x x.action (pending_of x.worker (pending_calls past)) in
    let some = leb-true 1 (count_by (gets v) (completed_calls past)) got in
    le-leb 1 (count_by (gets v) (ended ++ completed_calls past))
    (omega (arith, count_append (gets v) ended (completed_calls past)))

distinct_less : (kind : Kind) (v : ℕ) (x : Event) (past : List Event) → IsHistoryOf kind (x ∷ past)
    → IsDistinct (completed_calls (x ∷ past)) (pending_calls (x ∷ past)) v
    → IsDistinct (completed_calls past) (pending_calls past) v
distinct_less kind v x past h d =
    let le = times_more kind v x past h in
    let once = d.once in
    record { once = omega arith; zero_never = λ e. (let none = d.zero_never e in omega arith) }

distinct_before : (kind : Kind) (x : Event) (past : List Event) → IsHistoryOf kind (x ∷ past)
    → IsDistinctHistory (x ∷ past) → IsDistinctHistory past
distinct_before kind x past h d v got = distinct_less kind v x past h
    (d v (got_more v x past got))

distinct_earlier : (kind : Kind) (late past : List Event) → IsHistoryOf kind (late ++ past)
    → IsDistinctHistory (late ++ past) → IsDistinctHistory past
distinct_earlier kind [] past h d = d
distinct_earlier kind (x ∷ late) past h d = distinct_earlier kind late past h.2
    (distinct_before kind x (late ++ past) h d)

pub distinct_at : (i : ℕ) (events : List Event) → IsStoreHistory (reverse events)
    → IsDistinctHistory (reverse events) → IsDistinctHistory (past_at i events)
distinct_at i events h d = distinct_earlier h.0 (reverse (drop i events)) (past_at i events)
    (subst (IsHistoryOf h.0) (past_split i events) h.2)
    (subst IsDistinctHistory (past_split i events) d)

pub store_at : (i : ℕ) (events : List Event) → IsStoreHistory (reverse events)
    → IsStoreHistory (past_at i events)
store_at i events h = (h.0, h.1, history_at h.0 i events h.2)

-- A REPEATED VALUE

repeated_later : (kind : Kind) (late past : List Event) (v n : ℕ) → IsHistoryOf kind (late ++ past)
    → IsRepeated (completed_calls past) (pending_calls past) v n
    → IsRepeated (completed_calls (late ++ past)) (pending_calls (late ++ past)) v n
repeated_later kind [] past v n h r = r
repeated_later kind (x ∷ late) past v n h r =
    let all = late ++ past in
    let s = repeated_later kind late past v n h.2 r in
    let there = s.there in
    record {
      got = got_more v x all s.got;
      twice = λ d. s.twice (distinct_less kind v x all h d);
      there = omega (
        arith,
        counted_more (is_put_at v n) (put_pending_at v n) (λ k y o. refl) kind x x.action
            (pending_of x.worker (pending_calls all)) (pending_calls all) (completed_calls all)
            refl h.1,
      );
    }

-- a value that is repeated in the first events is so in all
pub repeated_at : (i : ℕ) (events : List Event) (v n : ℕ) → IsStoreHistory (reverse events)
    → IsRepeated (completed_calls (past_at i events)) (pending_calls (past_at i events)) v n
    → IsRepeated (completed_calls (reverse events)) (pending_calls (reverse events)) v n
repeated_at i events v n h r = subst (λ (past : List Event). IsRepeated (completed_calls past)
    (pending_calls past) v n) (sym (past_split i events))
    (repeated_later h.0 (reverse (drop i events)) (past_at i events) v n
    (subst (IsHistoryOf h.0) (past_split i events) h.2) r)

-- THE CLOCK

pub clock_is : (i n : ℕ) (events : List Event) (d : Event) → n ≡ i + 1 → i < length events
    → clock (past_at n events) ≡ (get_or events i d).at + 1
clock_is i n events d e lt = ap (λ k. clock (past_at k events)) e ∙ ap clock
    (past_more events i d lt)

-- THE FIRST FAULT

nothing_shown : (fault : Fault) → Shows [] fault → ⊥
nothing_shown (Nowhere g) s = (let lt : s.known.0 < 0 = s.known.1 in omega arith)
nothing_shown (Stale c g) s = (let lt : s.known_c.0 < 0 = s.known_c.1 in omega arith)
nothing_shown (Alternate a b c d) s = (let lt : s.known_a.0 < 0 = s.known_a.1 in omega arith)

pub some_events : (events : List Event) (fault : Fault) → Shows (reverse events) fault
    → 0 < length events
some_events [] fault s = absurd (nothing_shown fault s)
some_events (x ∷ events) fault s = omega arith

pub shows_whole : (events : List Event) (n : ℕ) (fault : Fault) → n ≡ length events
    → Shows (reverse events) fault → Shows (past_at n events) fault
shows_whole events n fault e s = subst (λ zs. Shows (reverse zs) fault)
    (sym (take_all n events (omega arith))) s

pub order_of_none : (kind : Kind) → HasOrderOf kind []
order_of_none kind = (
  [],
  record {
    answer = λ o. None;
    each_once = IsPermutation-refl [];
    in_order =
        all_pairs_from_each KeepsOrder [] tt;
    run = tt;
  },
)

pub first_fault_is : (events : List Event) (low high : ℕ) (fault : Fault)
    → IsStoreHistory (reverse events) → low < high → high ≤ low + 1 → high ≤ length events
    → ((kind : Kind) → IsStore kind → HasOrderOf kind (past_at low events))
    → Shows (past_at high events) fault
    → (kind : Kind) → IsStore kind → IsFirstFault (λ past. Shows past fault) kind events low
first_fault_is events low high fault h lt le within order shows kind store =
    let history = same_history h.0 kind h.1 store (reverse events) h.2 in
    let next : high ≡ low + 1 = omega arith in
    record {
      within = omega arith;
      shows = subst (λ n. Shows (past_at n events) fault) next shows;
      before = λ j small. orders_before kind low j events small (history_at kind low events history)
          (order kind store);
    }

-- THE BISECTION

-- a prefix that has an order, and a longer one with a fault
pub record IsSearched (events : List Event) (low high : ℕ) (fault : Fault) : Type 0 where
  pub apart : low < high
  pub within : high ≤ length events
  pub order : (kind : Kind) → IsStore kind → HasOrderOf kind (past_at low events)
  pub shows : Shows (past_at high events) fault

pub search_start : (events : List Event) (n : ℕ) (fault : Fault) → n ≡ length events
    → Shows (reverse events) fault → IsSearched events 0 n fault
search_start events n fault e s = record {
  apart = (let some = some_events events fault s in omega arith);
  within = omega arith;
  order = λ kind store. order_of_none kind;
  shows = shows_whole events n fault e s;
}

pub search_up : (events : List Event) (low middle high : ℕ) (fault : Fault) (found : Option Fault)
    → IsSearched events low high fault → IsFaultOf (past_at middle events) found → found ≡ None
    → middle < high → IsSearched events middle high fault
search_up events low middle high fault found s h e below = record {
  apart = below;
  within = s.within;
  order = subst (IsFaultOf (past_at middle events)) e h;
  shows = s.shows;
}

pub search_down : (events : List Event) (low middle high : ℕ) (fault new : Fault)
    (found : Option Fault) → IsSearched events low high fault
    → IsFaultOf (past_at middle events) found → found ≡ Some new → low < middle → middle < high
    → IsSearched events low middle new
search_down events low middle high fault new found s h e above below =
    let within = s.within in
    record {
      apart = above;
      within = omega arith;
      order = s.order;
      shows = subst (IsFaultOf (past_at middle events)) e h;
    }

pub middle_between : (low high : ℕ) → low < high → 1 < high - low → (low < low + (high - low) / 2)
    × (low + (high - low) / 2 < high)
middle_between low high lt gap = (omega arith, omega arith)
