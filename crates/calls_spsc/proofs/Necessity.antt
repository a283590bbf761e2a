-- The items of a linearization with one producer and one consumer flow.
use Rattle.std.proofs.Common.{◌≡◌, ℕ, ◌≤◌, ◌⊎◌, inl, inr, Bool, true, false, nat_lt, List, []}
use Rattle.std.proofs.Common.{◌∷◌, ◌++◌, length, reverse, Option, Some, None, refl, ap, sym, ◌∙◌}
use Rattle.std.proofs.Common.{arith, count_by}
use Rattle.std.specs.List.{filter, filter_map, cons_option}
use Rattle.std.specs.List.Sorted.{IsPermutation}
use Rattle.std.proofs.lemmas.Bool.{lt-ltb, le-ltb}
use Rattle.std.proofs.lemmas.List.Elements.{filter_map-append}
use Rattle.std.proofs.lemmas.List.Sorted.{All-permutation, IsPermutation-reverse}
use Rattle.std.proofs.lemmas.List.Sorted.{IsPermutation-sym, IsPermutation-trans}
use Rattle.std.proofs.lemmas.List.Sorted.{IsPermutation-append_comm, IsPermutation-append_right}
use Rattle.calls_core.specs.declared.history.Kind.TheVariants.{Buffer}
use Rattle.calls_core.specs.declared.history.Op.{Op}
use Rattle.calls_core.specs.declared.history.Op.TheVariants.{Produce, Consume}
use Rattle.calls_core.specs.declared.history.Reply.{Reply}
use Rattle.calls_core.specs.declared.history.Reply.TheVariants.{Done, Number, Timeout}
use Rattle.calls_core.specs.declared.history.Event.{Event}
use Rattle.calls_core.specs.declared.history.PendingCall.{PendingCall}
use Rattle.calls_core.specs.declared.history.Call.{Call}
use Rattle.calls_core.specs.Lists.{Each, EachPair}
use Rattle.calls_core.specs.Histories.{clock, pending_calls, completed_calls, IsHistoryOf}
use Rattle.calls_core.specs.Linearizations.{KeepsOrder, answered_one, answered_calls}
use Rattle.calls_core.specs.Outcomes.{IsOrderOf, HasOrderOf}
use Rattle.calls_core.proofs.Lists.{each_weaker, each_kept, each_pair_filter, each_pair_weaker}
use Rattle.calls_core.proofs.Lists.{all_from_each}
use Rattle.calls_core.proofs.Filters.{each_from_all, permutation_filter}
use Rattle.calls_core.proofs.Counting.{one_yes, count_cons}
use Rattle.calls_core.proofs.Positions.{are_calls_of}
use Rattle.calls_core.proofs.Beginnings.{order_of_beginning}
use Rattle.calls_buffers.specs.Accesses.{produced_item, put_item, taken_item}
use Rattle.calls_buffers.specs.Counts.{any_item, produces, is_consume}
use Rattle.calls_buffers.proofs.Cuts.{Lasts, not_before}
use Rattle.calls_buffers.proofs.Flows as runs
use Rattle.calls_buffers.proofs.Tallies.{answered_each, answered_few, all_last, all_keep, queue}
use Rattle.calls_spsc.specs.Flows.{put_items, taken_items, IsSpsc, Flows, FlowsAlways}
use Rattle.calls_spsc.proofs.OneOrder.{Rises, NeverFalls, one_order, pairs_onto, no_two, pairs_of}
use Rattle.calls_spsc.proofs.OneOrder.{values_of, few_values}
use Rattle.calls_spsc.proofs.Turns.{TakeTurns, now, InTurn, Awaits, all_in_turn}

-- THE ITEMS OF A CALL

produced_none : (op : Op) → produces any_item op ≡ false → produced_item op ≡ None
produced_none (Produce v) e = absurd (cc)
produced_none op e = refl

put_none : (op : Op) (r : Reply) → produces any_item op ≡ false → put_item op r ≡ None
put_none op Done e = produced_none op e
put_none op (Number v) e = refl
put_none op Timeout e = refl

taken_none : (op : Op) (r : Reply) → is_consume op ≡ false → taken_item op r ≡ None
taken_none Consume r e = absurd (cc)
taken_none op r e = refl

put_same : (r : Reply) (op : Op) (xs : List ℕ)
    → runs.put_by op r ++ xs ≡ cons_option (put_item op r) xs
put_same Done (Produce v) xs = refl
put_same (Number n) (Produce v) xs = refl
put_same Timeout (Produce v) xs = refl
put_same Done op xs = refl
put_same (Number n) op xs = refl
put_same Timeout op xs = refl

taken_same : (op : Op) (r : Reply) (xs : List ℕ)
    → runs.taken_by op r ++ xs ≡ cons_option (taken_item op r) xs
taken_same Consume Done xs = refl
taken_same Consume (Number v) xs = refl
taken_same Consume Timeout xs = refl
taken_same op r xs = refl

abbrev put_of : Call → Option ℕ
put_of c = put_item c.op c.reply

abbrev taken_of : Call → Option ℕ
taken_of c = taken_item c.op c.reply

all_put : (cs : List Call) → runs.put_items cs ≡ filter_map put_of cs
all_put [] = refl
all_put (c ∷ cs) = ap (λ xs. runs.put_by c.op c.reply ++ xs) (all_put cs)
    ∙ put_same c.reply c.op (filter_map put_of cs)

all_taken : (cs : List Call) → runs.taken_items cs ≡ filter_map taken_of cs
all_taken [] = refl
all_taken (c ∷ cs) = ap (λ xs. runs.taken_by c.op c.reply ++ xs) (all_taken cs)
    ∙ taken_same c.op c.reply (filter_map taken_of cs)

-- THE CALLS THAT TAKE TURNS

abbrev precedes : Call → Call → Bool
precedes c d = nat_lt c.last d.first

module _ (n : ℕ) (past : List Event) (h : IsHistoryOf (Buffer n) past) (cs : List Call)
    (l : IsOrderOf (Buffer n) past (clock past) cs) where
  abbrev done : List Call
  done = completed_calls past

  abbrev pending : List PendingCall
  pending = pending_calls past

  -- the pending calls that took effect
  abbrev answered : List Call
  answered = answered_calls (clock past) l.answer pending

  same_calls : IsPermutation (reverse done ++ answered) cs
  same_calls = IsPermutation-trans _ _ _ (IsPermutation-append_comm (reverse done) answered)
      (IsPermutation-trans _ _ _ (IsPermutation-append_right answered (reverse done) done
      (IsPermutation-sym _ _ (IsPermutation-reverse done))) l.each_once)

  all_lasting : Each Lasts (reverse done ++ answered)
  all_lasting = each_from_all Lasts (reverse done ++ answered) (All-permutation Lasts cs
      (reverse done ++ answered) (IsPermutation-sym _ _ same_calls) (all_from_each Lasts cs
      (all_last n (clock past) done pending cs l (are_calls_of (Buffer n) past h))))

  module _ (is : Op → Bool) (turns : TakeTurns is past) where
    abbrev turn : Call → Bool
    turn c = is c.op

    all_turns : EachPair (InTurn is) (reverse done ++ answered)
    all_turns =
        let turn_by = all_in_turn is (Buffer n) past h turns in
        let few : count_by turn answered ≤ 1 = omega (
          arith,
          now is past turns,
          answered_few (clock past) l.answer turn (λ (o : PendingCall). is o.op) (λ o x e. e)
              pending,
        ) in
        pairs_onto (InTurn is) done answered turn_by.calls
        (each_pair_weaker (λ (c d : Call). turn c ≡ true → turn d ≡ true → ⊥) (InTurn is)
        (λ c d not i j. absurd (not i j)) answered (no_two turn answered few))
        (answered_each (clock past) l.answer (λ (o : PendingCall). Each (Awaits is o) done)
        (λ (c : Call). Each (λ d. InTurn is d c) done) (λ o x w. w) pending turn_by.waits)

    -- they are in the order in which they took turns
    in_turn : filter turn cs ≡ filter turn (reverse done ++ answered)
    in_turn = one_order precedes (filter turn (reverse done ++ answered)) (filter turn cs)
        (permutation_filter turn (reverse done ++ answered) cs same_calls)
        (each_kept (λ (c : Call). precedes c c ≡ false) turn (reverse done ++ answered)
        (each_weaker Lasts (λ (c : Call). precedes c c ≡ false)
        (λ c lt. le-ltb c.last c.first (omega arith)) (reverse done ++ answered) all_lasting))
        (pairs_of turn (Rises precedes) (reverse done ++ answered)
        (each_pair_weaker (InTurn is)
        (λ (c d : Call). turn c ≡ true → turn d ≡ true → Rises precedes c d)
        (λ c d k i j. lt-ltb c.last d.first (k i j)) (reverse done ++ answered) all_turns))
        (each_pair_filter (NeverFalls precedes) turn cs
        (each_pair_weaker KeepsOrder (NeverFalls precedes)
        (λ c d k. le-ltb d.last c.first (not_before c d k)) cs
        (all_keep n (clock past) done pending cs l (are_calls_of (Buffer n) past h))))

    module _ (f : Call → Option ℕ) (none : (c : Call) → turn c ≡ false → f c ≡ None) where
      items_in_turn : filter_map f cs ≡ filter_map f (reverse done) ++ filter_map f answered
      items_in_turn = sym (values_of turn f none cs) ∙ ap (filter_map f) in_turn
          ∙ values_of turn f none (reverse done ++ answered)
          ∙ filter_map-append f (reverse done) answered

-- WHAT PENDING CALLS PUT IN AND TOOK OUT

nothing : {X : Type 0} (xs : List X) → length xs ≤ 0 → xs ≡ []
nothing [] le = refl
nothing (x ∷ xs) le = absurd (omega arith)

abbrev asks : PendingCall → Bool
asks o = produces any_item o.op

abbrev asked : List PendingCall → List ℕ
asked os = filter_map (λ (o : PendingCall). produced_item o.op) os

module _ (t : ℕ) (answer : PendingCall → Option Reply) where
  few_answered : (is : Op → Bool) (f : Call → Option ℕ)
      → ((c : Call) → is c.op ≡ false → f c ≡ None) → (os : List PendingCall)
      → length (filter_map f (answered_calls t answer os))
      ≤ count_by (λ (o : PendingCall). is o.op) os
  few_answered is f none os = omega (
    arith,
    few_values (λ (c : Call). is c.op) f none (answered_calls t answer os),
    answered_few t answer (λ (c : Call). is c.op) (λ (o : PendingCall). is o.op) (λ o x e. e) os,
  )

  abbrev late : List PendingCall → List ℕ
  late os = filter_map put_of (answered_calls t answer os)

  abbrev MayPut : List ℕ → List ℕ → Type 0
  MayPut xs all = (xs ≡ []) ⊎ (xs ≡ all)

  unput : (o : PendingCall) (z : Option Reply) (os : List PendingCall) → asks o ≡ false
      → filter_map put_of (answered_one t o z ++ answered_calls t answer os) ≡ late os
  unput o None os e = refl
  unput o (Some r) os e = ap (λ p. cons_option p (late os)) (put_none o.op r e)

  unasked : (o : PendingCall) (os : List PendingCall) → asks o ≡ false → asked (o ∷ os) ≡ asked os
  unasked o os e = ap (λ p. cons_option p (asked os)) (produced_none o.op e)

  -- the only one that asks
  only : (o : PendingCall) (z : Option Reply) (os : List PendingCall) → late os ≡ []
      → asked os ≡ []
      → MayPut (filter_map put_of (answered_one t o z ++ answered_calls t answer os))
      (asked (o ∷ os))
  only o None os none all = inl none
  only o (Some Done) os none all = inr (ap (cons_option (produced_item o.op)) (none ∙ sym all))
  only o (Some (Number v)) os none all = inl none
  only o (Some Timeout) os none all = inl none

  may_put : (os : List PendingCall) → count_by asks os ≤ 1 → MayPut (late os) (asked os)
  may_put [] few = inl refl
  may_put (o ∷ os) few =
      let own = count_cons asks o os in
      elim (asks o) as (λ b. asks o ≡ b → MayPut (late (o ∷ os)) (asked (o ∷ os))) [
        | true ↦ λ e. only o (answer o) os
            (nothing (late os) (omega (
              arith,
              own,
              one_yes (asks o) e,
              few_answered (produces any_item) put_of (λ c k. put_none c.op c.reply k) os,
            )))
            (nothing (asked os) (omega (
              arith,
              own,
              one_yes (asks o) e,
              few_values asks (λ (p : PendingCall). produced_item p.op)
                  (λ p k. produced_none p.op k) os,
            )))
        | false ↦ λ e. (let first = unput o (answer o) os e in
            let rest = sym (unasked o os e) in
            elim (may_put os (omega (arith, own))) [
              | inl none ↦ inl (first ∙ none)
              | inr all ↦ inr (first ∙ all ∙ rest)
            ])
      ] refl

-- ITEMS FLOW

produces_take_turns : (past : List Event) → IsSpsc past → TakeTurns (produces any_item) past
produces_take_turns [] h = tt
produces_take_turns (x ∷ past) h = (h.0, produces_take_turns past h.2)

consumes_take_turns : (past : List Event) → IsSpsc past → TakeTurns is_consume past
consumes_take_turns [] h = tt
consumes_take_turns (x ∷ past) h = (h.1, consumes_take_turns past h.2)

pub order_flows : (n : ℕ) (past : List Event) → IsHistoryOf (Buffer n) past → IsSpsc past
    → HasOrderOf (Buffer n) past → Flows n past
order_flows n past h spsc (cs, l) =
    let done = completed_calls past in
    let pending = pending_calls past in
    let t = clock past in
    let puts = produces_take_turns past spsc in
    let takes = consumes_take_turns past spsc in
    let answered = answered_calls t l.answer pending in
    let left = runs.leaves n [] cs (omega arith)
    (queue n t done pending cs l (are_calls_of (Buffer n) past h)) in
    let put : runs.put_items cs ≡ put_items past ++ filter_map put_of answered =
    all_put cs ∙ items_in_turn n past h cs l (produces any_item) puts put_of
    (λ c e. put_none c.op c.reply e) in
    let taken : runs.taken_items cs ≡ taken_items past ++ filter_map taken_of answered =
    all_taken cs ∙ items_in_turn n past h cs l is_consume takes taken_of
    (λ c e. taken_none c.op c.reply e) in
    record {
      late_puts = filter_map put_of answered;
      asked = may_put t l.answer pending (now (produces any_item) past puts);
      late_takes = filter_map taken_of answered;
      few_takes = few_answered t l.answer is_consume taken_of
          (λ c e. taken_none c.op c.reply e) pending;
      left = left.left;
      room = left.fits;
      order = sym put ∙ left.same ∙ ap (λ xs. xs ++ left.left) taken;
    }

pub flows_always : (n : ℕ) (past : List Event) → IsHistoryOf (Buffer n) past → IsSpsc past
    → HasOrderOf (Buffer n) past → FlowsAlways n past
flows_always n [] h spsc order = tt
flows_always n (x ∷ past) h spsc order = (
  order_flows n (x ∷ past) h spsc order,
  flows_always n past h.2 spsc.2 (order_of_beginning (Buffer n) x past h order),
)
