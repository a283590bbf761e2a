-- The sums over an order with one more call.
use Rattle.std.proofs.Common.{◌≡◌, ℕ, ◌+◌, ◌==◌, ◌&&◌, Bool, true, false, List, [], ◌∷◌, ◌++◌, append-nil}
use Rattle.std.proofs.Common.{get_or, if◌then◌else◌, refl, ap, sym, ◌∙◌, count_by, arith}
use Rattle.std.proofs.lemmas.List.Sums.{sum_by_push}
use Rattle.std.proofs.lemmas.List.Concat.{flat_map-append}
use Rattle.calls_core.specs.declared.history.Placed.{Placed}
use Rattle.calls_report.specs.declared.sums.Sums.{Sums}
use Rattle.calls_report.specs.Totals.{value_after, put_value, has_effect, adds_to, is_pair}
use Rattle.calls_report.specs.Totals.{items_put, items_into, produced, takes_item}
use Rattle.calls_semaphores.specs.Banks.{takes, is_done}
use Rattle.calls_report.specs.kept.Sums.{AreSums, AddsEffect, AddsUnits, AddsItem, list_at}

with_one : (b : Bool) (n : ℕ) → n + (if b then 1 else 0) ≡ (if b then n + 1 else n)
with_one true n = refl
with_one false n = omega arith

-- a count over one more element
count_push : {X : Type 0} (p : X → Bool) (xs : List X) (x : X)
    → count_by p (xs ++ x ∷ []) ≡ (if p x then count_by p xs + 1 else count_by p xs)
count_push p xs x = sum_by_push (λ y. if p y then 1 else 0) xs x ∙ with_one (p x) (count_by p xs)

-- the value after one more call
value_push : (k v : ℕ) (ps : List Placed) (p : Placed) → value_after k v (ps ++ p ∷ [])
    ≡ (if p.call.object == k then put_value (value_after k v ps) p.call.op else value_after k v ps)
value_push k v [] p = refl
value_push k v (q ∷ ps) p =
    value_push k (if q.call.object == k then put_value v q.call.op else v) ps p

-- a count to which one was added if the test holds
counted : {X : Type 0} (t : X → Bool) (xs : List X) (x : X) (old new : ℕ) → old ≡ count_by t xs
    → new ≡ (if t x then old + 1 else old) → new ≡ count_by t (xs ++ x ∷ [])
counted t xs x old new was is =
    is ∙ ap (λ n. if t x then n + 1 else n) was ∙ sym (count_push t xs x)

-- the items of one more call, if it is on the object
more_items : (b : Bool) (vs ws : List ℕ)
    → vs ++ (if b then ws else []) ≡ (if b then vs ++ ws else vs)
more_items true vs ws = refl
more_items false vs ws = append-nil vs

produced_push : (k : ℕ) (order : List Placed) (p : Placed) → produced (order ++ p ∷ []) k
    ≡ (if p.call.object == k then produced order k ++ items_put p.call.op p.call.reply
    else produced order k)
produced_push k order p =
    flat_map-append (items_into k) order (p ∷ [])
    ∙ ap (λ vs. produced order k ++ vs) (append-nil (items_into k p))
    ∙ more_items (p.call.object == k) (produced order k) (items_put p.call.op p.call.reply)

pub sums_push : (order : List Placed) (p : Placed) (old mid late new : Sums) → AreSums order old
    → AddsEffect p.call old mid → AddsUnits p.call mid late → AddsItem p.call late new
    → AreSums (order ++ p ∷ []) new
sums_push order p old mid late new s e u a = record {
  effects_are = λ k. ap (λ xs. get_or xs k 0) (a.same_effects ∙ u.same_effects)
      ∙ counted (has_effect k) order p _ _ (s.effects_are k) (e.effects_by k);
  values_are = λ k. ap (λ xs. get_or xs k 0) (a.same_values ∙ u.same_values) ∙ e.values_by k
      ∙ ap (λ n. if p.call.object == k then put_value n p.call.op else n) (s.values_are k)
      ∙ sym (value_push k 0 order p);
  added_are = λ i. ap (λ xs. get_or xs i 0) a.same_added ∙ counted (λ (q : Placed). adds_to i q.call.op) order p _ _
      (ap (λ xs. get_or xs i 0) e.same_added ∙ s.added_are i) (u.added_by i);
  taken_are = λ i. ap (λ xs. get_or xs i 0) a.same_taken
      ∙ counted (λ (q : Placed). takes i q.call.op && is_done q.call.reply) order p _ _
      (ap (λ xs. get_or xs i 0) e.same_taken ∙ s.taken_are i) (u.taken_by i);
  pairs_are = a.same_pairs ∙ counted (λ (q : Placed). is_pair q.call.op && is_done q.call.reply) order p _ _
      (e.same_pairs ∙ s.pairs_are) u.pairs_by;
  produced_are = λ k. a.produced_by k
      ∙ ap (λ vs. if p.call.object == k then vs ++ items_put p.call.op p.call.reply else vs)
      (ap (λ ls. list_at ls k) (u.same_produced ∙ e.same_produced) ∙ s.produced_are k)
      ∙ sym (produced_push k order p);
  consumed_are = λ k. counted
      (λ (q : Placed). (q.call.object == k) && takes_item q.call.op q.call.reply) order p _ _
      (ap (λ xs. get_or xs k 0) (u.same_consumed ∙ e.same_consumed) ∙ s.consumed_are k)
      (a.consumed_by k);
}
