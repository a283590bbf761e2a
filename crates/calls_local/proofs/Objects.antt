-- An order of the calls of all objects from one for each object, and conversely.
use Rattle.std.proofs.Common.{◌≡◌, ℕ, Bool, true, false, ◌==◌, cond, List, [], ◌∷◌, ◌++◌}
use Rattle.std.proofs.Common.{Option, Some, None, refl, ap, sym, ◌∙◌, subst}
use Rattle.std.specs.List.{filter}
use Rattle.std.specs.List.Sorted.{IsPermutation}
use Rattle.std.proofs.lemmas.Bool.{eqb-true, eq-eqb}
use Rattle.std.proofs.lemmas.List.Elements.{filter-append}
use Rattle.std.proofs.lemmas.List.Kept.{AllPairs-filter}
use Rattle.calls_core.specs.declared.history.Reply.{Reply}
use Rattle.calls_core.specs.declared.history.PendingCall.{PendingCall}
use Rattle.calls_core.specs.declared.history.Call.{Call}
use Rattle.calls_core.specs.declared.history.Placed.{Placed}
use Rattle.calls_core.specs.Histories.{completion}
use Rattle.calls_core.specs.Linearizations.{Gives, after, IsLegalHistory, set_at, IsRun}
use Rattle.calls_core.specs.Linearizations.{KeepsOrder, answered_one, answered_calls, IsLinearOrder}
use Rattle.calls_core.specs.Linearizations.{calls_on, pending_on}
use Rattle.calls_core.specs.Lists.{Each}
use Rattle.calls_core.specs.Points.{Within, by_points, calls_of, IsPlacedOrder, placed_on}
use Rattle.calls_core.proofs.Filters.{filter_yes, filter_no, permutation_filter, filter_map_of}
use Rattle.calls_core.proofs.Filters.{permutation_by_parts}
use Rattle.calls_core.proofs.Lists.{each_pair_map, all_pairs_from_each}
use Rattle.calls_core.proofs.Merges.{rising_keeps, each_by_points, by_points_rise, by_points_part}

-- LEGAL SEQUENTIAL HISTORIES

pub run_part : (k : ℕ) (s : ℕ → ℕ → ℕ) (cs : List Call) → IsRun s cs
    → IsLegalHistory (s k) (calls_on k cs)
run_part k s [] h = tt
run_part k s (c ∷ cs) h =
    let o = c.object in
    let rest = calls_on k cs in
    elim (o == k) as (λ b. (o == k) ≡ b → IsLegalHistory (cond b (after (s o) c.op c.reply) (s k))
    rest → IsLegalHistory (s k) (cond b (c ∷ rest) rest)) [
      | true ↦ λ e r. subst (λ n. Gives (s n) c.op c.reply
          × IsLegalHistory (after (s n) c.op c.reply) rest) (eqb-true o k e) (h.0, r)
      | false ↦ λ e r. r
    ] refl (run_part k (set_at o (after (s o) c.op c.reply) s) cs h.1)

pub run_whole : (s : ℕ → ℕ → ℕ) (cs : List Call) → ((k : ℕ) → IsLegalHistory (s k) (calls_on k cs))
    → IsRun s cs
run_whole s [] h = tt
run_whole s (c ∷ cs) h =
    let o = c.object in
    let here : IsLegalHistory (s o) (c ∷ calls_on o cs) =
    subst (IsLegalHistory (s o)) (filter_yes (λ (d : Call). d.object == o) c cs
    (eq-eqb o o refl)) (h o) in (
      here.0,
      run_whole (set_at o (after (s o) c.op c.reply) s) cs
          (λ k. elim (o == k) as (λ b. (o == k) ≡ b → IsLegalHistory (s k)
          (cond b (c ∷ calls_on k cs) (calls_on k cs))
          → IsLegalHistory (cond b (after (s o) c.op c.reply) (s k)) (calls_on k cs)) [
            | true ↦ λ e r. subst (λ n. IsLegalHistory (after (s n) c.op c.reply) (calls_on k cs))
                (sym (eqb-true o k e)) r.1
            | false ↦ λ e r. r
          ] refl (h k)),
    )

-- ANSWERS

one_part : (t k : ℕ) (o : PendingCall) (r : Option Reply) (rest : List Call) (b : Bool)
    → (o.object == k) ≡ b
    → calls_on k (answered_one t o r ++ rest) ≡ cond b (answered_one t o r ++ calls_on k rest)
    (calls_on k rest)
one_part t k o None rest true e = refl
one_part t k o None rest false e = refl
one_part t k o (Some r) rest true e = filter_yes (λ (c : Call). c.object == k)
    (completion t r o) rest e
one_part t k o (Some r) rest false e = filter_no (λ (c : Call). c.object == k)
    (completion t r o) rest e

-- the answered calls of object k, if f k has the answers of object k
pub answered_part : (t : ℕ) (f : ℕ → PendingCall → Option Reply) (k : ℕ) (os : List PendingCall)
    → calls_on k (answered_calls t (λ o. f o.object o) os) ≡ answered_calls t (f k)
    (pending_on k os)
answered_part t f k [] = refl
answered_part t f k (o ∷ os) =
    let rest = answered_calls t (λ p. f p.object p) os in
    let more = answered_part t f k os in
    elim (o.object == k) as (λ b. (o.object == k) ≡ b → calls_on k (answered_one t o (f o.object o)
    ++ rest) ≡ answered_calls t (f k) (cond b (o ∷ pending_on k os) (pending_on k os))) [
      | true ↦ λ e. one_part t k o (f o.object o) rest true e ∙ ap (λ zs.
          answered_one t o (f o.object o) ++ zs) more ∙ ap (λ j.
          answered_one t o (f j o) ++ answered_calls t (f k) (pending_on k os))
          (eqb-true o.object k e)
      | false ↦ λ e. one_part t k o (f o.object o) rest false e ∙ more
    ] refl

each_by_parts : {X : Type 0} (key : X → ℕ) (Q : X → Type 0) (xs : List X)
    → ((k : ℕ) → Each Q (filter (λ x. key x == k) xs)) → Each Q xs
each_by_parts key Q [] h = tt
each_by_parts {X} key Q (x ∷ xs) h =
    let own : Each Q (x ∷ filter (λ y. key y == key x) xs) =
    subst (Each Q) (filter_yes (λ y. key y == key x) x xs (eq-eqb (key x) (key x) refl))
    (h (key x)) in
    (own.0, each_by_parts key Q xs (λ k. rest k (key x == k) (h k)))
  where
    rest : (k : ℕ) (b : Bool) → Each Q (cond b (x ∷ filter (λ y. key y == k) xs)
        (filter (λ y. key y == k) xs)) → Each Q (filter (λ y. key y == k) xs)
    rest k true e = e.1
    rest k false e = e

-- ORDERS

module _ (s : ℕ → ℕ → ℕ) (done : List Call) (pending : List PendingCall) (t : ℕ) where
  pub part_of_order : (cs : List Call) (k : ℕ) → IsLinearOrder (IsRun s) done pending t cs
      → IsLinearOrder (IsLegalHistory (s k)) (calls_on k done) (pending_on k pending) t
      (calls_on k cs)
  part_of_order cs k l =
      let all : IsPermutation (calls_on k (answered_calls t l.answer pending ++ done))
      (calls_on k cs) = permutation_filter (λ (c : Call). c.object == k) _ _ l.each_once in
      let split : calls_on k (answered_calls t l.answer pending ++ done) ≡ answered_calls t l.answer
      (pending_on k pending) ++ calls_on k done =
      filter-append (λ (c : Call). c.object == k) (answered_calls t l.answer pending) done ∙ ap
      (λ zs. zs ++ calls_on k done) (answered_part t (λ j. l.answer) k pending) in
      record {
        answer = l.answer;
        each_once = subst (λ zs. IsPermutation zs (calls_on k cs)) split all;
        in_order = AllPairs-filter KeepsOrder (λ (c : Call). c.object == k) cs l.in_order;
        run = run_part k s cs l.run;
      }

  -- the calls of object k in a list that is sorted by points
  pub points_part : (ps : List Placed) (k : ℕ) → IsPlacedOrder (IsLegalHistory (s k))
      (calls_on k done) (pending_on k pending) t (placed_on k ps)
      → calls_on k (calls_of (by_points ps)) ≡ calls_of (placed_on k ps)
  points_part ps k h = filter_map_of (λ (c : Call). c.object == k) (λ (p : Placed). p.call)
      (by_points ps) ∙ ap calls_of (by_points_part (λ (p : Placed). p.call.object == k) ps h.rises)

  -- calls that are a placed order for each object are one for all objects, once sorted by points
  pub order_of_placed : (ps : List Placed) → ((k : ℕ) → IsPlacedOrder (IsLegalHistory (s k))
      (calls_on k done) (pending_on k pending) t (placed_on k ps))
      → IsPlacedOrder (IsRun s) done pending t (by_points ps)
  order_of_placed ps h =
      let zs = by_points ps in
      let within : Each Within ps = each_by_parts (λ (p : Placed). p.call.object) Within ps (λ k.
      (h k).within) in
      let here : (k : ℕ) → calls_on k (calls_of zs) ≡ calls_of (placed_on k ps) = λ k.
      points_part ps k (h k) in
      let answer : PendingCall → Option Reply = λ o. (h o.object).legal.answer o in
      record {
        legal = record {
          answer = answer;
          each_once = permutation_by_parts (λ (c : Call). c.object) (answered_calls t answer pending
              ++ done) (calls_of zs)
              (λ k. (let split : calls_on k (answered_calls t answer pending ++ done)
              ≡ answered_calls t (h k).legal.answer (pending_on k pending) ++ calls_on k done =
              filter-append (λ (c : Call). c.object == k) (answered_calls t answer pending) done
              ∙ ap (λ us. us ++ calls_on k done) (answered_part t (λ j.
              (h j).legal.answer) k pending) in
              subst (λ us. IsPermutation us (calls_on k (calls_of zs))) (sym split)
              (subst (IsPermutation (answered_calls t (h k).legal.answer (pending_on k pending)
              ++ calls_on k done)) (sym (here k)) (h k).legal.each_once)));
          in_order = all_pairs_from_each KeepsOrder (calls_of zs)
              (each_pair_map (λ (p : Placed). p.call) KeepsOrder zs
              (rising_keeps zs (each_by_points Within ps within) (by_points_rise ps)));
          run = run_whole s (calls_of zs) (λ k. subst (IsLegalHistory (s k)) (sym (here k))
              (h k).legal.run);
        };
        within = each_by_points Within ps within;
        rises = by_points_rise ps;
      }
