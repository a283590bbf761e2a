-- Queues of waiters: one more inserted, one removed, and the worker states after that.
use Rattle.std.proofs.Common.{◌≡◌, ◌≢◌, ℕ, zero, suc, ◌+◌, ◌<◌, ◌≤◌, Bool, true, false, ◌==◌, ◌&&◌, not, ◌||◌, nat_le, nat_lt, ◌⊎◌, inl, inr, List, [], ◌∷◌, length, Option, Some, None, slice_get, slice_set, cond, drop, map, is_some, refl, ap, sym, ◌∙◌, subst, arith}
use Rattle.std.proofs.lemmas.Bool.{eqb-true, eqb-false, eq-eqb, leb-true, leb-false, le-leb, and_parts, and_from}
use Rattle.std.proofs.lemmas.Bool.Decides.{nat_tests}
use Rattle.std.proofs.lemmas.Option.{slice_get_within}
use Rattle.std.specs.Option.{option_map_or}
use Rattle.std.specs.List.{insert, list_any}
use Rattle.ec_core.specs.kept.Fields.{map_at}
use Rattle.std.proofs.Math.ListN.{length-set}
use Rattle.ec_core.proofs.shared.Places.{get_set}
use Rattle.ec_runner.specs.declared.wait_queue.Waiter.{Waiter}
use Rattle.ec_runner.specs.declared.worker_state.WorkerState.{WorkerState}
use Rattle.ec_runner.specs.declared.worker_state.WorkerState.TheVariants.{Gone, Running, Waiting}
use Rattle.ec_runner.specs.WorkerStates.{is_waiting, state_at_total}
use Rattle.ec_runner.specs.kept.WaitQueues.{comes_before, Each, IsAmong, AreInOrder, insert_waiter, insertion_index, without, first_ready, remove_waiter, waits_on, number_on, IsWaitQueue, AreWaitQueues}
use Rattle.ec_semaphore.proofs.shared.Implying.{fits_or as or_right}

-- ORDER

before_below : (a b : Waiter) → comes_before a b ≡ true → a.threshold ≤ b.threshold
before_below a b h = grind (arith, nat_tests)

before_trans : (a b c : Waiter) → comes_before a b ≡ true → comes_before b c ≡ true → comes_before a c ≡ true
before_trans a b c g h = grind (arith, nat_tests)

before_other : (a b : Waiter) → a.worker ≢ b.worker → comes_before a b ≡ false → comes_before b a ≡ true
before_other a b g h = grind (arith, nat_tests)

before_itself : (a b : Waiter) → comes_before a b ≡ true → a.threshold ≡ b.threshold → a.worker ≡ b.worker → ⊥
before_itself a b h e w = grind (arith, nat_tests)

-- EACH OF A QUEUE

each_map : {P Q : Waiter → Type 0} → ((x : Waiter) → P x → Q x) → (xs : List Waiter) → Each P xs → Each Q xs
each_map f [] h = tt
each_map f (x ∷ xs) h = (f x h.0, each_map f xs h.1)

each_both : {P Q : Waiter → Type 0} → (R : Waiter → Type 0) → ((x : Waiter) → P x → Q x → R x) → (xs : List Waiter) → Each P xs → Each Q xs → Each R xs
each_both R f [] g h = tt
each_both R f (x ∷ xs) g h = (f x g.0 h.0, each_both R f xs g.1 h.1)

each_at : (P : Waiter → Type 0) (z : Waiter) (xs : List Waiter) → Each P xs → IsAmong z xs → P z
each_at P z [] h s = absurd s
each_at P z (x ∷ xs) h s = elim s as (λ _. P z) [ inl e ↦ subst P (sym e) h.0 | inr t ↦ each_at P z xs h.1 t ]

-- ONE MORE

placed_each : (P : Waiter → Type 0) (y : Waiter) (xs : List Waiter) → P y → Each P xs → Each P (insert_waiter y xs)
placed_each P y [] p h = (p, tt)
placed_each P y (x ∷ xs) p h =
    elim (comes_before x y) as (λ b. Each P (cond b (x ∷ insert_waiter y xs) (y ∷ x ∷ xs))) [
      | true ↦ (h.0, placed_each P y xs p h.1)
      | false ↦ (p, h)
    ]

placed_order : (y : Waiter) (xs : List Waiter) → Each (λ x. x.worker ≢ y.worker) xs → AreInOrder xs → AreInOrder (insert_waiter y xs)
placed_order y [] n h = (tt, tt)
placed_order y (x ∷ xs) n h =
    elim (comes_before x y) as (λ b. comes_before x y ≡ b → AreInOrder (cond b (x ∷ insert_waiter y xs) (y ∷ x ∷ xs))) [
      | true ↦ λ e. (placed_each (λ z. comes_before x z ≡ true) y xs e h.0, placed_order y xs n.1 h.1)
      | false ↦ λ e.
          (let first : comes_before y x ≡ true = before_other x y n.0 e in
          ((first, each_map (λ z g. before_trans y x z first g) xs h.0), h))
    ] refl

placed_own : (y : Waiter) (xs : List Waiter) → IsAmong y (insert_waiter y xs)
placed_own y [] = inl refl
placed_own y (x ∷ xs) =
    elim (comes_before x y) as (λ b. IsAmong y (cond b (x ∷ insert_waiter y xs) (y ∷ x ∷ xs))) [
      | true ↦ inr (placed_own y xs)
      | false ↦ inl refl
    ]

placed_stands : (z y : Waiter) (xs : List Waiter) → IsAmong z xs → IsAmong z (insert_waiter y xs)
placed_stands z y [] s = absurd s
placed_stands z y (x ∷ xs) s =
    elim (comes_before x y) as (λ b. IsAmong z (cond b (x ∷ insert_waiter y xs) (y ∷ x ∷ xs))) [
      | true ↦ elim s as (λ _. IsAmong z (x ∷ insert_waiter y xs)) [ inl e ↦ inl e | inr t ↦ inr (placed_stands z y xs t) ]
      | false ↦ inr s
    ]

placed_length : (y : Waiter) (xs : List Waiter) → length (insert_waiter y xs) ≡ length xs + 1
placed_length y [] = refl
placed_length y (x ∷ xs) =
    elim (comes_before x y) as (λ b. length (cond b (x ∷ insert_waiter y xs) (y ∷ x ∷ xs)) ≡ length (x ∷ xs) + 1) [
      | true ↦ (let rest : length (insert_waiter y xs) ≡ length xs + 1 =
          placed_length y xs in omega arith)
      | false ↦ omega arith
    ]

pub placed_is : (y : Waiter) (xs : List Waiter)
    → insert xs (insertion_index y xs) y ≡ insert_waiter y xs
placed_is y [] = refl
placed_is y (x ∷ xs) =
    elim (comes_before x y) as (λ b. insert (x ∷ xs) (cond b (suc (insertion_index y xs)) 0) y ≡ cond b (x ∷ insert_waiter y xs) (y ∷ x ∷ xs)) [
      | true ↦ ap (λ ys. x ∷ ys) (placed_is y xs)
      | false ↦ refl
    ]

-- ONE LESS

without_each : (P : Waiter → Type 0) (w : ℕ) (xs : List Waiter) → Each P xs → Each P (without w xs)
without_each P w [] h = tt
without_each P w (x ∷ xs) h =
    elim (not (x.worker == w)) as (λ b. Each P (cond b (x ∷ without w xs) (without w xs))) [
      | true ↦ (h.0, without_each P w xs h.1)
      | false ↦ without_each P w xs h.1
    ]

not_false : (b : Bool) → not b ≡ true → b ≡ false
not_false true h = cc
not_false false h = refl

not_true : (b : Bool) → not b ≡ false → b ≡ true
not_true true h = refl
not_true false h = cc

without_other : (w : ℕ) (xs : List Waiter) → Each (λ x. x.worker ≢ w) (without w xs)
without_other w [] = tt
without_other w (x ∷ xs) =
    elim (not (x.worker == w)) as (λ b. not (x.worker == w) ≡ b → Each (λ z. z.worker ≢ w) (cond b (x ∷ without w xs) (without w xs))) [
      | true ↦ λ e. (eqb-false x.worker w (not_false (x.worker == w) e), without_other w xs)
      | false ↦ λ e. without_other w xs
    ] refl

without_order : (w : ℕ) (xs : List Waiter) → AreInOrder xs → AreInOrder (without w xs)
without_order w [] h = tt
without_order w (x ∷ xs) h =
    elim (not (x.worker == w)) as (λ b. AreInOrder (cond b (x ∷ without w xs) (without w xs))) [
      | true ↦ (without_each (λ y. comes_before x y ≡ true) w xs h.0, without_order w xs h.1)
      | false ↦ without_order w xs h.1
    ]

without_stands : (z : Waiter) (w : ℕ) (xs : List Waiter) → z.worker ≢ w → IsAmong z xs → IsAmong z (without w xs)
without_stands z w [] n s = absurd s
without_stands z w (x ∷ xs) n s =
    elim (not (x.worker == w)) as (λ b. not (x.worker == w) ≡ b → IsAmong z (cond b (x ∷ without w xs) (without w xs))) [
      | true ↦ λ e. (elim s as (λ _. IsAmong z (x ∷ without w xs)) [ inl i ↦ inl i | inr t ↦ inr (without_stands z w xs n t) ])
      | false ↦ λ e. (elim s as (λ _. IsAmong z (without w xs)) [
        | inl i ↦ absurd (n (ap (λ (y : Waiter). y.worker) i ∙ eqb-true x.worker w (not_true (x.worker == w) e)))
        | inr t ↦ without_stands z w xs n t
      ])
    ] refl

without_shorter : (w : ℕ) (xs : List Waiter) → length (without w xs) ≤ length xs
without_shorter w [] = omega arith
without_shorter w (x ∷ xs) =
    elim (not (x.worker == w)) as (λ b. length (cond b (x ∷ without w xs) (without w xs)) ≤ length (x ∷ xs)) [
      | true ↦ (let rest : length (without w xs) ≤ length xs = without_shorter w xs in omega arith)
      | false ↦ (let rest : length (without w xs) ≤ length xs = without_shorter w xs in omega arith)
    ]

without_short : (z : Waiter) (w : ℕ) (xs : List Waiter) → z.worker ≡ w → IsAmong z xs → length (without w xs) < length xs
without_short z w [] e s = absurd s
without_short z w (x ∷ xs) e s =
    elim (not (x.worker == w)) as (λ b. not (x.worker == w) ≡ b → length (cond b (x ∷ without w xs) (without w xs)) < length (x ∷ xs)) [
      | true ↦ λ t. (elim s as (λ _. length (x ∷ without w xs) < length (x ∷ xs)) [
        | inl i ↦ absurd (eqb-false x.worker w (not_false (x.worker == w) t) (ap (λ (y : Waiter). y.worker) (sym i) ∙ e))
        | inr u ↦ (let rest : length (without w xs) < length xs = without_short z w xs e u in omega arith)
      ])
      | false ↦ λ t. (let rest : length (without w xs) ≤ length xs = without_shorter w xs in omega arith)
    ] refl

-- HOW MANY

number_set : (e : ℕ) (states : List WorkerState) (i : ℕ) (was now : WorkerState)
    → slice_get states i ≡ Some was
    → number_on e (slice_set states i now) + cond (waits_on e was) 1 0 ≡ number_on e states + cond (waits_on e now) 1 0
number_set e [] i was now h = cc
number_set e (s ∷ states) zero was now h =
    let same : s ≡ was = cc in
    let P : WorkerState → Type 0 = λ r. (cond (waits_on e now) 1 0 + number_on e states) + cond (waits_on e r) 1 0 ≡ (cond (waits_on e s) 1 0 + number_on e states) + cond (waits_on e now) 1 0 in
    subst P same (omega arith)
number_set e (s ∷ states) (suc i) was now h =
    let rest : number_on e (slice_set states i now) + cond (waits_on e was) 1 0 ≡ number_on e states + cond (waits_on e now) 1 0 = number_set e states i was now h in
    omega arith

one_more : (b c : Bool) (m n : ℕ) → b ≡ false → c ≡ true → m + cond b 1 0 ≡ n + cond c 1 0 → m ≡ n + 1
one_more false true m n g h e = omega arith
one_more true c m n g h e = cc
one_more false false m n g h e = cc

one_less : (b c : Bool) (m n : ℕ) → b ≡ true → c ≡ false → m + cond b 1 0 ≡ n + cond c 1 0 → m + 1 ≡ n
one_less true false m n g h e = omega arith
one_less false c m n g h e = cc
one_less true true m n g h e = cc

none_more : (b c : Bool) (m n : ℕ) → b ≡ false → c ≡ false → m + cond b 1 0 ≡ n + cond c 1 0 → m ≡ n
none_more false false m n g h e = omega arith
none_more true c m n g h e = cc
none_more false true m n g h e = cc

at_most_one : (b : Bool) → cond b 1 0 ≤ 1
at_most_one true = omega arith
at_most_one false = omega arith

number_within : (e : ℕ) (states : List WorkerState) → number_on e states ≤ length states
number_within e [] = omega arith
number_within e (s ∷ states) =
    let rest : number_on e states ≤ length states = number_within e states in
    let one : cond (waits_on e s) 1 0 ≤ 1 = at_most_one (waits_on e s) in omega arith

number_less : (e : ℕ) (states : List WorkerState) (i : ℕ) (was : WorkerState) → slice_get states i ≡ Some was → waits_on e was ≡ false → number_on e states < length states
number_less e [] i was h n = cc
number_less e (s ∷ states) zero was h n =
    let none : waits_on e s ≡ false = ap (waits_on e) (let same : s ≡ was = cc in same) ∙ n in
    let rest : number_on e states ≤ length states = number_within e states in
    let P : Bool → Type 0 = λ b. cond b 1 0 + number_on e states < suc (length states) in
    subst P (sym none) (omega arith)
number_less e (s ∷ states) (suc i) was h n =
    let rest : number_on e states < length states = number_less e states i was h n in
    let one : cond (waits_on e s) 1 0 ≤ 1 = at_most_one (waits_on e s) in omega arith

-- WORKER STATES

waits_itself : (e v : ℕ) → waits_on e (Waiting e v) ≡ true
waits_itself e v = eq-eqb e e refl

waits_nowhere : (e : ℕ) (s : WorkerState) → is_waiting s ≡ false → waits_on e s ≡ false
waits_nowhere e Gone h = refl
waits_nowhere e Running h = refl
waits_nowhere e (Waiting f v) h = cc

no_waiter : (e v : ℕ) (s : WorkerState) → waits_on e s ≡ false → s ≡ Waiting e v → ⊥
no_waiter e v s h same = (let is : waits_on e s ≡ true = ap (waits_on e) same ∙ waits_itself e v in cc)

pub state_set : (states : List WorkerState) (w : ℕ) (was s : WorkerState) → slice_get states w ≡ Some was → slice_get (slice_set states w s) w ≡ Some s
state_set states w was s at = get_set states w w s (slice_get_within states w was at) ∙ ap (λ b. cond b (Some s) (slice_get states w)) (eq-eqb w w refl)

pub state_kept : (states : List WorkerState) (w u : ℕ) (was s r : WorkerState) → slice_get states w ≡ Some was → u ≢ w → slice_get states u ≡ Some r → slice_get (slice_set states w s) u ≡ Some r
state_kept states w u was s r at n h =
    get_set states w u s (slice_get_within states w was at)
    ∙ elim (w == u) as (λ b. (w == u) ≡ b → cond b (Some s) (slice_get states u) ≡ Some r) [
      | true ↦ λ e. absurd (n (sym (eqb-true w u e)))
      | false ↦ λ e. h
    ] refl

pub moved_to : (states : List WorkerState) (w u : ℕ) (s r : WorkerState) → w < length states → slice_get (slice_set states w s) u ≡ Some r
    → ((u ≡ w) × (s ≡ r)) ⊎ ((u ≢ w) × (slice_get states u ≡ Some r))
moved_to states w u s r within h =
    let now : cond (w == u) (Some s) (slice_get states u) ≡ Some r = sym (get_set states w u s within) ∙ h in
    elim (w == u) as (λ b. (w == u) ≡ b → cond b (Some s) (slice_get states u) ≡ Some r → ((u ≡ w) × (s ≡ r)) ⊎ ((u ≢ w) × (slice_get states u ≡ Some r))) [
      | true ↦ λ e k. inl (sym (eqb-true w u e), (let same : s ≡ r = cc in same))
      | false ↦ λ e k. inr ((λ same. eqb-false w u e (sym same)), k)
    ] refl now

pub state_moved : (states : List WorkerState) (w u : ℕ) (was s r : WorkerState) → slice_get states w ≡ Some was → slice_get (slice_set states w s) u ≡ Some r
    → ((u ≡ w) × (s ≡ r)) ⊎ ((u ≢ w) × (slice_get states u ≡ Some r))
state_moved states w u was s r at h = moved_to states w u s r (slice_get_within states w was at) h

pub set_again : {X : Type 0} (xs : List X) (i : ℕ) (x y : X) → slice_set (slice_set xs i x) i y ≡ slice_set xs i y
set_again [] i x y = refl
set_again (z ∷ zs) zero x y = refl
set_again (z ∷ zs) (suc i) x y = ap (λ ys. z ∷ ys) (set_again zs i x y)

-- ONE LINE

abbrev waiter : ℕ → ℕ → Waiter
waiter v w = record { threshold = v; worker = w }

elsewhere : (e w : ℕ) (states : List WorkerState) (was : WorkerState) (x : Waiter) → slice_get states w ≡ Some was → waits_on e was ≡ false
    → slice_get states x.worker ≡ Some (Waiting e x.threshold) → x.worker ≢ w
elsewhere e w states was x at n p same =
    (let q : slice_get states w ≡ Some (Waiting e x.threshold) = ap (slice_get states) (sym same) ∙ p in
    let is : was ≡ Waiting e x.threshold = cc in
    no_waiter e x.threshold was n is)

line_join : (e w v : ℕ) (states : List WorkerState) (queue : List Waiter) → slice_get states w ≡ Some Running → IsWaitQueue e states queue
    → IsWaitQueue e (slice_set states w (Waiting e v)) (insert_waiter (waiter v w) queue)
line_join e w v states queue at h =
    let y : Waiter = waiter v w in
    let s : WorkerState = Waiting e v in
    record {
      order = placed_order y queue (each_map (λ x p. elsewhere e w states Running x at refl p) queue h.wait) h.order;
      wait = placed_each (λ x. slice_get (slice_set states w s) x.worker ≡ Some (Waiting e x.threshold)) y queue (state_set states w Running s at)
          (each_map (λ x p. state_kept states w x.worker Running s (Waiting e x.threshold) at (elsewhere e w states Running x at refl p) p) queue h.wait);
      all = λ u z k. elim (state_moved states w u Running s (Waiting e z) at k) as (λ _. IsAmong (waiter z u) (insert_waiter y queue)) [
        | inl p ↦ (let threshold : v ≡ z = (let same = p.1 in cc) in let same : y ≡ waiter z u = (let worker = p.0 in cc) in subst (λ (x : Waiter). IsAmong x (insert_waiter y queue)) same (placed_own y queue))
        | inr p ↦ placed_stands (waiter z u) y queue (h.all u z p.1)
      ];
      few = (let more : number_on e (slice_set states w s) ≡ number_on e states + 1 = one_more (waits_on e Running) (waits_on e s) _ _ refl (waits_itself e v) (number_set e states w Running s at) in
          let long : length (insert_waiter y queue) ≡ length queue + 1 = placed_length y queue in
          let few = h.few in omega arith);
    }

line_drop : (e w v : ℕ) (s : WorkerState) (states : List WorkerState) (queue : List Waiter) → slice_get states w ≡ Some (Waiting e v) → is_waiting s ≡ false → IsWaitQueue e states queue
    → IsWaitQueue e (slice_set states w s) (without w queue)
line_drop e w v s states queue at n h =
    let was : WorkerState = Waiting e v in
    record {
      order = without_order w queue h.order;
      wait = each_both (λ x. slice_get (slice_set states w s) x.worker ≡ Some (Waiting e x.threshold))
          (λ x p other. state_kept states w x.worker was s (Waiting e x.threshold) at other p) (without w queue)
          (without_each (λ x. slice_get states x.worker ≡ Some (Waiting e x.threshold)) w queue h.wait) (without_other w queue);
      all = λ u z k. elim (state_moved states w u was s (Waiting e z) at k) as (λ _. IsAmong (waiter z u) (without w queue)) [
        | inl p ↦ absurd (no_waiter e z s (waits_nowhere e s n) p.1)
        | inr p ↦ without_stands (waiter z u) w queue p.0 (h.all u z p.1)
      ];
      few = (let less : number_on e (slice_set states w s) + 1 ≡ number_on e states = one_less (waits_on e was) (waits_on e s) _ _ (waits_itself e v) (waits_nowhere e s n) (number_set e states w was s at) in
          let short : length (without w queue) < length queue = without_short (waiter v w) w queue refl (h.all w v at) in
          let few = h.few in omega arith);
    }

line_same : (e w : ℕ) (s was : WorkerState) (states : List WorkerState) (queue : List Waiter) → slice_get states w ≡ Some was → waits_on e was ≡ false → waits_on e s ≡ false → IsWaitQueue e states queue
    → IsWaitQueue e (slice_set states w s) queue
line_same e w s was states queue at before after h = record {
  order = h.order;
  wait = each_map (λ x p. state_kept states w x.worker was s (Waiting e x.threshold) at (elsewhere e w states was x at before p) p) queue h.wait;
  all = λ u z k. elim (state_moved states w u was s (Waiting e z) at k) as (λ _. IsAmong (waiter z u) queue) [
    | inl p ↦ absurd (no_waiter e z s after p.1)
    | inr p ↦ h.all u z p.1
  ];
  few = (let same : number_on e (slice_set states w s) ≡ number_on e states = none_more (waits_on e was) (waits_on e s) _ _ before after (number_set e states w was s at) in
      let few = h.few in omega arith);
}

-- nobody is in a queue twice
others : (e : ℕ) (states : List WorkerState) (x : Waiter) (xs : List Waiter) → slice_get states x.worker ≡ Some (Waiting e x.threshold)
    → Each (λ y. comes_before x y ≡ true) xs → Each (λ y. slice_get states y.worker ≡ Some (Waiting e y.threshold)) xs → Each (λ y. y.worker ≢ x.worker) xs
others e states x xs at order wait =
    each_both (λ y. y.worker ≢ x.worker) (λ y before p same.
    (let q : slice_get states x.worker ≡ Some (Waiting e y.threshold) = ap (slice_get states) (sym same) ∙ p in
    let equal : x.threshold ≡ y.threshold = cc in
    before_itself x y before equal (sym same))) xs order wait

without_none : (w : ℕ) (xs : List Waiter) → Each (λ y. y.worker ≢ w) xs → without w xs ≡ xs
without_none w [] h = refl
without_none w (x ∷ xs) h =
    elim (x.worker == w) as (λ b. (x.worker == w) ≡ b → cond (not b) (x ∷ without w xs) (without w xs) ≡ x ∷ xs) [
      | true ↦ λ e. absurd (h.0 (eqb-true x.worker w e))
      | false ↦ λ e. ap (λ ys. x ∷ ys) (without_none w xs h.1)
    ] refl

without_first : (x : Waiter) (xs : List Waiter) → Each (λ y. y.worker ≢ x.worker) xs → without x.worker (x ∷ xs) ≡ xs
without_first x xs h = ap (λ b. cond (not b) (x ∷ without x.worker xs) (without x.worker xs)) (eq-eqb x.worker x.worker refl) ∙ without_none x.worker xs h

line_pop : (e : ℕ) (states : List WorkerState) (x : Waiter) (xs : List Waiter) → IsWaitQueue e states (x ∷ xs) → IsWaitQueue e (slice_set states x.worker Running) xs
line_pop e states x xs h =
    subst (λ queue. IsWaitQueue e (slice_set states x.worker Running) queue) (without_first x xs (others e states x xs h.wait.0 h.order.0 h.wait.1))
    (line_drop e x.worker x.threshold Running states (x ∷ xs) h.wait.0 refl h)

-- ALL QUEUES

lines_set : (states : List WorkerState) (queues : List (List Waiter)) (e w : ℕ) (s was : WorkerState) (queue now : List Waiter) → AreWaitQueues states queues
    → slice_get states w ≡ Some was → slice_get queues e ≡ Some queue
    → ((f : ℕ) → (e == f) ≡ false → (waits_on f was ≡ false) × (waits_on f s ≡ false))
    → IsWaitQueue e (slice_set states w s) now
    → AreWaitQueues (slice_set states w s) (slice_set queues e now)
lines_set states queues e w s was queue now h at here other new = record {
  workers = length-set states w s ∙ h.workers;
  events = length-set queues e now ∙ h.events;
  each = λ f l k.
      (let found : cond (e == f) (Some now) (slice_get queues f) ≡ Some l = sym (get_set queues e f now (slice_get_within queues e queue here)) ∙ k in
      elim (e == f) as (λ b. (e == f) ≡ b → cond b (Some now) (slice_get queues f) ≡ Some l → IsWaitQueue f (slice_set states w s) l) [
        | true ↦ λ t g. (let is : now ≡ l = cc in
            subst (λ (d : ℕ). IsWaitQueue d (slice_set states w s) l) (eqb-true e f t) (subst (λ (m : List Waiter). IsWaitQueue e (slice_set states w s) m) is new))
        | false ↦ λ t g. line_same f w s was states l at (other f t).0 (other f t).1 (h.each f l g)
      ] refl found);
}

lines_still : (states : List WorkerState) (queues : List (List Waiter)) (w : ℕ) (s was : WorkerState) → AreWaitQueues states queues → slice_get states w ≡ Some was
    → ((f : ℕ) (l : List Waiter) → slice_get queues f ≡ Some l → waits_on f was ≡ false) → is_waiting s ≡ false → AreWaitQueues (slice_set states w s) queues
lines_still states queues w s was h at other n = record {
  workers = length-set states w s ∙ h.workers;
  events = h.events;
  each = λ f l k. line_same f w s was states l at (other f l k) (waits_nowhere f s n) (h.each f l k);
}

pub settled : (states : List WorkerState) (queues : List (List Waiter)) (w : ℕ) (s was : WorkerState) → AreWaitQueues states queues → slice_get states w ≡ Some was → is_waiting s ≡ false
    → AreWaitQueues (slice_set states w s) (remove_waiter was w queues)
settled states queues w s Gone h at n = lines_still states queues w s Gone h at (λ f l k. refl) n
settled states queues w s Running h at n =
    lines_still states queues w s Running h at (λ f l k. refl) n
settled states queues w s (Waiting e v) h at n =
    elim (slice_get queues e) as (λ o. slice_get queues e ≡ o → AreWaitQueues (slice_set states w s) (option_map_or (λ queue. slice_set queues e (without w queue)) o queues)) [
      | None ↦ λ none. lines_still states queues w s (Waiting e v) h at
          (λ f l k. elim (e == f) as (λ b. (e == f) ≡ b → b ≡ false) [
            | true ↦ λ t. absurd (let same : slice_get queues e ≡ Some l = ap (slice_get queues) (eqb-true e f t) ∙ k in cc)
            | false ↦ λ t. refl
          ] refl) n
      | Some queue ↦ λ some. lines_set states queues e w s (Waiting e v) queue (without w queue) h at some (λ f t. (t, waits_nowhere f s n))
          (line_drop e w v s states queue at n (h.each e queue some))
    ] refl

some_line : (queues : List (List Waiter)) (e : ℕ) → e < length queues → (queue : List Waiter) × (slice_get queues e ≡ Some queue)
some_line [] e h = absurd (omega arith)
some_line (l ∷ queues) zero h = (l, refl)
some_line (l ∷ queues) (suc e) h = some_line queues e (omega arith)

-- there is a queue for each eventcount
pub line_at : (states : List WorkerState) (queues : List (List Waiter)) (e : ℕ) → AreWaitQueues states queues → e < 32 → (queue : List Waiter) × (slice_get queues e ≡ Some queue)
line_at states queues e h lt = some_line queues e (let events = h.events in omega arith)

changed_is : (f : List Waiter → List Waiter) (queues : List (List Waiter)) (e : ℕ) (queue : List Waiter) → slice_get queues e ≡ Some queue → map_at f queues e ≡ slice_set queues e (f queue)
changed_is f queues e queue h = ap (λ o. option_map_or (λ (x : List Waiter). slice_set queues e (f x)) o queues) h

pub waited : (states : List WorkerState) (queues : List (List Waiter)) (e w v : ℕ) → AreWaitQueues states queues → slice_get states w ≡ Some Running → e < 32
    → AreWaitQueues (slice_set states w (Waiting e v)) (map_at (insert_waiter (record { threshold = v; worker = w })) queues e)
waited states queues e w v h at lt =
    let l = line_at states queues e h lt in
    subst (λ (ls : List (List Waiter)). AreWaitQueues (slice_set states w (Waiting e v)) ls) (sym (changed_is (insert_waiter (waiter v w)) queues e l.0 l.1))
    (lines_set states queues e w (Waiting e v) Running l.0 (insert_waiter (waiter v w) l.0) h at l.1 (λ f t. (refl, t)) (line_join e w v states l.0 at (h.each e l.0 l.1)))

-- there is room for one more
pub has_room : (states : List WorkerState) (queues : List (List Waiter)) (e w : ℕ) (queue : List Waiter) → AreWaitQueues states queues → slice_get states w ≡ Some Running → slice_get queues e ≡ Some queue → length queue < 16
has_room states queues e w queue h at here =
    let few = (h.each e queue here).few in
    let less : number_on e states < length states = number_less e states w Running at refl in
    let workers = h.workers in omega arith

reached_first : (sum : ℕ) (y x : Waiter) (xs : List Waiter) → cond (nat_le y.threshold sum) (Some y) None ≡ Some x → (y ≡ x) × (y.threshold ≤ sum)
reached_first sum y x xs h =
    elim (nat_le y.threshold sum) as (λ b. nat_le y.threshold sum ≡ b → cond b (Some y) None ≡ Some x → (y ≡ x) × (y.threshold ≤ sum)) [
      | true ↦ λ t k. ((let is : y ≡ x = cc in is), leb-true y.threshold sum t)
      | false ↦ λ t k. cc
    ] refl h

-- what holds after the first of a queue was released, or nobody was
abbrev pub rest_of : Option Waiter → List Waiter → List Waiter
rest_of o queue = cond (is_some o) (drop 1 queue) queue

pub record IsLetGo (states : List WorkerState) (queues : List (List Waiter)) (e sum : ℕ) (x : Waiter) : Type 0 where
  pub waits : slice_get states x.worker ≡ Some (Waiting e x.threshold)
  pub reached : x.threshold ≤ sum
  pub keeps : AreWaitQueues (slice_set states x.worker Running) (map_at (drop 1) queues e)

let_first_go : (states : List WorkerState) (queues : List (List Waiter)) (e sum : ℕ) (queue : List Waiter) (x : Waiter) → AreWaitQueues states queues → slice_get queues e ≡ Some queue → first_ready sum queue ≡ Some x
    → IsLetGo states queues e sum x
let_first_go states queues e sum [] x h here first = cc
let_first_go states queues e sum (y ∷ ys) x h here first =
    (let k = reached_first sum y x ys first in
    let own = h.each e (y ∷ ys) here in
    subst (λ (z : Waiter). IsLetGo states queues e sum z) k.0 (record {
      waits = own.wait.0;
      reached = k.1;
      keeps = subst (λ (ls : List (List Waiter)). AreWaitQueues (slice_set states y.worker Running) ls) (sym (changed_is (drop 1) queues e (y ∷ ys) here))
          (lines_set states queues e y.worker Running (Waiting e y.threshold) (y ∷ ys) ys h own.wait.0 here (λ f t. (t, refl)) (line_pop e states y ys own));
    }))

pub let_go : (states : List WorkerState) (queues : List (List Waiter)) (e sum : ℕ) (x : Waiter) → AreWaitQueues states queues → e < 32
    → ((queue : List Waiter) → slice_get queues e ≡ Some queue → Some x ≡ first_ready sum queue) → IsLetGo states queues e sum x
let_go states queues e sum x h lt first =
    let l = line_at states queues e h lt in let_first_go states queues e sum l.0 x h l.1 (sym (first l.0 l.1))

reached_none : (sum : ℕ) (y : Waiter) → cond (nat_le y.threshold sum) (Some y) None ≡ None → sum < y.threshold
reached_none sum y h =
    elim (nat_le y.threshold sum) as (λ b. nat_le y.threshold sum ≡ b → cond b (Some y) None ≡ None → sum < y.threshold) [
      | true ↦ λ t k. cc
      | false ↦ λ t k. leb-false y.threshold sum t
    ] refl h

all_above : (sum : ℕ) (queue : List Waiter) → AreInOrder queue → first_ready sum queue ≡ None → Each (λ x. sum < x.threshold) queue
all_above sum [] h none = tt
all_above sum (y ∷ ys) h none =
    (let first : sum < y.threshold = reached_none sum y none in
    (first, each_map (λ z before. (let up : y.threshold ≤ z.threshold = before_below y z before in omega arith)) ys h.0))

kept_none : (e sum : ℕ) (states : List WorkerState) → ((w v : ℕ) → slice_get states w ≡ Some (Waiting e v) → sum < v) → map (state_at_total e sum) states ≡ states
kept_none e sum [] h = refl
kept_none e sum (Gone ∷ states) h = ap (λ ss. Gone ∷ ss) (kept_none e sum states (λ w v k. h (suc w) v k))
kept_none e sum (Running ∷ states) h = ap (λ ss. Running ∷ ss) (kept_none e sum states (λ w v k. h (suc w) v k))
kept_none e sum (Waiting f v ∷ states) h =
    let here : cond (f == e && nat_le v sum) Running (Waiting f v) ≡ Waiting f v =
    elim (f == e && nat_le v sum) as (λ b. (f == e && nat_le v sum) ≡ b → cond b Running (Waiting f v) ≡ Waiting f v) [
      | true ↦ λ t.
          (let p = and_parts (f == e) (nat_le v sum) t in
          let above : sum < v = h zero v (ap (λ (d : ℕ). Some (Waiting d v)) (eqb-true f e p.0)) in
          let below : v ≤ sum = leb-true v sum p.1 in absurd (omega arith))
      | false ↦ λ t. refl
    ] refl in
    ap (λ s. s ∷ map (state_at_total e sum) states) here ∙ ap (λ ss. Waiting f v ∷ ss) (kept_none e sum states (λ w u k. h (suc w) u k))

none_first : (states : List WorkerState) (queues : List (List Waiter)) (e sum : ℕ) (queue : List Waiter) → AreWaitQueues states queues → slice_get queues e ≡ Some queue → first_ready sum queue ≡ None
    → map (state_at_total e sum) states ≡ states
none_first states queues e sum queue h here none =
    let own = h.each e queue here in
    kept_none e sum states (λ w v k. each_at (λ x. sum < x.threshold) (waiter v w) queue (all_above sum queue own.order none) (own.all w v k))

pub none_let_go : (states : List WorkerState) (queues : List (List Waiter)) (e sum : ℕ) → AreWaitQueues states queues → e < 32
    → ((queue : List Waiter) → slice_get queues e ≡ Some queue → None ≡ first_ready sum queue) → map (state_at_total e sum) states ≡ states
none_let_go states queues e sum h lt none =
    let l = line_at states queues e h lt in none_first states queues e sum l.0 h l.1 (sym (none l.0 l.1))

pub kept_again : (e sum : ℕ) (states : List WorkerState) (w v : ℕ) → slice_get states w ≡ Some (Waiting e v) → v ≤ sum → map (state_at_total e sum) (slice_set states w Running) ≡ map (state_at_total e sum) states
kept_again e sum [] w v h le = refl
kept_again e sum (s ∷ states) zero v h le =
    let same : s ≡ Waiting e v = cc in
    let goes : state_at_total e sum s ≡ Running =
    ap (state_at_total e sum) same ∙ ap (λ b. cond b Running (Waiting e v)) (and_from (e == e) (nat_le v sum) (eq-eqb e e refl) (le-leb v sum le)) in
    ap (λ r. r ∷ map (state_at_total e sum) states) (sym goes)
kept_again e sum (s ∷ states) (suc w) v h le = ap (λ ss. state_at_total e sum s ∷ ss) (kept_again e sum states w v h le)

pub number_falls : (e : ℕ) (states : List WorkerState) (w v : ℕ) → slice_get states w ≡ Some (Waiting e v) → number_on e (slice_set states w Running) < number_on e states
number_falls e states w v at =
    let less : number_on e (slice_set states w Running) + 1 ≡ number_on e states = one_less (waits_on e (Waiting e v)) (waits_on e Running) _ _ (waits_itself e v) refl (number_set e states w (Waiting e v) Running at) in
    omega arith

same_set : {X : Type 0} (xs : List X) (i : ℕ) (x : X) → slice_get xs i ≡ Some x → slice_set xs i x ≡ xs
same_set [] i x h = refl
same_set (y ∷ ys) zero x h = (let same : y ≡ x = cc in ap (λ z. z ∷ ys) (sym same))
same_set (y ∷ ys) (suc i) x h = ap (λ zs. y ∷ zs) (same_set ys i x h)

-- a queue that is written back unchanged
pub lines_again : (states : List WorkerState) (queues : List (List Waiter)) (e : ℕ) → AreWaitQueues states queues → e < 32 → AreWaitQueues states (map_at (λ queue. queue) queues e)
lines_again states queues e h lt =
    let l = line_at states queues e h lt in
    subst (λ (ls : List (List Waiter)). AreWaitQueues states ls) (sym (same_set queues e l.0 l.1) ∙ sym (changed_is (λ queue. queue) queues e l.0 l.1)) h

-- nobody waits
nobody : (e : ℕ) (states : List WorkerState) → ((w : ℕ) (s : WorkerState) → slice_get states w ≡ Some s → is_waiting s ≡ false) → IsWaitQueue e states []
nobody e states h = record {
  order = tt;
  wait = tt;
  all = λ w v k. absurd (let none : is_waiting (Waiting e v) ≡ false = h w (Waiting e v) k in cc);
  few = omega arith;
}

opened_seat : (b : Bool) → is_waiting (cond b Running Gone) ≡ false
opened_seat true = refl
opened_seat false = refl

pub opened : (n : ℕ) (states : List WorkerState) (queues : List (List Waiter)) → length states ≡ 16 → length queues ≡ 32
    → ((w : ℕ) → w < 16 → slice_get states w ≡ Some (cond (nat_lt w n) Running Gone))
    → ((e : ℕ) (queue : List Waiter) → slice_get queues e ≡ Some queue → queue ≡ []) → AreWaitQueues states queues
opened n states queues ws es h k = record {
  workers = ws;
  events = es;
  each = λ e queue here. subst (λ (l : List Waiter). IsWaitQueue e states l) (sym (k e queue here)) (nobody e states
      (λ w s at. (let within : w < length states = slice_get_within states w s at in
      let is : s ≡ cond (nat_lt w n) Running Gone = (let there = h w (omega arith) in cc) in
      ap is_waiting is ∙ opened_seat (nat_lt w n))));
}

-- WHETHER ANYBODY WAITS

none_waits : (e : ℕ) (states : List WorkerState) → ((w v : ℕ) → slice_get states w ≡ Some (Waiting e v) → ⊥) → list_any (waits_on e) states ≡ false
none_waits e [] none = refl
none_waits e (Gone ∷ states) none = none_waits e states (λ w v at. none (suc w) v at)
none_waits e (Running ∷ states) none = none_waits e states (λ w v at. none (suc w) v at)
none_waits e (Waiting f u ∷ states) none =
    elim (f == e) as (λ (b : Bool). (f == e) ≡ b → (b || list_any (waits_on e) states) ≡ false) [
      | true ↦ λ h. (let same : f ≡ e = eqb-true f e h in absurd (none 0 u (ap (λ k. Some (Waiting k u)) same)))
      | false ↦ λ h. none_waits e states (λ w v at. none (suc w) v at)
    ] refl

one_waits : (e : ℕ) (states : List WorkerState) (w v : ℕ) → slice_get states w ≡ Some (Waiting e v) → list_any (waits_on e) states ≡ true
one_waits e [] w v at = cc
one_waits e (s ∷ states) zero v at =
    (let same : s ≡ Waiting e v = cc in
    ap (λ t. waits_on e t || list_any (waits_on e) states) same ∙ ap (λ b. b || list_any (waits_on e) states) (eq-eqb e e refl))
one_waits e (s ∷ states) (suc w) v at = or_right (waits_on e s) (list_any (waits_on e) states) (one_waits e states w v at)

holds_one : (n : ℕ) → 0 < n → not (n == 0) ≡ true
holds_one n h = grind (arith, nat_tests)

-- somebody waits exactly if the queue isn't empty
pub line_tells : (e : ℕ) (states : List WorkerState) (queue : List Waiter) → IsWaitQueue e states queue → not (length queue == 0) ≡ list_any (waits_on e) states
line_tells e states [] is = sym (none_waits e states (λ w v at. is.all w v at))
line_tells e states (x ∷ queue) is = holds_one (length (x ∷ queue)) (omega arith) ∙ sym (one_waits e states x.worker x.threshold is.wait.0)
