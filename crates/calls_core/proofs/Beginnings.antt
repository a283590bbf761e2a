-- A prefix of a history that has a linearization has one.
use Rattle.std.proofs.Common.{◌≡◌, ℕ, zero, suc, ◌+◌, ◌<◌, ◌≤◌, ◌⊎◌, inl, inr, true, false, ◌==◌}
use Rattle.std.proofs.Common.{cond, Bool, get_or, length}
use Rattle.std.proofs.Common.{List, [], ◌∷◌, ◌++◌, map, Option, Some, None, refl, ap, sym}
use Rattle.std.proofs.Common.{◌∙◌, arith, subst, append_assoc, append-nil, reverse, take, drop}
use Rattle.std.proofs.Common.{nat_lt}
use Rattle.std.specs.List.{AllPairs}
use Rattle.std.specs.List.Sorted.{IsPermutation}
use Rattle.std.proofs.lemmas.Bool.{eq-eqb, ne_eqb, cases_lt}
use Rattle.std.proofs.lemmas.Option.{same_Some, none-some}
use Rattle.std.proofs.lemmas.List.{take-append-drop, reverse-append, take_more, take_all}
use Rattle.std.proofs.lemmas.List.Sorted.{All-permutation, IsPermutation-cons}
use Rattle.std.proofs.lemmas.List.Sorted.{IsPermutation-trans, IsPermutation-sym}
use Rattle.std.proofs.lemmas.List.Sorted.{IsPermutation-append_left, IsPermutation-append_right}
use Rattle.std.proofs.lemmas.List.Sorted.{IsPermutation-middle, IsPermutation-map}
use Rattle.calls_core.specs.declared.history.Kind.{Kind}
use Rattle.calls_core.specs.declared.history.Reply.{Reply}
use Rattle.calls_core.specs.declared.history.Action.{Action}
use Rattle.calls_core.specs.declared.history.Action.TheVariants.{Invoke, Respond}
use Rattle.calls_core.specs.declared.history.Event.{Event}
use Rattle.calls_core.specs.declared.history.PendingCall.{PendingCall}
use Rattle.calls_core.specs.declared.history.Call.{Call}
use Rattle.calls_core.specs.Lists.{Each, EachPair}
use Rattle.calls_core.specs.Histories.{clock, pending_of, without, invoked_by, pending_after}
use Rattle.calls_core.specs.Histories.{pending_calls, completion, ended_call, completed_calls}
use Rattle.calls_core.specs.Histories.{IsNext}
use Rattle.calls_core.specs.Histories.{IsHistory, IsNextOf, IsHistoryOf}
use Rattle.calls_core.specs.Linearizations.{after, IsLegalHistory, initial, set_at, IsRun, start}
use Rattle.calls_core.specs.Linearizations.{KeepsOrder, answered_one, answered_calls, IsLinearOrder}
use Rattle.calls_core.specs.Linearizations.{IsAnsweredLinearization}
use Rattle.calls_core.specs.Completions.{settle_call}
use Rattle.calls_core.specs.Calls.{Early, Earlier}
use Rattle.calls_core.specs.Beginnings.{past_at, until}
use Rattle.calls_core.specs.Outcomes.{HasOrderOf}
use Rattle.calls_core.proofs.Lists.{each_weaker, each_right, each_pair_left, all_from_each}
use Rattle.calls_core.proofs.Lists.{all_pairs_from_each}
use Rattle.calls_core.proofs.Counting.{pairs_right}
use Rattle.calls_core.proofs.Filters.{each_from_all, permutation_same}
use Rattle.calls_core.proofs.Positions.{each_without, each_call_by, are_calls_of}
use Rattle.calls_core.proofs.Positions.{histories_have_calls}
use Rattle.calls_core.proofs.Drawing.{drawn, InFirst, InSecond, in_one}
use Rattle.calls_core.proofs.Settling.{Spans, Begun, AreBefore, before_of, before}
use Rattle.calls_core.proofs.Settling.{each_pair_from_all, late_last, settled_done, settled_answers}
use Rattle.calls_core.proofs.Settling.{settled_run, settled_one_run, settled_keeps, done_begun}
use Rattle.calls_core.proofs.Settling.{all_begun, order_settled}

-- ANOTHER ANSWER

module _ (o : PendingCall) (z : Option Reply) (a : PendingCall → Option Reply) where
  -- the answers, except that the pending call o has the answer z
  abbrev pub changed : PendingCall → Option Reply
  changed p = cond (p.first == o.first) z (a p)

  changed_own : changed o ≡ z
  changed_own = ap (λ b. cond b z (a o)) (eq-eqb o.first o.first refl)

  pub changed_other : (p : PendingCall) → (p.first ≡ o.first → ⊥) → changed p ≡ a p
  changed_other p h = ap (λ b. cond b z (a p)) (ne_eqb p.first o.first h)

  changed_rest : (t : ℕ) (os : List PendingCall) → Each (Earlier o) os
      → answered_calls t changed os ≡ answered_calls t a os
  changed_rest t [] h = refl
  changed_rest t (p ∷ os) h =
      (let lt : o.first < p.first = h.0 in
      ap (λ y. answered_one t p y ++ answered_calls t changed os) (changed_other p (λ e.
      omega arith)) ∙ ap (λ zs. answered_one t p (a p) ++ zs) (changed_rest t os h.1))

  pub changed_head : (t : ℕ) (os : List PendingCall) → Each (Earlier o) os
      → answered_calls t changed (o ∷ os) ≡ answered_one t o z ++ answered_calls t a os
  changed_head t os h = ap (λ y. answered_one t o y ++ answered_calls t changed os) changed_own ∙ ap
      (λ zs. answered_one t o z ++ zs) (changed_rest t os h)

answered_append : (t : ℕ) (a : PendingCall → Option Reply) (xs ys : List PendingCall)
    → answered_calls t a (xs ++ ys) ≡ answered_calls t a xs ++ answered_calls t a ys
answered_append t a [] ys = refl
answered_append t a (x ∷ xs) ys = ap (λ zs. answered_one t x (a x) ++ zs)
    (answered_append t a xs ys) ∙ sym (append_assoc (answered_one t x (a x)) (answered_calls t a xs)
    (answered_calls t a ys))

-- THE ANSWERS IN A PREFIX

abbrev pub Returned : ℕ → Call → Type 0
Returned m c = m ≤ c.last

module _ (u m : ℕ) (answer : PendingCall → Option Reply) (done : List Call)
    (spans : Each (Spans m) done) where
  abbrev Answers : List PendingCall → List Call → Type 0
  Answers os prefix = (a : PendingCall → Option Reply) × IsPermutation
      (answered_calls u a os ++ done) prefix

  none_left : (prefix back : List Call) → Each (Returned m) back
      → IsPermutation done (prefix ++ back)
      → IsPermutation done prefix
  none_left prefix [] late h = subst (IsPermutation done) (append-nil prefix) h
  none_left prefix (b ∷ back) late h =
      (let each : Each (Spans m) (prefix ++ b ∷ back) = each_from_all (Spans m) (prefix ++ b ∷ back)
      (All-permutation (Spans m) done (prefix ++ b ∷ back) h
      (all_from_each (Spans m) done spans)) in
      let early : b.last < m = (each_right (Spans m) prefix (b ∷ back) each).0.1 in
      let no : m ≤ b.last = late.0 in
      absurd (omega arith))

  no_answer : (o : PendingCall) (os : List PendingCall) (prefix : List Call) → Each (Earlier o) os
      → Answers os prefix → Answers (o ∷ os) prefix
  no_answer o os prefix lt r = (
    changed o None r.0,
    subst (λ zs. IsPermutation (zs ++ done) prefix)
        (sym (changed_head o None r.0 u os lt)) r.1,
  )

  late_rest : (c : Call) (xs ys : List Call) → Each (Returned m) (xs ++ c ∷ ys)
      → Each (Returned m) (xs ++ ys)
  late_rest c [] ys h = h.1
  late_rest c (x ∷ xs) ys h = (h.0, late_rest c xs ys h.1)

  in_front : (o : PendingCall) (r : Reply) (os : List PendingCall) (f w : List Call)
      → Each (Earlier o) os → Answers os (f ++ w) → Answers (o ∷ os) (f ++ completion u r o ∷ w)
  in_front o r os f w lt k = (
    changed o (Some r) k.0,
    subst (λ zs. IsPermutation (zs ++ done) (f ++ completion u r o ∷ w))
        (sym (changed_head o (Some r) k.0 u os lt))
        (IsPermutation-trans _ _ _ (IsPermutation-cons (completion u r o) _ _ k.1)
        (IsPermutation-sym _ _ (IsPermutation-middle f (completion u r o) w))),
  )

  -- if the calls after a prefix of all answered and completed calls return at m or later, the
  -- prefix has all completed calls and some of the answered ones
  pub answers_in_front : (os : List PendingCall) (prefix back : List Call) → EachPair Earlier os
      → Each (Returned m) back → IsPermutation (answered_calls u answer os ++ done) (prefix ++ back)
      → Answers os prefix
  answers_in_front [] prefix back rises late h = (answer, none_left prefix back late h)
  answers_in_front (o ∷ os) prefix back rises late h = by_answer (λ f b l k.
      answers_in_front os f b rises.1 l k) (answer o) refl
    where
      by_place : ((f b : List Call) → Each (Returned m) b
          → IsPermutation (answered_calls u answer os ++ done) (f ++ b) → Answers os f)
          → (r : Reply) (x y : List Call) → IsPermutation (answered_calls u answer os ++ done)
          (x ++ y)
          → InFirst x (completion u r o) y prefix back ⊎ InSecond x (completion u r o) y prefix back
          → Answers (o ∷ os) prefix
      by_place ih r x y moved (inl i) =
          (let here = ih (x ++ i.between) back late (subst (IsPermutation
          (answered_calls u answer os ++ done)) (ap (λ zs. x ++ zs) i.rest ∙ sym
          (append_assoc x i.between back)) moved) in
          subst (Answers (o ∷ os)) (sym i.first) (in_front o r os x i.between rises.0 here))
      by_place ih r x y moved (inr i) =
          (let rest : Each (Returned m) (i.between ++ y) = late_rest (completion u r o) i.between y
          (subst (Each (Returned m)) i.second late) in
          no_answer o os prefix rises.0
          (ih prefix (i.between ++ y) rest (subst (IsPermutation
          (answered_calls u answer os ++ done)) (ap (λ zs. zs ++ y) i.rest ∙ append_assoc prefix
          i.between y) moved)))

      by_answer : ((f b : List Call) → Each (Returned m) b
          → IsPermutation (answered_calls u answer os ++ done) (f ++ b) → Answers os f)
          → (z : Option Reply) → answer o ≡ z → Answers (o ∷ os) prefix
      by_answer ih None e =
          no_answer o os prefix rises.0 (ih prefix back late
          (subst (λ y. IsPermutation ((answered_one u o y ++ answered_calls u answer os)
          ++ done) (prefix ++ back)) e h))
      by_answer ih (Some r) e =
          (let all : IsPermutation (completion u r o ∷ (answered_calls u answer os ++ done))
          (prefix ++ back) = subst (λ y. IsPermutation
          ((answered_one u o y ++ answered_calls u answer os) ++ done) (prefix ++ back)) e h in
          let d = drawn (completion u r o) (answered_calls u answer os ++ done)
          (prefix ++ back) all in
          by_place ih r d.prefix d.back d.rest (in_one prefix back d.prefix (completion u r o) d.back
          d.is))

-- ONE MORE ANSWER

module _ (t w : ℕ) (o : PendingCall) (r : Reply) (a : PendingCall → Option Reply) where
  pub answered_more : (os : List PendingCall) → EachPair Earlier os → pending_of w os ≡ Some o
      → IsPermutation (answered_calls t (changed o (Some r) a) os)
      (completion t r o ∷ answered_calls t a (without w os))
  answered_more [] h e = absurd (none-some o e)
  answered_more (y ∷ os) h e = by_worker (λ is. answered_more os h.1 is) (y.worker == w) e
    where
      own : y ≡ o → IsPermutation (answered_calls t (changed o (Some r) a) (y ∷ os))
          (completion t r o ∷ answered_calls t a os)
      own is =
          (let same : answered_calls t (changed o (Some r) a) (y ∷ os) ≡ completion t r o
          ∷ answered_calls t a os =
          subst (λ (p : PendingCall). answered_calls t (changed p (Some r) a) (y ∷ os)
          ≡ completion t r p ∷ answered_calls t a os) is (changed_head y (Some r) a t os h.0) in
          permutation_same _ _ same)

      other : (z : Option Reply) → changed o (Some r) a y ≡ z
          → IsPermutation (answered_calls t (changed o (Some r) a) os)
          (completion t r o ∷ answered_calls t a (without w os))
          → IsPermutation (answered_one t y z ++ answered_calls t (changed o (Some r) a) os)
          (completion t r o ∷ (answered_one t y z ++ answered_calls t a (without w os)))
      other z is k = IsPermutation-trans _ _ _ (IsPermutation-append_right (answered_one t y z) _ _
          k) (IsPermutation-middle (answered_one t y z) (completion t r o)
          (answered_calls t a (without w os)))

      by_worker : (pending_of w os ≡ Some o → IsPermutation
          (answered_calls t (changed o (Some r) a) os) (completion t r o ∷ answered_calls t a
          (without w os))) → (b : Bool) → cond b (Some y) (pending_of w os) ≡ Some o
          → IsPermutation (answered_calls t (changed o (Some r) a) (y ∷ os))
          (completion t r o ∷ answered_calls t a (cond b os (y ∷ without w os)))
      by_worker ih true is = own (same_Some y o is)
      by_worker ih false is =
          (let lt : y.first < o.first = each_call_by (Earlier y) w os o h.0 is in
          let mine : changed o (Some r) a y ≡ a y = changed_other o (Some r) a y (λ q.
          omega arith) in
          subst (λ z. IsPermutation (answered_calls t (changed o (Some r) a) (y ∷ os))
          (completion t r o ∷ (answered_one t y z ++ answered_calls t a (without w os)))) mine
          (other (changed o (Some r) a y) refl (ih is)))

-- ONE EVENT LESS

-- a worker that responds has a pending call
abbrev pub HasCall : Action → Option PendingCall → Type 0
HasCall (Invoke k op) o = Unit {0}
HasCall (Respond r) None = ⊥
HasCall (Respond r) (Some o) = Unit {0}

module _ (Run : List Call → Type 0) (still : (m t : ℕ) (cs : List Call) → Run cs
    → Run (map (settle_call m t) cs)) (left : (xs ys : List Call) → Run (xs ++ ys) → Run xs) where
  abbrev pub HasOrder : List Call → List PendingCall → ℕ → Type 0
  HasOrder done pending t = (cs : List Call) × IsLinearOrder Run done pending t cs

  settle : (m u : ℕ) (done : List Call) (pending : List PendingCall) → m ≤ u
      → AreBefore m done pending → HasOrder done pending u → HasOrder done pending m
  settle m u done pending le b l = (
    map (settle_call m m) l.0,
    order_settled Run m u m done pending l.0
        le (omega arith) b (still m m l.0) l.1,
  )

  -- an order without the call that was invoked last
  invoked : (m u : ℕ) (o : PendingCall) (done : List Call) (pending : List PendingCall)
      (cs : List Call) → m ≤ o.first → m ≤ u → AreBefore m done pending
      → IsLinearOrder Run done (pending ++ o ∷ []) u cs → HasOrder done pending u
  invoked m u o done pending cs le late b l = by_answer (l.answer o) split
    where
      split : IsPermutation ((answered_calls u l.answer pending ++ (answered_one u o (l.answer o)
          ++ [])) ++ done) cs
      split = subst (λ zs. IsPermutation (zs ++ done) cs) (answered_append u l.answer pending
          (o ∷ [])) l.each_once

      stands_late : (c : Call) (f r : List Call) → c.first ≡ o.first → cs ≡ f ++ c ∷ r
          → Each (Returned m) r
      stands_late c f r first is =
          (let pairs : AllPairs KeepsOrder (f ++ c ∷ r) =
          subst (AllPairs KeepsOrder) is l.in_order in
          each_weaker (KeepsOrder c) (Returned m) (λ d no. elim (cases_lt d.last c.first) [
            | inl lt ↦
                absurd (no lt)
            | inr ge ↦ omega arith
          ]) r (each_from_all (KeepsOrder c) r
          (pairs_right KeepsOrder f c r pairs)))

      in_front_of : (c : Call) (f r : List Call) → c.first ≡ o.first → cs ≡ f ++ c ∷ r
          → IsPermutation (answered_calls u l.answer pending ++ done) (f ++ r)
          → HasOrder done pending u
      in_front_of c f r first is rest =
          (let a = answers_in_front u m l.answer done b.spans pending f r b.rises
          (stands_late c f r first is) rest in (
            f,
            record {
              answer = a.0;
              each_once = a.1;
              in_order = all_pairs_from_each KeepsOrder f (each_pair_left KeepsOrder f (c ∷ r)
                  (each_pair_from_all KeepsOrder (f ++ c ∷ r)
                  (subst (AllPairs KeepsOrder) is l.in_order)));
              run = left f (c ∷ r) (subst Run is l.run);
            },
          ))

      by_answer : (z : Option Reply) → IsPermutation ((answered_calls u l.answer pending ++
          (answered_one u o z ++ [])) ++ done) cs → HasOrder done pending u
      by_answer None h = (
        cs,
        record {
          answer = l.answer;
          each_once = subst (λ zs. IsPermutation (zs ++ done) cs)
              (append-nil (answered_calls u l.answer pending)) h;
          in_order = l.in_order;
          run =
              l.run;
        },
      )
      by_answer (Some r) h =
          (let c = completion u r o in
          let prefix : IsPermutation (c ∷ (answered_calls u l.answer pending ++ done)) cs =
          IsPermutation-trans _ _ _ (IsPermutation-sym _ _
          (IsPermutation-middle (answered_calls u l.answer pending) c done))
          (subst (λ zs. IsPermutation zs cs) (append_assoc (answered_calls u l.answer pending)
          (c ∷ []) done) h) in
          let d = drawn c (answered_calls u l.answer pending ++ done) cs prefix in
          in_front_of c d.prefix d.back refl d.is d.rest)

  -- an order in which the call that responded last is still pending
  responded : (m u n w : ℕ) (o : PendingCall) (r : Reply) (done : List Call)
      (pending : List PendingCall) (cs : List Call) → m ≤ n → m ≤ u → pending_of w pending ≡ Some o
      → AreBefore m done pending
      → IsLinearOrder Run (completion n r o ∷ done) (without w pending) u cs
      → HasOrder done pending m
  responded m u n w o r done pending cs le later e b l =
      let c = completion m r o in
      let early : o.first < m = each_call_by (Early m) w pending o b.early e in
      let begun : Each (Begun m) cs = all_begun m u l.answer (completion n r o ∷ done)
      (without w pending) cs (each_without (Early m) w pending b.early)
      (early, done_begun m done b.spans) l.each_once in
      let rest = answered_calls m l.answer (without w pending) in
      let same : map (settle_call m m) (answered_calls u l.answer (without w pending)
      ++ completion n r o ∷ done) ≡ rest ++ c ∷ done =
      settled_answers m m u l.answer (without w pending) (completion n r o ∷ done) later ∙ ap (λ k.
      rest ++ completion k r o ∷ map (settle_call m m) done) (late_last m m n le) ∙ ap (λ zs.
      rest ++ c ∷ zs) (settled_done m m done b.spans) in
      let moved : IsPermutation (rest ++ c ∷ done) (map (settle_call m m) cs) =
      subst (λ zs. IsPermutation zs (map (settle_call m m) cs)) same
      (IsPermutation-map (settle_call m m) _ cs l.each_once) in
      let more : IsPermutation (answered_calls m (changed o (Some r) l.answer) pending ++ done)
      (c ∷ (rest ++ done)) = IsPermutation-append_left done _ _
      (answered_more m w o r l.answer pending b.rises e) in (
        map (settle_call m m) cs,
        record {
          answer = changed o (Some r) l.answer;
          each_once = IsPermutation-trans _ _ _ more (IsPermutation-trans _ _ _
              (IsPermutation-sym _ _ (IsPermutation-middle rest c done)) moved);
          in_order = all_pairs_from_each KeepsOrder (map (settle_call m m) cs)
              (settled_keeps m m cs (omega arith) begun
              (each_pair_from_all KeepsOrder cs l.in_order));
          run = still m m cs l.run;
        },
      )

  pub order_before : (x : Event) (action : Action) (m : ℕ) (o : Option PendingCall)
      (done : List Call) (pending : List PendingCall) → m ≤ x.at → pending_of x.worker pending ≡ o
      → HasCall action o → AreBefore m done pending
      → HasOrder (ended_call x action o ++ done) (pending_after x action pending) (x.at + 1)
      → HasOrder done pending m
  order_before x (Invoke k op) m o done pending le e f b l =
      settle m (x.at + 1) done pending (omega arith) b (invoked m (x.at + 1)
      (invoked_by x k op) done pending l.0 le (omega arith) b l.1)
  order_before x (Respond r) m None done pending le e f b l = absurd f
  order_before x (Respond r) m (Some o) done pending le e f b l =
      responded m (x.at + 1) x.at x.worker o r done pending l.0 le (omega arith) e b l.1

-- PREFIXES OF LEGAL SEQUENTIAL HISTORIES

pub run_left : (s : ℕ → ℕ → ℕ) (xs ys : List Call) → IsRun s (xs ++ ys) → IsRun s xs
run_left s [] ys h = tt
run_left s (c ∷ xs) ys h = (
  h.0,
  run_left (set_at c.object (after (s c.object) c.op c.reply) s) xs
      ys h.1,
)

pub one_run_left : (n : ℕ → ℕ) (xs ys : List Call) → IsLegalHistory n (xs ++ ys)
    → IsLegalHistory n xs
one_run_left n [] ys h = tt
one_run_left n (c ∷ xs) ys h = (h.0, one_run_left (after n c.op c.reply) xs ys h.1)

-- ONE OBJECT

next_answers : (kind : Kind) (x : Event) (action : Action) (o : Option PendingCall)
    → IsNextOf kind action o → HasCall action o
next_answers kind x (Invoke k op) o h = tt
next_answers kind x (Respond r) None h = h
next_answers kind x (Respond r) (Some o) h = tt

pub order_of_beginning : (kind : Kind) (x : Event) (past : List Event) → IsHistoryOf kind (x ∷ past)
    → HasOrderOf kind (x ∷ past) → HasOrderOf kind past
order_of_beginning kind x past h l =
    order_before (IsLegalHistory (initial (Some kind))) (λ m t cs.
    settled_one_run m t (initial (Some kind)) cs) (λ xs ys.
    one_run_left (initial (Some kind)) xs ys) x x.action (clock past)
    (pending_of x.worker (pending_calls past)) (completed_calls past)
    (pending_calls past) h.0 refl (next_answers kind x x.action
    (pending_of x.worker (pending_calls past)) h.1)
    (before_of kind (completed_calls past) (pending_calls past) (clock past)
    (are_calls_of kind past h.2)) l

pub history_of_earlier : (kind : Kind) (late past : List Event) → IsHistoryOf kind (late ++ past)
    → IsHistoryOf kind past
history_of_earlier kind [] past h = h
history_of_earlier kind (x ∷ late) past h = history_of_earlier kind late past h.2

pub order_of_earlier : (kind : Kind) (late past : List Event) → IsHistoryOf kind (late ++ past)
    → HasOrderOf kind (late ++ past) → HasOrderOf kind past
order_of_earlier kind [] past h l = l
order_of_earlier kind (x ∷ late) past h l = order_of_earlier kind late past h.2
    (order_of_beginning kind x (late ++ past) h l)

-- MANY OBJECTS

next_whole : (kinds : List Kind) (x : Event) (action : Action) (o : Option PendingCall)
    → IsNext kinds action o → HasCall action o
next_whole kinds x (Invoke k op) o h = tt
next_whole kinds x (Respond r) None h = h
next_whole kinds x (Respond r) (Some o) h = tt

pub whole_of_beginning : (kinds : List Kind) (x : Event) (past : List Event)
    → IsHistory kinds (x ∷ past) → (cs : List Call) × IsAnsweredLinearization kinds (x ∷ past) cs
    → (cs : List Call) × IsAnsweredLinearization kinds past cs
whole_of_beginning kinds x past h l =
    order_before (IsRun (start kinds)) (λ m t cs. settled_run m t (start kinds) cs) (λ xs ys.
    run_left (start kinds) xs ys) x x.action (clock past)
    (pending_of x.worker (pending_calls past)) (completed_calls past)
    (pending_calls past) h.0 refl (next_whole kinds x x.action
    (pending_of x.worker (pending_calls past)) h.1)
    (before kinds (completed_calls past) (pending_calls past) (clock past)
    (histories_have_calls kinds past h.2)) l

pub history_earlier : (kinds : List Kind) (late past : List Event) → IsHistory kinds (late ++ past)
    → IsHistory kinds past
history_earlier kinds [] past h = h
history_earlier kinds (x ∷ late) past h = history_earlier kinds late past h.2

pub whole_of_earlier : (kinds : List Kind) (late past : List Event) → IsHistory kinds (late ++ past)
    → (cs : List Call) × IsAnsweredLinearization kinds (late ++ past) cs → (cs : List Call)
    × IsAnsweredLinearization kinds past cs
whole_of_earlier kinds [] past h l = l
whole_of_earlier kinds (x ∷ late) past h l = whole_of_earlier kinds late past h.2
    (whole_of_beginning kinds x (late ++ past) h l)

-- BY INDEX AND BY POSITION

take_shorter : {X : Type 0} (j i : ℕ) (xs : List X) → j ≤ i → take j (take i xs) ≡ take j xs
take_shorter zero i xs le = refl
take_shorter (suc j) zero xs le = absurd (omega arith)
take_shorter (suc j) (suc i) [] le = refl
take_shorter (suc j) (suc i) (x ∷ xs) le = ap (λ zs. x ∷ zs) (take_shorter j i xs (omega arith))

-- the reversed history, split into the events after the first i and these
pub past_split : (i : ℕ) (events : List Event) → reverse events ≡ reverse (drop i events)
    ++ past_at i events
past_split i events = ap reverse (sym (take-append-drop i events)) ∙ reverse-append (take i events)
    (drop i events)

pub history_at : (kind : Kind) (i : ℕ) (events : List Event) → IsHistoryOf kind (reverse events)
    → IsHistoryOf kind (past_at i events)
history_at kind i events h = history_of_earlier kind (reverse (drop i events)) (past_at i events)
    (subst (IsHistoryOf kind) (past_split i events) h)

pub past_next : (events : List Event) (i : ℕ) (d : Event) → i < length events
    → past_at (i + 1) events ≡ get_or events i d ∷ past_at i events
past_next events i d lt = ap reverse (take_more events i d lt) ∙ reverse-append (take i events)
    (get_or events i d ∷ [])

pub past_all : (events : List Event) (i : ℕ) → length events ≤ i → past_at i events ≡ reverse events
past_all events i le = ap reverse (take_all i events le)

pub history_next : (kind : Kind) (i : ℕ) (events : List Event) (d : Event) → i < length events
    → IsHistoryOf kind (reverse events) → IsHistoryOf kind (get_or events i d ∷ past_at i events)
history_next kind i events d lt h = subst (IsHistoryOf kind) (past_next events i d lt)
    (history_at kind (i + 1) events h)

pub clock_earlier : (kind : Kind) (late past : List Event) → IsHistoryOf kind (late ++ past)
    → clock past ≤ clock (late ++ past)
clock_earlier kind [] past h = omega arith
clock_earlier kind (x ∷ late) past h = (let le = clock_earlier kind late past h.2 in
    let lt : clock (late ++ past) ≤ x.at = h.0 in omega arith)

pub clock_at : (kind : Kind) (i : ℕ) (events : List Event) → IsHistoryOf kind (reverse events)
    → clock (past_at i events) ≤ clock (reverse events)
clock_at kind i events h = subst (λ past. clock (past_at i events) ≤ clock past)
    (sym (past_split i events)) (clock_earlier kind (reverse (drop i events)) (past_at i events)
    (subst (IsHistoryOf kind) (past_split i events) h))

pub order_at_beginning : (kind : Kind) (i : ℕ) (events : List Event)
    → IsHistoryOf kind (reverse events) → HasOrderOf kind (reverse events)
    → HasOrderOf kind (past_at i events)
order_at_beginning kind i events h l =
    order_of_earlier kind (reverse (drop i events)) (past_at i events)
    (subst (IsHistoryOf kind) (past_split i events) h)
    (subst (HasOrderOf kind) (past_split i events) l)

-- each prefix of the first i events has an order
pub orders_before : (kind : Kind) (i j : ℕ) (events : List Event) → j ≤ i
    → IsHistoryOf kind (past_at i events) → HasOrderOf kind (past_at i events)
    → HasOrderOf kind (past_at j events)
orders_before kind i j events le h l = subst (λ zs. HasOrderOf kind (reverse zs))
    (take_shorter j i events le) (order_at_beginning kind j (take i events) h l)

pub until_split : (n : ℕ) (past : List Event) → (late : List Event) × (past ≡ late ++ until n past)
until_split n [] = ([], refl)
until_split n (x ∷ past) =
    let r = until_split n past in
    elim (nat_lt x.at n) as (λ b. (late : List Event) × (x ∷ past ≡ late ++ cond b (x ∷ past)
    (until n past))) [
      | true ↦ ([], refl)
      | false ↦ (x ∷ r.0, ap (λ zs. x ∷ zs) r.1)
    ]

pub history_until : (kind : Kind) (n : ℕ) (past : List Event) → IsHistoryOf kind past
    → IsHistoryOf kind (until n past)
history_until kind n past h = (let r = until_split n past in
    history_of_earlier kind r.0 (until n past) (subst (IsHistoryOf kind) r.1 h))

pub order_until : (kind : Kind) (n : ℕ) (past : List Event) → IsHistoryOf kind past
    → HasOrderOf kind past → HasOrderOf kind (until n past)
order_until kind n past h l = (let r = until_split n past in
    order_of_earlier kind r.0 (until n past) (subst (IsHistoryOf kind) r.1 h)
    (subst (HasOrderOf kind) r.1 l))
