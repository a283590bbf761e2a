-- A linearization that grows with the history: a v is in it if it is invoked, and every other
-- call if it has its response.
use Rattle.std.proofs.Common.{◌≡◌, ℕ, ◌+◌, ◌<◌, ◌≤◌, ◌==◌, Bool, true, false, ◌&&◌, ◌||◌, List, []}
use Rattle.std.proofs.Common.{◌∷◌, ◌++◌, map, Option, Some, None, refl, ap, sym, ◌∙◌, arith, subst}
use Rattle.std.proofs.Common.{count_by, append_assoc, Vec, if◌then◌else◌}
use Rattle.std.specs.declared.alloc.Global.{Global}
use Rattle.std.specs.List.Sorted.{IsPermutation}
use Rattle.std.proofs.lemmas.Bool.{eq-eqb, eqb-true, and_from, and_right}
use Rattle.std.proofs.lemmas.List.{map-append, append-nil}
use Rattle.std.proofs.lemmas.List.Sorted.{IsPermutation-trans, IsPermutation-sym}
use Rattle.std.proofs.lemmas.List.Sorted.{IsPermutation-cons, IsPermutation-middle}
use Rattle.std.proofs.lemmas.List.Sorted.{IsPermutation-append_comm, IsPermutation-map}
use Rattle.calls_core.specs.declared.history.Kind.TheVariants.{Semaphores}
use Rattle.calls_core.specs.declared.history.Op.{Op}
use Rattle.calls_core.specs.declared.history.Op.TheVariants.{Advance, Read, Await, Ticket, P, V}
use Rattle.calls_core.specs.declared.history.Op.TheVariants.{PBoth, Put, Get, Produce, Consume}
use Rattle.calls_core.specs.declared.history.Reply.{Reply}
use Rattle.calls_core.specs.declared.history.Reply.TheVariants.{Done, Number, Timeout}
use Rattle.calls_core.specs.declared.history.Action.TheVariants.{Invoke, Respond}
use Rattle.calls_core.specs.declared.history.Event.{Event}
use Rattle.calls_core.specs.declared.history.PendingCall.{PendingCall}
use Rattle.calls_core.specs.declared.history.Call.{Call}
use Rattle.calls_core.specs.Lists.{Each, EachPair}
use Rattle.calls_core.specs.Calls.{Early, Earlier, IsCallOf, AreCallsOf}
use Rattle.calls_core.specs.Histories.{IsHistoryOf, IsNextOf, Suits, clock, completion}
use Rattle.calls_core.specs.Histories.{completed_calls, pending_calls, pending_of, without}
use Rattle.calls_core.specs.Histories.{invoked_by}
use Rattle.calls_core.specs.Linearizations.{Gives, KeepsOrder, answered_one, answered_calls}
use Rattle.calls_core.specs.Linearizations.{initial}
use Rattle.calls_core.specs.Completions.{with_last}
use Rattle.calls_core.proofs.Positions.{are_calls_of}
use Rattle.calls_core.proofs.Lists.{each_weaker, each_append, each_left, each_right}
use Rattle.calls_core.proofs.Lists.{each_pair_append, each_pair_right, each_pair_across}
use Rattle.calls_core.proofs.Filters.{permutation_same}
use Rattle.calls_core.proofs.Counting.{one, one_yes, one_no, count_cons, count_append, count_moved}
use Rattle.calls_semaphores.specs.Banks.{took}
use Rattle.calls_semaphores.specs.Monitors.{units_taken, units_added}
use Rattle.calls_semaphores.specs.kept.Keeping.{is_v, answer, IsLinearizationSoFar}
use Rattle.calls_semaphores.proofs.Runs.{IsOp, took_of, added_of, state_after, run_count, run_more}
use Rattle.calls_semaphores.proofs.Runs.{run_changed}
use Rattle.calls_semaphores.proofs.Counts.{pending_invoke, completed_invoke, IsFound, found_by}
use Rattle.calls_semaphores.proofs.Counts.{pending_respond, completed_respond, answer_if}
use Rattle.calls_semaphores.proofs.Counts.{answered_append, answered_took, answered_added}

-- LISTS

pub add_end : {X : Type 0} (c : X) (us bs cs : List X) → IsPermutation (us ++ bs) cs
    → IsPermutation (us ++ c ∷ bs) (cs ++ c ∷ [])
add_end c us bs cs h =
    IsPermutation-trans _ _ _ (IsPermutation-middle us c bs)
    (IsPermutation-trans _ _ _ (IsPermutation-cons c _ _ h)
    (IsPermutation-append_comm (c ∷ []) cs))

moved_right : {X : Type 0} (c : X) (us bs ds cs : List X) → IsPermutation ((us ++ c ∷ bs) ++ ds) cs
    → IsPermutation ((us ++ bs) ++ c ∷ ds) cs
moved_right c us bs ds cs h =
    IsPermutation-trans _ _ _ (IsPermutation-middle (us ++ bs) c ds)
    (IsPermutation-trans _ _ _ (permutation_same _ _ (ap (λ zs. c ∷ zs) (append_assoc us bs ds)))
    (IsPermutation-trans _ _ _ (IsPermutation-sym _ _ (IsPermutation-middle us c (bs ++ ds)))
    (IsPermutation-trans _ _ _ (permutation_same _ _ (sym (append_assoc us (c ∷ bs) ds))) h)))

pairs_changed : {X : Type 0} (R : X → X → Type 0) (us : List X) (c d : X) (bs : List X)
    → EachPair R (us ++ c ∷ bs) → Each (λ a. R a d) us
    → ((b : X) → R c b → R d b) → EachPair R (us ++ d ∷ bs)
pairs_changed R [] c d bs h k f = (each_weaker (R c) (R d) f bs h.0, h.1)
pairs_changed R (a ∷ us) c d bs h k f = (
  each_append (R a) us (d ∷ bs) (each_left (R a) us (c ∷ bs) h.0)
      (k.0, (each_right (R a) us (c ∷ bs) h.0).1),
  pairs_changed R us c d bs h.1 k.1 f,
)

-- A CALL IN THE LINEARIZATION GETS ITS RESPONSE

-- a call that was invoked at position m and has no response before t
abbrev is_open : ℕ → ℕ → Call → Bool
is_open t m c = (c.last == t) && (c.first == m)

abbrev ended_at : ℕ → ℕ → ℕ → Call → Call
ended_at t m n c = if is_open t m c then with_last c n else c

untouched : (t m n : ℕ) (cs : List Call) → count_by (is_open t m) cs ≡ 0
    → map (ended_at t m n) cs ≡ cs
untouched t m n [] e = refl
untouched t m n (c ∷ cs) e =
    elim (is_open t m c) as (λ b. is_open t m c ≡ b → (if b then with_last c n else c) ∷ map
    (ended_at t m n) cs ≡ c ∷ cs) [
      | true ↦ λ is. absurd (omega (
        arith,
        count_cons (is_open t m) c cs,
        one_yes
            (is_open t m c) is,
      ))
      | false ↦ λ is. ap (λ zs. c ∷ zs) (untouched t m n cs
          (omega (arith, count_cons (is_open t m) c cs)))
    ] refl

other_open : (t m : ℕ) (o : PendingCall) (r : Option Reply) → (o.first ≡ m → ⊥)
    → count_by (is_open t m) (answered_one t o r) ≡ 0
other_open t m o None h = refl
other_open t m o (Some r) h =
    elim (o.first == m) as (λ b. (o.first == m) ≡ b → count_by (is_open t m) (completion t r o ∷ [])
    ≡ 0) [
      | true ↦ λ e. absurd (h (eqb-true o.first m e))
      | false ↦ λ e. omega (
        arith,
        count_cons (is_open t m) (completion t r o) [],
        one_no
            (is_open t m (completion t r o)) (and_right (t == t) (o.first == m) e),
      )
    ] refl

others_open : (t m : ℕ) (os : List PendingCall) → Each (λ (o : PendingCall). o.first ≡ m → ⊥) os
    → count_by (is_open t m) (answered_calls t answer os) ≡ 0
others_open t m [] h = refl
others_open t m (o ∷ os) h =
    omega (
      arith,
      count_append (is_open t m) (answered_one t o (answer o))
          (answered_calls t answer os),
      other_open t m o (answer o) h.0,
      others_open t m os h.1,
    )

completed_open : (t m : ℕ) (cs : List Call) → Each (λ (c : Call). c.last < t) cs
    → count_by (is_open t m) cs ≡ 0
completed_open t m [] h = refl
completed_open t m (c ∷ cs) h =
    elim (c.last == t) as (λ b. (c.last == t) ≡ b → count_by (is_open t m) (c ∷ cs) ≡ 0) [
      | true ↦ λ e. (let same : c.last ≡ t = eqb-true c.last t e in absurd (omega (arith, h.0)))
      | false ↦ λ e. omega (
        arith,
        count_cons (is_open t m) c cs,
        one_no (is_open t m c)
            (ap (λ b. b && (c.first == m)) e),
        completed_open t m cs h.1,
      )
    ] refl

it_is_open : (t : ℕ) (o : PendingCall) → is_open t o.first (completion t Done o) ≡ true
it_is_open t o = and_from (t == t) (o.first == o.first) (eq-eqb t t refl)
    (eq-eqb o.first o.first refl)

-- WHICH REPLIES A BANK GIVES

next_takes : (units : Vec ℕ Global) (k : ℕ) (op : Op) (o : Option PendingCall)
    → IsNextOf (Semaphores units) (Invoke k op) o → IsOp units op
next_takes units k op None h = h
next_takes units k op (Some o) h = absurd h

v_gives : (m : ℕ → ℕ) (op : Op) → is_v op ≡ true → Gives m op Done
v_gives m (V i) e = refl
v_gives m (P i) e = cc
v_gives m (PBoth i j) e = cc
v_gives m Advance e = cc
v_gives m Read e = cc
v_gives m (Await v) e = cc
v_gives m Ticket e = cc
v_gives m (Put v) e = cc
v_gives m Get e = cc
v_gives m (Produce v) e = cc
v_gives m Consume e = cc

or_left : (x y : Bool) → x ≡ true → (x || y) ≡ true
or_left x y e = ap (λ b. b || y) e

or_right : (x y : Bool) → y ≡ true → (x || y) ≡ true
or_right true y e = refl
or_right false y e = e

-- a bank gives a reply, if it has the units that the call takes
pub bank_gives : (units : Vec ℕ Global) (m : ℕ → ℕ) (op : Op) (r : Reply) → IsOp units op
    → Suits op r → ((i : ℕ) → took i op r ≡ true → 0 < m i) → Gives m op r
bank_gives units m (V i) Done h s f = refl
bank_gives units m (V i) (Number n) h s f = absurd s
bank_gives units m (V i) Timeout h s f = absurd s
bank_gives units m (P i) Done h s f = f i (and_from (i == i) true (eq-eqb i i refl) refl)
bank_gives units m (P i) (Number n) h s f = absurd s
bank_gives units m (P i) Timeout h s f = tt
bank_gives units m (PBoth i j) Done h s f = (
  f i (and_from ((i == i) || (j == i)) true (or_left (i == i) (j == i) (eq-eqb i i refl)) refl),
  f j (and_from ((i == j) || (j == j)) true (or_right (i == j) (j == j) (eq-eqb j j refl)) refl),
)
bank_gives units m (PBoth i j) (Number n) h s f = absurd s
bank_gives units m (PBoth i j) Timeout h s f = tt
bank_gives units m Advance r h s f = absurd h
bank_gives units m Read r h s f = absurd h
bank_gives units m (Await v) r h s f = absurd h
bank_gives units m Ticket r h s f = absurd h
bank_gives units m (Put v) r h s f = absurd h
bank_gives units m Get r h s f = absurd h
bank_gives units m (Produce v) r h s f = absurd h
bank_gives units m Consume r h s f = absurd h

suits_next : (units : Vec ℕ Global) (r : Reply) (o : PendingCall) (p : Option PendingCall)
    → p ≡ Some o → IsNextOf (Semaphores units) (Respond r) p → Suits o.op r
suits_next units r o p e h = subst (IsNextOf (Semaphores units) (Respond r)) e h

module _ (units : Vec ℕ Global) (x : Event) (past : List Event) (t : ℕ)
    (h : IsHistoryOf (Semaphores units) (x ∷ past)) (le : clock (x ∷ past) ≤ t) where
  abbrev pub m0 : ℕ → ℕ
  m0 = initial (Some (Semaphores units))

  abbrev pub os : List PendingCall
  os = pending_calls past

  abbrev pub done : List Call
  done = completed_calls past

  abbrev Starts : Call → Type 0
  Starts c = c.first < clock past

  abbrev StartsNow : Call → Type 0
  StartsNow c = c.first < clock (x ∷ past)

  calls : AreCallsOf (Semaphores units) done os (clock past)
  calls = are_calls_of (Semaphores units) past h.2

  later : (cs : List Call) → Each Starts cs → Each StartsNow cs
  later cs e = each_weaker Starts StartsNow (λ c lt. omega (arith, h.0)) cs e

  -- the units that are left, by counting
  pub state_count : (i : ℕ) (cs : List Call) → IsLinearizationSoFar units past t cs
      → state_after m0 cs i + units_taken i past ≡ m0 i + units_added i past
  state_count i cs k =
      omega (
        arith,
        run_count units m0 i cs k.fits k.run,
        count_moved (took_of i) (answered_calls t answer os ++ done) cs k.each_once,
        count_append (took_of i) (answered_calls t answer os) done,
        answered_took t i os,
        count_moved (added_of i) (answered_calls t answer os ++ done) cs k.each_once,
        count_append (added_of i) (answered_calls t answer os) done,
        answered_added t i os,
      )

  -- INVOCATIONS

  answered_more : (k : ℕ) (op : Op) (b : Bool) → is_v op ≡ b
      → answered_calls t answer (os ++ invoked_by x k op ∷ []) ≡ answered_calls t answer os
      ++ answered_one t (invoked_by x k op) (answer_if b)
  answered_more k op b e =
      answered_append t answer os (invoked_by x k op ∷ [])
      ∙ ap (λ zs. answered_calls t answer os ++ zs) (append-nil (answered_one t (invoked_by x k op)
      (answer (invoked_by x k op))) ∙ ap (λ c. answered_one t (invoked_by x k op) (answer_if c))
      e)

  pub invoked_v : (k : ℕ) (op : Op) (cs : List Call) → x.action ≡ Invoke k op → is_v op ≡ true
      → IsLinearizationSoFar units past t cs
      → IsLinearizationSoFar units (x ∷ past) t (cs ++ completion t Done (invoked_by x k op) ∷ [])
  invoked_v k op cs e v kept =
      let c = completion t Done (invoked_by x k op) in
      let new : answered_calls t answer (pending_calls (x ∷ past)) ≡ answered_calls t answer os ++ c
      ∷ [] =
      ap (answered_calls t answer) (pending_invoke x past k op e) ∙ answered_more k op true v in
      let all : answered_calls t answer (pending_calls (x ∷ past)) ++ completed_calls (x ∷ past)
      ≡ answered_calls t answer os ++ c ∷ done =
      ap (λ zs. zs ++ completed_calls (x ∷ past)) new ∙ ap (λ zs.
      (answered_calls t answer os ++ c ∷ []) ++ zs) (completed_invoke x past k op e)
      ∙ append_assoc (answered_calls t answer os) (c ∷ []) done in
      let fits : IsOp units op = next_takes units k op (pending_of x.worker os)
      (subst (λ a. IsNextOf (Semaphores units) a (pending_of x.worker os)) e h.1) in
      record {
        each_once = subst (λ zs. IsPermutation zs (cs ++ c ∷ [])) (sym all)
            (add_end c (answered_calls t answer os) done cs kept.each_once);
        in_order = each_pair_append KeepsOrder cs (c ∷ []) kept.in_order (tt, tt)
            (each_weaker Starts (λ a. Each (KeepsOrder a) (c ∷ [])) (λ a lt.
            (λ late. omega (arith, le, h.0), tt)) cs kept.early);
        run = run_more m0 cs c kept.run (v_gives (state_after m0 cs) op v);
        early = each_append StartsNow cs (c ∷ []) (later cs kept.early) (omega arith, tt);
        fits = each_append (λ (a : Call). IsOp units a.op) cs (c ∷ []) kept.fits (fits, tt);
      }

  pub invoked_other : (k : ℕ) (op : Op) (cs : List Call) → x.action ≡ Invoke k op → is_v op ≡ false
      → IsLinearizationSoFar units past t cs → IsLinearizationSoFar units (x ∷ past) t cs
  invoked_other k op cs e v kept =
      let new : answered_calls t answer (pending_calls (x ∷ past)) ≡ answered_calls t answer os =
      ap (answered_calls t answer) (pending_invoke x past k op e) ∙ answered_more k op false v
      ∙ append-nil (answered_calls t answer os) in
      let all : answered_calls t answer (pending_calls (x ∷ past)) ++ completed_calls (x ∷ past)
      ≡ answered_calls t answer os ++ done =
      ap (λ zs. zs ++ completed_calls (x ∷ past)) new ∙ ap (λ zs. answered_calls t answer os ++ zs)
      (completed_invoke x past k op e) in
      record {
        each_once = subst (λ zs. IsPermutation zs cs) (sym all) kept.each_once;
        in_order = kept.in_order;
        run = kept.run;
        early = later cs kept.early;
        fits = kept.fits;
      }

  -- RESPONSES

  module _ (r : Reply) (o : PendingCall) (is : x.action ≡ Respond r) (found : pending_of x.worker os
      ≡ Some o) where
    pub split : IsFound x.worker os o (without x.worker os)
    split = found_by x.worker os o found

    pub suited : Suits o.op r
    suited = suits_next units r o (pending_of x.worker os) found
        (subst (λ a. IsNextOf (Semaphores units) a (pending_of x.worker os)) is h.1)

    of_pending : (Q : PendingCall → Type 0) → Each Q os → Q o
    of_pending Q q = (each_right Q split.prefix (o ∷ split.back) (subst (Each Q) split.is q)).0

    pub fitting : IsOp units o.op
    fitting = of_pending (λ (p : PendingCall). IsOp units p.op) calls.fits

    begun : o.first < clock past
    begun = of_pending (Early (clock past)) calls.early

    abbrev pub fronts : List Call
    fronts = answered_calls t answer split.prefix

    abbrev pub backs : List Call
    backs = answered_calls t answer split.back

    rest_answered : answered_calls t answer (pending_calls (x ∷ past)) ≡ fronts ++ backs
    rest_answered = ap (answered_calls t answer) (pending_respond x past r is ∙ split.rest_is)
        ∙ answered_append t answer split.prefix split.back

    now_all : answered_calls t answer (pending_calls (x ∷ past)) ++ completed_calls (x ∷ past) ≡
        (fronts ++ backs) ++ completion x.at r o ∷ done
    now_all = ap (λ zs. zs ++ completed_calls (x ∷ past)) rest_answered ∙ ap (λ zs.
        (fronts ++ backs) ++ zs) (completed_respond x past r o is found)

    pub were_answered : (b : Bool) → is_v o.op ≡ b → answered_calls t answer os ≡ fronts ++
        (answered_one t o (answer_if b) ++ backs)
    were_answered b e =
        ap (answered_calls t answer) split.is ∙ answered_append t answer split.prefix
        (o ∷ split.back)
        ∙ ap (λ c. fronts ++ (answered_one t o (answer_if c) ++ backs)) e

    pub responded_other : (cs : List Call) → is_v o.op ≡ false → Gives (state_after m0 cs) o.op r
        → IsLinearizationSoFar units past t cs
        → IsLinearizationSoFar units (x ∷ past) t (cs ++ completion x.at r o ∷ [])
    responded_other cs v gives kept =
        let c = completion x.at r o in
        let before : IsPermutation ((fronts ++ backs) ++ done) cs =
        subst (λ zs. IsPermutation (zs ++ done) cs) (were_answered false v) kept.each_once in
        record {
          each_once = subst (λ zs. IsPermutation zs (cs ++ c ∷ [])) (sym now_all)
              (add_end c (fronts ++ backs) done cs before);
          in_order = each_pair_append KeepsOrder cs (c ∷ []) kept.in_order (tt, tt)
              (each_weaker Starts (λ a. Each (KeepsOrder a) (c ∷ [])) (λ a lt.
              (λ late. omega (arith, h.0), tt)) cs kept.early);
          run = run_more m0 cs c kept.run gives;
          early = each_append StartsNow cs (c ∷ []) (later cs kept.early)
              (omega (arith, begun, h.0), tt);
          fits = each_append (λ (a : Call). IsOp units a.op) cs (c ∷ []) kept.fits (fitting, tt);
        }

    pairs : EachPair Earlier (split.prefix ++ o ∷ split.back)
    pairs = subst (EachPair Earlier) split.is calls.rises

    apart_front : Each (λ (p : PendingCall). p.first ≡ o.first → ⊥) split.prefix
    apart_front =
        each_weaker (λ p. Each (Earlier p) (o ∷ split.back)) (λ (p : PendingCall). p.first ≡ o.first
        → ⊥) (λ p q e. (let lt : p.first < o.first = q.0 in omega arith)) split.prefix
        (each_pair_across Earlier split.prefix (o ∷ split.back) pairs)

    apart_back : Each (λ (p : PendingCall). p.first ≡ o.first → ⊥) split.back
    apart_back =
        each_weaker (Earlier o) (λ (p : PendingCall). p.first ≡ o.first → ⊥) (λ p lt e.
        omega arith) split.back
        (each_pair_right Earlier split.prefix (o ∷ split.back) pairs).0

    -- the other pending calls were invoked at other positions
    pub apart_rest : Each (λ (p : PendingCall). p.first ≡ o.first → ⊥) (without x.worker os)
    apart_rest = subst (Each (λ (p : PendingCall). p.first ≡ o.first → ⊥)) (sym split.rest_is)
        (each_append (λ (p : PendingCall). p.first ≡ o.first
        → ⊥) split.prefix split.back apart_front
        apart_back)

    pub responded_v : (us bs : List Call) → is_v o.op ≡ true → r ≡ Done
        → IsLinearizationSoFar units past t (us ++ completion t Done o ∷ bs)
        → IsLinearizationSoFar units (x ∷ past) t (us ++ completion x.at r o ∷ bs)
    responded_v us bs v r_is kept =
        let c = completion t Done o in
        let d = completion x.at Done o in
        let cs = us ++ c ∷ bs in
        let f : Call → Call = ended_at t o.first x.at in
        let q : Call → Bool = is_open t o.first in
        let all = answered_calls t answer os ++ done in
        let all_is : all ≡ (fronts ++ c ∷ backs) ++ done =
        ap (λ zs. zs ++ done) (were_answered true v) in
        let opened : q c ≡ true = it_is_open t o in
        let c_to_d : f c ≡ d = ap (λ b. if b then with_last c x.at else c) opened in
        let no_front : count_by q fronts ≡ 0 = others_open t o.first split.prefix apart_front in
        let no_back : count_by q backs ≡ 0 = others_open t o.first split.back apart_back in
        let no_done : count_by q done ≡ 0 = completed_open t o.first done
        (each_weaker (IsCallOf (Semaphores units) (clock past)) (λ (a : Call). a.last < t)
        (λ a k. omega (arith, k.early, le, h.0)) done calls.completed) in
        let alone : count_by q all ≡ 1 =
        omega (
          arith,
          ap (count_by q) all_is,
          count_append q (fronts ++ c ∷ backs) done,
          count_append q fronts (c ∷ backs),
          count_cons q c backs,
          one_yes (q c) opened,
          no_front,
          no_back,
          no_done,
        ) in
        let alone_cs : count_by q us + (one (q c) + count_by q bs) ≡ 1 =
        omega (
          arith,
          alone,
          count_moved q all cs kept.each_once,
          count_append q us
              (c ∷ bs),
          count_cons q c bs,
        ) in
        let no_as : count_by q us ≡ 0 = omega (arith, alone_cs, one_yes (q c) opened) in
        let no_bs : count_by q bs ≡ 0 = omega (arith, alone_cs, one_yes (q c) opened) in
        let cs_now : map f cs ≡ us ++ d ∷ bs =
        map-append f us (c ∷ bs) ∙ ap (λ zs. zs ++ f c ∷ map f bs)
        (untouched t o.first x.at us no_as)
        ∙ ap (λ z. us ++ z ∷ map f bs) c_to_d ∙ ap (λ zs. us ++ d ∷ zs)
        (untouched t o.first x.at bs no_bs) in
        let pending_now : map f (fronts ++ c ∷ backs) ≡ fronts ++ d ∷ backs =
        map-append f fronts (c ∷ backs) ∙ ap (λ zs. zs ++ f c ∷ map f backs)
        (untouched t o.first x.at fronts no_front)
        ∙ ap (λ z. fronts ++ z ∷ map f backs) c_to_d ∙ ap (λ zs. fronts ++ d ∷ zs)
        (untouched t o.first x.at backs no_back) in
        let all_now : map f all ≡ (fronts ++ d ∷ backs) ++ done =
        ap (map f) all_is ∙ map-append f (fronts ++ c ∷ backs) done ∙ ap (λ zs.
        zs ++ map f done) pending_now ∙ ap (λ zs. (fronts ++ d ∷ backs) ++ zs)
        (untouched t o.first x.at done no_done) in
        let moved : IsPermutation ((fronts ++ d ∷ backs) ++ done) (us ++ d ∷ bs) =
        subst (λ zs. IsPermutation zs (us ++ d ∷ bs)) all_now
        (subst (IsPermutation (map f all)) cs_now (IsPermutation-map f all cs kept.each_once))
        in
        let done_now : IsLinearizationSoFar units (x ∷ past) t (us ++ d ∷ bs) = record {
          each_once = subst (λ zs. IsPermutation zs (us ++ d ∷ bs))
              (sym (now_all ∙ ap (λ z. (fronts ++ backs) ++ completion x.at z o ∷ done) r_is))
              (moved_right d fronts backs done (us ++ d ∷ bs) moved);
          in_order = pairs_changed KeepsOrder us c d bs kept.in_order (each_weaker Starts (λ a.
              KeepsOrder a d) (λ a lt late. omega (arith, h.0)) us
              (each_left Starts us (c ∷ bs) kept.early)) (λ b k. k);
          run = run_changed m0 us c d bs refl refl kept.run;
          early = later (us ++ d ∷ bs) (each_append Starts us (d ∷ bs)
              (each_left Starts us (c ∷ bs) kept.early) (each_right Starts us (c ∷ bs) kept.early));
          fits = each_append (λ (a : Call). IsOp units a.op) us (d ∷ bs)
              (each_left (λ (a : Call). IsOp units a.op) us (c ∷ bs) kept.fits)
              (each_right (λ (a : Call). IsOp units a.op) us (c ∷ bs) kept.fits);
        } in
        subst (λ z. IsLinearizationSoFar units (x ∷ past) t (us
        ++ completion x.at z o ∷ bs)) (sym r_is) done_now
