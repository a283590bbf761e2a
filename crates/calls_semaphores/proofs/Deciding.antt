-- Every history has a linearization or shows a fault.
use Rattle.std.proofs.Common.{◌≡◌, ℕ, zero, ◌+◌, ◌<◌, ◌≤◌, ◌==◌, ◌⊎◌, inl, inr, Bool, true, false}
use Rattle.std.proofs.Common.{◌&&◌, ◌||◌, nat_le, List, [], ◌∷◌, ◌++◌, Option, Some, None, refl, ap}
use Rattle.std.proofs.Common.{sym, arith, subst, count_by, Vec}
use Rattle.std.specs.declared.alloc.Global.{Global}
use Rattle.std.specs.List.{Contains}
use Rattle.std.proofs.lemmas.Bool.{eq-eqb, eqb-true, le-leb, lt-leb, cases_lt, and_from, and_right}
use Rattle.std.proofs.lemmas.Bool.{and_parts}
use Rattle.std.proofs.lemmas.List.Elements.{Contains-append_left, Contains-append_right}
use Rattle.std.proofs.lemmas.List.Elements.{All-contains}
use Rattle.std.proofs.lemmas.List.Sorted.{IsPermutation-refl, Contains-permutation}
use Rattle.calls_core.specs.declared.history.Kind.TheVariants.{Semaphores}
use Rattle.calls_core.specs.declared.history.Op.{Op}
use Rattle.calls_core.specs.declared.history.Op.TheVariants.{Advance, Read, Await, Ticket, P, V}
use Rattle.calls_core.specs.declared.history.Op.TheVariants.{PBoth, Put, Get, Produce, Consume}
use Rattle.calls_core.specs.declared.history.Reply.{Reply}
use Rattle.calls_core.specs.declared.history.Reply.TheVariants.{Done, Number, Timeout}
use Rattle.calls_core.specs.declared.history.Action.TheVariants.{Invoke, Respond}
use Rattle.calls_core.specs.declared.history.Event.{Event}
use Rattle.calls_core.specs.declared.history.PendingCall.{PendingCall}
use Rattle.calls_core.specs.declared.history.Call.{Call}
use Rattle.calls_core.specs.Calls.{IsCallOf}
use Rattle.calls_core.specs.Histories.{IsHistoryOf, IsNextOf, Suits, clock, completion}
use Rattle.calls_core.specs.Histories.{completed_calls, pending_calls, pending_of, without}
use Rattle.calls_core.specs.Histories.{invoked_by}
use Rattle.calls_core.specs.Linearizations.{answered_calls, initial}
use Rattle.calls_core.specs.Outcomes.{IsOrderOf, HasOrderOf}
use Rattle.calls_core.proofs.Positions.{are_calls_of}
use Rattle.calls_core.proofs.Lists.{each_weaker, all_from_each, all_pairs_from_each}
use Rattle.calls_core.proofs.Counting.{one, one_yes, one_no, count_cons, count_append, count_less}
use Rattle.calls_core.proofs.Counting.{split_at}
use Rattle.calls_semaphores.specs.declared.fault.Fault.{Fault}
use Rattle.calls_semaphores.specs.Banks.{adds, takes, took, took_by, added_by, pending_added_by}
use Rattle.calls_semaphores.specs.Faults.{Shows}
use Rattle.calls_semaphores.specs.Monitors.{units_taken, units_added}
use Rattle.calls_semaphores.specs.kept.Keeping.{is_v, answer, IsLinearizationSoFar}
use Rattle.calls_semaphores.proofs.Runs.{took_of, added_of, state_after}
use Rattle.calls_semaphores.proofs.Counts.{pending_invoke, completed_invoke, found_by}
use Rattle.calls_semaphores.proofs.Counts.{pending_respond, completed_respond, adds_of}
use Rattle.calls_semaphores.proofs.Counts.{added_respond, taken_respond, count_found}
use Rattle.calls_semaphores.proofs.Necessity.{fault_leaves_no_order}
use Rattle.calls_semaphores.proofs.Steps.{bank_gives, state_count, invoked_v, invoked_other, suited}
use Rattle.calls_semaphores.proofs.Steps.{fitting, fronts, backs, were_answered, responded_other}
use Rattle.calls_semaphores.proofs.Steps.{responded_v}

-- ENOUGH UNITS, OR TOO FEW

abbrev Enough : (ℕ → ℕ) → (ℕ → ℕ) → Op → Reply → Type 0
Enough a b op r = ((i : ℕ) → took i op r ≡ true → a i < b i) ⊎ ((i : ℕ) × (took i op r ≡ true)
    × (b i ≤ a i))

or_cases : (x y : Bool) → (x || y) ≡ true → (x ≡ true) ⊎ (y ≡ true)
or_cases true y e = inl refl
or_cases false y e = inr e

none_taken : (a b : ℕ → ℕ) (op : Op) (r : Reply) → ((i : ℕ) → took i op r ≡ false) → Enough a b op r
none_taken a b op r f = inl (λ i e. absurd (let no = f i in cc))

no_reply : (b : Bool) → (b && false) ≡ false
no_reply b = and_right b false refl

enough : (a b : ℕ → ℕ) (op : Op) (r : Reply) → Enough a b op r
enough a b op (Number n) = none_taken a b op (Number n) (λ i. no_reply (takes i op))
enough a b op Timeout = none_taken a b op Timeout (λ i. no_reply (takes i op))
enough a b (P j) Done =
    elim (cases_lt (a j) (b j)) [
      | inl lt ↦ inl (λ i e. subst (λ k. a k < b k) (eqb-true j i (and_parts (j == i) true e).0) lt)
      | inr ge ↦ inr (j, and_from (j == j) true (eq-eqb j j refl) refl, ge)
    ]
enough a b (PBoth j k) Done =
    elim (cases_lt (a j) (b j)) [
      | inr ge ↦ inr (
        j,
        and_from ((j == j) || (k == j)) true
            (ap (λ c. c || (k == j)) (eq-eqb j j refl)) refl,
        ge,
      )
      | inl lt ↦ elim (cases_lt (a k) (b k)) [
        | inr ge ↦ inr (
          k,
          and_from ((j == k) || (k == k)) true (either_second (j == k) (k == k)
              (eq-eqb k k refl)) refl,
          ge,
        )
        | inl less ↦ inl (λ i e. elim (or_cases (j == i) (k == i)
            (and_parts ((j == i) || (k == i)) true e).0) [
              | inl first ↦ subst (λ n. a n < b n) (eqb-true j i first) lt
              | inr second ↦ subst (λ n. a n < b n) (eqb-true k i second) less
            ])
      ]
    ]
  where
    either_second : (x y : Bool) → y ≡ true → (x || y) ≡ true
    either_second true y e = refl
    either_second false y e = e
enough a b (V j) Done = none_taken a b (V j) Done (λ i. refl)
enough a b Advance Done = none_taken a b Advance Done (λ i. refl)
enough a b Read Done = none_taken a b Read Done (λ i. refl)
enough a b (Await v) Done = none_taken a b (Await v) Done (λ i. refl)
enough a b Ticket Done = none_taken a b Ticket Done (λ i. refl)
enough a b (Put v) Done = none_taken a b (Put v) Done (λ i. refl)
enough a b Get Done = none_taken a b Get Done (λ i. refl)
enough a b (Produce v) Done = none_taken a b (Produce v) Done (λ i. refl)
enough a b Consume Done = none_taken a b Consume Done (λ i. refl)

pub v_done : (op : Op) (r : Reply) → is_v op ≡ true → Suits op r → r ≡ Done
v_done (V i) Done e s = refl
v_done (V i) (Number n) e s = absurd s
v_done (V i) Timeout e s = absurd s
v_done (P i) r e s = cc
v_done (PBoth i j) r e s = cc
v_done Advance r e s = cc
v_done Read r e s = cc
v_done (Await v) r e s = cc
v_done Ticket r e s = cc
v_done (Put v) r e s = cc
v_done Get r e s = cc
v_done (Produce v) r e s = cc
v_done Consume r e s = cc

no_next : (units : Vec ℕ Global) (r : Reply) (p : Option PendingCall) → p ≡ None
    → IsNextOf (Semaphores units) (Respond r) p → ⊥
no_next units r p e h = subst (IsNextOf (Semaphores units) (Respond r)) e h

module _ (units : Vec ℕ Global) where
  abbrev first : ℕ → ℕ
  first = initial (Some (Semaphores units))

  pub no_pending : (x : Event) (past : List Event) → IsHistoryOf (Semaphores units) (x ∷ past)
      → (r : Reply) → x.action ≡ Respond r → pending_of x.worker (pending_calls past) ≡ None → ⊥
  no_pending x past h r e none = no_next units r (pending_of x.worker (pending_calls past)) none
      (subst (λ a. IsNextOf (Semaphores units) a (pending_of x.worker (pending_calls past))) e h.1)

  -- FAULTS

  -- a call that takes a unit of a semaphore that has none left shows a fault
  pub shows_new : (x : Event) (past : List Event) → IsHistoryOf (Semaphores units) (x ∷ past)
      → (r : Reply) (o : PendingCall) → x.action ≡ Respond r
      → pending_of x.worker (pending_calls past) ≡ Some o
      → (i : ℕ) → took i o.op r ≡ true → first i + units_added i past ≤ units_taken i past
      → Shows (Semaphores units) (x ∷ past) (record { call = completion x.at r o; index = i })
  shows_new x past h r o e f i takes few =
      let all = x ∷ past in
      let n = x.at in
      let now = completed_respond x past r o e f in
      let less : count_by (added_by n i) (completed_calls all) ≤ count_by (added_of i)
      (completed_calls all) = count_less (added_by n i) (added_of i) (completed_calls all)
      (λ k d lt q. (and_parts _ _ q).0) in
      let less_pending : count_by (pending_added_by n i) (pending_calls all) ≤ count_by (adds_of i)
      (pending_calls all) = count_less (pending_added_by n i) (adds_of i) (pending_calls all)
      (λ k d lt q. (and_parts _ _ q).0) in
      let more : count_by (took_of i) (completed_calls all) ≤ count_by (took_by n i)
      (completed_calls all) =
      count_less (took_of i) (took_by n i) (completed_calls all)
      (all_from_each (λ (c : Call). took_of i c ≡ true → took_by n i c ≡ true)
      (completed_calls all)
      (each_weaker (IsCallOf (Semaphores units) (clock all)) (λ (c : Call). took_of i c ≡ true
      → took_by n i c ≡ true)
      (λ c a q. and_from (took i c.op c.reply) (nat_le c.last n) q
      (le-leb c.last n (omega (arith, a.early)))) (completed_calls all)
      (are_calls_of (Semaphores units) all h).completed)) in
      record {
        completed = subst (λ cs. Contains cs (completion x.at r o)) (sym now)
            (zero, omega arith, refl);
        took = takes;
        more = omega (
          arith,
          less,
          less_pending,
          more,
          few,
          added_respond x past r o i e f,
          taken_respond x past r o i e f,
          one_yes (took i o.op r) takes,
        );
      }

  -- a fault that a history shows, it shows with one more event too
  module _ (x : Event) (past : List Event) (h : IsHistoryOf (Semaphores units) (x ∷ past))
      (f : Fault) (s : Shows (Semaphores units) past f) where
    abbrev n : ℕ
    n = f.call.last

    early : n < x.at
    early =
        let call : IsCallOf (Semaphores units) (clock past) f.call =
        All-contains (IsCallOf (Semaphores units) (clock past)) (completed_calls past) f.call
        (all_from_each (IsCallOf (Semaphores units) (clock past)) (completed_calls past)
        (are_calls_of (Semaphores units) past h.2).completed) s.completed in
        omega (arith, call.early, h.0)

    now_late : (b : Bool) → one (b && nat_le x.at n) ≡ 0
    now_late b = one_no (b && nat_le x.at n) (and_right b (nat_le x.at n) (lt-leb x.at n early))

    shows_invoke : (k : ℕ) (op : Op) → x.action ≡ Invoke k op
        → Shows (Semaphores units) (x ∷ past) f
    shows_invoke k op e =
        let same = completed_invoke x past k op e in
        record {
          completed = subst (λ cs. Contains cs f.call) (sym same) s.completed;
          took = s.took;
          more = omega (
            arith,
            s.more,
            ap (count_by (took_by n f.index)) same,
            ap (count_by (added_by n f.index)) same,
            ap (count_by (pending_added_by n f.index)) (pending_invoke x past k op e),
            count_append (pending_added_by n f.index) (pending_calls past) (invoked_by x k op ∷ []),
            count_cons (pending_added_by n f.index) (invoked_by x k op) [],
            now_late (adds f.index op),
          );
        }

    shows_respond : (r : Reply) (o : PendingCall) → x.action ≡ Respond r
        → pending_of x.worker (pending_calls past) ≡ Some o → Shows (Semaphores units) (x ∷ past) f
    shows_respond r o e q =
        let now = completed_respond x past r o e q in
        let c = completion x.at r o in
        record {
          completed = subst (λ cs. Contains cs f.call) (sym now) (Contains-append_right (c ∷ [])
              (completed_calls past) f.call s.completed);
          took = s.took;
          more = omega (
            arith,
            s.more,
            ap (count_by (took_by n f.index)) now,
            count_cons (took_by n f.index) c (completed_calls past),
            now_late (took f.index o.op r),
            ap (count_by (added_by n f.index)) now,
            count_cons (added_by n f.index) c (completed_calls past),
            ap (count_by (pending_added_by n f.index)) (pending_respond x past r e),
            count_found (pending_added_by n f.index) x.worker (pending_calls past) o
                (without x.worker (pending_calls past))
                (found_by x.worker (pending_calls past) o q),
          );
        }

    shows_response : (r : Reply) → x.action ≡ Respond r → (o : Option PendingCall)
        → pending_of x.worker (pending_calls past) ≡ o → Shows (Semaphores units) (x ∷ past) f
    shows_response r e None q = absurd (no_pending x past h r e q)
    shows_response r e (Some o) q = shows_respond r o e q

    shows_later : Shows (Semaphores units) (x ∷ past) f
    shows_later =
        elim x.action as (λ a. x.action ≡ a → Shows (Semaphores units) (x ∷ past) f) [
          | Invoke k op ↦ λ e. shows_invoke k op e
          | Respond r ↦ λ e. shows_response r e (pending_of x.worker (pending_calls past)) refl
        ] refl

  -- LINEARIZATIONS

  abbrev pub HasKept : List Event → Type 0
  HasKept past = (t : ℕ) → clock past ≤ t → (cs : List Call) × IsLinearizationSoFar units past t cs

  pub kept_start : (t : ℕ) → IsLinearizationSoFar units [] t []
  kept_start t = record {
    each_once = IsPermutation-refl [];
    in_order = tt;
    run = tt;
    early = tt;
    fits = tt;
  }

  pub order_of_kept : (past : List Event) (t : ℕ) (cs : List Call)
      → IsLinearizationSoFar units past t cs
      → IsOrderOf (Semaphores units) past t cs
  order_of_kept past t cs k = record {
    answer = answer;
    each_once = k.each_once;
    in_order =
        all_pairs_from_each _ cs k.in_order;
    run = k.run;
  }

  module _ (x : Event) (past : List Event) (h : IsHistoryOf (Semaphores units) (x ∷ past)) where
    before : (t : ℕ) → clock (x ∷ past) ≤ t → clock past ≤ t
    before t le = omega (arith, h.0)

    pub has_invoked : (k : ℕ) (op : Op) → x.action ≡ Invoke k op → HasKept past → HasKept (x ∷ past)
    has_invoked k op e kept = λ t le.
        let r = kept t (before t le) in
        elim (is_v op) as (λ b. is_v op ≡ b → (cs : List Call)
        × IsLinearizationSoFar units (x ∷ past) t cs) [
          | true ↦ λ v. (
            r.0 ++ completion t Done (invoked_by x k op) ∷ [],
            invoked_v units x past t
                h le k op r.0 e v r.1,
          )
          | false ↦ λ v. (r.0, invoked_other units x past t h le k op r.0 e v r.1)
        ] refl

    module _ (r : Reply) (o : PendingCall) (e : x.action ≡ Respond r)
        (f : pending_of x.worker (pending_calls past) ≡ Some o) where
      represents : (t : ℕ) (le : clock (x ∷ past) ≤ t) (cs : List Call) → is_v o.op ≡ true
          → IsLinearizationSoFar units past t cs → Contains cs (completion t Done o)
      represents t le cs v kept =
          let c = completion t Done o in
          let all = answered_calls t answer (pending_calls past) in
          let here : Contains all c =
          subst (λ zs. Contains zs c) (sym (were_answered units x past t h le r o e f true v))
          (Contains-append_right (fronts units x past t h le r o e f)
          (c ∷ backs units x past t h le r o e f) c (zero, omega arith, refl)) in
          Contains-permutation (all ++ completed_calls past) cs c kept.each_once
          (Contains-append_left all (completed_calls past) c here)

      pub has_v : is_v o.op ≡ true → HasKept past → HasKept (x ∷ past)
      has_v v kept = λ t le.
          let k = kept t (before t le) in
          let s = split_at k.0 (completion t Done o) (represents t le k.0 v k.1) in (
            s.prefix ++ completion x.at r o ∷ s.back,
            responded_v units x past t h le r o e f s.prefix s.back v
                (v_done o.op r v (suited units x past t h le r o e f))
                (subst (IsLinearizationSoFar units past t) s.is k.1),
          )

      -- a call that is no v, if the units that it takes are left, is added at the end
      pub has_other : is_v o.op ≡ false → ((i : ℕ) → took i o.op r ≡ true
          → units_taken i past < first i + units_added i past) → HasKept past → HasKept (x ∷ past)
      has_other v units_are kept = λ t le.
          let k = kept t (before t le) in (
            k.0 ++ completion x.at r o ∷ [],
            responded_other units x past t h le r o e f k.0 v
                (bank_gives units (state_after first k.0) o.op r
                (fitting units x past t h le r o e f) (suited units x past t h le r o e f)
                (λ i q. omega (
                  arith,
                  units_are i q,
                  state_count units x past t h le i k.0
                      k.1,
                ))) k.1,
          )

      pub has_responded : HasKept past → HasKept (x ∷ past)
          ⊎ ((g : Fault) × Shows (Semaphores units) (x ∷ past) g)
      has_responded kept =
          elim (is_v o.op) as (λ b. is_v o.op ≡ b → HasKept (x ∷ past)
          ⊎ ((g : Fault) × Shows (Semaphores units) (x ∷ past) g)) [
            | true ↦ λ v. inl (has_v v kept)
            | false ↦ λ v. elim (enough (λ i. units_taken i past) (λ i.
                first i + units_added i past) o.op r) [
                  | inl some ↦ inl (has_other v some kept)
                  | inr few ↦ inr (
                    record {
                      call = completion x.at r o;
                      index =
                          few.0;
                    },
                    shows_new x past h r o e f few.0 few.1 few.2,
                  )
                ]
          ] refl

  pub kept_or_fault : (past : List Event) → IsHistoryOf (Semaphores units) past → HasKept past
      ⊎ ((g : Fault) × Shows (Semaphores units) past g)
  kept_or_fault [] h = inl (λ t le. ([], kept_start t))
  kept_or_fault (x ∷ past) h =
      elim (kept_or_fault past h.2) [
        | inr s ↦ inr (s.0, shows_later x past h s.0 s.1)
        | inl kept ↦ elim x.action as (λ a. x.action ≡ a → HasKept (x ∷ past)
            ⊎ ((g : Fault) × Shows (Semaphores units) (x ∷ past) g)) [
              | Invoke k op ↦ λ e. inl (has_invoked x past h k op e kept)
              | Respond r ↦ λ e. elim (pending_of x.worker (pending_calls past)) as (λ p.
                  pending_of x.worker (pending_calls past) ≡ p → HasKept (x ∷ past)
                  ⊎ ((g : Fault) × Shows (Semaphores units) (x ∷ past) g)) [
                    | None ↦ λ q. absurd (no_pending x past h r e q)
                    | Some o ↦ λ q. has_responded x past h r o e q kept
                  ] refl
            ] refl
      ]

  pub has_order : (past : List Event) → HasKept past → HasOrderOf (Semaphores units) past
  has_order past kept = (let k = kept (clock past) (omega arith) in
      (k.0, order_of_kept past (clock past) k.0 k.1))

  pub decided : (past : List Event) → IsHistoryOf (Semaphores units) past
      → HasOrderOf (Semaphores units) past ⊎ ((g : Fault) × Shows (Semaphores units) past g)
  decided past h = elim (kept_or_fault past h) [
    | inl kept ↦ inl (has_order past kept)
    | inr s ↦
        inr s
  ]

  -- a history that has any linearization has one of this form
  pub kept_of_order : (past : List Event) → IsHistoryOf (Semaphores units) past → (t : ℕ)
      → clock past ≤ t → (cs : List Call) → IsOrderOf (Semaphores units) past t cs → HasKept past
  kept_of_order past h t le cs l = elim (kept_or_fault past h) [
    | inl kept ↦ kept
    | inr s ↦
        absurd (fault_leaves_no_order units past s.0 h s.1 t le cs l)
  ]
