-- A history that shows a fault has no linearization.
use Rattle.std.proofs.Common.{◌≡◌, ℕ, ◌+◌, ◌<◌, ◌≤◌, inl, inr, Bool, true, false, nat_le, List, []}
use Rattle.std.proofs.Common.{◌∷◌, ◌++◌, Option, Some, None, refl, ap, sym, ◌∙◌, arith, subst}
use Rattle.std.proofs.Common.{count_by, append_assoc, Vec}
use Rattle.std.specs.declared.alloc.Global.{Global}
use Rattle.std.specs.List.{AllPairs}
use Rattle.std.proofs.lemmas.Bool.{le-leb, lt-leb, leb-true, cases_lt, and_from, and_right}
use Rattle.std.proofs.lemmas.Bool.{and_parts}
use Rattle.std.proofs.lemmas.List.Elements.{All-contains}
use Rattle.std.proofs.lemmas.List.Sorted.{All-permutation}
use Rattle.calls_core.specs.declared.history.Kind.TheVariants.{Semaphores}
use Rattle.calls_core.specs.declared.history.Op.{Op}
use Rattle.calls_core.specs.declared.history.Op.TheVariants.{Advance, Read, Await, Ticket, P, V}
use Rattle.calls_core.specs.declared.history.Op.TheVariants.{PBoth, Put, Get, Produce, Consume}
use Rattle.calls_core.specs.declared.history.Reply.{Reply}
use Rattle.calls_core.specs.declared.history.Event.{Event}
use Rattle.calls_core.specs.declared.history.PendingCall.{PendingCall}
use Rattle.calls_core.specs.declared.history.Call.{Call}
use Rattle.calls_core.specs.Lists.{Each}
use Rattle.calls_core.specs.Calls.{IsCallOf}
use Rattle.calls_core.specs.Histories.{IsHistoryOf, clock, completion, completed_calls}
use Rattle.calls_core.specs.Histories.{pending_calls}
use Rattle.calls_core.specs.Linearizations.{IsLegalHistory, KeepsOrder, answered_one}
use Rattle.calls_core.specs.Linearizations.{answered_calls, initial}
use Rattle.calls_core.specs.Outcomes.{IsOrderOf}
use Rattle.calls_core.proofs.Positions.{are_calls_of}
use Rattle.calls_core.proofs.Lists.{each_weaker, each_append, each_left, all_from_each}
use Rattle.calls_core.proofs.Filters.{each_from_all}
use Rattle.calls_core.proofs.Counting.{one, one_yes, one_no, count_cons, count_append, count_moved}
use Rattle.calls_core.proofs.Counting.{count_less, pairs_left}
use Rattle.calls_semaphores.specs.declared.fault.Fault.{Fault}
use Rattle.calls_semaphores.specs.Banks.{adds, took, took_by, added_by, pending_added_by}
use Rattle.calls_semaphores.specs.Faults.{Shows}
use Rattle.calls_semaphores.proofs.Runs.{IsOp, took_of, added_of, took_in, added_in, run_count}
use Rattle.calls_semaphores.proofs.Runs.{run_left}

-- THE LAST ELEMENT THAT PASSES A TEST

record LastOne {X : Type 0} (q : X → Bool) (cs : List X) : Type 0 where
  prefix : List X
  x : X
  back : List X
  is : cs ≡ prefix ++ x ∷ back
  yes : q x ≡ true
  none : count_by q back ≡ 0

last_one : {X : Type 0} (q : X → Bool) (cs : List X) → 0 < count_by q cs → LastOne q cs
last_one q [] lt = absurd (omega arith)
last_one q (y ∷ cs) lt =
    elim (cases_lt 0 (count_by q cs)) [
      | inl more ↦ (let r = last_one q cs more in record {
        prefix = y ∷ r.prefix;
        x = r.x;
        back =
            r.back;
        is = ap (λ zs. y ∷ zs) r.is;
        yes = r.yes;
        none = r.none;
      })
      | inr le ↦ record {
        prefix = [];
        x = y;
        back = cs;
        is = refl;
        yes = elim (q y) as (λ b. q y ≡ b → b ≡ true) [
          | true ↦ λ e. refl
          | false ↦ λ e.
              absurd (omega (arith, count_cons q y cs, one_no (q y) e))
        ] refl;
        none = omega arith;
      }
    ]

-- COMPLETED PENDING CALLS

one_late : (n t i : ℕ) (o : PendingCall) (r : Option Reply) → n < t
    → count_by (took_by n i) (answered_one t o r) ≡ 0
one_late n t i o None lt = refl
one_late n t i o (Some r) lt =
    omega (
      arith,
      count_cons (took_by n i) (completion t r o) [],
      one_no
          (took_by n i (completion t r o)) (and_right (took i o.op r) (nat_le t n) (lt-leb t n lt)),
    )

-- no answered pending call has its response up to n
answered_late : (n t i : ℕ) (answer : PendingCall → Option Reply) (os : List PendingCall) → n < t
    → count_by (took_by n i) (answered_calls t answer os) ≡ 0
answered_late n t i answer [] lt = refl
answered_late n t i answer (o ∷ os) lt =
    omega (
      arith,
      count_append (took_by n i) (answered_one t o (answer o))
          (answered_calls t answer os),
      one_late n t i o (answer o) lt,
      answered_late n t i answer os
          lt,
    )

one_pending : (n t i : ℕ) (o : PendingCall) (r : Option Reply)
    → count_by (added_by n i) (answered_one t o r) ≤ one (pending_added_by n i o)
one_pending n t i o None = omega arith
one_pending n t i o (Some r) = omega (arith, count_cons (added_by n i) (completion t r o) [])

answered_pending : (n t i : ℕ) (answer : PendingCall → Option Reply) (os : List PendingCall)
    → count_by (added_by n i) (answered_calls t answer os) ≤ count_by (pending_added_by n i) os
answered_pending n t i answer [] = omega arith
answered_pending n t i answer (o ∷ os) =
    omega (
      arith,
      count_append (added_by n i) (answered_one t o (answer o))
          (answered_calls t answer os),
      one_pending n t i o (answer o),
      answered_pending n t i answer
          os,
      count_cons (pending_added_by n i) o os,
    )

-- a call that took a unit adds none
took_adds_none : (i : ℕ) (op : Op) (r : Reply) → took i op r ≡ true → adds i op ≡ false
took_adds_none i (P j) r e = refl
took_adds_none i (V j) r e = cc
took_adds_none i (PBoth j k) r e = refl
took_adds_none i Advance r e = refl
took_adds_none i Read r e = refl
took_adds_none i (Await v) r e = refl
took_adds_none i Ticket r e = refl
took_adds_none i (Put v) r e = refl
took_adds_none i Get r e = refl
took_adds_none i (Produce v) r e = refl
took_adds_none i Consume r e = refl

not_later : (a b n : ℕ) → (b < a → ⊥) → b ≤ n → a ≤ n
not_later a b n h le = elim (cases_lt b a) [ inl lt ↦ absurd (h lt) | inr ge ↦ omega arith ]

module _ (units : Vec ℕ Global) where
  abbrev OfBank : Call → Type 0
  OfBank c = IsOp units c.op

  one_of_bank : (t : ℕ) (o : PendingCall) (r : Option Reply) → IsOp units o.op
      → Each OfBank (answered_one t o r)
  one_of_bank t o None h = tt
  one_of_bank t o (Some r) h = (h, tt)

  answered_of_bank : (t : ℕ) (answer : PendingCall → Option Reply) (os : List PendingCall)
      → Each (λ (o : PendingCall). IsOp units o.op) os → Each OfBank (answered_calls t answer os)
  answered_of_bank t answer [] h = tt
  answered_of_bank t answer (o ∷ os) h = each_append OfBank (answered_one t o (answer o))
      (answered_calls t answer os) (one_of_bank t o (answer o) h.0)
      (answered_of_bank t answer os h.1)

  pub fault_leaves_no_order : (past : List Event) (f : Fault) → IsHistoryOf (Semaphores units) past
      → Shows (Semaphores units) past f
      → (t : ℕ) → clock past ≤ t → (cs : List Call) → IsOrderOf (Semaphores units) past t cs → ⊥
  fault_leaves_no_order past f h s t le cs l =
      let kind = Semaphores units in
      let done = completed_calls past in
      let pending = pending_calls past in
      let given = are_calls_of kind past h in
      let i = f.index in
      let n = f.call.last in
      let took_up : Call → Bool = took_by n i in
      let added_up : Call → Bool = added_by n i in
      let all = answered_calls t l.answer pending ++ done in
      let early : IsCallOf kind (clock past) f.call = All-contains (IsCallOf kind (clock past)) done
      f.call (all_from_each (IsCallOf kind (clock past)) done given.completed) s.completed in
      let bank : Each OfBank all = each_append OfBank (answered_calls t l.answer pending) done
      (answered_of_bank t l.answer pending given.fits)
      (each_weaker (IsCallOf kind (clock past)) OfBank (λ c a. a.fits) done given.completed) in
      let bank_cs : Each OfBank cs = each_from_all OfBank cs
      (All-permutation OfBank all cs l.each_once (all_from_each OfBank all bank)) in
      let movedP = count_moved took_up all cs l.each_once in
      let splitP = count_append took_up (answered_calls t l.answer pending) done in
      let late = answered_late n t i l.answer pending (omega (arith, early.early)) in
      let r = last_one took_up cs (omega (arith, movedP, splitP, late, s.more)) in
      let d = r.x in
      let parts = and_parts (took i d.op d.reply) (nat_le d.last n) r.yes in
      let up : d.last ≤ n = leb-true d.last n parts.1 in
      let counted : count_by took_up cs ≡ count_by took_up r.prefix +
      (one (took_up d) + count_by took_up r.back) =
      ap (count_by took_up) r.is ∙ count_append took_up r.prefix (d ∷ r.back) ∙ ap (λ k.
      count_by took_up r.prefix + k) (count_cons took_up d r.back) in
      let fewer : count_by took_up r.prefix ≤ took_in i r.prefix =
      count_less took_up (took_of i) r.prefix (λ k x lt e. (and_parts _ _ e).0) in
      let again : cs ≡ (r.prefix ++ d ∷ []) ++ r.back = r.is ∙ sym
      (append_assoc r.prefix (d ∷ []) r.back) in
      let run : IsLegalHistory (initial (Some kind)) (r.prefix ++ d ∷ []) =
      run_left (initial (Some kind)) (r.prefix ++ d ∷ []) r.back
      (subst (IsLegalHistory (initial (Some kind))) again l.run) in
      let bank_front : Each OfBank (r.prefix ++ d ∷ []) =
      each_left OfBank (r.prefix ++ d ∷ []) r.back
      (subst (Each OfBank) again bank_cs) in
      let bound = run_count units (initial (Some kind)) i (r.prefix ++ d ∷ []) bank_front run in
      let took_front : took_in i (r.prefix ++ d ∷ []) ≡ took_in i r.prefix + 1 =
      omega (
        arith,
        count_append (took_of i) r.prefix (d ∷ []),
        count_cons
            (took_of i) d [],
        one_yes (took_of i d) parts.0,
      ) in
      let added_front : added_in i (r.prefix ++ d ∷ []) ≡ added_in i r.prefix =
      omega (
        arith,
        count_append (added_of i) r.prefix (d ∷ []),
        count_cons (added_of i) d [],
        one_no
            (added_of i d) (took_adds_none i d.op d.reply parts.0),
      ) in
      let before : Each (λ x. KeepsOrder x d) r.prefix =
      each_from_all (λ x. KeepsOrder x d) r.prefix
      (pairs_left KeepsOrder r.prefix d r.back (subst (AllPairs KeepsOrder) r.is l.in_order)) in
      let invoked : added_in i r.prefix ≤ count_by added_up r.prefix =
      count_less (added_of i) added_up r.prefix
      (all_from_each (λ (x : Call). added_of i x ≡ true → added_up x ≡ true) r.prefix
      (each_weaker (λ x. KeepsOrder x d) (λ (x : Call). added_of i x ≡ true → added_up x ≡ true)
      (λ x k e. and_from (adds i x.op) (nat_le x.first n) e
      (le-leb x.first n (not_later x.first d.last n k up))) r.prefix before)) in
      let countedV : count_by added_up cs ≡ count_by added_up r.prefix + count_by added_up
      (d ∷ r.back) = ap (count_by added_up) r.is ∙ count_append added_up r.prefix (d ∷ r.back) in
      omega (
        arith,
        movedP,
        splitP,
        late,
        counted,
        one_yes (took_up d) r.yes,
        r.none,
        fewer,
        bound,
        took_front,
        added_front,
        invoked,
        countedV,
        count_moved added_up all cs l.each_once,
        count_append added_up (answered_calls t l.answer pending) done,
        answered_pending n t i l.answer pending,
        s.more,
      )
