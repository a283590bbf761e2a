-- The steps of the scan.
use Rattle.std.proofs.Common.{◌≡◌, ℕ, zero, suc, ◌+◌, ◌<◌, ◌≤◌, ◌==◌, true, false, ◌||◌, List}
use Rattle.std.proofs.Common.{[], ◌∷◌, ◌++◌, length, set, map, get_or, Some, None, refl, ap, sym}
use Rattle.std.proofs.Common.{◌∙◌, arith, subst, Vec, slice_get, slice_index}
use Rattle.std.specs.declared.alloc.Global.{Global}
use Rattle.std.specs.List.{remove}
use Rattle.std.proofs.lemmas.Bool.{eqb-true, and_parts}
use Rattle.std.proofs.lemmas.List.{map-append}
use Rattle.std.proofs.lemmas.Option.{slice_get_within, get_or_from_slice_get}
use Rattle.calls_core.specs.declared.history.Kind.TheVariants.{Semaphores}
use Rattle.calls_core.specs.declared.history.Op.{Op}
use Rattle.calls_core.specs.declared.history.Op.TheVariants.{Advance, Read, Await, Ticket, P, V}
use Rattle.calls_core.specs.declared.history.Op.TheVariants.{PBoth, Put, Get, Produce, Consume}
use Rattle.calls_core.specs.declared.history.Reply.{Reply}
use Rattle.calls_core.specs.declared.history.Reply.TheVariants.{Done}
use Rattle.calls_core.specs.declared.history.Action.TheVariants.{Invoke, Respond}
use Rattle.calls_core.specs.declared.history.Event.{Event}
use Rattle.calls_core.specs.declared.history.PendingCall.{PendingCall}
use Rattle.calls_core.specs.declared.history.Call.{Call}
use Rattle.calls_core.specs.Lists.{Each}
use Rattle.calls_core.specs.Histories.{IsHistoryOf, clock, completion, pending_calls, pending_of}
use Rattle.calls_core.specs.Histories.{without, invoked_by}
use Rattle.calls_core.specs.Linearizations.{initial}
use Rattle.calls_core.specs.Points.{with_response}
use Rattle.calls_core.proofs.Lists.{each_weaker, each_append, each_both}
use Rattle.calls_core.proofs.Counting.{one_yes}
use Rattle.calls_core.specs.declared.pending.NotedCall.{NotedCall}
use Rattle.calls_core.specs.Pending.{noted_calls, IsNotedOf}
use Rattle.calls_semaphores.specs.declared.bank.Bank.{Bank}
use Rattle.calls_semaphores.specs.declared.scan.Scan.{Scan}
use Rattle.calls_semaphores.specs.Banks.{takes, took}
use Rattle.calls_semaphores.specs.Monitors.{AreLeft, IsRefusedAt, units_left, units_taken}
use Rattle.calls_semaphores.specs.Monitors.{units_added}
use Rattle.calls_semaphores.specs.kept.Keeping.{is_v, one_if, Distinct, IsOpened, AreAdded, TakenAs}
use Rattle.calls_semaphores.specs.kept.Keeping.{IsLinearizationSoFar, IsPlaced, Holds}
use Rattle.calls_semaphores.proofs.Runs.{IsOp, state_after}
use Rattle.calls_semaphores.proofs.Counts.{pending_invoke, pending_respond, completed_respond}
use Rattle.calls_semaphores.proofs.Counts.{added_invoke, taken_invoke, added_respond, taken_respond}
use Rattle.calls_semaphores.proofs.Necessity.{fault_leaves_no_order}
use Rattle.calls_semaphores.proofs.Steps.{bank_gives, state_count, invoked_v, invoked_other, suited}
use Rattle.calls_semaphores.proofs.Steps.{fitting, responded_other, responded_v, apart_rest}
use Rattle.calls_semaphores.proofs.Deciding.{shows_new, no_pending, kept_start, v_done}

-- THE PENDING CALL OF A WORKER

pub record IsAt (us : List NotedCall) (w k : ℕ) (u : NotedCall) : Type 0 where
  pub item : slice_get us k ≡ Some u
  pub his : pending_of w (noted_calls us) ≡ Some u.call
  pub rest : without w (noted_calls us) ≡ noted_calls (remove us k)

pub at_noted : (us : List NotedCall) (w k : ℕ) (u : NotedCall) → IsNotedOf us w k
    → u ≡ get_or us k u → IsAt us w k u
at_noted us w k u h e = subst (IsAt us w k)
    (sym (get_or_from_slice_get us k h.call u h.at) ∙ sym e)
    (record { item = h.at; his = h.first; rest = h.others })

-- LISTS

pub each_removed : {X : Type 0} (Q : X → Type 0) (xs : List X) (k : ℕ) → Each Q xs
    → Each Q (remove xs k)
each_removed Q [] zero h = tt
each_removed Q [] (suc k) h = tt
each_removed Q (x ∷ xs) zero h = h.1
each_removed Q (x ∷ xs) (suc k) h = (h.0, each_removed Q xs k h.1)

each_unmapped : {X Y : Type 0} (f : X → Y) (Q : Y → Type 0) (xs : List X) → Each Q (map f xs)
    → Each (λ x. Q (f x)) xs
each_unmapped f Q [] h = tt
each_unmapped f Q (x ∷ xs) h = (h.0, each_unmapped f Q xs h.1)

each_got : {X : Type 0} (Q : X → Type 0) (xs : List X) (k : ℕ) (x : X) → Each Q xs
    → slice_get xs k ≡ Some x → Q x
each_got Q [] k x h e = absurd (cc)
each_got Q (y ∷ xs) zero x h e = (let same : y ≡ x = cc in subst Q same h.0)
each_got Q (y ∷ xs) (suc k) x h e = each_got Q xs k x h.1 e

same_first : {t : ℕ} {r : Reply} {o p : PendingCall} → Some (completion t r o) ≡ Some
    (completion t r p) → p.first ≡ o.first
same_first {t} {r} {o} {p} e = (let same : completion t r o ≡ completion t r p = cc in
    sym (ap (λ (c : Call). c.first) same))

get_more : {X : Type 0} (xs ys : List X) (k : ℕ) (x : X) → slice_get xs k ≡ Some x
    → slice_get (xs ++ ys) k ≡ Some x
get_more [] ys k x e = absurd (cc)
get_more (y ∷ xs) ys zero x e = e
get_more (y ∷ xs) ys (suc k) x e = get_more xs ys k x e

get_last : {X : Type 0} (xs : List X) (x : X) → slice_get (xs ++ x ∷ []) (length xs) ≡ Some x
get_last [] x = refl
get_last (y ∷ xs) x = get_last xs x

pub get_other : {X : Type 0} (xs : List X) (k j : ℕ) (y : X) → (k ≡ j → ⊥)
    → slice_get (set xs k y) j ≡ slice_get xs j
get_other [] k j y h = refl
get_other (x ∷ xs) zero zero y h = absurd (h refl)
get_other (x ∷ xs) zero (suc j) y h = refl
get_other (x ∷ xs) (suc k) zero y h = refl
get_other (x ∷ xs) (suc k) (suc j) y h = get_other xs k j y (λ e. h (ap suc e))

record IsSplit {X : Type 0} (xs : List X) (k : ℕ) (x : X) : Type 0 where
  prefix : List X
  back : List X
  is : xs ≡ prefix ++ x ∷ back
  changed : (y : X) → set xs k y ≡ prefix ++ y ∷ back

split_get : {X : Type 0} (xs : List X) (k : ℕ) (x : X) → slice_get xs k ≡ Some x → IsSplit xs k x
split_get [] k x e = absurd (cc)
split_get (y ∷ xs) zero x e = record {
  prefix = [];
  back = xs;
  is =
      (let same : y ≡ x = cc in ap (λ z. z ∷ xs) same);
  changed = λ z. refl;
}
split_get (y ∷ xs) (suc k) x e =
    (let r = split_get xs k x e in record {
      prefix = y ∷ r.prefix;
      back = r.back;
      is =
          ap (λ zs. y ∷ zs) r.is;
      changed = λ z. ap (λ zs. y ∷ zs) (r.changed z);
    })

-- THE UNITS THAT ARE LEFT

distinct_op : (units : Vec ℕ Global) (op : Op) → IsOp units op → Distinct op
distinct_op units (PBoth i j) h = h.2
distinct_op units (P i) h = tt
distinct_op units (V i) h = tt
distinct_op units Advance h = tt
distinct_op units Read h = tt
distinct_op units (Await v) h = tt
distinct_op units Ticket h = tt
distinct_op units (Put v) h = tt
distinct_op units Get h = tt
distinct_op units (Produce v) h = tt
distinct_op units Consume h = tt

-- a call takes units only of semaphores of the bank
in_bank : (units : Vec ℕ Global) (op : Op) (i : ℕ) → IsOp units op → takes i op ≡ true
    → i < length units.items
in_bank units (P j) i h e = subst (λ k. k < length units.items) (eqb-true j i e) h
in_bank units (PBoth j k) i h e =
    elim (j == i) as (λ b. (j == i) ≡ b → (b || (k == i)) ≡ true → i < length units.items) [
      | true ↦ λ is f. subst (λ n. n < length units.items) (eqb-true j i is) h.0
      | false ↦ λ is f. subst (λ n. n < length units.items) (eqb-true k i f) h.1
    ] refl e
in_bank units (V j) i h e = cc
in_bank units Advance i h e = absurd h
in_bank units Read i h e = absurd h
in_bank units (Await v) i h e = absurd h
in_bank units Ticket i h e = absurd h
in_bank units (Put v) i h e = absurd h
in_bank units Get i h e = absurd h
in_bank units (Produce v) i h e = absurd h
in_bank units Consume i h e = absurd h

pub left_start : (units : List ℕ) (b : Bank) → IsOpened units b → AreLeft units [] b
left_start units b h = record {
  same = h.same;
  each = λ i lt. omega (arith, h.none i, ap (λ xs. slice_index xs i) h.first);
}

pub left_invoked : (units : List ℕ) (x : Event) (past : List Event) (k : ℕ) (op : Op)
    (old new : Bank) → x.action ≡ Invoke k op → AreLeft units past old
    → length new.added.items ≡ length old.added.items → AreAdded old new op
    → AreLeft units (x ∷ past) new
left_invoked units x past k op old new e h same more = record {
  same = same ∙ h.same;
  each = λ i lt. omega (
    arith,
    h.each i lt,
    more i (omega (arith, lt, h.same)),
    added_invoke x past
        k op i e,
    taken_invoke x past k op i e,
  );
}

pub left_responded : (units : List ℕ) (x : Event) (past : List Event) (r : Reply) (o : PendingCall)
    (old new : Bank) → x.action ≡ Respond r → pending_of x.worker (pending_calls past) ≡ Some o
    → AreLeft units past old
    → length new.added.items ≡ length old.added.items → ((i : ℕ)
    → units_left new i + one_if (took i o.op r) ≡ units_left old i)
    → AreLeft units (x ∷ past) new
left_responded units x past r o old new e f h same less = record {
  same = same ∙ h.same;
  each = λ i lt. omega (
    arith,
    h.each i lt,
    less i,
    added_respond x past r o i e f,
    taken_respond x
        past r o i e f,
  );
}

module _ (units : Vec ℕ Global) (x : Event) (past : List Event) (h : IsHistoryOf (Semaphores units)
    (x ∷ past)) (r : Reply) (o : PendingCall) (is : x.action ≡ Respond r)
    (found : pending_of x.worker (pending_calls past) ≡ Some o)
    (old new : Bank) (left : AreLeft units.items past old) where
  here : clock (x ∷ past) ≤ x.at + 1
  here = omega arith

  fits : IsOp units o.op
  fits = fitting units x past (x.at + 1) h here r o is found

  pub refused : (i : ℕ) → TakenAs old new o.op r (Some i)
      → IsRefusedAt units past x (record { call = completion x.at r o; index = i })
  refused i short =
      let few = left.each i (in_bank units o.op i fits (and_parts _ _ short.0).0) in
      let shown = shows_new units x past h r o is found i short.0 (omega (arith, few, short.1)) in
      record {
        ended = completed_respond x past r o is found;
        shows = shown;
        none = λ t le cs l. fault_leaves_no_order units (x ∷ past) (record {
          call =
              completion x.at r o;
          index = i;
        }) h shown t le cs l;
      }

  less : TakenAs old new o.op r None → (i : ℕ) → units_left new i + one_if (took i o.op r)
      ≡ units_left old i
  less taken = taken (distinct_op units o.op fits)

  pub left_now : length new.added.items ≡ length old.added.items → TakenAs old new o.op r None
      → AreLeft units.items (x ∷ past) new
  left_now same taken = left_responded units.items x past r o old new is found left same
      (less taken)

  pub some_left : TakenAs old new o.op r None → (i : ℕ) → took i o.op r ≡ true
      → units_taken i past < initial (Some (Semaphores units)) i + units_added i past
  some_left taken i e = omega (
    arith,
    left.each i (in_bank units o.op i fits (and_parts _ _ e).0),
    less taken i,
    one_yes (took i o.op r) e,
  )

-- THE INVARIANT OF THE SCAN

pub scan_start : (units : Vec ℕ Global) (s : Scan) → IsOpened units.items s.bank
    → s.pending.items ≡ [] → s.order ≡ [] → Holds units [] s
scan_start units s opened pending order = record {
  pending = ap noted_calls pending;
  left = left_start units.items s.bank opened;
  kept = subst (IsLinearizationSoFar units [] s.end) (sym order) (kept_start units s.end);
  places = subst (Each (IsPlaced s.end s.order)) (sym pending) tt;
}

placed_more : (t : ℕ) (cs : List Call) (c : Call) (os : List NotedCall) → Each (IsPlaced t cs) os
    → Each (IsPlaced t (cs ++ c ∷ [])) os
placed_more t cs c os h = each_weaker (IsPlaced t cs) (IsPlaced t (cs ++ c ∷ [])) (λ o f v.
    get_more cs (c ∷ []) o.noted (completion t Done o.call) (f v)) os h

module _ (units : Vec ℕ Global) (x : Event) (past : List Event) (h : IsHistoryOf (Semaphores units)
    (x ∷ past)) (old : Scan) (k : Holds units past old) (r : Reply) (is : x.action ≡ Respond r)
  where
    pub scan_nobody : pending_of x.worker (noted_calls old.pending.items) ≡ None → ⊥
    scan_nobody none = no_pending units x past h r is (subst (λ ps.
        pending_of x.worker ps ≡ None) k.pending none)

    module _ (i : ℕ) (o : NotedCall) (at : IsAt old.pending.items x.worker i o)
      where
        pub scan_found : pending_of x.worker (pending_calls past) ≡ Some o.call
        scan_found = subst (λ ps. pending_of x.worker ps ≡ Some o.call) k.pending at.his

        pub scan_refused : (new : Bank) (index : ℕ) → TakenAs old.bank new o.call.op r (Some index)
            → IsRefusedAt units past x (record { call = completion x.at r o.call; index = index })
        scan_refused new index short = refused units x past h r o.call is scan_found old.bank new
            k.left
            index short

        pub placed_within : is_v o.call.op ≡ true → o.noted < length old.order
        placed_within v = slice_get_within old.order o.noted (completion old.end Done o.call)
            (each_got (IsPlaced old.end old.order) old.pending.items i o k.places at.item v)

module _ (units : Vec ℕ Global) (x : Event) (past : List Event) (h : IsHistoryOf (Semaphores units)
    (x ∷ past)) (old new : Scan) (le : clock (x ∷ past) ≤ old.end) (k : Holds units past old)
    (end : new.end ≡ old.end) where
  abbrev os : List NotedCall
  os = old.pending.items

  -- INVOCATIONS

  module _ (j : ℕ) (op : Op) (is : x.action ≡ Invoke j op) (pending : new.pending.items ≡ os
      ++ record { call = invoked_by x j op; noted = length old.order } ∷ [])
      (same : length new.bank.added.items ≡ length old.bank.added.items)
      (more : AreAdded old.bank new.bank op) where
    abbrev it : NotedCall
    it = record { call = invoked_by x j op; noted = length old.order }

    pending_now : noted_calls new.pending.items ≡ pending_calls (x ∷ past)
    pending_now = ap noted_calls pending ∙ map-append (λ (o : NotedCall). o.call) os (it ∷ [])
        ∙ ap (λ zs.
        zs ++ invoked_by x j op ∷ []) k.pending ∙ sym (pending_invoke x past j op is)

    left_new : AreLeft units.items (x ∷ past) new.bank
    left_new = left_invoked units.items x past j op old.bank new.bank is k.left same more

    pub scan_invoked_v : is_v op ≡ true → new.order ≡ old.order ++ completion old.end
        Done (invoked_by x j op) ∷ [] → Holds units (x ∷ past) new
    scan_invoked_v v order =
        let c = completion old.end Done (invoked_by x j op) in
        let kept : IsLinearizationSoFar units (x ∷ past) old.end (old.order ++ c ∷ []) =
        invoked_v units x past old.end h le j op old.order is v k.kept in
        let placed : Each (IsPlaced old.end (old.order ++ c ∷ [])) (os ++ it ∷ []) =
        each_append (IsPlaced old.end (old.order ++ c ∷ [])) os (it ∷ [])
        (placed_more old.end old.order c os k.places) (
          λ w.
              get_last old.order c,
          tt,
        ) in
        record {
          pending = pending_now;
          left = left_new;
          kept = subst (λ t. IsLinearizationSoFar units (x ∷ past) t new.order) (sym end)
              (subst (IsLinearizationSoFar units (x ∷ past) old.end) (sym order) kept);
          places = subst (λ t. Each (IsPlaced t new.order) new.pending.items) (sym end)
              (subst (λ cs. Each (IsPlaced old.end cs) new.pending.items) (sym order)
              (subst (Each (IsPlaced old.end (old.order ++ c ∷ []))) (sym pending) placed));
        }

    pub scan_invoked_other : is_v op ≡ false → new.order ≡ old.order
        → Holds units (x ∷ past) new
    scan_invoked_other v order =
        let kept : IsLinearizationSoFar units (x ∷ past) old.end old.order =
        invoked_other units x past old.end h le j op old.order is v k.kept in
        let none : is_v op ≡ true → slice_get old.order (length old.order) ≡ Some
        (completion old.end Done (invoked_by x j op)) = λ w. cc in
        let placed : Each (IsPlaced old.end old.order) (os ++ it ∷ []) =
        each_append (IsPlaced old.end old.order) os (it ∷ []) k.places (none, tt) in
        record {
          pending = pending_now;
          left = left_new;
          kept = subst (λ t. IsLinearizationSoFar units (x ∷ past) t new.order) (sym end)
              (subst (IsLinearizationSoFar units (x ∷ past) old.end) (sym order) kept);
          places = subst (λ t. Each (IsPlaced t new.order) new.pending.items) (sym end)
              (subst (λ cs. Each (IsPlaced old.end cs) new.pending.items) (sym order)
              (subst (Each (IsPlaced old.end old.order)) (sym pending) placed));
        }

  -- RESPONSES

  module _ (r : Reply) (is : x.action ≡ Respond r) (i : ℕ) (o : NotedCall)
      (at : IsAt os x.worker i o) where
    pub found_now : pending_of x.worker (pending_calls past) ≡ Some o.call
    found_now = subst (λ ps. pending_of x.worker ps ≡ Some o.call) k.pending at.his

    abbrev rest : List NotedCall
    rest = remove os i

    rest_is : noted_calls rest ≡ without x.worker (pending_calls past)
    rest_is = sym at.rest ∙ ap (without x.worker) k.pending

    apart : Each (λ (p : NotedCall). p.call.first ≡ o.call.first → ⊥) rest
    apart =
        each_unmapped (λ (p : NotedCall). p.call) (λ (p : PendingCall). p.first ≡ o.call.first
        → ⊥) rest
        (subst (Each (λ (p : PendingCall). p.first ≡ o.call.first → ⊥)) (sym rest_is)
        (apart_rest units x past old.end h le r o.call is found_now))

    rest_placed : Each (IsPlaced old.end old.order) rest
    rest_placed = each_removed (IsPlaced old.end old.order) os i k.places

    its_place : Each (IsPlaced old.end old.order) os → IsPlaced old.end old.order o
    its_place h = each_got (IsPlaced old.end old.order) os i o h at.item

    module _ (pending : new.pending.items ≡ rest) (same : length new.bank.added.items
        ≡ length old.bank.added.items) (taken : TakenAs old.bank new.bank o.call.op r None) where
      pending_left : noted_calls new.pending.items ≡ pending_calls (x ∷ past)
      pending_left = ap noted_calls pending ∙ rest_is ∙ sym (pending_respond x past r is)

      left_rest : AreLeft units.items (x ∷ past) new.bank
      left_rest = left_now units x past h r o.call is found_now old.bank new.bank k.left same taken

      pub scan_other : is_v o.call.op ≡ false → new.order ≡ old.order
          ++ completion x.at r o.call ∷ [] → Holds units (x ∷ past) new
      scan_other v order =
          let c = completion x.at r o.call in
          let cs = old.order in
          let some = some_left units x past h r o.call is found_now old.bank new.bank k.left taken
          in
          let gives = bank_gives units (state_after (initial (Some (Semaphores units))) cs)
          o.call.op r (fitting units x past old.end h le r o.call is found_now)
          (suited units x past old.end h le r o.call is found_now)
          (λ i q. omega (arith, some i q, state_count units x past old.end h le i cs k.kept)) in
          let kept : IsLinearizationSoFar units (x ∷ past) old.end (cs ++ c ∷ []) =
          responded_other units x past old.end h le r o.call is found_now cs v gives k.kept in
          let placed : Each (IsPlaced old.end (cs ++ c ∷ [])) rest =
          placed_more old.end cs c rest rest_placed in
          record {
            pending = pending_left;
            left = left_rest;
            kept = subst (λ t. IsLinearizationSoFar units (x ∷ past) t new.order) (sym end)
                (subst (IsLinearizationSoFar units (x ∷ past) old.end) (sym order) kept);
            places = subst (λ t. Each (IsPlaced t new.order) new.pending.items) (sym end)
                (subst (λ zs. Each (IsPlaced old.end zs) new.pending.items) (sym order)
                (subst (Each (IsPlaced old.end (cs ++ c ∷ []))) (sym pending) placed));
          }

      pub scan_v : is_v o.call.op ≡ true → ((d : Call)
          → new.order ≡ set old.order o.noted (with_response x.at r (get_or old.order o.noted d)))
          → Holds units (x ∷ past) new
      scan_v v set_response =
          let c = completion x.at r o.call in
          let cs = old.order in
          let here : slice_get cs o.noted ≡ Some (completion old.end Done o.call) =
          its_place k.places v in
          let order : new.order ≡ set cs o.noted c =
          set_response c ∙ ap (λ (z : Call). set cs o.noted (with_response x.at r z))
          (get_or_from_slice_get cs o.noted (completion old.end Done o.call) c here) in
          let s = split_get cs o.noted (completion old.end Done o.call) here in
          let kept : IsLinearizationSoFar units (x ∷ past) old.end (s.prefix ++ c ∷ s.back) =
          responded_v units x past old.end h le r o.call is found_now s.prefix s.back v
          (v_done o.call.op r v (suited units x past old.end h le r o.call is found_now))
          (subst (IsLinearizationSoFar units past old.end) s.is k.kept) in
          let placed : Each (IsPlaced old.end (set cs o.noted c)) rest =
          each_both (IsPlaced old.end cs) (λ (p : NotedCall). p.call.first ≡ o.call.first
          → ⊥) (IsPlaced old.end (set cs o.noted c))
          (λ p f q w. get_other cs o.noted p.noted c (λ e.
          q (let one : Some (completion old.end Done o.call) ≡ Some
          (completion old.end Done p.call) = sym here ∙ ap (slice_get cs) e ∙ f w in
          same_first one)) ∙ f w) rest rest_placed apart in
          record {
            pending = pending_left;
            left = left_rest;
            kept = subst (λ t. IsLinearizationSoFar units (x ∷ past) t new.order) (sym end)
                (subst (IsLinearizationSoFar units (x ∷ past) old.end) (sym (order
                ∙ s.changed c)) kept);
            places = subst (λ t. Each (IsPlaced t new.order) new.pending.items) (sym end)
                (subst (λ zs. Each (IsPlaced old.end zs) new.pending.items) (sym order)
                (subst (Each (IsPlaced old.end (set cs o.noted c))) (sym pending) placed));
          }
