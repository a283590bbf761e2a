-- The produces and the consumes of a history, by their items.
use Rattle.std.proofs.Common.{◌≡◌, ℕ, zero, suc, ◌+◌, ◌<◌, ◌≤◌, ◌==◌, inl, inr, ◌&&◌}
use Rattle.std.proofs.Common.{nat_lt, Bool, true, false, cond, Option, Some, None, List, [], ◌∷◌}
use Rattle.std.proofs.Common.{length, get_or, refl, ap, sym, ◌∙◌, subst, arith, count_by}
use Rattle.std.specs.List.{Contains}
use Rattle.std.specs.Option.{unwrap_or}
use Rattle.std.proofs.lemmas.Bool.{cases_lt, eq-eqb, eqb-true}
use Rattle.std.proofs.lemmas.Bool.{ltb-true, ltb-false}
use Rattle.std.proofs.lemmas.List.{get_or_default}
use Rattle.std.proofs.lemmas.List.Elements.{All-contains, Contains-append_right}
use Rattle.calls_core.specs.declared.history.Op.{Op}
use Rattle.calls_core.specs.declared.history.Op.TheVariants.{Advance, Read, Await, Ticket, P, V}
use Rattle.calls_core.specs.declared.history.Op.TheVariants.{PBoth, Put, Get, Produce, Consume}
use Rattle.calls_core.specs.declared.history.Reply.{Reply}
use Rattle.calls_core.specs.declared.history.Reply.TheVariants.{Done, Number, Timeout}
use Rattle.calls_core.specs.declared.history.PendingCall.{PendingCall}
use Rattle.calls_core.specs.declared.history.Call.{Call}
use Rattle.calls_core.specs.Lists.{Each}
use Rattle.calls_core.proofs.Lists.{each_weaker, all_from_each}
use Rattle.calls_core.proofs.Counting.{one, one_yes, one_no, count_cons, count_append}
use Rattle.calls_buffers.specs.declared.accesses.Place.TheVariants.{Completed, Pending}
use Rattle.calls_buffers.specs.declared.accesses.Access.{Access}
use Rattle.calls_buffers.specs.Counts.{item, produces, put_one}
use Rattle.calls_buffers.specs.Accesses.{produced_item, put_item}
use Rattle.calls_buffers.specs.kept.Accesses.{ByItem}
use Rattle.calls_buffers.specs.Accesses.{access_of, accesses, asked_of, asked}
use Rattle.calls_buffers.specs.kept.Accesses.{find_access, Ascend}
use Rattle.calls_buffers.proofs.Untaking.{passes}

-- WHAT IS FOUND

pub find_hit : (list : List Access) (v i : ℕ) (d : Access)
    → ((k : ℕ) (e : Access) → k < i → (get_or list k e).item < v) → i < length list
    → (get_or list i d).item ≡ v → find_access list v ≡ Some (get_or list i d)
find_hit [] v i d low lt e = absurd (omega arith)
find_hit (a ∷ list) v zero d low lt e =
    ap (λ b. cond b (Some a) (find_access list v)) (eq-eqb a.item v e)
find_hit (a ∷ list) v (suc i) d low lt e =
    elim (a.item == v) as (λ b. (a.item == v) ≡ b
    → cond b (Some a) (find_access list v) ≡ Some (get_or list i d)) [
      | true ↦ λ q. absurd (omega (arith, eqb-true a.item v q, low 0 a (omega arith)))
      | false ↦ λ q. find_hit list v i d (λ k x l. low (suc k) x (omega arith)) (omega arith) e
    ] refl

pub find_miss : (list : List Access) (v : ℕ)
    → ((k : ℕ) (d : Access) → k < length list → (get_or list k d).item ≡ v → ⊥)
    → find_access list v ≡ None
find_miss [] v h = refl
find_miss (a ∷ list) v h =
    elim (a.item == v) as (λ b. (a.item == v) ≡ b
    → cond b (Some a) (find_access list v) ≡ None) [
      | true ↦ λ q. absurd (h 0 a (omega arith) (eqb-true a.item v q))
      | false ↦ λ q. find_miss list v (λ k d l. h (suc k) d (omega arith))
    ] refl

-- where a sorted list is parted at an item
pub found_at : (list : List Access) (v i : ℕ) (d : Access)
    → ((k : ℕ) (e : Access) → 0 ≤ k → k < i → nat_lt (get_or list k e).item v ≡ true)
    → i < length list → (get_or list i d).item ≡ v
    → Some (get_or list i d) ≡ find_access list v
found_at list v i d low lt e =
    sym (find_hit list v i d (λ k x l. ltb-true (get_or list k x).item v (low k x (omega arith) l))
    lt e)

pub found_none : (list : List Access) (v i : ℕ) (d : Access) → ByItem list
    → ((k : ℕ) (e : Access) → 0 ≤ k → k < i → nat_lt (get_or list k e).item v ≡ true)
    → ((k : ℕ) (e : Access) → i ≤ k → k < length list → nat_lt (get_or list k e).item v ≡ false)
    → (i < length list → (get_or list i d).item ≡ v → ⊥) → None ≡ find_access list v
found_none list v i d up low high else = sym (find_miss list v (λ k x l e.
    elim (cases_lt k i) [
      | inl lt ↦ absurd (omega (
        arith,
        e,
        ltb-true (get_or list k x).item v
            (low k x (omega arith) lt),
      ))
      | inr le ↦ other k x l e le
    ]))
  where
    other : (k : ℕ) (x : Access) → k < length list → (get_or list k x).item ≡ v → i ≤ k → ⊥
    other k x l e le =
        let here : i < length list = omega (arith, l, le) in
        let same : get_or list i x ≡ get_or list i d = get_or_default list i x d here in
        else here (omega (
          arith,
          ap (λ (a : Access). a.item) same,
          e,
          up i k x le l,
          ltb-false (get_or list i x).item v (high i x (omega arith) here),
        ))

-- what is found is there
pub find_known : (list : List Access) (v : ℕ) (a : Access) → find_access list v ≡ Some a
    → Contains list a × (a.item ≡ v)
find_known [] v a e = absurd (cc)
find_known (x ∷ list) v a e =
    elim (x.item == v) as (λ b. (x.item == v) ≡ b
    → cond b (Some x) (find_access list v) ≡ Some a → Contains (x ∷ list) a × (a.item ≡ v)) [
      | true ↦ λ q s. (let same : x ≡ a = ap (λ o. unwrap_or o x) s in (
        (zero, omega arith, same),
        ap (λ (y : Access). y.item) (sym same) ∙ eqb-true x.item v q,
      ))
      | false ↦ λ q s. (let r = find_known list v a s in (
        Contains-append_right (x ∷ []) list a r.0,
        r.1,
      ))
    ] refl e

abbrev pub of_item : ℕ → Access → Bool
of_item v a = a.item == v

-- what is not found is not there
pub find_none : (list : List Access) (v : ℕ) → find_access list v ≡ None
    → count_by (of_item v) list ≡ 0
find_none [] v e = refl
find_none (x ∷ list) v e =
    elim (x.item == v) as (λ b. (x.item == v) ≡ b
    → cond b (Some x) (find_access list v) ≡ None → count_by (of_item v) (x ∷ list) ≡ 0) [
      | true ↦ λ q s. absurd (cc)
      | false ↦ λ q s. omega (
        arith,
        count_cons (of_item v) x list,
        one_no (of_item v x) q,
        find_none list v s,
      )
    ] refl e

pub record Found (list : List Access) (v : ℕ) : Type 0 where
  pub access : Access
  pub is : find_access list v ≡ Some access

pub find_some : (list : List Access) (v : ℕ) → 0 < count_by (of_item v) list → Found list v
find_some list v lt = own (find_access list v) refl
  where
    own : (o : Option Access) → find_access list v ≡ o → Found list v
    own None e = absurd (omega (arith, lt, find_none list v e))
    own (Some a) e = record { access = a; is = e }

-- EACH ITEM ONCE

-- if each is below the next one
pub ascend_next : (list : List Access)
    → ((k : ℕ) (d : Access) → k + 1 < length list
    → (get_or list k d).item < (get_or list (k + 1) d).item) → Ascend list
ascend_next [] h = tt
ascend_next (a ∷ []) h = (tt, tt)
ascend_next (a ∷ b ∷ list) h =
    let rest = ascend_next (b ∷ list) (λ k d lt.
    let same : suc k + 1 ≡ suc (k + 1) = omega arith in
    subst (λ n. (get_or (b ∷ list) k d).item < (get_or (a ∷ b ∷ list) n d).item) same
    (h (suc k) d (omega arith))) in
    let first : a.item < b.item = h 0 a (omega arith) in (
      (
        first,
        each_weaker (λ (y : Access). b.item < y.item) (λ (y : Access). a.item < y.item)
            (λ y l. omega (arith, first, l)) list rest.0,
      ),
      rest,
    )

-- a test of the accesses to one item
abbrev pub also : (Access → Bool) → ℕ → Access → Bool
also g v a = (a.item == v) && g a

none_above : (g : Access → Bool) (v : ℕ) (list : List Access)
    → Each (λ (a : Access). v < a.item) list → count_by (also g v) list ≡ 0
none_above g v [] h = refl
none_above g v (a ∷ list) h =
    elim (a.item == v) as (λ b. (a.item == v) ≡ b → count_by (also g v) (a ∷ list) ≡ 0) [
      | true ↦ λ q. absurd (omega (arith, eqb-true a.item v q, h.0))
      | false ↦ λ q. omega (
        arith,
        count_cons (also g v) a list,
        one_no (also g v a) (ap (λ b. b && g a) q),
        none_above g v list h.1,
      )
    ] refl

-- what is counted of the one access to an item
pub count_found : (g : Access → Bool) (v : ℕ) (list : List Access) (a : Access) → Ascend list
    → find_access list v ≡ Some a → count_by (also g v) list ≡ one (g a)
count_found g v [] a h e = absurd (cc)
count_found g v (x ∷ list) a h e =
    elim (x.item == v) as (λ b. (x.item == v) ≡ b → cond b (Some x) (find_access list v) ≡ Some a
    → count_by (also g v) (x ∷ list) ≡ one (g a)) [
      | true ↦ first
      | false ↦ λ q s. omega (
        arith,
        count_cons (also g v) x list,
        one_no (also g v x) (ap (λ b. b && g x) q),
        count_found g v list a h.1 s,
      )
    ] refl e
  where
    first : (x.item == v) ≡ true → Some x ≡ Some a
        → count_by (also g v) (x ∷ list) ≡ one (g a)
    first q s =
        let is : x.item ≡ v = eqb-true x.item v q in
        let same : x ≡ a = ap (λ o. unwrap_or o x) s in
        let above : Each (λ (b : Access). v < b.item) list =
        subst (λ n. Each (λ (b : Access). n < b.item) list) is h.0 in
        omega (
          arith,
          count_cons (also g v) x list,
          ap (λ b. one (b && g x)) q,
          ap (λ y. one (g y)) same,
          none_above g v list above,
        )

plain_none : (v : ℕ) (list : List Access) → Each (λ (a : Access). v < a.item) list
    → count_by (of_item v) list ≡ 0
plain_none v [] h = refl
plain_none v (a ∷ list) h =
    elim (a.item == v) as (λ b. (a.item == v) ≡ b → count_by (of_item v) (a ∷ list) ≡ 0) [
      | true ↦ λ q. absurd (omega (arith, eqb-true a.item v q, h.0))
      | false ↦ λ q. omega (
        arith,
        count_cons (of_item v) a list,
        one_no (of_item v a) q,
        plain_none v list h.1,
      )
    ] refl

pub count_once : (v : ℕ) (list : List Access) → Ascend list → count_by (of_item v) list ≤ 1
count_once v [] h = omega arith
count_once v (a ∷ list) h =
    elim (a.item == v) as (λ b. (a.item == v) ≡ b → count_by (of_item v) (a ∷ list) ≤ 1) [
      | true ↦ λ q.
          let is : a.item ≡ v = eqb-true a.item v q in
          let above : Each (λ (b : Access). v < b.item) list =
          subst (λ n. Each (λ (b : Access). n < b.item) list) is h.0 in
          omega (
            arith,
            count_cons (of_item v) a list,
            one_yes (of_item v a) q,
            plain_none v list above,
          )
      | false ↦ λ q. omega (
        arith,
        count_cons (of_item v) a list,
        one_no (of_item v a) q,
        count_once v list h.1,
      )
    ] refl

-- THE ACCESSES BY CALLS

pub put_took : (test : ℕ → Bool) (op : Op) (r : Reply)
    → put_one test op r ≡ passes test (put_item op r)
put_took test (Produce v) Done = refl
put_took test (Produce v) (Number w) = refl
put_took test (Produce v) Timeout = refl
put_took test Consume Done = refl
put_took test Consume (Number v) = refl
put_took test Consume Timeout = refl
put_took test Advance Done = refl
put_took test Advance (Number w) = refl
put_took test Advance Timeout = refl
put_took test Read Done = refl
put_took test Read (Number w) = refl
put_took test Read Timeout = refl
put_took test (Await v) Done = refl
put_took test (Await v) (Number w) = refl
put_took test (Await v) Timeout = refl
put_took test Ticket Done = refl
put_took test Ticket (Number w) = refl
put_took test Ticket Timeout = refl
put_took test (P i) Done = refl
put_took test (P i) (Number w) = refl
put_took test (P i) Timeout = refl
put_took test (V i) Done = refl
put_took test (V i) (Number w) = refl
put_took test (V i) Timeout = refl
put_took test (PBoth i j) Done = refl
put_took test (PBoth i j) (Number w) = refl
put_took test (PBoth i j) Timeout = refl
put_took test (Put v) Done = refl
put_took test (Put v) (Number w) = refl
put_took test (Put v) Timeout = refl
put_took test Get Done = refl
put_took test Get (Number w) = refl
put_took test Get Timeout = refl

pub asked_item : (test : ℕ → Bool) (op : Op) → produces test op ≡ passes test (produced_item op)
asked_item test (Produce v) = refl
asked_item test Consume = refl
asked_item test Advance = refl
asked_item test Read = refl
asked_item test (Await v) = refl
asked_item test Ticket = refl
asked_item test (P i) = refl
asked_item test (V i) = refl
asked_item test (PBoth i j) = refl
asked_item test (Put v) = refl
asked_item test Get = refl

module _ (f : Op → Reply → Option ℕ) (t : (ℕ → Bool) → Op → Reply → Bool)
    (is : (test : ℕ → Bool) (op : Op) (r : Reply) → t test op r ≡ passes test (f op r)) where
  -- a test of the accesses to an item is one of the calls
  module _ (v : ℕ) (g : Access → Bool) (h : Call → Bool)
      (same : (i w : ℕ) (c : Call)
      → g (record { item = w; place = Completed i; first = c.first; last = c.last }) ≡ h c) where
    one_access : (i : ℕ) (c : Call) (o : Option ℕ)
        → count_by (also g v) (access_of i c o) ≡ one (passes (item v) o && h c)
    one_access i c None = refl
    one_access i c (Some w) =
        let a : Access = record { item = w; place = Completed i; first = c.first; last = c.last } in
        omega (
          arith,
          count_cons (also g v) a [],
          ap (λ b. one ((w == v) && b)) (same i w c),
        )

    pub count_accesses : (i : ℕ) (cs : List Call)
        → count_by (also g v) (accesses f i cs)
        ≡ count_by (λ (c : Call). t (item v) c.op c.reply && h c) cs
    count_accesses i [] = refl
    count_accesses i (c ∷ cs) = omega (
      arith,
      count_append (also g v) (access_of i c (f c.op c.reply)) (accesses f (i + 1) cs),
      count_cons (λ (x : Call). t (item v) x.op x.reply && h x) c cs,
      one_access i c (f c.op c.reply),
      ap (λ b. one (b && h c)) (is (item v) c.op c.reply),
      count_accesses (i + 1) cs,
    )

  -- the same of all of them
  module _ (v : ℕ) where
    one_item : (i : ℕ) (c : Call) (o : Option ℕ)
        → count_by (of_item v) (access_of i c o) ≡ one (passes (item v) o)
    one_item i c None = refl
    one_item i c (Some w) =
        let a : Access = record { item = w; place = Completed i; first = c.first; last = c.last } in
        omega (arith, count_cons (of_item v) a [])

    pub count_items : (i : ℕ) (cs : List Call)
        → count_by (of_item v) (accesses f i cs)
        ≡ count_by (λ (c : Call). t (item v) c.op c.reply) cs
    count_items i [] = refl
    count_items i (c ∷ cs) = omega (
      arith,
      count_append (of_item v) (access_of i c (f c.op c.reply)) (accesses f (i + 1) cs),
      count_cons (λ (x : Call). t (item v) x.op x.reply) c cs,
      one_item i c (f c.op c.reply),
      ap one (is (item v) c.op c.reply),
      count_items (i + 1) cs,
    )

-- THE ACCESSES BY PENDING CALLS

module _ (end v : ℕ) (g : Access → Bool) (h : PendingCall → Bool)
    (same : (i w : ℕ) (o : PendingCall)
    → g (record { item = w; place = Pending i; first = o.first; last = end }) ≡ h o) where
  one_asked : (i : ℕ) (o : PendingCall) (p : Option ℕ)
      → count_by (also g v) (asked_of end i o p) ≡ one (passes (item v) p && h o)
  one_asked i o None = refl
  one_asked i o (Some w) =
      let a : Access = record { item = w; place = Pending i; first = o.first; last = end } in
      omega (arith, count_cons (also g v) a [], ap (λ b. one ((w == v) && b)) (same i w o))

  pub count_asked : (i : ℕ) (os : List PendingCall)
      → count_by (also g v) (asked end i os)
      ≡ count_by (λ (o : PendingCall). produces (item v) o.op && h o) os
  count_asked i [] = refl
  count_asked i (o ∷ os) = omega (
    arith,
    count_append (also g v) (asked_of end i o (produced_item o.op)) (asked end (i + 1) os),
    count_cons (λ (x : PendingCall). produces (item v) x.op && h x) o os,
    one_asked i o (produced_item o.op),
    ap (λ b. one (b && h o)) (asked_item (item v) o.op),
    count_asked (i + 1) os,
  )

module _ (end v : ℕ) where
  one_asked_item : (i : ℕ) (o : PendingCall) (p : Option ℕ)
      → count_by (of_item v) (asked_of end i o p) ≡ one (passes (item v) p)
  one_asked_item i o None = refl
  one_asked_item i o (Some w) =
      let a : Access = record { item = w; place = Pending i; first = o.first; last = end } in
      omega (arith, count_cons (of_item v) a [])

  pub count_asked_items : (i : ℕ) (os : List PendingCall)
      → count_by (of_item v) (asked end i os)
      ≡ count_by (λ (o : PendingCall). produces (item v) o.op) os
  count_asked_items i [] = refl
  count_asked_items i (o ∷ os) = omega (
    arith,
    count_append (of_item v) (asked_of end i o (produced_item o.op)) (asked end (i + 1) os),
    count_cons (λ (x : PendingCall). produces (item v) x.op) o os,
    one_asked_item i o (produced_item o.op),
    ap one (asked_item (item v) o.op),
    count_asked_items (i + 1) os,
  )

-- the one access to an item is found
pub find_own : (list : List Access) (a : Access) → Ascend list → Contains list a
    → find_access list a.item ≡ Some a
find_own [] a h (k, lt, e) = absurd (omega arith)
find_own (x ∷ list) a h (zero, lt, e) =
    ap (λ b. cond b (Some x) (find_access list a.item))
    (eq-eqb x.item a.item (ap (λ (y : Access). y.item) e)) ∙ ap Some e
find_own (x ∷ list) a h (suc k, lt, e) =
    let there : Contains list a = (k, (let l : k < length list = omega arith in l), e) in
    let above : x.item < a.item = All-contains (λ (y : Access). x.item < y.item) list a
    (all_from_each (λ (y : Access). x.item < y.item) list h.0) there in
    elim (x.item == a.item) as (λ b. (x.item == a.item) ≡ b
    → cond b (Some x) (find_access list a.item) ≡ Some a) [
      | true ↦ λ q. absurd (omega (arith, above, eqb-true x.item a.item q))
      | false ↦ λ q. find_own list a h.1 there
    ] refl
