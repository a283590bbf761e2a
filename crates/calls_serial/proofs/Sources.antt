-- A history that shows a fault has no linearization: where the value of each get comes from.
use Rattle.std.proofs.Common.{◌≡◌, ℕ, zero, suc, ◌<◌, ◌≤◌, ◌⊎◌, inl, inr, List, [], ◌∷◌, ◌++◌}
use Rattle.std.proofs.Common.{length, Option, Some, None, refl, ap, sym, ◌∙◌, arith, subst, get_or}
use Rattle.std.specs.List.{Contains}
use Rattle.std.proofs.lemmas.Bool.{cases_order}
use Rattle.std.proofs.lemmas.Option.{same_Some, none-some}
use Rattle.std.proofs.lemmas.List.{get_or_default}
use Rattle.std.proofs.lemmas.List.Elements.{Contains-append_right}
use Rattle.std.proofs.lemmas.List.Sorted.{Contains-permutation, All-permutation}
use Rattle.calls_core.specs.declared.history.Kind.TheVariants.{Cell}
use Rattle.calls_core.specs.declared.history.Op.{Op}
use Rattle.calls_core.specs.declared.history.Op.TheVariants.{Advance, Read, Await, Ticket, P, V}
use Rattle.calls_core.specs.declared.history.Op.TheVariants.{PBoth, Put, Get, Produce, Consume}
use Rattle.calls_core.specs.declared.history.Reply.{Reply}
use Rattle.calls_core.specs.declared.history.Reply.TheVariants.{Done, Number}
use Rattle.calls_core.specs.declared.history.PendingCall.{PendingCall}
use Rattle.calls_core.specs.declared.history.Call.{Call}
use Rattle.calls_core.specs.Lists.{Each}
use Rattle.calls_core.specs.Histories.{Takes, completion}
use Rattle.calls_core.specs.Linearizations.{Gives, after, IsLegalHistory}
use Rattle.calls_core.specs.Linearizations.{answered_one, answered_calls, IsLinearOrder}
use Rattle.calls_core.specs.Calls.{IsCallOf, Early, AreCallsOf}
use Rattle.calls_core.proofs.Lists.{each_weaker, each_append, all_from_each}
use Rattle.calls_core.proofs.Filters.{each_from_all}
use Rattle.calls_serial.specs.Faults.{IsShut, IsGone, HasOnly, Binds}
use Rattle.calls_serial.specs.Faults.{Leaves}

abbrev pub Access : Call → Type 0
Access c = Takes (Some Cell) c.op

-- LEGAL SEQUENTIAL HISTORIES

-- the get at index k returns the initial value m, and no put is before it
record FromFirst (m v k : ℕ) (cs : List Call) (d : Call) : Type 0 where
  value : v ≡ m
  none : (j w : ℕ) → j < k → (get_or cs j d).op ≡ Put w → ⊥

-- it returns the value of the put at index i, the last one before it
record FromPut (v k : ℕ) (cs : List Call) (d : Call) : Type 0 where
  index : ℕ
  before : index < k
  put : (get_or cs index d).op ≡ Put v
  none : (j w : ℕ) → index < j → j < k → (get_or cs j d).op ≡ Put w → ⊥

number_is : (m n : ℕ) → Number m ≡ Number n → m ≡ n
number_is m n e = cc

-- after a call there is its value, or what there was
after_is : (m : ℕ → ℕ) (op : Op) (r : Reply) → Takes (Some Cell) op
    → ((v : ℕ) × (op ≡ Put v) × (after m op r 0 ≡ v))
    ⊎ (((v : ℕ) → op ≡ Put v → ⊥) × (after m op r 0 ≡ m 0))
after_is m (Put v) r h = inl (v, refl, refl)
after_is m Get r h = inr ((λ v e. cc), refl)
after_is m Advance r h = absurd h
after_is m Read r h = absurd h
after_is m (Await v) r h = absurd h
after_is m Ticket r h = absurd h
after_is m (P i) r h = absurd h
after_is m (V i) r h = absurd h
after_is m (PBoth i j) r h = absurd h
after_is m (Produce v) r h = absurd h
after_is m Consume r h = absurd h

source : (m : ℕ → ℕ) (v k : ℕ) (cs : List Call) (d : Call) → Each Access cs → IsLegalHistory m cs
    → k < length cs → (get_or cs k d).op ≡ Get → (get_or cs k d).reply ≡ Number v
    → FromFirst (m 0) v k cs d ⊎ FromPut v k cs d
source m v k [] d h run lt op r = absurd (omega arith)
source m v zero (c ∷ cs) d h run lt op r =
    let gives : Gives m Get (Number v) =
    subst (λ q. Gives m Get q) r (subst (λ q. Gives m q c.reply) op run.0) in
    inl (record { value = number_is v (m 0) gives; none = λ j w lt' e. absurd (omega arith) })
source m v (suc k) (c ∷ cs) d h run lt op r =
    elim (source (after m c.op c.reply) v k cs d h.1 run.1 (omega arith) op r) [
      | inr s ↦ inr (record {
        index = suc s.index;
        before = (let lt' = s.before in omega arith);
        put = s.put;
        none = λ j w a b e. later s.index s.none j w a b e;
      })
      | inl s ↦ elim (after_is m c.op c.reply h.0) [
        | inl p ↦ inr (record {
          index = 0;
          before = omega arith;
          put = p.1 ∙ ap Put (sym p.2 ∙ sym s.value);
          none = λ j w a b e. behind s.none j w a b e;
        })
        | inr n ↦ inl (record {
          value = s.value ∙ n.1;
          none = λ j w b e. first n.0 s.none j w b e;
        })
      ]
    ]
  where
    later : (i : ℕ) → ((j w : ℕ) → i < j → j < k → (get_or cs j d).op ≡ Put w → ⊥) → (j w : ℕ)
        → suc i < j → j < suc k → (get_or (c ∷ cs) j d).op ≡ Put w → ⊥
    later i f zero w a b e = absurd (omega arith)
    later i f (suc j) w a b e = f j w (omega arith) (omega arith) e

    behind : ((j w : ℕ) → j < k → (get_or cs j d).op ≡ Put w → ⊥) → (j w : ℕ)
        → 0 < j → j < suc k → (get_or (c ∷ cs) j d).op ≡ Put w → ⊥
    behind f zero w a b e = absurd (omega arith)
    behind f (suc j) w a b e = f j w (omega arith) e

    first : ((w : ℕ) → c.op ≡ Put w → ⊥) → ((j w : ℕ) → j < k → (get_or cs j d).op ≡ Put w → ⊥)
        → (j w : ℕ) → j < suc k → (get_or (c ∷ cs) j d).op ≡ Put w → ⊥
    first g f zero w b e = g w e
    first g f (suc j) w b e = f j w (omega arith) e

-- ANSWERED CALLS

answered_each : (Q : Call → Type 0) (t : ℕ) (answer : PendingCall → Option Reply)
    (os : List PendingCall) → Each (λ (o : PendingCall). (r : Reply) → Q (completion t r o)) os
    → Each Q (answered_calls t answer os)
answered_each Q t answer [] h = tt
answered_each Q t answer (o ∷ os) h =
    each_append Q (answered_one t o (answer o)) (answered_calls t answer os) (one (answer o))
    (answered_each Q t answer os h.1)
  where
    one : (r : Option Reply) → Each Q (answered_one t o r)
    one None = tt
    one (Some r) = (h.0 r, tt)

-- NO LINEARIZATION

module _ (done : List Call) (pending : List PendingCall) (u t : ℕ)
    (given : AreCallsOf Cell done pending u) (late : u ≤ t) (cs : List Call)
    (m : ℕ → ℕ) (zero_first : m 0 ≡ 0) (l : IsLinearOrder (IsLegalHistory m) done pending t cs)
    (d : Call) where
  here : (c : Call) → Contains done c → Contains cs c
  here c k = Contains-permutation (answered_calls t l.answer pending ++ done) cs c l.each_once
      (Contains-append_right (answered_calls t l.answer pending) done c k)

  -- what holds of the completed calls and of the answered ones holds of all
  each_here : (Q : Call → Type 0) → Each Q done
      → Each (λ (o : PendingCall). (r : Reply) → Q (completion t r o)) pending → (k : ℕ)
      → k < length cs → Q (get_or cs k d)
  each_here Q h g k lt =
      All-permutation Q (answered_calls t l.answer pending ++ done) cs l.each_once
      (all_from_each Q (answered_calls t l.answer pending ++ done)
      (each_append Q (answered_calls t l.answer pending) done
      (answered_each Q t l.answer pending g) h)) k d lt

  lasting : (k : ℕ) → k < length cs → (get_or cs k d).first < (get_or cs k d).last
  lasting = each_here (λ (c : Call). c.first < c.last)
      (each_weaker (IsCallOf Cell u) (λ (c : Call). c.first < c.last) (λ c k. k.lasts) done
      given.completed)
      (each_weaker (Early u) (λ (o : PendingCall). (r : Reply) → o.first < t)
      (λ o e r. omega arith) pending given.early)

  accesses : Each Access cs
  accesses = each_from_all Access cs (λ k e lt. moved k e lt)
    where
      own : (k : ℕ) → k < length cs → Access (get_or cs k d)
      own = each_here Access
          (each_weaker (IsCallOf Cell u) Access (λ c k. k.fits) done given.completed)
          (each_weaker (λ (o : PendingCall). Takes (Some Cell) o.op)
          (λ (o : PendingCall). (r : Reply) → Takes (Some Cell) o.op) (λ o e r. e) pending
          given.fits)

      moved : (k : ℕ) (e : Call) → k < length cs → Access (get_or cs k e)
      moved k e lt = subst (λ (c : Call). Access c) (get_or_default cs k d e lt) (own k lt)

  -- a call with its index
  record IsThere (c : Call) : Type 0 where
    index : ℕ
    within : index < length cs
    is : get_or cs index d ≡ c

  there : (c : Call) → Contains done c → IsThere c
  there c k =
      let h = here c k in
      record {
        index = h.0;
        within = h.1;
        is = get_or_default cs h.0 d c h.1 ∙ h.2;
      }

  -- the real-time order is kept
  in_order : (i j : ℕ) → i < length cs → j < length cs
      → (get_or cs i d).last < (get_or cs j d).first → i < j
  in_order i j a b lt =
      elim (cases_order i j) [
        | inl same ↦ absurd (elsewhere same)
        | inr (inl less) ↦ less
        | inr (inr more) ↦ absurd (l.in_order j i d more a lt)
      ]
    where
      elsewhere : i ≡ j → ⊥
      elsewhere same =
          (let own : (get_or cs i d).last < (get_or cs i d).first =
          subst (λ n. (get_or cs i d).last < (get_or cs n d).first) (sym same) lt in
          let long = lasting i a in omega arith)

  -- a put invoked at b is before index k
  record IsBefore (b k : ℕ) : Type 0 where
    index : ℕ
    value : ℕ
    before : index < k
    put : (get_or cs index d).op ≡ Put value
    at : (get_or cs index d).first ≡ b

  abbrev Before : Option ℕ → ℕ → Type 0
  Before None k = Unit {0}
  Before (Some b) k = IsBefore b k

  -- no fault shuts c out from the put at index i, if no other put is between them in the order
  shut : (c : Call) (b : Option ℕ) (i k v : ℕ) → (at : k < length cs) → get_or cs k d ≡ c → i < k
      → Before b k → ((j w : ℕ) → i < j → j < k → (get_or cs j d).op ≡ Put w → ⊥)
      → IsShut done b c (get_or cs i d) → ⊥
  shut c b i k v at is lt before none (inl late') =
      l.in_order i k d lt at (subst (λ (z : Call). z.last < (get_or cs i d).first) (sym is) late')
  shut c b i k v at is lt before none (inr (inl o)) =
      (let q = there o.put o.known in
      let within = q.within in
      let after' : i < q.index = in_order i q.index (omega arith) q.within
      (subst (λ (z : Call). (get_or cs i d).last < z.first) (sym q.is) o.after) in
      let before' : q.index < k = in_order q.index k q.within at
      (subst (λ (z : Call). z.last < (get_or cs k d).first) (sym q.is)
      (subst (λ (z : Call). o.put.last < z.first) (sym is) o.before)) in
      none q.index o.value after' before' (ap (λ (z : Call). z.op) q.is ∙ o.is))
  shut c None i k v at is lt before none (inr (inr e)) = e
  shut c (Some b) i k v at is lt before none (inr (inr e)) =
      (let less = before.before in
      let within : before.index < length cs = omega arith in
      none before.index before.value
      (in_order i before.index (omega arith) within
      (let same = before.at in omega arith)) before.before before.put)

  -- the initial value is not gone, if no put is before c in the order
  gone : (c : Call) (b : Option ℕ) (k : ℕ) → k < length cs → get_or cs k d ≡ c → Before b k
      → IsGone done b c → ((j w : ℕ) → j < k → (get_or cs j d).op ≡ Put w → ⊥) → ⊥
  gone c None k at is before g none =
      (let q = there g.0 g.2 in
      none q.index g.1
      (in_order q.index k q.within at
      (subst (λ (z : Call). z.last < (get_or cs k d).first) (sym q.is)
      (subst (λ (z : Call). g.0.last < z.first) (sym is) g.4)))
      (ap (λ (z : Call). z.op) q.is ∙ g.3))
  gone c (Some b) k at is before g none = none before.index before.value before.before before.put

  -- the get at index k returns the value of the put invoked at f, or with no f none
  abbrev Sourced : Option ℕ → ℕ → Type 0
  Sourced None k = ⊥
  Sourced (Some f) k = IsBefore f k

  abbrev Known : ℕ → Option ℕ → Call → Option ℕ → Call → Type 0
  Known v b c f p = p.op ≡ Put v → IsShut done b c p ⊎ (f ≡ Some p.first)

  only : (b : Option ℕ) (c : Call) (f : Option ℕ) (k : ℕ) → k < length cs → get_or cs k d ≡ c
      → Before b k → HasOnly done pending b c f → Sourced f k
  only b c f k at is before h =
      elim (source m h.value k cs d accesses l.run at (ap (λ (z : Call). z.op) is ∙ h.get)
      (ap (λ (z : Call). z.reply) is ∙ h.returned)) [
        | inl s ↦ absurd (gone c b k at is before (h.at_first (s.value ∙ zero_first)) s.none)
        | inr s ↦ by_put s.index s.before s.put s.none
      ]
    where
      by_first : (g : Option ℕ) (i : ℕ) → i < k → (get_or cs i d).op ≡ Put h.value
          → g ≡ Some (get_or cs i d).first → Sourced g k
      by_first None i lt op e = absurd (none-some _ e)
      by_first (Some n) i lt op e = record {
        index = i;
        value = h.value;
        before = lt;
        put = op;
        at = sym (same_Some n (get_or cs i d).first e);
      }

      known : (i : ℕ) → i < length cs → Known h.value b c f (get_or cs i d)
      known = each_here (Known h.value b c f) h.all_completed
          (each_weaker
          (λ (o : PendingCall). o.op ≡ Put h.value → (c.last < o.first) ⊎ (f ≡ Some o.first))
          (λ (o : PendingCall). (r : Reply) → Known h.value b c f (completion t r o))
          (λ o g r e. elim (g e) [ inl a ↦ inl (inl a) | inr a ↦ inr a ]) pending h.all_pending)

      by_put : (i : ℕ) → i < k → (get_or cs i d).op ≡ Put h.value
          → ((j w : ℕ) → i < j → j < k → (get_or cs j d).op ≡ Put w → ⊥) → Sourced f k
      by_put i lt op none =
          elim (known i (omega arith) op) [
            | inl s ↦ absurd (shut c b i k h.value at is lt before none s)
            | inr e ↦ by_first f i lt op e
          ]

  abbrev Standing : Call → Option ℕ → Type 0
  Standing c b = (k : ℕ) → k < length cs → get_or cs k d ≡ c → Before b k

  bound : (es : List Call) (c : Call) (b : Option ℕ) → Binds done pending es c b → Standing c b
  bound [] c b h k at is = subst (λ z. Before z k) (sym h) tt
  bound (e ∷ es) c None h k at is = tt
  bound (e ∷ es) c (Some b) h k at is =
      (let q = there e h.2.2.known in
      let own : IsBefore b q.index =
      only h.2.0 e (Some b) q.index q.within q.is
      (bound es e h.2.0 h.2.1 q.index q.within q.is) h.2.2 in
      let lt : q.index < k = in_order q.index k q.within at
      (subst (λ (z : Call). z.last < (get_or cs k d).first) (sym q.is)
      (subst (λ (z : Call). e.last < z.first) (sym is) h.1)) in
      let less = own.before in
      record {
        index = own.index;
        value = own.value;
        before = omega arith;
        put = own.put;
        at = own.at;
      })

  none_left : (es : List Call) → Leaves done pending es None → ⊥
  none_left [] h = h
  none_left (c ∷ es) h =
      (let q = there c h.2.known in
      only h.0 c None q.index q.within q.is (bound es c h.0 h.1 q.index q.within q.is) h.2)

no_call : Call
no_call = record { worker = 0; object = 0; op = Get; reply = Done; first = 0; last = 0 }

pub no_order : (done : List Call) (pending : List PendingCall) (u t : ℕ)
    → AreCallsOf Cell done pending u → u ≤ t → (cs : List Call) (m : ℕ → ℕ) → m 0 ≡ 0
    → IsLinearOrder (IsLegalHistory m) done pending t cs → (gets : List Call)
    → Leaves done pending gets None → ⊥
no_order done pending u t given late cs m z l gets h =
    none_left done pending u t given late cs m z l no_call gets h
