-- The pending produce and the pending consume.
use Rattle.std.proofs.Common.{◌≡◌, ◌⊎◌, inl, inr, ℕ, ◌+◌, ◌≤◌, cond, List, [], ◌∷◌}
use Rattle.std.proofs.Common.{◌++◌, length, Option, Some, None, IfSome, refl, ap, sym, ◌∙◌, arith}
use Rattle.std.proofs.Common.{subst, append-nil}
use Rattle.std.specs.List.{count_by}
use Rattle.std.specs.List.{filter_map}
use Rattle.std.proofs.lemmas.Bool.{eq-eqb, ne_eqb}
use Rattle.std.proofs.lemmas.List.Elements.{filter_map-append}
use Rattle.calls_core.specs.declared.history.Op.{Op}
use Rattle.calls_core.specs.declared.history.Op.TheVariants.{Produce, Consume}
use Rattle.calls_core.specs.declared.history.PendingCall.{PendingCall}
use Rattle.calls_core.specs.Lists.{Each}
use Rattle.calls_core.specs.Histories.{pending_of, without}
use Rattle.calls_core.proofs.Counting.{count_append}
use Rattle.calls_buffers.specs.Accesses.{produced_item}
use Rattle.calls_buffers.specs.Counts.{any_item, produces, is_consume}
use Rattle.calls_spsc.specs.declared.monitor.PendingPut.{PendingPut}
use Rattle.calls_spsc.specs.declared.monitor.PendingTake.{PendingTake}
use Rattle.calls_spsc.specs.kept.Watching.{put_calls, take_calls, ArePendingAs}

-- A WORKER'S CALL

-- the worker's pending call is o, and these are the others
pub record IsPendingBy (w : ℕ) (os : List PendingCall) (o : PendingCall)
    (others : List PendingCall) : Type 0 where
  pub own : pending_of w os ≡ Some o
  pub rest : without w os ≡ others

first_by : (w : ℕ) (o : PendingCall) (os : List PendingCall) → o.worker ≡ w
    → IsPendingBy w (o ∷ os) o os
first_by w o os e = record {
  own = ap (λ b. cond b (Some o) (pending_of w os)) (eq-eqb o.worker w e);
  rest = ap (λ b. cond b os (o ∷ without w os)) (eq-eqb o.worker w e);
}

later_by : (w : ℕ) (p o : PendingCall) (os others : List PendingCall) → (p.worker ≡ w → ⊥)
    → IsPendingBy w os o others → IsPendingBy w (p ∷ os) o (p ∷ others)
later_by w p o os others ne h = record {
  own = ap (λ b. cond b (Some p) (pending_of w os)) (ne_eqb p.worker w ne) ∙ h.own;
  rest = ap (λ b. cond b os (p ∷ without w os)) (ne_eqb p.worker w ne)
      ∙ ap (λ zs. p ∷ zs) h.rest;
}

none_by : (w : ℕ) (p : PendingCall) (os : List PendingCall) → (p.worker ≡ w → ⊥)
    → pending_of w os ≡ None → pending_of w (p ∷ os) ≡ None
none_by w p os ne h = ap (λ b. cond b (Some p) (pending_of w os)) (ne_eqb p.worker w ne) ∙ h

other_worker : (w : ℕ) (p : PendingCall) (os : List PendingCall) → pending_of w (p ∷ os) ≡ None
    → p.worker ≡ w → ⊥
other_worker w p os none e =
    let some : pending_of w (p ∷ os) ≡ Some p =
    ap (λ b. cond b (Some p) (pending_of w os)) (eq-eqb p.worker w e) in
    let clash : None ≡ Some p = sym none ∙ some in cc

none_rest : (w : ℕ) (p : PendingCall) (os : List PendingCall) → pending_of w (p ∷ os) ≡ None
    → pending_of w os ≡ None
none_rest w p os none = sym (ap (λ b. cond b (Some p) (pending_of w os)) (ne_eqb p.worker w
    (other_worker w p os none))) ∙ none

-- A PRODUCE AND A CONSUME

abbrev pub IsProduce : PendingCall → Type 0
IsProduce o = (v : ℕ) × (o.op ≡ Produce v)

abbrev pub IsConsume : PendingCall → Type 0
IsConsume o = o.op ≡ Consume

pub put_produces : (put : Option PendingPut)
    → IfSome put (λ (p : PendingPut). p.call.op ≡ Produce p.item) → Each IsProduce (put_calls put)
put_produces None h = tt
put_produces (Some p) h = ((p.item, h), tt)

pub take_consumes : (take : Option PendingTake)
    → IfSome take (λ (t : PendingTake). t.call.op ≡ Consume) → Each IsConsume (take_calls take)
take_consumes None h = tt
take_consumes (Some t) h = (h, tt)

pub put_ended : (w : ℕ) (os : List PendingCall) (p : PendingPut) (take : Option PendingTake)
    → ArePendingAs os (Some p) take → p.call.worker ≡ w
    → IsPendingBy w os p.call (take_calls take)
put_ended w os p take h e = go take h.calls h.apart
  where
    go : (take : Option PendingTake)
        → (os ≡ p.call ∷ take_calls take) ⊎ (os ≡ take_calls take ++ p.call ∷ [])
        → IfSome take (λ (t : PendingTake). p.call.worker ≡ t.call.worker → ⊥)
        → IsPendingBy w os p.call (take_calls take)
    go take (inl is) apart = subst (λ zs. IsPendingBy w zs p.call (take_calls take)) (sym is)
        (first_by w p.call (take_calls take) e)
    go None (inr is) apart = subst (λ zs. IsPendingBy w zs p.call []) (sym is)
        (first_by w p.call [] e)
    go (Some t) (inr is) apart = subst (λ zs. IsPendingBy w zs p.call (t.call ∷ [])) (sym is)
        (later_by w t.call p.call (p.call ∷ []) [] (λ k. apart (e ∙ sym k))
        (first_by w p.call [] e))

pub take_ended : (w : ℕ) (os : List PendingCall) (put : Option PendingPut) (t : PendingTake)
    → ArePendingAs os put (Some t) → t.call.worker ≡ w → IsPendingBy w os t.call (put_calls put)
take_ended w os put t h e = go put h.calls h.apart
  where
    go : (put : Option PendingPut)
        → (os ≡ put_calls put ++ t.call ∷ []) ⊎ (os ≡ t.call ∷ put_calls put)
        → IfSome put (λ (p : PendingPut). p.call.worker ≡ t.call.worker → ⊥)
        → IsPendingBy w os t.call (put_calls put)
    go put (inr is) apart = subst (λ zs. IsPendingBy w zs t.call (put_calls put)) (sym is)
        (first_by w t.call (put_calls put) e)
    go None (inl is) apart = subst (λ zs. IsPendingBy w zs t.call []) (sym is)
        (first_by w t.call [] e)
    go (Some p) (inl is) apart = subst (λ zs. IsPendingBy w zs t.call (p.call ∷ [])) (sym is)
        (later_by w p.call t.call (t.call ∷ []) [] (λ k. apart (k ∙ sym e))
        (first_by w t.call [] e))

-- neither call is that of the worker
pub none_ended : (w : ℕ) (os : List PendingCall) (put : Option PendingPut)
    (take : Option PendingTake) → ArePendingAs os put take
    → IfSome put (λ (p : PendingPut). p.call.worker ≡ w → ⊥)
    → IfSome take (λ (t : PendingTake). t.call.worker ≡ w → ⊥) → pending_of w os ≡ None
none_ended w os put take h = go put take h.calls
  where
    go : (put : Option PendingPut) (take : Option PendingTake)
        → (os ≡ put_calls put ++ take_calls take) ⊎ (os ≡ take_calls take ++ put_calls put)
        → IfSome put (λ (p : PendingPut). p.call.worker ≡ w → ⊥)
        → IfSome take (λ (t : PendingTake). t.call.worker ≡ w → ⊥) → pending_of w os ≡ None
    go None None (inl is) a b = ap (pending_of w) is
    go None None (inr is) a b = ap (pending_of w) is
    go (Some p) None (inl is) a b = ap (pending_of w) is ∙ none_by w p.call [] a refl
    go (Some p) None (inr is) a b = ap (pending_of w) is ∙ none_by w p.call [] a refl
    go None (Some t) (inl is) a b = ap (pending_of w) is ∙ none_by w t.call [] b refl
    go None (Some t) (inr is) a b = ap (pending_of w) is ∙ none_by w t.call [] b refl
    go (Some p) (Some t) (inl is) a b =
        ap (pending_of w) is ∙ none_by w p.call (t.call ∷ []) a (none_by w t.call [] b refl)
    go (Some p) (Some t) (inr is) a b =
        ap (pending_of w) is ∙ none_by w t.call (p.call ∷ []) b (none_by w p.call [] a refl)

-- the worker of an invocation has neither call
pub others_apart : (w : ℕ) (os : List PendingCall) (put : Option PendingPut)
    (take : Option PendingTake) → ArePendingAs os put take → pending_of w os ≡ None
    → IfSome put (λ (p : PendingPut). p.call.worker ≡ w → ⊥)
    × IfSome take (λ (t : PendingTake). t.call.worker ≡ w → ⊥)
others_apart w os put take h none = go put take h.calls
  where
    at : (zs : List PendingCall) → os ≡ zs → pending_of w zs ≡ None
    at zs is = sym (ap (pending_of w) is) ∙ none

    go : (put : Option PendingPut) (take : Option PendingTake)
        → (os ≡ put_calls put ++ take_calls take) ⊎ (os ≡ take_calls take ++ put_calls put)
        → IfSome put (λ (p : PendingPut). p.call.worker ≡ w → ⊥)
        × IfSome take (λ (t : PendingTake). t.call.worker ≡ w → ⊥)
    go None None is = (tt, tt)
    go (Some p) None (inl is) = (other_worker w p.call [] (at (p.call ∷ []) is), tt)
    go (Some p) None (inr is) = (other_worker w p.call [] (at (p.call ∷ []) is), tt)
    go None (Some t) (inl is) = (tt, other_worker w t.call [] (at (t.call ∷ []) is))
    go None (Some t) (inr is) = (tt, other_worker w t.call [] (at (t.call ∷ []) is))
    go (Some p) (Some t) (inl is) = (
      other_worker w p.call (t.call ∷ []) (at (p.call ∷ t.call ∷ []) is),
      other_worker w t.call [] (none_rest w p.call (t.call ∷ [])
          (at (p.call ∷ t.call ∷ []) is)),
    )
    go (Some p) (Some t) (inr is) = (
      other_worker w p.call [] (none_rest w t.call (p.call ∷ [])
          (at (t.call ∷ p.call ∷ []) is)),
      other_worker w t.call (p.call ∷ []) (at (t.call ∷ p.call ∷ []) is),
    )

-- a call, and those before and after it, for which Q holds
pub record IsAmong (Q : PendingCall → Type 0) (os : List PendingCall) (o : PendingCall) : Type 0
  where
    pub before : List PendingCall
    pub behind : List PendingCall
    pub is : os ≡ before ++ o ∷ behind
    pub front : Each Q before
    pub back : Each Q behind

pub put_among : (os : List PendingCall) (p : PendingPut) (take : Option PendingTake)
    → ArePendingAs os (Some p) take → IsAmong IsConsume os p.call
put_among os p take h =
    let calls = take_consumes take h.consume in
    elim h.calls [
      | inl is ↦ record {
        before = [];
        behind = take_calls take;
        is = is;
        front = tt;
        back = calls;
      }
      | inr is ↦ record {
        before = take_calls take;
        behind = [];
        is = is;
        front = calls;
        back = tt;
      }
    ]

pub take_among : (os : List PendingCall) (put : Option PendingPut) (t : PendingTake)
    → ArePendingAs os put (Some t) → IsAmong IsProduce os t.call
take_among os put t h =
    let calls = put_produces put h.produce in
    elim h.calls [
      | inl is ↦ record {
        before = put_calls put;
        behind = [];
        is = is;
        front = calls;
        back = tt;
      }
      | inr is ↦ record {
        before = [];
        behind = put_calls put;
        is = is;
        front = tt;
        back = calls;
      }
    ]

-- WHAT THEY ASK

abbrev with_op : PendingCall → Op → PendingCall
with_op o op = record { worker = o.worker; object = o.object; op = op; first = o.first }

abbrev pub asked : List PendingCall → List ℕ
asked os = filter_map (λ (o : PendingCall). produced_item o.op) os

abbrev pub consumes : List PendingCall → ℕ
consumes os = count_by (λ (o : PendingCall). is_consume o.op) os

abbrev pub putting : List PendingCall → ℕ
putting os = count_by (λ (o : PendingCall). produces any_item o.op) os

abbrev pub asked_item : Option PendingPut → List ℕ
asked_item None = []
asked_item (Some p) = p.item ∷ []

asked_put : (put : Option PendingPut)
    → IfSome put (λ (p : PendingPut). p.call.op ≡ Produce p.item)
    → asked (put_calls put) ≡ asked_item put
asked_put None h = refl
asked_put (Some p) h = ap (λ op. asked (with_op p.call op ∷ [])) h

asked_take : (take : Option PendingTake)
    → IfSome take (λ (t : PendingTake). t.call.op ≡ Consume) → asked (take_calls take) ≡ []
asked_take None h = refl
asked_take (Some t) h = ap (λ op. asked (with_op t.call op ∷ [])) h

putting_put : (put : Option PendingPut)
    → IfSome put (λ (p : PendingPut). p.call.op ≡ Produce p.item)
    → putting (put_calls put) ≡ length (put_calls put)
putting_put None h = refl
putting_put (Some p) h = ap (λ op. putting (with_op p.call op ∷ [])) h

consumes_put : (put : Option PendingPut)
    → IfSome put (λ (p : PendingPut). p.call.op ≡ Produce p.item) → consumes (put_calls put) ≡ 0
consumes_put None h = refl
consumes_put (Some p) h = ap (λ op. consumes (with_op p.call op ∷ [])) h

consumes_take : (take : Option PendingTake)
    → IfSome take (λ (t : PendingTake). t.call.op ≡ Consume)
    → consumes (take_calls take) ≡ length (take_calls take)
consumes_take None h = refl
consumes_take (Some t) h = ap (λ op. consumes (with_op t.call op ∷ [])) h

module _ (os : List PendingCall) (put : Option PendingPut) (take : Option PendingTake)
    (h : ArePendingAs os put take) where
  pub asked_all : asked os ≡ asked_item put
  asked_all =
      let one = asked_put put h.produce in
      let none = asked_take take h.consume in
      elim h.calls [
        | inl is ↦ ap asked is ∙ filter_map-append (λ (o : PendingCall). produced_item o.op)
            (put_calls put) (take_calls take) ∙ ap (λ zs. asked (put_calls put) ++ zs) none
            ∙ append-nil (asked (put_calls put)) ∙ one
        | inr is ↦ ap asked is ∙ filter_map-append (λ (o : PendingCall). produced_item o.op)
            (take_calls take) (put_calls put) ∙ ap (λ zs. zs ++ asked (put_calls put)) none ∙ one
      ]

  pub consumes_all : consumes os ≡ length (take_calls take)
  consumes_all =
      let none = consumes_put put h.produce in
      let one = consumes_take take h.consume in
      let f = λ (o : PendingCall). is_consume o.op in
      elim h.calls [
        | inl is ↦ ap consumes is ∙ count_append f (put_calls put) (take_calls take)
            ∙ omega (arith, none, one)
        | inr is ↦ ap consumes is ∙ count_append f (take_calls take) (put_calls put)
            ∙ omega (arith, none, one)
      ]

  pub putting_all : length (put_calls put) ≤ putting os
  putting_all =
      let one = putting_put put h.produce in
      let f = λ (o : PendingCall). produces any_item o.op in
      elim h.calls [
        | inl is ↦ (let e : putting os ≡ putting (put_calls put) + putting (take_calls take) =
            ap putting is ∙ count_append f (put_calls put) (take_calls take) in
            omega (arith, e, one))
        | inr is ↦ (let e : putting os ≡ putting (take_calls take) + putting (put_calls put) =
            ap putting is ∙ count_append f (take_calls take) (put_calls put) in
            omega (arith, e, one))
      ]
