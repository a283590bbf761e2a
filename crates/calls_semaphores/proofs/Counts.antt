-- What an event changes in the calls of a history, and how many units were taken and added.
use Rattle.std.proofs.Common.{◌≡◌, ℕ, ◌+◌, ◌==◌, Bool, true, false, List, [], ◌∷◌, ◌++◌, Option}
use Rattle.std.proofs.Common.{Some, None, refl, ap, sym, ◌∙◌, arith, count_by, append_assoc}
use Rattle.std.proofs.Common.{if◌then◌else◌}
use Rattle.calls_core.specs.declared.history.Op.{Op}
use Rattle.calls_core.specs.declared.history.Op.TheVariants.{Advance, Read, Await, Ticket, P, V}
use Rattle.calls_core.specs.declared.history.Op.TheVariants.{PBoth, Put, Get, Produce, Consume}
use Rattle.calls_core.specs.declared.history.Reply.{Reply}
use Rattle.calls_core.specs.declared.history.Reply.TheVariants.{Done}
use Rattle.calls_core.specs.declared.history.Action.TheVariants.{Invoke, Respond}
use Rattle.calls_core.specs.declared.history.Event.{Event}
use Rattle.calls_core.specs.declared.history.PendingCall.{PendingCall}
use Rattle.calls_core.specs.Histories.{completion, completed_calls, pending_calls, pending_of}
use Rattle.calls_core.specs.Histories.{without, invoked_by, pending_after, ended_call}
use Rattle.calls_core.specs.Linearizations.{answered_one, answered_calls}
use Rattle.calls_core.proofs.Counting.{one, one_no, count_cons, count_append}
use Rattle.calls_semaphores.specs.Banks.{adds, took}
use Rattle.calls_semaphores.specs.Monitors.{units_taken, units_added}
use Rattle.calls_semaphores.specs.kept.Keeping.{is_v, answer}
use Rattle.calls_semaphores.proofs.Runs.{took_of, added_of}

-- AN INVOCATION

pub pending_invoke : (x : Event) (past : List Event) (k : ℕ) (op : Op) → x.action ≡ Invoke k op
    → pending_calls (x ∷ past) ≡ pending_calls past ++ invoked_by x k op ∷ []
pending_invoke x past k op e = ap (λ a. pending_after x a (pending_calls past)) e

pub completed_invoke : (x : Event) (past : List Event) (k : ℕ) (op : Op) → x.action ≡ Invoke k op
    → completed_calls (x ∷ past) ≡ completed_calls past
completed_invoke x past k op e = ap (λ a. ended_call x a (pending_of x.worker (pending_calls past))
    ++ completed_calls past) e

-- A RESPONSE

-- o is the pending call of worker w, and the rest are the others
pub record IsFound (w : ℕ) (os : List PendingCall) (o : PendingCall) (rest : List PendingCall) :
    Type 0 where
  pub prefix : List PendingCall
  pub back : List PendingCall
  pub is : os ≡ prefix ++ o ∷ back
  pub rest_is : rest ≡ prefix ++ back

pub found_by : (w : ℕ) (os : List PendingCall) (o : PendingCall) → pending_of w os ≡ Some o
    → IsFound w os o (without w os)
found_by w [] o e = absurd (cc)
found_by w (p ∷ os) o e =
    elim (p.worker == w) as (λ b. (if b then Some p else pending_of w os) ≡ Some o
    → IsFound w (p ∷ os) o (if b then os else p ∷ without w os)) [
      | true ↦ λ f. record {
        prefix = [];
        back = os;
        is =
            (let same : p ≡ o = cc in ap (λ q. q ∷ os) same);
        rest_is = refl;
      }
      | false ↦ λ f. (let r = found_by w os o f in record {
        prefix = p ∷ r.prefix;
        back = r.back;
        is =
            ap (λ ps. p ∷ ps) r.is;
        rest_is = ap (λ ps. p ∷ ps) r.rest_is;
      })
    ] e

pub pending_respond : (x : Event) (past : List Event) (r : Reply) → x.action ≡ Respond r
    → pending_calls (x ∷ past) ≡ without x.worker (pending_calls past)
pending_respond x past r e = ap (λ a. pending_after x a (pending_calls past)) e

pub completed_respond : (x : Event) (past : List Event) (r : Reply) (o : PendingCall)
    → x.action ≡ Respond r
    → pending_of x.worker (pending_calls past) ≡ Some o
    → completed_calls (x ∷ past) ≡ completion x.at r o ∷ completed_calls past
completed_respond x past r o e f =
    ap (λ a. ended_call x a (pending_of x.worker (pending_calls past)) ++ completed_calls past) e
    ∙ ap (λ q. ended_call x (Respond r) q ++ completed_calls past) f

-- COUNTS

abbrev pub adds_of : ℕ → PendingCall → Bool
adds_of i o = adds i o.op

pub added_invoke : (x : Event) (past : List Event) (k : ℕ) (op : Op) (i : ℕ)
    → x.action ≡ Invoke k op
    → units_added i (x ∷ past) ≡ units_added i past + one (adds i op)
added_invoke x past k op i e =
    omega (
      arith,
      ap (count_by (added_of i)) (completed_invoke x past k op e),
      ap (count_by (adds_of i)) (pending_invoke x past k op e),
      count_append (adds_of i) (pending_calls past) (invoked_by x k op ∷ []),
      count_cons (adds_of i) (invoked_by x k op) [],
    )

pub taken_invoke : (x : Event) (past : List Event) (k : ℕ) (op : Op) (i : ℕ)
    → x.action ≡ Invoke k op
    → units_taken i (x ∷ past) ≡ units_taken i past
taken_invoke x past k op i e = ap (count_by (took_of i)) (completed_invoke x past k op e)

-- a count of the pending calls is that of one of them and of the rest
pub count_found : (q : PendingCall → Bool) (w : ℕ) (os : List PendingCall) (o : PendingCall)
    (rest : List PendingCall) → IsFound w os o rest
    → count_by q os ≡ count_by q rest + one (q o)
count_found q w os o rest f =
    omega (
      arith,
      ap (count_by q) f.is,
      ap (count_by q) f.rest_is,
      count_append q f.prefix
          (o ∷ f.back),
      count_cons q o f.back,
      count_append q f.prefix f.back,
    )

pub added_respond : (x : Event) (past : List Event) (r : Reply) (o : PendingCall) (i : ℕ)
    → x.action ≡ Respond r
    → pending_of x.worker (pending_calls past) ≡ Some o
    → units_added i (x ∷ past) ≡ units_added i past
added_respond x past r o i e f =
    omega (
      arith,
      ap (count_by (added_of i)) (completed_respond x past r o e f),
      count_cons (added_of i) (completion x.at r o) (completed_calls past),
      ap (count_by (adds_of i)) (pending_respond x past r e),
      count_found (adds_of i) x.worker (pending_calls past) o
          (without x.worker (pending_calls past)) (found_by x.worker (pending_calls past) o f),
    )

pub taken_respond : (x : Event) (past : List Event) (r : Reply) (o : PendingCall) (i : ℕ)
    → x.action ≡ Respond r
    → pending_of x.worker (pending_calls past) ≡ Some o
    → units_taken i (x ∷ past) ≡ units_taken i past + one (took i o.op r)
taken_respond x past r o i e f =
    omega (
      arith,
      ap (count_by (took_of i)) (completed_respond x past r o e f),
      count_cons
          (took_of i) (completion x.at r o) (completed_calls past),
    )

-- THE PENDING CALLS THAT TAKE EFFECT

v_took_none : (i : ℕ) (op : Op) (r : Reply) → is_v op ≡ true → took i op r ≡ false
v_took_none i (V j) r e = refl
v_took_none i (P j) r e = cc
v_took_none i (PBoth j k) r e = cc
v_took_none i Advance r e = refl
v_took_none i Read r e = refl
v_took_none i (Await v) r e = refl
v_took_none i Ticket r e = refl
v_took_none i (Put v) r e = refl
v_took_none i Get r e = refl
v_took_none i (Produce v) r e = refl
v_took_none i Consume r e = refl

other_adds_none : (i : ℕ) (op : Op) → is_v op ≡ false → adds i op ≡ false
other_adds_none i (V j) e = cc
other_adds_none i (P j) e = refl
other_adds_none i (PBoth j k) e = refl
other_adds_none i Advance e = refl
other_adds_none i Read e = refl
other_adds_none i (Await v) e = refl
other_adds_none i Ticket e = refl
other_adds_none i (Put v) e = refl
other_adds_none i Get e = refl
other_adds_none i (Produce v) e = refl
other_adds_none i Consume e = refl

abbrev pub answer_if : Bool → Option Reply
answer_if b = if b then Some Done else None

pub answered_append : (t : ℕ) (f : PendingCall → Option Reply) (xs ys : List PendingCall)
    → answered_calls t f (xs ++ ys) ≡ answered_calls t f xs ++ answered_calls t f ys
answered_append t f [] ys = refl
answered_append t f (x ∷ xs) ys = ap (λ zs. answered_one t x (f x) ++ zs)
    (answered_append t f xs ys) ∙ sym (append_assoc (answered_one t x (f x)) (answered_calls t f xs)
    (answered_calls t f ys))

pub answered_took : (t i : ℕ) (os : List PendingCall) → count_by (took_of i)
    (answered_calls t answer os) ≡ 0
answered_took t i [] = refl
answered_took t i (o ∷ os) =
    elim (is_v o.op) as (λ b. is_v o.op ≡ b → count_by (took_of i) (answered_one t o (answer_if b)
    ++ answered_calls t answer os) ≡ 0) [
      | true ↦ λ e. omega (
        arith,
        count_cons (took_of i) (completion t Done o)
            (answered_calls t answer os),
        one_no (took i o.op Done) (v_took_none i o.op Done e),
        answered_took t i os,
      )
      | false ↦ λ e. answered_took t i os
    ] refl

pub answered_added : (t i : ℕ) (os : List PendingCall) → count_by (added_of i)
    (answered_calls t answer os) ≡ count_by (adds_of i) os
answered_added t i [] = refl
answered_added t i (o ∷ os) =
    elim (is_v o.op) as (λ b. is_v o.op ≡ b → count_by (added_of i) (answered_one t o (answer_if b)
    ++ answered_calls t answer os) ≡ count_by (adds_of i) (o ∷ os)) [
      | true ↦ λ e. omega (
        arith,
        count_cons (added_of i) (completion t Done o)
            (answered_calls t answer os),
        count_cons (adds_of i) o os,
        answered_added t i os,
      )
      | false ↦ λ e. omega (
        arith,
        count_cons (adds_of i) o os,
        one_no (adds i o.op)
            (other_adds_none i o.op e),
        answered_added t i os,
      )
    ] refl
