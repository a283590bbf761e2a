-- The steps of the code's loops, over lists.
use Rattle.std.proofs.Common.{◌≡◌, ℕ, ◌+◌, ◌<◌, Bool, true, false, cond, Option}
use Rattle.std.proofs.Common.{Some, None, append_assoc, append-nil, subst, List, [], ◌∷◌, ◌++◌}
use Rattle.std.proofs.Common.{length, take, get_or, reverse, refl, ap, sym, ◌∙◌, arith}
use Rattle.std.proofs.Common.{count_by}
use Rattle.std.specs.List.{Contains}
use Rattle.std.proofs.lemmas.List.{take_more, get_or_default, reverse-append}
use Rattle.calls_core.specs.declared.history.Reply.{Reply}
use Rattle.calls_core.specs.declared.history.Reply.TheVariants.{Done}
use Rattle.calls_core.specs.declared.history.Event.{Event}
use Rattle.calls_core.specs.declared.history.PendingCall.{PendingCall}
use Rattle.calls_core.specs.declared.history.Call.{Call}
use Rattle.calls_core.specs.Lists.{Each}
use Rattle.calls_core.specs.declared.history.Action.{Action}
use Rattle.calls_core.specs.declared.history.Action.TheVariants.{Invoke, Respond}
use Rattle.calls_core.specs.Histories.{completion, pending_of, pending_after, ended_call}
use Rattle.calls_core.specs.Histories.{completed_calls, pending_calls}
use Rattle.calls_core.specs.Linearizations.{answered_one, answered_calls}
use Rattle.calls_core.specs.Beginnings.{past_at}
use Rattle.calls_core.proofs.Lists.{each_append}
use Rattle.calls_core.proofs.Counting.{one, count_cons, count_append}
use Rattle.calls_distinct.specs.Cells.{is_put}
use Rattle.calls_distinct.specs.kept.Zones.{put_answer}

-- AN ELEMENT OF A LIST

pub each_more : {X : Type 0} (Q : X → Type 0) (xs : List X) (i : ℕ) (d : X) → i < length xs
    → Each Q (take i xs) → Q (get_or xs i d) → Each Q (take (i + 1) xs)
each_more Q xs i d lt h q = subst (Each Q) (sym (take_more xs i d lt))
    (each_append Q (take i xs) (get_or xs i d ∷ []) h (q, tt))

pub count_more : {X : Type 0} (p : X → Bool) (xs : List X) (i : ℕ) (d : X) → i < length xs
    → count_by p (take (i + 1) xs) ≡ count_by p (take i xs) + one (p (get_or xs i d))
count_more p xs i d lt = omega (
  arith,
  ap (count_by p) (take_more xs i d lt),
  count_append p
      (take i xs) (get_or xs i d ∷ []),
  count_cons p (get_or xs i d) [],
)

pub contains_at : {X : Type 0} (xs : List X) (i : ℕ) (d : X) → i < length xs
    → Contains xs (get_or xs i d)
contains_at xs i d lt = (i, lt, get_or_default xs i (get_or xs i d) d lt)

-- EVENTS

pub past_more : (events : List Event) (i : ℕ) (d : Event) → i < length events
    → past_at (i + 1) events ≡ get_or events i d ∷ past_at i events
past_more events i d lt = ap reverse (take_more events i d lt) ∙ reverse-append (take i events)
    (get_or events i d ∷ [])

ended_reversed : (x : Event) (a : Action) (o : Option PendingCall)
    → reverse (ended_call x a o) ≡ ended_call x a o
ended_reversed x (Invoke k op) o = refl
ended_reversed x (Respond r) None = refl
ended_reversed x (Respond r) (Some o) = refl

-- the listed calls with one more event
pub noted_more : (events : List Event) (i : ℕ) (x : Event) (calls more : List Call)
    (os next : List PendingCall) → i < length events → x ≡ get_or events i x
    → calls ≡ reverse (completed_calls (past_at i events)) → os ≡ pending_calls (past_at i events)
    → more ≡ calls ++ ended_call x x.action (pending_of x.worker os)
    → next ≡ pending_after x x.action os
    → (more ≡ reverse (completed_calls (past_at (i + 1) events)))
    × (next ≡ pending_calls (past_at (i + 1) events))
noted_more events i x calls more os next lt e cs_are os_are m n =
    let past = past_at i events in
    let is = past_more events i x lt ∙ ap (λ (y : Event). y ∷ past) (sym e) in
    let ended = ended_call x x.action (pending_of x.worker (pending_calls past)) in (
      m ∙ ap (λ cs. cs ++ ended_call x x.action (pending_of x.worker os)) cs_are
          ∙ ap (λ zs. reverse (completed_calls past) ++ ended_call x x.action
          (pending_of x.worker zs)) os_are
          ∙ ap (λ zs. reverse (completed_calls past) ++ zs) (sym (ended_reversed x x.action
          (pending_of x.worker (pending_calls past))))
          ∙ sym (reverse-append ended (completed_calls past))
          ∙ ap (λ p. reverse (completed_calls p)) (sym is),
      n ∙ ap (pending_after x x.action) os_are ∙ ap pending_calls (sym is),
    )

-- PENDING PUTS

answered_append : (t : ℕ) (f : PendingCall → Option Reply) (xs ys : List PendingCall)
    → answered_calls t f (xs ++ ys) ≡ answered_calls t f xs ++ answered_calls t f ys
answered_append t f [] ys = refl
answered_append t f (x ∷ xs) ys = ap (λ zs. answered_one t x (f x) ++ zs)
    (answered_append t f xs ys) ∙ sym (append_assoc (answered_one t x (f x)) (answered_calls t f xs)
    (answered_calls t f ys))

answered_more : (t : ℕ) (f : PendingCall → Option Reply) (os : List PendingCall) (i : ℕ)
    (d : PendingCall) (r : Option Reply) → i < length os → f (get_or os i d) ≡ r
    → answered_calls t f (take (i + 1) os) ≡ answered_calls t f (take i os) ++
    (answered_one t (get_or os i d) r ++ [])
answered_more t f os i d r lt e =
    ap (answered_calls t f) (take_more os i d lt) ∙ answered_append t f (take i os)
    (get_or os i d ∷ []) ∙ ap (λ y. answered_calls t f (take i os) ++
    (answered_one t (get_or os i d) y ++ [])) e

pub puts_more : (t : ℕ) (os : List PendingCall) (i : ℕ) (d : PendingCall) (calls base : List Call)
    → i < length os → calls ≡ base ++ answered_calls t put_answer (take i os)
    → is_put (get_or os i d).op ≡ true
    → calls ++ completion t Done (get_or os i d) ∷ [] ≡ base ++ answered_calls t put_answer
    (take (i + 1) os)
puts_more t os i d calls base lt h e =
    let x = get_or os i d in
    ap (λ zs. zs ++ completion t Done x ∷ []) h ∙ append_assoc base (answered_calls t put_answer
    (take i os)) (completion t Done x ∷ [])
    ∙ ap (λ zs. base ++ zs) (sym (answered_more t put_answer os i d (Some Done) lt
    (ap (λ b. cond b (Some Done) None) e)))

pub puts_same : (t : ℕ) (os : List PendingCall) (i : ℕ) (d : PendingCall) (calls base : List Call)
    → i < length os → calls ≡ base ++ answered_calls t put_answer (take i os)
    → is_put (get_or os i d).op ≡ false
    → calls ≡ base ++ answered_calls t put_answer (take (i + 1) os)
puts_same t os i d calls base lt h e =
    h ∙ ap (λ zs. base ++ zs) (sym (append-nil (answered_calls t put_answer (take i os))) ∙ sym
    (answered_more t put_answer os i d None lt (ap (λ b. cond b (Some Done) None) e)))
