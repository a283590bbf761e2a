-- The pending and completed calls of a history with one more event.
use Rattle.std.proofs.Common.{◌≡◌, ℕ, ◌≤◌, Bool, true, false, ◌==◌, cond, List, [], ◌∷◌}
use Rattle.std.proofs.Common.{◌++◌, Option, Some, None, slice_get, refl, ap, sym, ◌∙◌, subst}
use Rattle.std.proofs.lemmas.Bool.{eqb-true, eqb-false, ne_eqb}
use Rattle.calls_core.specs.declared.history.Kind.{Kind}
use Rattle.calls_core.specs.declared.history.Op.{Op}
use Rattle.calls_core.specs.declared.history.Reply.{Reply}
use Rattle.calls_core.specs.declared.history.Action.TheVariants.{Invoke, Respond}
use Rattle.calls_core.specs.declared.history.Event.{Event}
use Rattle.calls_core.specs.declared.history.PendingCall.{PendingCall}
use Rattle.calls_core.specs.declared.history.Call.{Call}
use Rattle.calls_core.specs.Linearizations.{set_at}
use Rattle.calls_core.specs.Histories.{clock, pending_of, without, pending_calls, completion}
use Rattle.calls_core.specs.Histories.{completed_calls, ended_call, Takes, Suits, IsNext, IsHistory}

-- each worker has no more than one of the pending calls
abbrev pub AreOwn : List PendingCall → Type 0
AreOwn [] = Unit {0}
AreOwn (o ∷ os) = (pending_of o.worker os ≡ None) × AreOwn os

none_parts : (b : Bool) (o : PendingCall) (x : Option PendingCall) → cond b (Some o) x ≡ None
    → (b ≡ false) × (x ≡ None)
none_parts true o x h = cc
none_parts false o x h = (refl, h)

-- one more pending call is that of its worker
pub pending_more : (v : ℕ) (os : List PendingCall) (p : PendingCall) → pending_of p.worker os ≡ None
    → pending_of v (os ++ p ∷ []) ≡ cond (p.worker == v) (Some p) (pending_of v os)
pending_more v [] p h = refl
pending_more v (o ∷ os) p h =
    let n = none_parts (o.worker == p.worker) o (pending_of p.worker os) h in
    elim (o.worker == v) as (λ b. (o.worker == v) ≡ b
    → cond b (Some o) (pending_of v (os ++ p ∷ []))
    ≡ cond (p.worker == v) (Some p) (cond b (Some o) (pending_of v os))) [
      | true ↦ λ e.
          (let same : o.worker ≡ v = eqb-true o.worker v e in
          let other : o.worker ≡ p.worker → ⊥ = eqb-false o.worker p.worker n.0 in
          let no : (p.worker == v) ≡ false = ne_eqb p.worker v (λ k. other (same ∙ sym k)) in
          sym (ap (λ b. cond b (Some p) (Some o)) no))
      | false ↦ λ e. pending_more v os p n.1
    ] refl

-- if the call of a worker is removed, the worker has none
pub pending_less : (v w : ℕ) (os : List PendingCall) → AreOwn os
    → pending_of v (without w os) ≡ cond (w == v) None (pending_of v os)
pending_less v w [] own = elim (w == v) as (λ b. pending_of v [] ≡ cond b None None) [
  | true ↦ refl
  | false ↦ refl
]
pending_less v w (o ∷ os) own =
    elim (o.worker == w) as (λ b. (o.worker == w) ≡ b → pending_of v (cond b os (o ∷ without w os))
    ≡ cond (w == v) None (cond (o.worker == v) (Some o) (pending_of v os))) [
      | true ↦ λ e.
          (let same : o.worker ≡ w = eqb-true o.worker w e in
          let turn : (o.worker == v) ≡ (w == v) = ap (λ n. n == v) same in
          elim (w == v) as (λ b. (w == v) ≡ b → pending_of v os
          ≡ cond b None (cond (o.worker == v) (Some o) (pending_of v os))) [
            | true ↦ λ k.
                (let here : o.worker ≡ v = same ∙ eqb-true w v k in
                ap (λ n. pending_of n os) (sym here) ∙ own.0)
            | false ↦ λ k. sym (ap (λ b. cond b (Some o) (pending_of v os)) (turn ∙ k))
          ] refl)
      | false ↦ λ e.
          (elim (o.worker == v) as (λ b. (o.worker == v) ≡ b
          → cond b (Some o) (pending_of v (without w os))
          ≡ cond (w == v) None (cond b (Some o) (pending_of v os))) [
            | true ↦ λ k.
                (let same : o.worker ≡ v = eqb-true o.worker v k in
                let other : o.worker ≡ w → ⊥ = eqb-false o.worker w e in
                let no : (w == v) ≡ false = ne_eqb w v (λ j. other (same ∙ sym j)) in
                sym (ap (λ b. cond b None (Some o)) no))
            | false ↦ λ k. pending_less v w os own.1
          ] refl)
    ] refl

own_more : (os : List PendingCall) (p : PendingCall) → AreOwn os → pending_of p.worker os ≡ None
    → AreOwn (os ++ p ∷ [])
own_more [] p own h = (refl, tt)
own_more (o ∷ os) p own h =
    let n = none_parts (o.worker == p.worker) o (pending_of p.worker os) h in
    let other : o.worker ≡ p.worker → ⊥ = eqb-false o.worker p.worker n.0 in
    let no : (p.worker == o.worker) ≡ false = ne_eqb p.worker o.worker (λ k. other (sym k)) in (
      pending_more o.worker os p n.1
          ∙ ap (λ b. cond b (Some p) (pending_of o.worker os)) no ∙ own.0,
      own_more os p own.1 n.1,
    )

none_either : (b : Bool) (x : Option PendingCall) → x ≡ None → cond b None x ≡ None
none_either true x h = refl
none_either false x h = h

own_less : (w : ℕ) (os : List PendingCall) → AreOwn os → AreOwn (without w os)
own_less w [] own = tt
own_less w (o ∷ os) own =
    elim (o.worker == w) as (λ b. AreOwn (cond b os (o ∷ without w os))) [
      | true ↦ own.1
      | false ↦ (
        pending_less o.worker w os own.1
            ∙ none_either (w == o.worker) (pending_of o.worker os) own.0,
        own_less w os own.1,
      )
    ]

-- a history with this pending call of each worker, and these completed calls
pub record Keeps (kinds : List Kind) (past : List Event) (pending : ℕ → Option PendingCall)
    (done : List Call) : Type 0 where
  pub history : IsHistory kinds past
  pub own : AreOwn (pending_calls past)
  pub pending_is : (v : ℕ) → pending_of v (pending_calls past) ≡ pending v
  pub done_is : completed_calls past ≡ done

pub keeps_none : (kinds : List Kind) → Keeps kinds [] (λ v. None) []
keeps_none kinds = record { history = tt; own = tt; pending_is = λ v. refl; done_is = refl }

pub keeps_same : (kinds : List Kind) (past : List Event) (f g : ℕ → Option PendingCall)
    (done more : List Call) → ((v : ℕ) → f v ≡ g v) → done ≡ more → Keeps kinds past f done
    → Keeps kinds past g more
keeps_same kinds past f g done more same is h = record {
  history = h.history;
  own = h.own;
  pending_is = λ v. h.pending_is v ∙ same v;
  done_is = h.done_is ∙ is;
}

abbrev pub invocation : ℕ → ℕ → ℕ → Op → Event
invocation n w k op = record { at = n; worker = w; action = Invoke k op }

abbrev pub response : ℕ → ℕ → Reply → Event
response n w r = record { at = n; worker = w; action = Respond r }

abbrev pub begun : ℕ → ℕ → ℕ → Op → PendingCall
begun n w k op = record { worker = w; object = k; op = op; first = n }

pub keeps_invoked : (kinds : List Kind) (past : List Event) (f : ℕ → Option PendingCall)
    (done : List Call) (n w k : ℕ) (op : Op) → Keeps kinds past f done → clock past ≤ n
    → f w ≡ None → Takes (slice_get kinds k) op
    → Keeps kinds (invocation n w k op ∷ past) (set_at w (Some (begun n w k op)) f) done
keeps_invoked kinds past f done n w k op h up free takes =
    let none : pending_of w (pending_calls past) ≡ None = h.pending_is w ∙ free in
    record {
      history = (
        up,
        subst (IsNext kinds (Invoke k op)) (sym none) takes,
        h.history,
      );
      own = own_more (pending_calls past) (begun n w k op) h.own none;
      pending_is = λ v. pending_more v (pending_calls past) (begun n w k op) none
          ∙ ap (cond (w == v) (Some (begun n w k op))) (h.pending_is v);
      done_is = h.done_is;
    }

pub keeps_responded : (kinds : List Kind) (past : List Event) (f : ℕ → Option PendingCall)
    (done : List Call) (n w : ℕ) (r : Reply) (o : PendingCall) → Keeps kinds past f done
    → clock past ≤ n → f w ≡ Some o → Suits o.op r
    → Keeps kinds (response n w r ∷ past) (set_at w None f) (completion n r o ∷ done)
keeps_responded kinds past f done n w r o h up busy suits =
    let some : pending_of w (pending_calls past) ≡ Some o = h.pending_is w ∙ busy in
    record {
      history = (
        up,
        subst (IsNext kinds (Respond r)) (sym some) suits,
        h.history,
      );
      own = own_less w (pending_calls past) h.own;
      pending_is = λ v. pending_less v w (pending_calls past) h.own
          ∙ ap (cond (w == v) None) (h.pending_is v);
      done_is = ap (λ p. ended_call (response n w r) (Respond r) p ++ completed_calls past) some
          ∙ ap (λ cs. completion n r o ∷ cs) h.done_is;
    }
