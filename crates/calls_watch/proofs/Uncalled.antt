-- Histories in which no cell, database or buffer is called.
use Rattle.std.proofs.Common.{◌≡◌, ℕ, Bool, true, false, ◌&&◌, not, cond, List, [], ◌∷◌, Option, None}
use Rattle.std.proofs.Common.{refl, ap, sym, ◌∙◌, subst}
use Rattle.std.proofs.lemmas.Bool.{eqb-true}
use Rattle.calls_core.specs.declared.history.Kind.{Kind}
use Rattle.calls_core.specs.declared.history.Kind.TheVariants.{Cell, Database, Buffer}
use Rattle.calls_core.specs.declared.history.Op.TheVariants.{Advance, Read, Await, Ticket, P, V}
use Rattle.calls_core.specs.declared.history.Op.TheVariants.{PBoth, Put, Get, Produce, Consume}
use Rattle.calls_core.specs.declared.history.Action.{Action}
use Rattle.calls_core.specs.declared.history.Action.TheVariants.{Invoke, Respond}
use Rattle.calls_core.specs.declared.history.Event.{Event}
use Rattle.calls_core.specs.declared.history.PendingCall.{PendingCall}
use Rattle.calls_core.specs.Histories.{pending_of, pending_calls, is_on, part}
use Rattle.calls_core.specs.Histories.{IsHistoryOf, IsNextOf}
use Rattle.calls_core.specs.Completions.{IsLinearizable}
use Rattle.calls_core.specs.Outcomes.{HasOrderOf}
use Rattle.calls_local.proofs.Wholes.{linearizable_by_orders}
use Rattle.calls_distinct.proofs.Earlier.{order_of_none as nothing_ordered}
use Rattle.calls_watch.specs.Watches.{is_of_cells, no_object, invokes_cells, CallNone}

-- an event on an object that is not excepted
counted : (others : ℕ → Bool) (k : ℕ) (a : Action) (o : Option PendingCall) → others k ≡ false
    → is_on k a o ≡ true → invokes_cells others a ≡ false → invokes_cells no_object a ≡ false
counted others k (Invoke j op) o plain on none =
    ap (λ b. is_of_cells op && not b) (sym plain ∙ ap others (sym (eqb-true j k on))) ∙ none
counted others k (Respond r) o plain on none = refl

-- the part on such an object invokes none at all
pub part_calls_none : (others : ℕ → Bool) (k : ℕ) → others k ≡ false → (past : List Event)
    → CallNone others past → CallNone no_object (part k past)
part_calls_none others k plain [] w = tt
part_calls_none others k plain (x ∷ past) w =
    let o = pending_of x.worker (pending_calls past) in
    let P : Bool → Type 0 = λ b. is_on k x.action o ≡ b
    → CallNone no_object (cond b (x ∷ part k past) (part k past)) in
    elim (is_on k x.action o) as P [
      | true ↦ λ on. (
        counted others k x.action o plain on w.0,
        part_calls_none others k plain past w.1,
      )
      | false ↦ λ on. part_calls_none others k plain past w.1
    ] refl

-- the first event of the calls of such an object invokes a call of a cell, a database or a buffer
abbrev pub BeginsWithNone : Kind → Type 0
BeginsWithNone kind =
    (a : Action) → IsNextOf kind a None → invokes_cells no_object a ≡ false → ⊥

pub cell_begins : BeginsWithNone Cell
cell_begins (Invoke k Advance) next none = next
cell_begins (Invoke k Read) next none = next
cell_begins (Invoke k (Await v)) next none = next
cell_begins (Invoke k Ticket) next none = next
cell_begins (Invoke k (P i)) next none = next
cell_begins (Invoke k (V i)) next none = next
cell_begins (Invoke k (PBoth i j)) next none = next
cell_begins (Invoke k (Put v)) next none = cc
cell_begins (Invoke k Get) next none = cc
cell_begins (Invoke k (Produce v)) next none = next
cell_begins (Invoke k Consume) next none = next
cell_begins (Respond r) next none = next

pub database_begins : (n : ℕ) → BeginsWithNone (Database n)
database_begins n (Invoke k Advance) next none = next
database_begins n (Invoke k Read) next none = next
database_begins n (Invoke k (Await v)) next none = next
database_begins n (Invoke k Ticket) next none = next
database_begins n (Invoke k (P i)) next none = next
database_begins n (Invoke k (V i)) next none = next
database_begins n (Invoke k (PBoth i j)) next none = next
database_begins n (Invoke k (Put v)) next none = cc
database_begins n (Invoke k Get) next none = cc
database_begins n (Invoke k (Produce v)) next none = next
database_begins n (Invoke k Consume) next none = next
database_begins n (Respond r) next none = next

pub buffer_begins : (n : ℕ) → BeginsWithNone (Buffer n)
buffer_begins n (Invoke k Advance) next none = next
buffer_begins n (Invoke k Read) next none = next
buffer_begins n (Invoke k (Await v)) next none = next
buffer_begins n (Invoke k Ticket) next none = next
buffer_begins n (Invoke k (P i)) next none = next
buffer_begins n (Invoke k (V i)) next none = next
buffer_begins n (Invoke k (PBoth i j)) next none = next
buffer_begins n (Invoke k (Put v)) next none = next
buffer_begins n (Invoke k Get) next none = next
buffer_begins n (Invoke k (Produce v)) next none = cc
buffer_begins n (Invoke k Consume) next none = cc
buffer_begins n (Respond r) next none = next

pub uncalled : (kind : Kind) → BeginsWithNone kind → (past : List Event) → IsHistoryOf kind past
    → CallNone no_object past → past ≡ []
uncalled kind begins [] h w = refl
uncalled kind begins (x ∷ past) h w =
    let none : past ≡ [] = uncalled kind begins past h.2 w.1 in
    absurd (begins x.action
    (subst (λ (p : List Event). IsNextOf kind x.action (pending_of x.worker (pending_calls p))) none
    h.1) w.0)

pub uncalled_order : (kind : Kind) → BeginsWithNone kind → (past : List Event)
    → IsHistoryOf kind past → CallNone no_object past → HasOrderOf kind past
uncalled_order kind begins past h w =
    subst (HasOrderOf kind) (sym (uncalled kind begins past h w)) (nothing_ordered kind)

-- before the first event
pub none_linearizable : (kinds : List Kind) → IsLinearizable kinds []
none_linearizable kinds =
    (linearizable_by_orders kinds [] tt).1 (λ k kind is. nothing_ordered kind)
