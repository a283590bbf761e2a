-- The steps of a monitor.
use Rattle.std.proofs.Common.{◌≡◌, ℕ, true, false, List, [], ◌∷◌, ◌++◌, length, Some, None, refl}
use Rattle.std.proofs.Common.{ap, sym, ◌∙◌, arith, subst, Vec, get_or}
use Rattle.std.specs.declared.alloc.Global.{Global}
use Rattle.std.specs.List.{remove}
use Rattle.calls_core.specs.declared.history.Kind.TheVariants.{Semaphores}
use Rattle.calls_core.specs.declared.history.Op.{Op}
use Rattle.calls_core.specs.declared.history.Reply.{Reply}
use Rattle.calls_core.specs.declared.history.Action.TheVariants.{Invoke, Respond}
use Rattle.calls_core.specs.declared.history.Event.{Event}
use Rattle.calls_core.specs.declared.history.PendingCall.{PendingCall}
use Rattle.calls_core.specs.Histories.{IsHistoryOf, clock, completion, pending_calls, pending_of}
use Rattle.calls_core.specs.Histories.{without, invoked_by}
use Rattle.calls_core.specs.Pending.{IsPendingOf}
use Rattle.calls_semaphores.specs.declared.bank.Bank.{Bank}
use Rattle.calls_semaphores.specs.declared.monitor.Monitor.{Monitor}
use Rattle.calls_semaphores.specs.Monitors.{Represents, IsRefusedAt}
use Rattle.calls_semaphores.specs.kept.Keeping.{is_v, IsOpened, AreAdded, TakenAs}
use Rattle.calls_semaphores.proofs.Counts.{pending_invoke, pending_respond}
use Rattle.calls_semaphores.proofs.Deciding.{HasKept, no_pending, kept_start, kept_of_order}
use Rattle.calls_semaphores.proofs.Deciding.{has_order, has_invoked, has_v, has_other}
use Rattle.calls_semaphores.proofs.Scanning.{left_start, left_invoked, left_now, some_left, refused}

pub monitor_start : (units : Vec ℕ Global) (m : Monitor) → IsOpened units.items m.bank
    → m.pending.items ≡ [] → Represents units [] m
monitor_start units m opened pending = record {
  pending = pending;
  left = left_start units.items m.bank opened;
  order = has_order units [] (λ t le. ([], kept_start units t));
}

module _ (units : Vec ℕ Global) (x : Event) (past : List Event) (h : IsHistoryOf (Semaphores units)
    (x ∷ past)) (old : Monitor) (k : Represents units past old) where
  kept : HasKept units past
  kept = kept_of_order units past h.2 (clock past) (omega arith) k.order.0 k.order.1

  pub monitor_invoked : (new : Monitor) (j : ℕ) (op : Op) → x.action ≡ Invoke j op
      → new.pending.items ≡ old.pending.items ++ invoked_by x j op ∷ []
      → length new.bank.added.items ≡ length old.bank.added.items → AreAdded old.bank new.bank op
      → Represents units (x ∷ past) new
  monitor_invoked new j op is pending same more = record {
    pending = pending ∙ ap (λ os. os ++ invoked_by x j op ∷ []) k.pending ∙ sym
        (pending_invoke x past j op is);
    left = left_invoked units.items x past j op old.bank new.bank is k.left same more;
    order = has_order units (x ∷ past) (has_invoked units x past h j op is kept);
  }

  pub monitor_nobody : (r : Reply) → x.action ≡ Respond r
      → pending_of x.worker old.pending.items ≡ None → ⊥
  monitor_nobody r is none =
      no_pending units x past h r is (subst (λ os. pending_of x.worker os ≡ None) k.pending none)

  module _ (r : Reply) (is : x.action ≡ Respond r) (i : ℕ) (o : PendingCall)
      (at : IsPendingOf old.pending.items x.worker i) (e : o ≡ get_or old.pending.items i o) where
    found : pending_of x.worker (pending_calls past) ≡ Some o
    found = ap (pending_of x.worker) (sym k.pending) ∙ at.first o ∙ ap (λ p. Some p) (sym e)

    pub monitor_refused : (new : Bank) (index : ℕ) → TakenAs old.bank new o.op r (Some index)
        → IsRefusedAt units past x (record { call = completion x.at r o; index = index })
    monitor_refused new index short = refused units x past h r o is found old.bank new k.left index
        short

    pub monitor_responded : (new : Monitor) → new.pending.items ≡ remove old.pending.items i
        → length new.bank.added.items ≡ length old.bank.added.items
        → TakenAs old.bank new.bank o.op r None → Represents units (x ∷ past) new
    monitor_responded new pending same taken =
        let now : HasKept units (x ∷ past) =
        elim (is_v o.op) as (λ b. is_v o.op ≡ b → HasKept units (x ∷ past)) [
          | true ↦ λ v. has_v units x past h r o is found v kept
          | false ↦ λ v. has_other units x past h r o is found v
              (some_left units x past h r o is found old.bank new.bank k.left taken) kept
        ] refl in
        record {
          pending = pending ∙ sym at.others ∙ ap (without x.worker) k.pending
              ∙ sym (pending_respond x past r is);
          left = left_now units x past h r o is found old.bank new.bank k.left same taken;
          order = has_order units (x ∷ past) now;
        }
