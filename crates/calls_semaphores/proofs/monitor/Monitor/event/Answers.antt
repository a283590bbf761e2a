use Rattle.std.proofs.Common.{◌≡◌, ◌∙◌, ◌++◌, ◌∷◌, [], ap, sym, subst, Some, None}
use Rattle.calls_core.specs.declared.history.Call.{Call}
use Rattle.calls_core.specs.Pending.{IsPendingOf}
use Rattle.calls_core.specs.Histories.{pending_of}
use Rattle.calls_semaphores.specs.Monitors.{IsRefusedAt}
use Rattle.calls_semaphores.specs.kept.Keeping.{TakenAs}
use Rattle.calls_semaphores.proofs.Monitoring.{monitor_invoked, monitor_responded, monitor_refused}
use Rattle.calls_semaphores.proofs.Monitoring.{monitor_nobody}
use Rattle.calls_semaphores.proofs.monitor.Monitor.event.Goals as goal

pub returns-in-Invoke-clause-judges : goal.returns-in-Invoke-clause-judges
returns-in-Invoke-clause-judges c = λ units past h k room.
    monitor_invoked units c.args.event past h c.args.self.now k (record {
      bank = c.add.new.self;
      pending = c.push.new.self;
    }) c.in-Invoke.object c.in-Invoke.op c.in-Invoke.is
    (c.push.ensures.items ∙ ap (λ o. c.args.self.now.pending.items ++ o ∷ []) c.new.ensures)
    c.add.ensures.same (c.add.ensures.value room)

pub returns-in_default-clause-judges : goal.returns-in_default-clause-judges
returns-in_default-clause-judges c = λ units past h k room.
    absurd (monitor_nobody units c.args.event past h c.args.self.now k c.in-Respond.reply
    c.in-Respond.is
    (subst (λ os. pending_of c.args.event.worker os ≡ None) c.as_slice.ensures.value
    c.in_default.ensures))

pub returns-in-None-clause-judges : goal.returns-in-None-clause-judges
returns-in-None-clause-judges c = λ units past h k room.
    (let at = subst (λ os. IsPendingOf os c.args.event.worker c.in-Some.k) c.as_slice.ensures.value
    c.in-Some.ensures in
    monitor_responded units c.args.event past h c.args.self.now k c.in-Respond.reply c.in-Respond.is
    c.in-Some.k c.remove.result at c.remove.ensures.value
    (record { bank = c.take.new.self; pending = c.remove.new.self }) c.remove.ensures.items
    c.in-None.ensures.same
    (subst (λ (z : Call). TakenAs c.args.self.now.bank c.take.new.self z.op c.in-Respond.reply None)
    c.complete-call.ensures c.in-None.ensures.value))

pub returns-in-Some-take-clause-judges : goal.returns-in-Some-take-clause-judges
returns-in-Some-take-clause-judges c = λ units past h k room.
    (let at = subst (λ os. IsPendingOf os c.args.event.worker c.in-Some.k) c.as_slice.ensures.value
    c.in-Some.ensures in
    subst (λ (z : Call). IsRefusedAt units past c.args.event (record {
      call = z;
      index =
          c.in-Some-take.index;
    })) (sym c.complete-call.ensures)
    (monitor_refused units c.args.event past h c.args.self.now k c.in-Respond.reply c.in-Respond.is
    c.in-Some.k c.remove.result at c.remove.ensures.value c.take.new.self c.in-Some-take.index
    (subst (λ (z : Call). TakenAs c.args.self.now.bank c.take.new.self z.op c.in-Respond.reply
    (Some c.in-Some-take.index)) c.complete-call.ensures c.in-Some-take.ensures.value)))
