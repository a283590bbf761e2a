use Rattle.std.proofs.Common.{◌≡◌, ◌++◌, ◌∷◌, [], ◌∙◌, ap, sym, subst, refl, length, arith}
use Rattle.calls_core.specs.declared.history.PendingCall.{PendingCall}
use Rattle.calls_core.specs.declared.history.Call.{Call}
use Rattle.calls_core.specs.declared.history.Reply.TheVariants.{Done}
use Rattle.calls_core.specs.Histories.{completion, invoked_by}
use Rattle.calls_semaphores.specs.declared.scan.Scan.{Scan}
use Rattle.calls_semaphores.proofs.Scanning.{scan_invoked_v, scan_invoked_other}
use Rattle.calls_semaphores.proofs.scan.Scan.invoke.Goals as goal

pub returns-then-not-is_v-clause-step : goal.returns-then-not-is_v-clause-step
returns-then-not-is_v-clause-step c = λ is units past h le k.
    (let s = c.args.self.now in
    let new : Scan = record {
      bank = c.add.new.self;
      pending = c.push.new.self;
      order = s.order;
      end = s.end;
    } in
    let place : c.len-noted.result ≡ length s.order = omega (arith, c.len-noted.ensures) in
    let pending : c.push.new.self.items ≡ s.pending.items ++ record {
      call =
          invoked_by c.args.event c.args.object c.args.op;
      noted = length s.order;
    } ∷ [] =
    subst (λ (z : PendingCall). c.push.new.self.items ≡ s.pending.items ++ record {
      call = z;
      noted = length s.order;
    } ∷ []) c.new-call.ensures
    (subst (λ n. c.push.new.self.items ≡ s.pending.items ++ record {
      call =
          c.new-call.result;
      noted = n;
    } ∷ []) place c.in_ok-push.ensures.items) in
    scan_invoked_other units c.args.event past h s new le k refl c.args.object c.args.op is pending
    c.add.ensures.same (c.add.ensures.value c.requires) (sym c.is_v.ensures ∙ c.if-not-is_v.true)
    refl)

pub returns-clause-step : goal.returns-clause-step
returns-clause-step c = λ is units past h le k.
    (let s = c.args.self.now in
    let new : Scan = record {
      bank = c.add.new.self;
      pending = c.push.new.self;
      order =
          c.push-2.new.self;
      end = s.end;
    } in
    let place : c.len-noted.result ≡ length s.order = omega (arith, c.len-noted.ensures) in
    let pending : c.push.new.self.items ≡ s.pending.items ++ record {
      call =
          invoked_by c.args.event c.args.object c.args.op;
      noted = length s.order;
    } ∷ [] =
    subst (λ (z : PendingCall). c.push.new.self.items ≡ s.pending.items ++ record {
      call = z;
      noted = length s.order;
    } ∷ []) c.new-call.ensures
    (subst (λ n. c.push.new.self.items ≡ s.pending.items ++ record {
      call =
          c.new-call.result;
      noted = n;
    } ∷ []) place c.in_ok-push.ensures.items) in
    let order : c.push-2.new.self ≡ s.order ++ completion s.end Done
    (invoked_by c.args.event c.args.object c.args.op) ∷ [] =
    c.in_ok-push-2.ensures ∙ ap (λ (z : Call). s.order ++ z ∷ []) c.complete.ensures
    ∙ ap (λ (z : PendingCall). s.order ++ completion s.end Done z ∷ [])
    c.new-call.ensures in
    scan_invoked_v units c.args.event past h s new le k refl c.args.object c.args.op is pending
    c.add.ensures.same (c.add.ensures.value c.requires) (sym c.is_v.ensures ∙ c.if-not-is_v.false)
    order)
