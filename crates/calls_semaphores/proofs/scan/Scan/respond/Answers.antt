use Rattle.std.proofs.Common.{◌≡◌, ◌++◌, ◌∷◌, [], ◌∙◌, sym, subst, refl, Some, None, true}
use Rattle.std.proofs.Common.{false, arith}
use Rattle.calls_core.specs.declared.history.Call.{Call}
use Rattle.calls_core.specs.Pending.{noted_calls, IsNotedOf}
use Rattle.calls_core.specs.Histories.{pending_of}
use Rattle.calls_semaphores.specs.declared.scan.Scan.{Scan}
use Rattle.calls_semaphores.specs.Monitors.{IsRefusedAt}
use Rattle.calls_semaphores.specs.kept.Keeping.{is_v, TakenAs}
use Rattle.calls_semaphores.proofs.Scanning.{at_noted, scan_nobody, scan_refused}
use Rattle.calls_semaphores.proofs.Scanning.{scan_other, scan_v, placed_within}
use Rattle.calls_semaphores.proofs.scan.Scan.respond.Goals as goal

pub returns-in_default-clause-step : goal.returns-in_default-clause-step
returns-in_default-clause-step c = λ is units past h le k.
    absurd (scan_nobody units c.args.event past h c.args.self.now k c.args.reply is
    (subst (λ us. pending_of c.args.event.worker (noted_calls us) ≡ None) c.deref.ensures.value
    c.in_default.ensures))

pub returns-in-Some-take-clause-step : goal.returns-in-Some-take-clause-step
returns-in-Some-take-clause-step c = λ is units past h le k.
    (let s = c.args.self.now in
    let o = c.remove-open.result in
    let at = at_noted s.pending.items c.args.event.worker c.in-Some.k o
    (subst (λ us. IsNotedOf us c.args.event.worker c.in-Some.k) c.deref.ensures.value
    c.in-Some.ensures) c.remove-open.ensures.value in
    subst (λ (z : Call). IsRefusedAt units past c.args.event (record {
      call = z;
      index =
          c.in-Some-take.index;
    })) (sym c.complete-call.ensures)
    (scan_refused units c.args.event past h s k c.args.reply is c.in-Some.k o at c.take.new.self
    c.in-Some-take.index
    (subst (λ (z : Call). TakenAs s.bank c.take.new.self z.op c.args.reply
    (Some c.in-Some-take.index)) c.complete-call.ensures c.in-Some-take.ensures.value)))

pub returns-in_ok-push-clause-step : goal.returns-in_ok-push-clause-step
returns-in_ok-push-clause-step c = λ is units past h le k.
    (let s = c.args.self.now in
    let o = c.remove-open.result in
    let at = at_noted s.pending.items c.args.event.worker c.in-Some.k o
    (subst (λ us. IsNotedOf us c.args.event.worker c.in-Some.k) c.deref.ensures.value
    c.in-Some.ensures) c.remove-open.ensures.value in
    let new : Scan = record {
      bank = c.take.new.self;
      pending = c.remove-open.new.self;
      order =
          c.push.new.self;
      end = s.end;
    } in
    scan_other units c.args.event past h s new le k refl c.args.reply is c.in-Some.k o at
    c.remove-open.ensures.items c.in_default-take.ensures.same
    (subst (λ (z : Call). TakenAs s.bank c.take.new.self z.op c.args.reply None)
    c.complete-call.ensures c.in_default-take.ensures.value)
    (subst (λ (z : Call). is_v z.op ≡ false) c.complete-call.ensures
    (sym c.is_v.ensures ∙ c.if-not-is_v.true))
    (subst (λ (z : Call). c.push.new.self ≡ s.order ++ z ∷ []) c.complete-call.ensures
    c.in_ok-push.ensures))

pub returns-in_ok-set_response-clause-step : goal.returns-in_ok-set_response-clause-step
returns-in_ok-set_response-clause-step c = λ is units past h le k.
    (let s = c.args.self.now in
    let o = c.remove-open.result in
    let at = at_noted s.pending.items c.args.event.worker c.in-Some.k o
    (subst (λ us. IsNotedOf us c.args.event.worker c.in-Some.k) c.deref.ensures.value
    c.in-Some.ensures) c.remove-open.ensures.value in
    let new : Scan = record {
      bank = c.take.new.self;
      pending = c.remove-open.new.self;
      order = c.set_response.new.self;
      end = s.end;
    } in
    scan_v units c.args.event past h s new le k refl c.args.reply is c.in-Some.k o at
    c.remove-open.ensures.items c.in_default-take.ensures.same
    (subst (λ (z : Call). TakenAs s.bank c.take.new.self z.op c.args.reply None)
    c.complete-call.ensures c.in_default-take.ensures.value)
    (subst (λ (z : Call). is_v z.op ≡ true) c.complete-call.ensures
    (sym c.is_v.ensures ∙ c.if-not-is_v.false))
    c.in_ok-set_response.ensures)

pub returns-else-open-len-clause-step : goal.returns-else-open-len-clause-step
returns-else-open-len-clause-step c = λ is units past h le k.
    (let s = c.args.self.now in
    let o = c.remove-open.result in
    let at = at_noted s.pending.items c.args.event.worker c.in-Some.k o
    (subst (λ us. IsNotedOf us c.args.event.worker c.in-Some.k) c.deref.ensures.value
    c.in-Some.ensures) c.remove-open.ensures.value in
    let within = placed_within units c.args.event past h s k c.args.reply is c.in-Some.k o at
    (subst (λ (z : Call). is_v z.op ≡ true) c.complete-call.ensures
    (sym c.is_v.ensures ∙ c.if-not-is_v.false)) in
    absurd (omega (arith, within, c.if-open-len.false, c.len.ensures)))
