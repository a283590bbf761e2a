use Rattle.std.proofs.Common.{reverse, arith, subst, sym}
use Rattle.calls_core.specs.declared.history.Kind.TheVariants.{Buffer}
use Rattle.calls_core.specs.Outcomes.{IsOrderOf}
use Rattle.calls_core.proofs.Beginnings.{past_all}
use Rattle.calls_buffers.specs.Faults.{Shows}
use Rattle.calls_buffers.specs.Outcomes.{IsOutcome}
use Rattle.calls_verdict.proofs.Halving.{no_events}
use Rattle.calls_verdict.proofs.buffers.decide_buffer.Goals as goal

pub returns-then-count-eq0 : goal.returns-then-count-eq0
returns-then-count-eq0 c =
    subst (IsOrderOf (Buffer c.args.room) (reverse c.args.events.now) c.args.end)
    (sym c.new.ensures)
    (no_events (Buffer c.args.room) c.args.events.now c.args.end
    (omega (arith, c.len-count.ensures, c.if-count-eq0.true)))

pub refuse-requires-clause-shown : goal.refuse-requires-clause-shown
refuse-requires-clause-shown c =
    subst (λ past. Shows c.args.room past c.in-Refused.fault)
    (sym (past_all c.args.events.now c.len-count.result (omega (arith, c.len-count.ensures))))
    (subst (IsOutcome c.args.room c.args.events.now c.args.end) c.in-Refused.is
    c.in_ok-calls.ensures)

pub leave_open-requires-clause-hard : goal.leave_open-requires-clause-hard
leave_open-requires-clause-hard c =
    subst (IsOutcome c.args.room c.args.events.now c.args.end) c.in-NotDecided.is
    c.in_ok-calls.ensures
