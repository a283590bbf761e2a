use Rattle.std.proofs.Common.{subst, sym, Option, Ok}
use Rattle.calls_core.specs.declared.history.Event.{Event}
use Rattle.calls_text.specs.declared.fault.TextFault.{TextFault}
use Rattle.calls_text.specs.declared.following.HistoryLine.{HistoryLine}
use Rattle.calls_text.specs.Reading.{step}
use Rattle.calls_text.specs.kept.Stages.{seen_with, Follows}
use Rattle.calls_text.specs.Following.{PassesIn, IsFaulty, stage_with_events}
use Rattle.calls_text.proofs.FollowingLines.{passes_event, passes_none, passes_fault}
use Rattle.calls_text.proofs.following.Follower.line.Goals as goal

pub returns-in-Ok-Some : goal.returns-in-Ok-Some
returns-in-Ok-Some c = λ events seen.
    passes_event c.args.line.now events c.in-Ok-Some.event c.args.self.now.stage c.follow.new.self
    (subst (λ (o : Option Event). Follows (Ok o) (step (seen_with events c.args.self.now.stage)
    c.args.line.now) events c.follow.new.self) c.in-Ok-Some.field-0-is
    (c.in-Ok-Some.ensures.follows events seen))

pub returns-in-Ok-None : goal.returns-in-Ok-None
returns-in-Ok-None c = λ events seen.
    subst (λ (k : HistoryLine). PassesIn k c.args.line.now events c.args.self.now.stage
    c.follow.new.self) (sym c.what_led_to.ensures)
    (passes_none c.args.line.now events c.args.self.now.stage c.follow.new.self
    (subst (λ (o : Option Event). Follows (Ok o) (step (seen_with events c.args.self.now.stage)
    c.args.line.now) events c.follow.new.self) c.in-Ok-None.field-0-is
    (c.in-Ok-None.ensures.follows events seen)))

pub returns-in-Err : goal.returns-in-Err
returns-in-Err c = λ events seen.
    subst (λ (f : TextFault). IsFaulty f c.args.number c.args.line.now (stage_with_events events c.args.self.now))
    (sym c.fault_at.ensures)
    (passes_fault c.args.number c.args.line.now (stage_with_events events c.args.self.now) c.in-Err.fault
    (c.in-Err.ensures.follows events seen))
