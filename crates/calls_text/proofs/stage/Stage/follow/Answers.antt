use Rattle.std.proofs.Common.{◌∙◌, sym, ap, subst, rules}
use Rattle.calls_text.specs.declared.fault.LineFault.{LineFault}
use Rattle.calls_text.specs.Reading.{step, StepFails}
use Rattle.calls_text.specs.declared.stage.Stage as held
use Rattle.calls_text.specs.declared.stage.Stage.TheVariants as holds
use Rattle.calls_text.specs.kept.Stages.{seen_with, IsFollowing, Adds, turns}
use Rattle.calls_text.proofs.Lifting.{event_failed, event_follows}
use Rattle.calls_text.proofs.stage.Stage.follow.Goals as goal

pub returns-in_ok-line-in-Running-clause-follows : goal.returns-in_ok-line-in-Running-clause-follows
returns-in_ok-line-in-Running-clause-follows c = λ events is.
    let line = c.args.line.now in
    let run = c.in-Running.running in
    let event = c.in_ok-line-in-Running.field-0 in
    subst (λ (s : held.Stage). Adds event (step (seen_with events s) line) events
    (holds.Running c.line.new.self)) (sym c.in-Running.is)
    (event_follows events run c.line.new.self line event
    (ap (λ (s : held.Stage). turns s line) (sym c.in-Running.is) ∙ sym c.is_turned.ensures
    ∙ c.if-is_turned.false) (subst (IsFollowing events) c.in-Running.is is)
    c.in_ok-line-in-Running.ensures)

pub returns-in_err-line-in-Running-clause-follows : goal.returns-in_err-line-in-Running-clause-follows
returns-in_err-line-in-Running-clause-follows c = λ events is.
    let line = c.args.line.now in
    let run = c.in-Running.running in
    let fault : LineFault = c.in_err-line-in-Running.field-0.0 in
    let fails : StepFails fault (step (seen_with events c.args.self.now) line) =
    subst (λ (s : held.Stage). StepFails fault (step (seen_with events s) line))
    (sym c.in-Running.is)
    (event_failed events run line fault
    (ap (λ (s : held.Stage). turns s line) (sym c.in-Running.is) ∙ sym c.is_turned.ensures
    ∙ c.if-is_turned.false) (subst (IsFollowing events) c.in-Running.is is)
    c.in_err-line-in-Running.ensures) in
    search (fails, rules)
