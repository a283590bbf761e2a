use Rattle.std.proofs.Common.{◌≡◌, ℕ, List, Option, Ok, subst, rules}
use Rattle.calls_core.specs.declared.history.Event.{Event}
use Rattle.calls_text.specs.declared.fault.LineFault.{LineFault}
use Rattle.calls_text.specs.declared.stage.Stage as held
use Rattle.calls_text.specs.Reading.{Stage, step, StepFails}
use Rattle.calls_text.specs.kept.Stages.{stage_with_all, IsSound, kept_events, seen_with, Follows}
use Rattle.calls_text.proofs.Lifting.{seen_kept, following, kept_none, kept_next, kept_then}
use Rattle.calls_text.proofs.stage.Stage.take.Goals as goal

abbrev From : held.Stage → List ℕ → held.Stage → Option Event → Type 0
From old line new o =
    Follows (Ok o) (step (seen_with (kept_events old) old) line) (kept_events old) new

pub keep-requires : goal.keep-requires
keep-requires c =
    let s = c.args.self.now in
    kept_next s c.follow.new.self (step (seen_with (kept_events s) s) c.args.line.now)
    c.in-Some.event c.in_ok-event.ensures.kept
    (subst (From s c.args.line.now c.follow.new.self) c.in-Some.is
    (c.in_ok-event.ensures.follows (kept_events s) (following s c.requires)))

pub returns-in_err-event : goal.returns-in_err-event
returns-in_err-event c =
    let s = c.args.self.now in
    let fault : LineFault = c.in_err-event.field-0.0 in
    let fails : StepFails fault (step (stage_with_all s) c.args.line.now) =
    subst (λ (t : Stage). StepFails fault (step t c.args.line.now)) (seen_kept s)
    (c.in_err-event.ensures.follows (kept_events s) (following s c.requires)) in
    search (fails, rules)

pub returns-in_default : goal.returns-in_default
returns-in_default c =
    let s = c.args.self.now in
    let new = c.follow.new.self in
    subst (λ (t : Stage). (step t c.args.line.now ≡ Ok (stage_with_all new))
    × IsSound new) (seen_kept s)
    (kept_none s new (step (seen_with (kept_events s) s) c.args.line.now)
    c.in_ok-event.ensures.kept
    (subst (From s c.args.line.now new) c.in_default.is
    (c.in_ok-event.ensures.follows (kept_events s) (following s c.requires))))

pub returns-in_ok-keep : goal.returns-in_ok-keep
returns-in_ok-keep c =
    let s = c.args.self.now in
    let new = c.keep.new.self in
    subst (λ (t : Stage). (step t c.args.line.now ≡ Ok (stage_with_all new))
    × IsSound new) (seen_kept s)
    (kept_then s c.follow.new.self new (step (seen_with (kept_events s) s) c.args.line.now)
    c.in-Some.event c.in_ok-event.ensures.kept
    (subst (From s c.args.line.now c.follow.new.self) c.in-Some.is
    (c.in_ok-event.ensures.follows (kept_events s) (following s c.requires))) c.in_ok-keep.ensures)
