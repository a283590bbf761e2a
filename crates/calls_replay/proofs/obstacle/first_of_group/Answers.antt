use Rattle.std.proofs.Common.{◌≡◌, ℕ, ◌<◌, List, length, ap, sym, ◌∙◌, below_more, arith}
use Rattle.std.specs.Prelude.{position}
use Rattle.ec_heading.specs.HeadingModel.{HeadingModel}
use Rattle.calls_core.specs.declared.history.Event.{Event}
use Rattle.calls_core.specs.declared.history.Action.TheVariants.{Respond}
use Rattle.calls_core.specs.declared.history.Reply.TheVariants.{Done}
use Rattle.calls_replay.specs.Obstacles.{is_group_action}
use Rattle.calls_replay.proofs.Firsts.{first_is, none_is}
use Rattle.calls_replay.proofs.obstacle.first_of_group.Goals as goal

pub loop-i-preserved : goal.loop-i-preserved
loop-i-preserved c =
    let h : HeadingModel = c.args.recording.now.heading in
    below_more _ c.loop-i.i c.loop-i.invariant
    (λ (d : Event). ap (λ (x : Event). is_group_action h x.action) (sym (c.at.ensures d))
    ∙ ap (λ (g : HeadingModel). is_group_action g c.at.result.action) (sym c.heading.ensures)
    ∙ sym c.is_group_action.ensures ∙ c.if-is_group_action.false)

pub returns-then-is_group_action : goal.returns-then-is_group_action
returns-then-is_group_action c =
    let h : HeadingModel = c.args.recording.now.heading in
    let events : List Event = c.events-events.result.now in
    let x : Event = c.at.result in
    let lt : c.loop-i.i < length events =
    omega (arith, c.loop-i-test.true, c.len-i-end.ensures) in
    sym (ap (position (λ (e : Event). is_group_action h e.action)) (sym c.events-events.ensures)
    ∙ first_is (λ (e : Event). is_group_action h e.action) events x c.loop-i.i lt
    (λ k below. c.loop-i.invariant k below x)
    (ap (λ (y : Event). is_group_action h y.action) (sym (c.at.ensures x))
    ∙ ap (λ (g : HeadingModel). is_group_action g x.action) (sym c.heading.ensures)
    ∙ sym c.is_group_action.ensures ∙ c.if-is_group_action.true))

pub returns : goal.returns
returns c =
    let h : HeadingModel = c.args.recording.now.heading in
    let events : List Event = c.events-events.result.now in
    let d : Event = record { at = 0; worker = 0; action = Respond Done } in
    sym (ap (position (λ (e : Event). is_group_action h e.action)) (sym c.events-events.ensures)
    ∙ none_is (λ (e : Event). is_group_action h e.action) events d
    (λ k below. c.loop-i.invariant k (omega (arith, below, c.loop-i-test.false, c.len-i-end.ensures)) d))
