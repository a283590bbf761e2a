use Rattle.std.proofs.Common.{◌≡◌, ap, ◌∙◌, map, arith, length}
use Rattle.ec_draw.specs.Curves.{curve_model}
use Rattle.ec_draw.proofs.Filtering.{no_events, more_events, first_sequencers, more_sequencers}
use Rattle.ec_draw.proofs.curve.curves.Goals as goal

pub loop-number-init : goal.loop-number-init
loop-number-init c = ap (map curve_model) c.new-curves.ensures.items
    ∙ no_events c.args.window c.args.run.now.entries

pub loop-number-preserved : goal.loop-number-preserved
loop-number-preserved c = c.in_ok-add_event.ensures
    ∙ more_events c.args.window c.args.run.now.entries c.loop-number.number _
    c.loop-number.invariant

pub loop-number-2-init : goal.loop-number-2-init
loop-number-2-init c =
    c.loop-number.invariant
    ∙ first_sequencers c.args.window c.args.run.now.entries c.loop-number.number _
    (let e : c.events-number-end.result ≡ length c.args.run.now.setup.events =
    c.events-number-end.ensures ∙ ap (λ t. length t.events) c.setup.ensures in omega arith)

pub loop-number-2-preserved : goal.loop-number-2-preserved
loop-number-2-preserved c = c.in_ok-add_sequencer.ensures
    ∙ more_sequencers c.args.window c.args.run.now.entries c.loop-number-2.number _ _
    c.loop-number-2.invariant
