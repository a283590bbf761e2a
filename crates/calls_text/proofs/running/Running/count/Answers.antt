use Rattle.std.proofs.Common.{◌<◌, ◌+◌, ◌^◌, subst, sym}
use Rattle.ec_count.specs.Tables.{IsDeclared}
use Rattle.ec_heading.specs.HeadingModel.{HeadingModel}
use Rattle.calls_text.specs.Tallies.{tally_at}
use Rattle.calls_text.specs.declared.tally.Tally.{Tally}
use Rattle.calls_text.proofs.Coming.{may_add}
use Rattle.calls_text.proofs.running.Running.count.Goals as goal

pub add-requires : goal.add-requires
add-requires c = λ few some.
    let setup = subst IsDeclared c.setup.ensures c.invariant.ensures in
    let fits = may_add c.args.self.now c.args.worker c.in-Advance-Event.event c.args.verb
    c.args.object.now c.in-Advance-Event.is-0 c.in-Advance-Event.is-1 c.requires
    (subst (λ (h : HeadingModel). IsDeclared h.setup) c.heading.ensures setup) in
    subst (λ (t : Tally). tally_at t c.args.worker c.in-Advance-Event.event + 1 < 2 ^ 64)
    (sym c.deref_mut.ensures.value) fits
