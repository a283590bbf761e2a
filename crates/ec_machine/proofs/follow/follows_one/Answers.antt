use Rattle.std.proofs.Common.{sym, ◌∙◌, subst, length}
use Rattle.ec_machine.specs.Follows.{program_at}
use Rattle.ec_machine.specs.Standing.{StandsFor}
use Rattle.ec_machine.proofs.shared.OwnSteps.{own_more, not_due, entry_next, order_more}
use Rattle.ec_machine.proofs.follow.follows_one.Goals as goal

pub goes_with-requires : goal.goes_with-requires
goes_with-requires c = c.replies_fit_their_acts.ensures c.args.run.now.setup c.args.run.now.entries (length c.loop-entry.yielded) c.in-Some.entry c.invariant.ensures.declared c.invariant.ensures.accepted
    (entry_next _ _ _ _ _ c.loop-entry.invariant.order c.in-Some.ensures.steps)

pub returns-then-not-goes_with : goal.returns-then-not-goes_with
returns-then-not-goes_with c = (
  λ no. cc,
  λ run. absurd (not_due _ _ _ _ _ _ _ c.loop-entry.invariant.order c.in-Some.ensures.steps (sym c.is_of.ensures ∙ c.if-not-is_of.false)
      (c.goes_with.ensures.no _ _ c.loop-entry.invariant.represents c.loop-entry.invariant.unset c.if-not-goes_with.true) run),
)

pub loop-entry-preserved : goal.loop-entry-preserved
loop-entry-preserved c =
    let yes = c.goes_with.ensures.yes _ _ c.loop-entry.invariant.represents c.loop-entry.invariant.unset c.if-not-goes_with.false in
    record {
      order = order_more _ _ _ _ _ c.loop-entry.invariant.order c.in-Some.ensures.steps;
      represents = subst (StandsFor (program_at c.args.programs.now c.args.worker) c.goes_with.new.machine) (sym (own_more c.args.worker c.loop-entry.yielded c.in-Some.entry (sym c.is_of.ensures ∙ c.if-not-is_of.false))) yes.0;
      unset = yes.1;
    }
