use Rattle.std.proofs.Common.{append-nil, ◌≡◌, ◌<◌, List, length, sym, ◌∙◌, ap, ◌++◌, subst, arith}
use Rattle.ec_core.specs.declared.act.Entry.{Entry}
use Rattle.ec_machine.proofs.shared.OwnSteps.{order_more, entry_next as entry_there}
use Rattle.ec_runner.specs.kept.LogComparison.{AreLogsOf, IsLogMismatch}
use Rattle.ec_runner.proofs.Walking.{all_walked, is_declared, then_match, unfinished, unlike_there}
use Rattle.ec_runner.proofs.log_comparison.first_log_mismatch.Goals as goal

pub advances_cursor-requires : goal.advances_cursor-requires
advances_cursor-requires c =
    let run = c.args.run.now in
    let done = c.loop-entry.yielded in
    let x = c.in-Some.entry in
    let there = entry_there run.entries done _ _ x c.loop-entry.invariant.order c.in-Some.ensures.steps in
    let declared : x.worker < run.setup.workers = is_declared c.accepted_means_answered.ensures run.setup run.entries (length done) x c.invariant.ensures.accepted there in
    omega (arith, declared, c.requires.each)

pub returns-then-not-advances_cursor : goal.returns-then-not-advances_cursor
returns-then-not-advances_cursor c =
    let done = c.loop-entry.yielded in
    unlike_there c.args.summaries.now c.args.run.now.entries done _ _ c.in-Some.entry c.loop-entry.invariant.order c.in-Some.ensures.steps
    (λ more. c.advances_cursor.ensures.no done more c.loop-entry.invariant.walked c.if-not-advances_cursor.true)

pub loop-entry-preserved : goal.loop-entry-preserved
loop-entry-preserved c = record {
  order = order_more _ _ _ _ _ c.loop-entry.invariant.order c.in-Some.ensures.steps;
  walked = c.advances_cursor.ensures.yes c.loop-entry.yielded c.loop-entry.invariant.walked c.if-not-advances_cursor.false;
}

pub returns : goal.returns
returns c =
    let summaries = c.args.summaries.now in
    let done = c.loop-entry.yielded in
    let whole : done ≡ c.args.run.now.entries =
    sym (append-nil done) ∙ ap (λ r. done ++ r) (sym c.in-None.ensures.steps.0) ∙ c.loop-entry.invariant.order in
    then_match c.first_unfinished.result
    (λ ends. subst (AreLogsOf summaries) whole (all_walked summaries c.loop-entry.cursors done c.loop-entry.invariant.walked ends))
    (λ w u. subst (λ (h : List Entry). IsLogMismatch summaries h w) whole (unfinished summaries c.loop-entry.cursors done w c.loop-entry.invariant.walked u))
    c.first_unfinished.ensures
