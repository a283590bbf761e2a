use Rattle.std.proofs.Common.{◌≡◌, ◌∙◌, ◌*◌, Option, IfSome, refl, sym, ap, subst, arith}
use Rattle.std.proofs.Math.Nat.{min-le_left}
use Rattle.std.specs.List.{list_any}
use Rattle.evc_explain_engine.specs.WorkerEnds.{can_continue}
use Rattle.ec_runner.specs.declared.report.Report.{Report}
use Rattle.ec_runner.specs.Reported.{IsReport}
use Rattle.evc_explain_engine.proofs.Continuing.{continues_same}
use Rattle.evc_explain_engine.proofs.Ending.{all_declared, comes_to, few_ends, given, goes_further}
use Rattle.evc_explain_engine.proofs.Ending.{still_continues}
use Rattle.evc_explain_engine.proofs.continuation.final_ends.Goals.{in-Some+in_ok-ends+else-not-any_can_continue+else-len-gt-TURNS_MAX+in_ok-add_rounds, in_default}
use Rattle.evc_explain_engine.proofs.continuation.final_ends.Goals as goal

pub loop-init : goal.loop-init
loop-init c = record {
  heading = refl;
  programs = refl;
  continues = continues_same c.args.plan.now.heading.setup.workers
      c.args.plan.now.schedule.items;
  few = omega arith;
}

pub play_or_cut-requires-clause-programs : goal.play_or_cut-requires-clause-programs
play_or_cut-requires-clause-programs c =
    rw (c.loop.invariant.programs, c.loop.invariant.heading) c.requires.programs

pub play_or_cut-requires-clause-schedule : goal.play_or_cut-requires-clause-schedule
play_or_cut-requires-clause-schedule c =
    let i = c.loop.invariant in
    all_declared c.args.plan.now.heading.setup.workers c.loop.plan.heading.setup.workers
    c.args.plan.now.schedule.items c.loop.plan.schedule.items
    (rw i.heading refl) i.continues c.requires.schedule

pub returns-then-not-any_can_continue-clause-ends : goal.returns-then-not-any_can_continue-clause-ends
returns-then-not-any_can_continue-clause-ends c =
    let i = c.loop.invariant in
    let q = c.loop.plan in
    let turns = c.play_or_cut.new.plan.schedule in
    let explanation = given c.in_ok-report.field-0 c.in-Some.report c.in-Some.is
    (λ r. (turns ≡ q.schedule) × IsReport q.heading.setup q.programs.items q.schedule.items r)
    c.in_ok-report.ensures.report in
    comes_to c.args.plan.now q turns.items c.as_slice.result.now c.in-Some.report
    c.as_slice-outcomes.result.now c.in_ok-ends.ends.items i.heading i.programs i.continues
    (rw explanation.0 refl) explanation.1 c.as_slice.ensures.value c.as_slice-outcomes.ensures.value
    c.in_ok-ends.ensures.items
    (sym (ap (list_any can_continue) c.as_slice-in-Some.ensures.value)
    ∙ sym c.any_can_continue.ensures
    ∙ c.if-not-any_can_continue.true)

pub returns-then-not-any_can_continue-clause-few : goal.returns-then-not-any_can_continue-clause-few
returns-then-not-any_can_continue-clause-few c =
    let q = c.loop.plan in
    let turns = c.play_or_cut.new.plan.schedule in
    let explanation = given c.in_ok-report.field-0 c.in-Some.report c.in-Some.is
    (λ r. (turns ≡ q.schedule) × IsReport q.heading.setup q.programs.items q.schedule.items r)
    c.in_ok-report.ensures.report in
    few_ends c.args.plan.now q c.in-Some.report c.as_slice-outcomes.result.now
    c.in_ok-ends.ends.items c.loop.invariant.heading c.requires.few explanation.1
    c.as_slice-outcomes.ensures.value c.in_ok-ends.ensures.each

pub overflow_mul-rounds : goal.overflow_mul-rounds
overflow_mul-rounds c = omega (arith, c.loop.invariant.few)

pub loop-preserved : goal.loop-preserved
loop-preserved c =
    let i = c.loop.invariant in
    let p = c.args.plan.now in
    let q = c.loop.plan in
    let turns = c.play_or_cut.new.plan.schedule in
    elim c.match-branch-2.branch [
      | in-Some+in_ok-ends+else-not-any_can_continue+else-len-gt-TURNS_MAX+in_ok-add_rounds w ↦
          let explanation : (turns ≡ q.schedule)
          × IsReport q.heading.setup q.programs.items q.schedule.items w.in-Some.report =
          subst (λ (f : Option Report). IfSome f (λ r. (turns ≡ q.schedule)
          × IsReport q.heading.setup q.programs.items q.schedule.items r))
          w.in-Some.is c.in_ok-report.ensures.report in
          rw (w.plan-is, w.rounds-is) record {
            heading = c.play_or_cut.ensures.heading ∙ i.heading;
            programs = c.play_or_cut.ensures.programs ∙ i.programs;
            continues = goes_further p q turns.items w.add_rounds.new.schedule.items
                w.in-Some.report w.as_slice-outcomes.result.now i.heading i.continues
                (rw explanation.0 refl) explanation.1 w.as_slice-outcomes.ensures.value
                w.in_ok-add_rounds.ensures;
            few = let least = min-le_left 65536 (c.loop.rounds * 2) in
                omega (arith, least, w.min-rounds.ensures);
          }
      | in_default w ↦
          rw (w.plan-is, w.rounds-is) record {
            heading = c.play_or_cut.ensures.heading ∙ i.heading;
            programs = c.play_or_cut.ensures.programs ∙ i.programs;
            continues = still_continues p q turns.items c.len-first.result i.heading
                (omega (arith, c.len-first.ensures, c.args.plan.now.schedule.ok)) i.continues c.play_or_cut.ensures.continues;
            few = i.few;
          }
    ]
