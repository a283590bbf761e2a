use Rattle.std.proofs.Common.{◌<◌, ◌≤◌, ◌+◌, ◌-◌, ◌⊎◌, inl, inr, arith, get_or, refl}
use Rattle.calls_schedule.specs.Serving.{due_by, nothing}
use Rattle.calls_schedule.proofs.Lateness.{due_more, least_more, stretch_missed}
use Rattle.calls_schedule.proofs.Lateness.{scan_lowers}
use Rattle.calls_schedule.proofs.missing.missed_bound.Goals as goal
use Rattle.calls_schedule.proofs.missing.missed_bound.Goals.{then-loop-start-test+else-deadline-due, else-loop-start-test}

pub loop-start-preserved : goal.loop-start-preserved
loop-start-preserved c =
    let given = c.args.given.now in
    let start = c.loop-start.start in
    let some : 0 < start = omega arith in
    let first : due_by c.args.room (get_or given (start - 1) nothing) ≤ c.deadline-due.result =
    omega (arith, c.deadline.ensures, c.if-deadline-due.true) in
    record {
      from = omega arith;
      to = omega (arith, c.loop-start.invariant.to);
      each = due_more c.args.room given c.args.rank start c.loop-start.at c.deadline-due.result
          c.min-at.result some c.loop-start.invariant.each first c.min-at.ensures;
      least = least_more given c.args.rank start c.loop-start.at c.min-at.result some
          c.loop-start.invariant.to c.loop-start.invariant.least c.min-at.ensures;
    }

pub returns-clause-missed : goal.returns-clause-missed
returns-clause-missed c =
    stretch_missed c.args.room c.args.given.now c.args.rank c.loop-start.start
    (record {
      at = c.loop-start.at;
      due = c.deadline-due.result;
      jobs = c.args.rank - c.loop-start.start + 1;
    })
    c.requires.within c.loop-start.invariant.to refl c.loop-start.invariant.each

pub returns-clause-lowers : goal.returns-clause-lowers
returns-clause-lowers c first served =
    let given = c.args.given.now in
    let start = c.loop-start.start in
    let before : (start ≤ 0) ⊎ (c.deadline-due.result
    < due_by c.args.room (get_or given (start - 1) nothing)) =
    elim c.loop-start-test.branch [
      | then-loop-start-test+else-deadline-due w ↦ inr
          (omega (arith, w.deadline.ensures, w.if-deadline-due.false))
      | else-loop-start-test w ↦ inl (omega (arith, first, w.loop-start-test.false))
    ] in
    scan_lowers c.args.room given c.args.rank start
    (record { at = c.loop-start.at; due = c.deadline-due.result; jobs = c.args.rank - start + 1 })
    served c.requires.within c.loop-start.invariant.to
    (omega (arith, c.deadline-due.ensures, c.requires.late)) refl before
    c.loop-start.invariant.each c.loop-start.invariant.least
