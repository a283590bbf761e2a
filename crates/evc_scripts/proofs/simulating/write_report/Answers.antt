use Rattle.std.proofs.Common.{List, refl, subst}
use Rattle.ec_heading.specs.HeadingInvariant.{HasHeaderTree}
use Rattle.evc_scripts.proofs.Ends.{is_played}
use Rattle.evc_scripts.proofs.simulating.write_report.Goals as goal

pub returns-then-write_run-clause-ends : goal.returns-then-write_run-clause-ends
returns-then-write_run-clause-ends g c =
    let h : HasHeaderTree c.args.plan.now.heading =
    c.invariant.ensures.outline c.requires.plan.some in (
      _,
      _,
      is_played c.args.plan.now c.args.report.now h c.requires.plan.version c.requires.report,
      c.if-write_run.ensures.all h.outline h.is h.declares refl,
      (
        rw c.as_slice-outcomes.ensures.value at c.if-write_run.ensures.noted,
        c.if-write_run.ensures.written,
      ),
    )

pub returns-else-write_run-clause-ends : goal.returns-else-write_run-clause-ends
returns-else-write_run-clause-ends g c =
    let h : HasHeaderTree c.args.plan.now.heading =
    c.invariant.ensures.outline c.requires.plan.some in
    (_, _, is_played c.args.plan.now c.args.report.now h c.requires.plan.version c.requires.report, c.if-write_run.ensures.prefix h.outline h.is h.declares refl, (c.if-write_run.ensures.noted, c.if-write_run.ensures.written))
