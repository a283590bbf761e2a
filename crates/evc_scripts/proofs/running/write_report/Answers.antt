use Rattle.std.proofs.Common.{◌≡◌, ◌∙◌, List, ap, inl, refl, sym, subst}
use Rattle.ec_script.specs.Outcome.{shown_plan}
use Rattle.ec_heading.specs.HeadingInvariant.{HasHeaderTree}
use Rattle.evc_engine.specs.declared.status.Status.{Status}
use Rattle.evc_scripts.specs.Runs.{RunEnds, status_for}
use Rattle.evc_scripts.proofs.Ends.{have_run, told_ends}
use Rattle.evc_scripts.proofs.running.write_report.Goals as goal

pub returns-then-write_run-clause-ends : goal.returns-then-write_run-clause-ends
returns-then-write_run-clause-ends g c = λ turns returned.
    let h : HasHeaderTree c.args.plan.now.heading =
    c.invariant.ensures.outline c.requires.plan.some in
    let same : c.status_for.result ≡ status_for c.args.report.now.outcomes.items = c.status_for.ensures ∙ ap status_for c.as_slice-outcomes.ensures.value in
    subst (λ (s : Status). RunEnds (shown_plan c.args.plan.now) turns s
    (record { out = g.W.Write.contents c.args.out.now; notes = c.args.notes.now })
    (record { out = g.W.Write.contents c.write_run.new.out; notes = c.write_run.new.notes }))
    (sym same)
    (told_ends (shown_plan c.args.plan.now) turns (status_for c.args.report.now.outcomes.items) _ _ (
      _,
      _,
      have_run c.args.plan.now c.args.report.now turns h c.requires.plan.version returned c.invariant-3.ensures.accepted,
      c.if-write_run.ensures.all h.outline h.is h.declares refl,
      (
        rw c.as_slice-outcomes.ensures.value at c.if-write_run.ensures.noted,
        c.if-write_run.ensures.written,
      ),
    ))

pub returns-else-write_run-clause-ends : goal.returns-else-write_run-clause-ends
returns-else-write_run-clause-ends g c = λ turns returned.
    let h : HasHeaderTree c.args.plan.now.heading =
    c.invariant.ensures.outline c.requires.plan.some in
    inl (_, _, _, have_run c.args.plan.now c.args.report.now turns h c.requires.plan.version returned c.invariant-3.ensures.accepted, c.if-write_run.ensures.prefix h.outline h.is h.declares refl, (c.if-write_run.ensures.noted, c.if-write_run.ensures.written))
