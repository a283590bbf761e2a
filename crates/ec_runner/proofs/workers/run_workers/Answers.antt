use Rattle.std.proofs.Common.{◌≡◌, ℕ, ◌≤◌, List, length, arith, ap, sym, subst, ◌∙◌}
use Rattle.ec_count.specs.Tables.{Tables}
use Rattle.ec_machine.specs.declared.command.Command.{Command}
use Rattle.ec_runner.proofs.Promising.{told_many}
use Rattle.ec_runner.proofs.Telling.{verdict_report, verdict_names, verdict_fault, thread_fault_names, want_fault}
use Rattle.ec_runner.proofs.workers.run_workers.Goals as goal

same_many : (ps qs : List (List Command)) (t u : Tables) → ps ≡ qs → t ≡ u → length qs ≡ u.workers → length ps ≡ t.workers
same_many ps qs t u same is many = ap length same ∙ many ∙ sym (ap (λ (v : Tables). v.workers) is)

pub report_or_mismatch-requires-clause-few : goal.report_or_mismatch-requires-clause-few
report_or_mismatch-requires-clause-few g c =
    let many = same_many _ _ _ _ c.as_slice.ensures.value c.setup-setup.ensures c.requires in
    subst (λ (n : ℕ). n ≤ 16) (sym (told_many c.as_slice.result.now c.args.turns _ c.in-Ok.ensures)) (omega (arith, many, c.invariant.ensures.few_workers))

pub report_or_mismatch-requires-clause-each : goal.report_or_mismatch-requires-clause-each
report_or_mismatch-requires-clause-each g c =
    told_many c.as_slice.result.now c.args.turns _ c.in-Ok.ensures ∙ same_many _ _ _ _ c.as_slice.ensures.value c.setup-setup.ensures c.requires

pub returns-in-Ok-clause-report : goal.returns-in-Ok-clause-report
returns-in-Ok-clause-report g c =
    rw (← c.setup-setup.ensures, ← c.as_slice.ensures.value) (verdict_report c.setup-setup.result.now c.as_slice.result.now c.args.turns _ _ c.report_or_mismatch.result
    (same_many _ _ _ _ c.as_slice.ensures.value c.setup-setup.ensures c.requires) c.in-Ok.ensures c.report_or_mismatch.ensures)

pub returns-in-Ok-clause-named : goal.returns-in-Ok-clause-named
returns-in-Ok-clause-named g c =
    rw (← c.setup-setup.ensures) (verdict_names c.setup-setup.result.now _ _ c.report_or_mismatch.result
    (told_many c.as_slice.result.now c.args.turns _ c.in-Ok.ensures ∙ same_many _ _ _ _ c.as_slice.ensures.value c.setup-setup.ensures c.requires) c.report_or_mismatch.ensures)

pub returns-in-Ok-clause-fault : goal.returns-in-Ok-clause-fault
returns-in-Ok-clause-fault g c =
    rw (← c.setup-setup.ensures, ← c.as_slice.ensures.value) (verdict_fault c.setup-setup.result.now c.as_slice.result.now c.args.turns _ _ c.report_or_mismatch.result c.in-Ok.ensures c.report_or_mismatch.ensures)

pub returns-in-Err-clause-named : goal.returns-in-Err-clause-named
returns-in-Err-clause-named g c = thread_fault_names c.args.plan.now.heading.setup c.in-Err.fault c.in-Err.ensures

pub returns-in-Err-clause-fault : goal.returns-in-Err-clause-fault
returns-in-Err-clause-fault g c = want_fault c.args.plan.now.heading.setup c.args.plan.now.programs.items c.args.turns c.in-Err.fault c.in-Err.ensures
