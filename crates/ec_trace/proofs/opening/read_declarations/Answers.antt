use Rattle.std.proofs.Common.{refl, ap, sym, ◌∙◌}
use Rattle.ec_trace.specs.Reading.{is_run}
use Rattle.ec_trace.specs.Step.{is_ended}
use Rattle.ec_trace.specs.Stages.{Declaring}
use Rattle.ec_trace.proofs.Readings.{line_taken}
use Rattle.ec_trace.proofs.OpeningLines.{run_line, declared_line, undeclared}
use Rattle.ec_trace.proofs.shared.KnownInputs.{passed_on}
use Rattle.ec_trace.proofs.opening.read_declarations.Goals as goal

pub returns-in_err-next : goal.returns-in_err-next
unfolding is_ended
returns-in_err-next g c = λ xs reached. passed_on _ _ _ _ c.from_residual.ensures.1 (c.in_err-next.ensures.comes xs (Declaring c.loop-heading.heading) refl (c.loop-heading.invariant xs reached))

pub returns-then-is_run : goal.returns-then-is_run
unfolding is_ended
returns-then-is_run g c = λ xs reached.
    line_taken xs (g.R.Read.remaining c.next.new.reader) c.next.new.self c.next.new.self.line (Declaring c.loop-heading.heading) _ (c.in_ok-next.ensures.comes xs (Declaring c.loop-heading.heading) refl (c.loop-heading.invariant xs reached))
    (run_line c.loop-heading.heading c.next.new.self.line (ap (is_run c.loop-heading.heading) (sym c.line.ensures) ∙ sym c.if-is_run.ensures))

pub returns-in_err-declare : goal.returns-in_err-declare
unfolding is_ended
returns-in_err-declare g c = λ xs reached.
    passed_on _ _ _ _ c.from_residual-in_err-declare.ensures.1 (undeclared xs (g.R.Read.remaining c.next.new.reader) c.next.new.self c.loop-heading.heading c.declare.new.heading c.in_err-declare.field-0.0 (c.in_ok-next.ensures.comes xs (Declaring c.loop-heading.heading) refl (c.loop-heading.invariant xs reached))
    (ap (is_run c.loop-heading.heading) (sym c.line.ensures) ∙ sym c.if-is_run.ensures) c.in_ok-next.ensures.more.1 c.in_err-declare.ensures)

pub loop-heading-preserved : goal.loop-heading-preserved
unfolding is_ended
loop-heading-preserved g c = λ xs reached.
    line_taken xs (g.R.Read.remaining c.next.new.reader) c.next.new.self c.next.new.self.line (Declaring c.loop-heading.heading) _ (c.in_ok-next.ensures.comes xs (Declaring c.loop-heading.heading) refl (c.loop-heading.invariant xs reached))
    (declared_line c.loop-heading.heading c.declare.new.heading c.next.new.self.line (ap (is_run c.loop-heading.heading) (sym c.line.ensures) ∙ sym c.if-is_run.ensures) c.in_ok-declare.ensures)
