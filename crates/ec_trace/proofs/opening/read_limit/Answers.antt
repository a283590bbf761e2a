use Rattle.std.proofs.Common.{refl, ap, sym, ◌∙◌, subst}
use Rattle.ec_trace.specs.Step.{is_ended, limit_of}
use Rattle.ec_trace.specs.Stages.{Limiting, Declaring}
use Rattle.ec_trace.specs.Reading.{Reaches}
use Rattle.ec_trace.proofs.Readings.{line_taken, line_refused}
use Rattle.ec_trace.proofs.OpeningLines.{limit_line, no_limit_line}
use Rattle.ec_trace.proofs.shared.KnownInputs.{passed_on}
use Rattle.ec_trace.proofs.opening.read_limit.Goals as goal

pub returns-in_err-next : goal.returns-in_err-next
unfolding is_ended
returns-in_err-next g c = λ xs reached. passed_on _ _ _ _ c.from_residual.ensures.1 (c.in_err-next.ensures.comes xs (Limiting c.args.version) refl reached)

pub returns-in_default : goal.returns-in_default
unfolding is_ended
returns-in_default g c = λ xs reached.
    rw c.number.ensures
    (line_refused xs (g.R.Read.remaining c.next.new.reader) c.next.new.self c.next.new.self.line (Limiting c.args.version) _ (c.in_ok-next.ensures.comes xs (Limiting c.args.version) refl reached)
    (no_limit_line c.args.version c.next.new.self.line (ap (limit_of c.args.version) (sym c.line.ensures) ∙ sym c.in_default.ensures.value)) c.in_ok-next.ensures.more.1)

pub returns-in-Ok : goal.returns-in-Ok
unfolding is_ended
returns-in-Ok g c = λ xs reached.
    subst (λ h. Reaches xs (g.R.Read.remaining c.next.new.reader) c.next.new.self (Declaring h)) (sym c.in-Ok.ensures)
    (line_taken xs (g.R.Read.remaining c.next.new.reader) c.next.new.self c.next.new.self.line (Limiting c.args.version) _ (c.in_ok-next.ensures.comes xs (Limiting c.args.version) refl reached)
    (limit_line c.args.version c.next.new.self.line _ (ap (limit_of c.args.version) (sym c.line.ensures) ∙ sym c.in-Some.ensures.value)))
