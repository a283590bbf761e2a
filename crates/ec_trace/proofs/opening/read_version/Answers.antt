use Rattle.std.proofs.Common.{refl, ap, sym, ◌∙◌}
use Rattle.ec_heading.specs.Spelling.{trace_header}
use Rattle.ec_heading.specs.Versions.{version_of}
use Rattle.ec_trace.specs.Step.{is_ended}
use Rattle.ec_trace.specs.Stages.{Opening}
use Rattle.ec_trace.proofs.Readings.{line_taken, line_refused}
use Rattle.ec_trace.proofs.OpeningLines.{version_line, no_version_line}
use Rattle.ec_trace.proofs.shared.KnownInputs.{passed_on}
use Rattle.ec_trace.proofs.opening.read_version.Goals as goal

pub returns-in_err-next : goal.returns-in_err-next
unfolding is_ended
returns-in_err-next g c = λ xs reached. passed_on _ _ _ _ c.from_residual.ensures.1 (c.in_err-next.ensures.comes xs Opening refl reached)

pub returns-in-Some : goal.returns-in-Some
unfolding is_ended
returns-in-Some g c = λ xs reached.
    line_taken xs (g.R.Read.remaining c.next.new.reader) c.next.new.self c.next.new.self.line Opening _ (c.in_ok-next.ensures.comes xs Opening refl reached)
    (version_line c.next.new.self.line _ (ap (version_of trace_header) (sym c.line.ensures) ∙ sym c.in-Some.ensures))

pub returns-in-None : goal.returns-in-None
unfolding is_ended
returns-in-None g c = λ xs reached.
    rw c.number.ensures
    (line_refused xs (g.R.Read.remaining c.next.new.reader) c.next.new.self c.next.new.self.line Opening _ (c.in_ok-next.ensures.comes xs Opening refl reached)
    (no_version_line c.next.new.self.line (ap (version_of trace_header) (sym c.line.ensures) ∙ sym c.in-None.ensures)) c.in_ok-next.ensures.more.1)
