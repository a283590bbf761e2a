use Rattle.std.proofs.Common.{List, ℕ, subst, IfSome}
use Rattle.ec_text.specs.Inputs.{IsInput}
use Rattle.ec_text.specs.declared.input.Input.{Input}
use Rattle.calls_report.specs.declared.checking.TheConstants.{TEXT_MAX}
use Rattle.calls_report.proofs.JudgingChecks.{text_checks}
use Rattle.calls_report.proofs.checking.check.Goals as goal

pub returns-in-Ok-Whole-clause-ends : goal.returns-in-Ok-Whole-clause-ends
returns-in-Ok-Whole-clause-ends g c =
    text_checks (g.R.Read.remaining c.args.reader.now) (g.R.Read.remaining c.read_up_to.new.reader)
    c.in-Ok-Whole.text.items c.check_freely.result
    (record { out = g.W.Write.contents c.args.out.now; notes = c.args.notes.now })
    (record { out = g.W.Write.contents c.check_freely.new.out; notes = c.check_freely.new.notes })
    (subst (λ (i : Input). IfSome (g.R.Read.remaining c.args.reader.now) (λ bytes.
    IsInput TEXT_MAX bytes (g.R.Read.remaining c.read_up_to.new.reader) i))
    c.in-Ok-Whole.field-0-is c.in-Ok-Whole.ensures)
    c.check_freely.ensures.checks
