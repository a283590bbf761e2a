use Rattle.ec_trace.proofs.Readings.{reaches_start}
use Rattle.ec_trace.proofs.shared.KnownInputs.{if_known, passed_on}
use Rattle.ec_trace.proofs.opening.open_trace.Goals as goal

pub returns-in_err-version : goal.returns-in_err-version
returns-in_err-version g c = if_known (g.R.Read.remaining c.args.reader.now) _ (λ xs is. passed_on _ _ _ _ c.from_residual.ensures.1 (c.in_err-version.ensures xs (reaches_start _ xs _ is c.new-lines.ensures)))

pub returns-in_err-heading : goal.returns-in_err-heading
returns-in_err-heading g c = if_known (g.R.Read.remaining c.args.reader.now) _ (λ xs is. passed_on _ _ _ _ c.from_residual-in_err-heading.ensures.1 (c.in_err-heading.ensures xs (c.in_ok-version.ensures xs (reaches_start _ xs _ is c.new-lines.ensures))))

pub returns-in_err-read_declarations : goal.returns-in_err-read_declarations
returns-in_err-read_declarations g c = if_known (g.R.Read.remaining c.args.reader.now) _ (λ xs is. passed_on _ _ _ _ c.from_residual-in_err-read_declarations.ensures.1 (c.in_err-read_declarations.ensures xs (c.in_ok-heading.ensures xs (c.in_ok-version.ensures xs (reaches_start _ xs _ is c.new-lines.ensures)))))

pub returns : goal.returns
returns g c = if_known (g.R.Read.remaining c.args.reader.now) _ (λ xs is. c.in_ok-read_declarations.ensures xs (c.in_ok-heading.ensures xs (c.in_ok-version.ensures xs (reaches_start _ xs _ is c.new-lines.ensures))))
