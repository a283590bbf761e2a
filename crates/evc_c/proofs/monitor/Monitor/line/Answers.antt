use Rattle.std.proofs.Common.{◌≡◌, sym, subst}
use Rattle.calls_report.specs.Statuses.{status_code}
use Rattle.evc_c.specs.Monitors.{status_at, TakesLineAt}
use Rattle.evc_c.specs.declared.monitor.Monitor.{Monitor}
use Rattle.evc_c.specs.declared.monitor.Stage.{Stage}
use Rattle.evc_c.proofs.Taken.{goes_on}
use Rattle.evc_c.proofs.monitor.Monitor.line.Goals as goal

pub returns : goal.returns
returns c =
    let old = c.args.self.now in
    let new : Stage → Monitor = λ s. record { alloc = old.alloc; watcher = c.line.new.self; stage = s } in
    subst (λ s. (c.code-2.result ≡ status_code (status_at s)) × TakesLineAt s c.args.line.now old (new s)) (sym c.in-Open.is)
    (c.code-2.ensures, λ lines taken. goes_on lines c.args.line.now old.watcher c.line.new.self c.line.result c.in_default-line.field-0 c.line.ensures c.in_default-line.is taken)
