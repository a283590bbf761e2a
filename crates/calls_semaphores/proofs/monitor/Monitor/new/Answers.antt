use Rattle.calls_semaphores.proofs.Monitoring.{monitor_start}
use Rattle.calls_semaphores.proofs.monitor.Monitor.new.Goals as goal

pub returns : goal.returns
returns c = (
  monitor_start c.args.units.now (record { bank = c.in_ok-new.field-0; pending = c.new-2.result })
      c.in_ok-new.ensures c.new-2.ensures,
  c.in_ok-new.ensures.none,
)
