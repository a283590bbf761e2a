use Rattle.calls_spsc.proofs.Answering.{invocation}
use Rattle.calls_spsc.proofs.monitor.Monitor.event.Goals as goal

pub returns-in-Invoke : goal.returns-in-Invoke
returns-in-Invoke c = invocation c.args.self.now c.invoke.new.self c.args.event c.in-Invoke.object
    c.in-Invoke.op c.new.result c.in-Invoke.is c.new.ensures c.invoke.ensures
