use Rattle.std.proofs.Common.{arith, ap, length}
use Rattle.calls_watch.proofs.LineLemmas.{fault_stops}
use Rattle.calls_watch.proofs.watcher.Watcher.long_line.Goals as goal

pub returns : goal.returns
returns c = λ ps qs line w long.
    fault_stops ps qs line c.args.self.now c.args.self.now w c.long_line.result
    (λ none more. omega (arith, ap length none, long))
    (c.long_line.ensures w.events line long w.going)
