use Rattle.std.proofs.Common.{rules, ◌≡◌, ◌+◌, sym, map, subst, Vec, Global}
use Rattle.ec_core.specs.declared.act.Entry.{Entry}
use Rattle.ec_runner.specs.Reported.{AreLogs}
use Rattle.ec_runner.proofs.Logging.{logs_more}
use Rattle.ec_runner.proofs.logs.logs_of.Goals as goal

pub loop-place-preserved : goal.loop-place-preserved
loop-place-preserved c =
    let same : c.unwrap-worker.result ≡ c.loop-place.place = search rules in
    subst (λ logs. AreLogs (c.loop-place.place + 1) c.args.run.now.entries (map (λ (l : Vec Entry Global). l.items) logs)) (sym c.in_ok-push.ensures.items)
    (logs_more c.args.run.now.entries c.loop-place.place c.unwrap-worker.result c.loop-place.logs.items c.in_ok-log.log c.loop-place.invariant same c.in_ok-log.ensures)
