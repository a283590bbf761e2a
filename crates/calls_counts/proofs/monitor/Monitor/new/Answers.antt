use Rattle.std.proofs.Common.{[], refl, sym, subst, arith}
use Rattle.calls_counts.specs.Watching.{Watching}
use Rattle.calls_counts.proofs.Watching.{watched_start}
use Rattle.calls_counts.proofs.monitor.Monitor.new.Goals as goal

pub returns : goal.returns
returns c = (
  refl,
  subst (λ fs. Watching c.args.start [] 0 0 fs c.new-2.result.items) (sym c.new.ensures)
      (subst (λ us. Watching c.args.start [] 0 0 [] us) (sym c.new-2.ensures)
      (watched_start c.args.start)),
  refl,
  omega arith,
)
