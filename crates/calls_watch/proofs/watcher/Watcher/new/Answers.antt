use Rattle.std.proofs.Common.{refl}
use Rattle.calls_watch.proofs.LineLemmas.{begins}
use Rattle.calls_watch.proofs.watcher.Watcher.new.Goals as goal

pub returns : goal.returns
returns c = λ ps.
    begins ps _ c.new.ensures.opening c.new.ensures.seen refl c.none.ensures.histories
    c.none.ensures.calls c.none.ensures.others refl c.new-2.ensures
