use Rattle.std.proofs.Common.{ℕ, List, [], ◌∷◌, sym, subst}
use Rattle.calls_watch.specs.kept.Watching.{IsWatching}
use Rattle.calls_watch.proofs.PieceLemmas.{fed_to_the_end}
use Rattle.calls_watch.proofs.feeder.Feeder.end.Goals as goal

pub returns : goal.returns
returns c = λ ps fed.
    c.end.ensures ps
    (subst (λ (r : List ℕ). IsWatching ps (r ∷ []) c.args.self.now.watcher)
    (sym c.as_slice.ensures.value) (fed_to_the_end ps c.args.self.now fed))
