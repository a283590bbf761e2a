use Rattle.std.proofs.Common.{ℕ, List, ◌∷◌, refl, sym, subst}
use Rattle.calls_watch.specs.declared.feeder.Feeder.{Feeder}
use Rattle.calls_watch.specs.kept.Watching.{IsWatching}
use Rattle.calls_watch.proofs.PieceLemmas.{line_fed, line_done}
use Rattle.calls_watch.proofs.feeder.Feeder.take_line.Goals as goal

pub returns-clause-feeds : goal.returns-clause-feeds
returns-clause-feeds c = λ ps rest fed.
    let old : Feeder = c.args.self.now in
    let mid : Feeder = record old { watcher = c.line-taken.new.self } in
    let new : Feeder = record mid { part = c.clear.new.self } in
    line_done ps rest mid new c.line-taken.result
    (line_fed ps old.part.items rest old.watcher c.line-taken.new.self c.line-taken.result fed.plain
    fed.watching
    (λ qs q w. c.line-taken.ensures ps qs q
    (subst (λ (l : List ℕ). IsWatching ps (l ∷ q ∷ qs) old.watcher) (sym c.as_slice.ensures.value) w)))
    refl c.clear.ensures
