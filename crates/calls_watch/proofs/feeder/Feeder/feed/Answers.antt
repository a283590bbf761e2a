use Rattle.std.proofs.Common.{ℕ, List, ◌++◌, subst}
use Rattle.calls_watch.specs.kept.Watching.{IsFed}
use Rattle.calls_watch.proofs.PieceLemmas.{joined, gather_fed}
use Rattle.calls_watch.proofs.feeder.Feeder.feed.Goals as goal

pub returns-in-None : goal.returns-in-None
returns-in-None c = λ ps rest fed.
    gather_fed ps c.args.piece.now rest c.args.self.now c.gather.new.self c.gather.result fed
    c.in-None.ensures.none c.gather.ensures

pub returns-in-Err : goal.returns-in-Err
returns-in-Err c = λ ps rest fed.
    c.in-Err.ensures.feeds ps (c.in-Some.behind.now ++ rest)
    (subst (λ (xs : List ℕ). IsFed ps xs c.args.self.now)
    (joined c.in-Some.line.now c.in-Some.behind.now c.args.piece.now rest c.in-Some.ensures.whole)
    fed) c.in-Some.ensures.plain
