use Rattle.std.proofs.Common.{◌∷◌, Ok, Err}
use Rattle.calls_watch.proofs.PieceLemmas.{gather_fed}
use Rattle.calls_watch.proofs.feeder.Feeder.end_line.Goals as goal

pub returns-in-Ok-clause-feeds : goal.returns-in-Ok-clause-feeds
returns-in-Ok-clause-feeds c = λ ps rest fed plain.
    c.take_line.ensures.feeds ps rest
    (gather_fed ps c.args.bytes.now (10 ∷ rest) c.args.self.now c.gather.new.self (Ok tt) fed plain
    c.in-Ok.ensures)

pub returns-in-Err-clause-feeds : goal.returns-in-Err-clause-feeds
returns-in-Err-clause-feeds c = λ ps rest fed plain.
    gather_fed ps c.args.bytes.now (10 ∷ rest) c.args.self.now c.gather.new.self
    (Err c.in-Err.stop) fed plain c.in-Err.ensures
