use Rattle.std.proofs.Common.{take, Err}
use Rattle.calls_watch.proofs.PieceLemmas.{fed_on}
use Rattle.calls_watch.proofs.EndLemmas.{fed_stop}
use Rattle.calls_watch.proofs.watching.read_on.Goals as goal

pub returns-in-Err-feed_prefix-clause-reads : goal.returns-in-Err-feed_prefix-clause-reads
returns-in-Err-feed_prefix-clause-reads g c = λ old fed.
    fed_stop old (g.R.Read.remaining c.read_piece.new.reader) c.in-Err-feed_prefix.stop
    c.feed_prefix.new.feeder
    (fed_on old (g.R.Read.remaining c.args.reader.now) (g.R.Read.remaining c.read_piece.new.reader)
    (take c.in-Ok.n c.read_piece.new.table.items) c.args.feeder.now c.feed_prefix.new.feeder
    (Err c.in-Err-feed_prefix.stop) fed c.in-Ok.ensures.bytes.0 c.in-Err-feed_prefix.ensures)
