use Rattle.std.proofs.Common.{Err, refl, subst}
use Rattle.calls_watch.specs.declared.watching.EarlyEnd.{EarlyEnd}
use Rattle.calls_watch.specs.kept.Endings.{ReadsAll}
use Rattle.calls_watch.proofs.EndLemmas.{fed_first, over_known, stop_known, read_fault}
use Rattle.calls_watch.proofs.watching.watch.Goals as goal

pub returns-in-Ok-clause-ends : goal.returns-in-Ok-clause-ends
returns-in-Ok-clause-ends g c =
    over_known (g.R.Read.remaining c.args.reader.now) c.in-Ok.field-0 c.read_all.new.feeder
    c.write_load.result
    (record { out = g.W.Write.contents c.args.out.now; notes = c.args.notes.now })
    (record { out = g.W.Write.contents c.write_load.new.out; notes = c.write_load.new.notes })
    (c.in-Ok.ensures (g.R.Read.remaining c.args.reader.now)
    (fed_first (g.R.Read.remaining c.args.reader.now) c.new-feeder.result c.new-feeder.ensures))
    c.write_load.ensures.writes

pub returns-clause-ends : goal.returns-clause-ends
returns-clause-ends g c =
    stop_known (g.R.Read.remaining c.args.reader.now) c.read_all.new.feeder c.in-Err-Stop.stop
    c.report_stop.result
    (record { out = g.W.Write.contents c.args.out.now; notes = c.args.notes.now })
    (record { out = g.W.Write.contents c.args.out.now; notes = c.report_stop.new.notes }) refl
    (subst (λ (cut : EarlyEnd). ReadsAll (g.R.Read.remaining c.args.reader.now) (Err cut)
    c.read_all.new.feeder) c.in-Err-Stop.field-0-is
    (c.in-Err-Stop.ensures (g.R.Read.remaining c.args.reader.now)
    (fed_first (g.R.Read.remaining c.args.reader.now) c.new-feeder.result c.new-feeder.ensures)))
    c.report_stop.ensures.says

pub returns-in-Err-Read-clause-ends : goal.returns-in-Err-Read-clause-ends
returns-in-Err-Read-clause-ends g c =
    read_fault (g.R.Read.remaining c.args.reader.now)
    (record { out = g.W.Write.contents c.args.out.now; notes = c.args.notes.now })
    (record { out = g.W.Write.contents c.args.out.now; notes = c.say.new.self }) refl
    c.say.ensures.puts
