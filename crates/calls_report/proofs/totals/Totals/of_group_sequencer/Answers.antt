use Rattle.std.proofs.Common.{rules}
use Rattle.calls_report.proofs.TotalLemmas.{database_sequencer, buffer_sequencer}
use Rattle.calls_report.proofs.totals.Totals.of_group_sequencer.Goals as goal

pub returns-in-Database : goal.returns-in-Database
returns-in-Database c = λ order are.
    database_sequencer c.args.self.now.recording.now.heading order c.args.sequencer c.args.place
    c.args.group.now c.in-Database.field-0 c.writes.result c.in-Database.is (search rules)
    (c.writes.ensures order are)

pub returns-in-Buffer : goal.returns-in-Buffer
returns-in-Buffer c = λ order are.
    buffer_sequencer c.args.self.now.recording.now.heading order c.args.sequencer c.args.place
    c.args.group.now c.in-Buffer.shape c.eq.result c.moved.result c.in-Buffer.is
    (search rules) (search rules) (c.moved.ensures order are)
