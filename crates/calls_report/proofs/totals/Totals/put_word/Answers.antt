use Rattle.calls_report.proofs.TotalLemmas.{event_put, sequencer_put}
use Rattle.calls_report.proofs.totals.Totals.put_word.Goals as goal

pub returns-in-Event : goal.returns-in-Event
returns-in-Event g c = λ order are.
    event_put _ _ c.args.self.now.recording.now order c.args.word.now c.args.target _ _
    c.in-Event.is (c.of_event.ensures order are) c.put_count.ensures

pub returns-in-Sequencer : goal.returns-in-Sequencer
returns-in-Sequencer g c = λ order are.
    sequencer_put _ _ c.args.self.now.recording.now order c.args.word.now c.args.target _ _
    c.in-Sequencer.is (c.of_sequencer.ensures order are) c.put_count-in-Sequencer.ensures
