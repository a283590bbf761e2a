use Rattle.ec_trace.proofs.SpelledLemmas.{took_worker, took_event, took_sequencer, took_cells, took_group}
use Rattle.ec_trace.proofs.spell.WordTable.take_in.Goals as goal

pub returns-in-Worker : goal.returns-in-Worker
returns-in-Worker c = λ names h. took_worker names c.args.name.now c.args.target _ c.args.self.now c.set_word.new.words c.in-Worker.is (rw c.get.ensures.value at c.set_word.ensures) h

pub returns-in-Event : goal.returns-in-Event
returns-in-Event c = λ names h. took_event names c.args.name.now c.args.target _ c.args.self.now c.set_word-in-Event.new.words c.in-Event.is (rw c.get-in-Event.ensures.value at c.set_word-in-Event.ensures) h

pub returns-in-Sequencer : goal.returns-in-Sequencer
returns-in-Sequencer c = λ names h. took_sequencer names c.args.name.now c.args.target _ c.args.self.now c.set_word-in-Sequencer.new.words c.in-Sequencer.is (rw c.get-in-Sequencer.ensures.value at c.set_word-in-Sequencer.ensures) h

pub returns-in-Cells : goal.returns-in-Cells
returns-in-Cells c = λ names h. took_cells names c.args.name.now c.args.target _ _ c.args.self.now c.set_cells.new.cells c.in-Cells.is (rw c.get-in-Cells.ensures.value at c.set_cells.ensures) h

pub returns-in-Group : goal.returns-in-Group
returns-in-Group c = λ names h. took_group names c.args.name.now c.args.target _ c.args.self.now c.in-Group.is h
