use Rattle.std.proofs.Common.{◌∙◌, reverse, ap, unwrap_or}
use Rattle.evc_engine.specs.Texts.{totals_of}
use Rattle.evc_engine.proofs.Undeclared.{total_shown, issued_shown}
use Rattle.evc_engine.proofs.shared.TotalLemmas.{event_put, sequencer_put, cells_put, nothing_put_for}
use Rattle.evc_engine.proofs.totals.put_target.Goals as goal

pub returns-in-Event : goal.returns-in-Event
returns-in-Event g c = λ h st. event_put _ _ (reverse h) _ _ _ _ c.in-Event.is (c.unwrap_or-total.ensures ∙ ap (λ o. unwrap_or o 0) (c.total.ensures h st) ∙ total_shown c.args.world.now h _ st) c.put_count.ensures

pub returns-in-Sequencer : goal.returns-in-Sequencer
returns-in-Sequencer g c = λ h st. sequencer_put _ _ (reverse h) _ _ _ _ c.in-Sequencer.is (c.unwrap_or-issued.ensures ∙ ap (λ o. unwrap_or o 0) (c.issued.ensures h st) ∙ issued_shown c.args.world.now h _ st) c.put_count-in-Sequencer.ensures

pub returns-in-Cells : goal.returns-in-Cells
returns-in-Cells g c = λ h st. cells_put _ _ (reverse h) _ _ _ _ c.in-Cells.is (c.put_cells.ensures h st)

pub returns-in-Worker : goal.returns-in-Worker
returns-in-Worker g c = λ h st. nothing_put_for _ _ (ap (totals_of (reverse h) c.args.word.now) c.in-Worker.is)

pub returns-in-Group : goal.returns-in-Group
returns-in-Group g c = λ h st. nothing_put_for _ _ (ap (totals_of (reverse h) c.args.word.now) c.in-Group.is)
