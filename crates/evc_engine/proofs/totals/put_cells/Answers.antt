use Rattle.std.proofs.Common.{reverse}
use Rattle.evc_engine.proofs.shared.TotalLemmas.{none_put, cell_put}
use Rattle.evc_engine.proofs.totals.put_cells.Goals as goal

pub loop-place-init : goal.loop-place-init
loop-place-init g c = λ h st. none_put _ c.args.name.now (reverse h) c.args.first

pub loop-place-preserved : goal.loop-place-preserved
loop-place-preserved g c = λ h st. cell_put _ _ _ _ (reverse h) _ _ _ (c.loop-place.invariant h st) (c.value_at.ensures h st) c.put_cell.ensures
