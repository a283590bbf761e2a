use Rattle.std.proofs.Common.{length, refl}
use Rattle.calls_core.specs.declared.history.Kind.TheVariants.{Cell}
use Rattle.calls_text.proofs.Adding.{grows_push, from_push}
use Rattle.calls_text.proofs.recording.add_cells.Goals as goal

pub loop-cell-preserved : goal.loop-cell-preserved
loop-cell-preserved c =
    let old = c.args.kinds.now.items in
    let now = c.loop-cell.kinds.items in
    let k = c.loop-cell._cell in
    rw c.in_ok-push.ensures.items (record {
      grows = grows_push old now k Cell c.loop-cell.invariant.grows;
      are = from_push now (length old) k (λ _. Cell) Cell c.loop-cell.invariant.grows.longer refl
          c.loop-cell.invariant.are;
    })
