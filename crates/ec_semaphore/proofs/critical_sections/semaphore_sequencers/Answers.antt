use Rattle.std.proofs.Common.{false, refl, replicate, ◌∙◌, arith}
use Rattle.std.proofs.Math.ListN.{length-set}
use Rattle.ec_semaphore.proofs.shared.Lines.{tabled_none, tabled_next}
use Rattle.ec_semaphore.proofs.critical_sections.semaphore_sequencers.Goals as goal

pub loop-shape-init : goal.loop-shape-init
loop-shape-init c = record { room = refl; tabled = λ q lt. tabled_none (replicate 32 false) c.args.common.now refl q lt }

pub loop-shape-preserved : goal.loop-shape-preserved
loop-shape-preserved c =
    record {
      room = length-set c.loop-shape.lines c.get-place.result _ ∙ c.loop-shape.invariant.room;
      tabled = tabled_next c.loop-shape.lines c.args.common.now c.shape-item.result c.args.shapes.now c.loop-shape.shape-index c.get-place.result c.get.result
          c.loop-shape.invariant.room (omega arith) c.shape-item.is (c.get-place.ensures.value ∙ c.line.ensures) c.get-place.ensures.small
          (c.get.ensures.value ∙ c.line-in-loop-shape.ensures) c.loop-shape.invariant.tabled;
    }
