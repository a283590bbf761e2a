use Rattle.std.proofs.Common.{rules, arith, ap, ◌∙◌}
use Rattle.std.proofs.lemmas.List.Sorted.{IsNonDecreasingBy-from_sort_by_key}
use Rattle.calls_buffers.specs.declared.jobs.Reach.{Reach}
use Rattle.calls_buffers.specs.kept.Jobs.{tops_of}
use Rattle.calls_buffers.proofs.Tops.{tops_step, tops_end}
use Rattle.calls_buffers.proofs.jobs.climb.Goals as goal

pub loop-reach-preserved : goal.loop-reach-preserved
loop-reach-preserved c =
    let l = c.loop-reach in
    tops_step c.deref-reach-items.result.now l.reach-index (record { from = 0; to = 0 }) l.top _ _ _
    _ c.loop-reach-test.true c.max-top.ensures c.in_ok-push.ensures.items l.invariant

pub returns : goal.returns
returns c = record {
  sorted = c.sort_by_key.new.self.items;
  moved = c.in_ok-sort_by_key.ensures.permutation;
  rises = IsNonDecreasingBy-from_sort_by_key (λ (r : Reach). r.from) _
      c.in_ok-sort_by_key.ensures.sorted (λ a r q k. search rules);
  is = tops_end c.deref-reach-items.result.now c.loop-reach.reach-index c.loop-reach.top
      c.loop-reach.tops.items _ (omega arith) c.loop-reach.invariant
      ∙ ap (tops_of 0) c.deref-reach-items.ensures.value;
}
