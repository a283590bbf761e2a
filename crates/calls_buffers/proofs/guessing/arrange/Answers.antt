use Rattle.std.proofs.lemmas.List.Sorted.{IsPermutation-trans}
use Rattle.calls_buffers.proofs.guessing.arrange.Goals as goal

pub loop-preserved : goal.loop-preserved
loop-preserved c = IsPermutation-trans c.args.calls.now c.loop.calls c.settle-i.new.calls
    c.loop.invariant c.settle-i.ensures
