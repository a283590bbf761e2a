use Rattle.std.proofs.Common.{arith}
use Rattle.calls_turns.specs.Chains.{after}
use Rattle.calls_turns.proofs.Counts.{turns_rise}
use Rattle.calls_turns.proofs.sharing.add_share.Goals as goal

pub overflow_sub-stretch : goal.overflow_sub-stretch
overflow_sub-stretch c =
    let s = c.stretch_of-stretch.result in
    let is = c.stretch_of-stretch.ensures in
    omega (
      arith,
      is.counted,
      turns_rise c.args.turns.now c.args.item (after s.barrier) c.len.result is.before,
    )
