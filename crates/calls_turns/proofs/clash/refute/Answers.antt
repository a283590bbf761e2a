use Rattle.std.proofs.Common.{arith, length}
use Rattle.calls_turns.proofs.Loads.{known_lacking}
use Rattle.calls_turns.proofs.clash.refute.Goals as goal

pub few-requires-clause-lacking : goal.few-requires-clause-lacking
few-requires-clause-lacking c =
    known_lacking c.args.turns.now c.args.takers.now c.args.fills.now c.args.demand.at
    (length c.args.fills.now) (omega (arith, c.if-turn-first.true, c.count_known-first.ensures))
    (c.is_open.ensures.there c.if-is_open.true) (c.is_open.ensures.from c.if-is_open.true)
    c.requires.stuck.cant
