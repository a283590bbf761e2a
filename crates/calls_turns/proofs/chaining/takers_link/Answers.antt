use Rattle.calls_turns.proofs.Stretches.{takers_link}
use Rattle.calls_turns.proofs.chaining.takers_link.Goals as goal

pub returns : goal.returns
returns c = takers_link c.args.end c.args.turns.now c.args.takers.now c.args.fills.now
    c.unwrap-item.result c.args.at c.args.turn c.args.taker c.stretch_of-stretch.result
    c.position_of.result c.requires.filled c.requires.others c.requires.within c.requires.known
    c.stretch_of-stretch.ensures c.requires.before c.requires.due c.unwrap-item.ensures
    c.position_of.ensures
