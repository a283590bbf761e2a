use Rattle.std.proofs.Common.{subst}
use Rattle.ec_draw.specs.declared.finding.GroupState.{GroupState}
use Rattle.ec_draw.specs.kept.Findings.{FindsOn}
use Rattle.ec_draw.proofs.WalkLemmas.{takes_balance, takes_both, takes_tries, takes_moves}
use Rattle.ec_draw.proofs.finding.GroupStateAudit.take.Goals as goal

pub returns-in-Balance : goal.returns-in-Balance
returns-in-Balance c = λ start past at is represents.
    takes_balance c.args.place c.args.op.now c.args.entry.now c.in-Balance.state c.take.new.self
    c.take.ensures start past at is
    (subst (λ (a : GroupState). FindsOn start a past) c.in-Balance.is represents)

pub returns-in-Both : goal.returns-in-Both
returns-in-Both c = λ start past at is represents.
    takes_both c.args.place c.args.op.now c.args.entry.now c.in-Both.both c.take-in-Both.new.self
    c.take-in-Both.ensures start past at is
    (subst (λ (a : GroupState). FindsOn start a past) c.in-Both.is represents)

pub returns-in-Tries : goal.returns-in-Tries
returns-in-Tries c = λ start past at is represents.
    takes_tries c.args.place c.args.op.now c.args.entry.now c.in-Tries.tries
    c.take-in-Tries.new.self c.take-in-Tries.ensures start past at is
    (subst (λ (a : GroupState). FindsOn start a past) c.in-Tries.is represents)

pub returns-in-Moves : goal.returns-in-Moves
returns-in-Moves c = λ start past at is represents.
    takes_moves c.args.place c.args.op.now c.args.entry.now c.in-Moves.moves
    c.take-in-Moves.new.self c.take-in-Moves.ensures start past at is
    (subst (λ (a : GroupState). FindsOn start a past) c.in-Moves.is represents)
