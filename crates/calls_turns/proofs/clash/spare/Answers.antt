use Rattle.std.proofs.Common.{length, subst}
use Rattle.calls_turns.specs.Sweeps.{IsTargetDue}
use Rattle.calls_turns.proofs.Loads.{spare_closed, none_due}
use Rattle.calls_turns.proofs.clash.spare.Goals as goal

pub full-requires-clause-closed : goal.full-requires-clause-closed
full-requires-clause-closed c =
    let turns = c.args.turns.now in
    let takers = c.args.takers.now in
    let fills = c.args.fills.now in
    let p = c.args.demand.at in
    spare_closed c.args.end turns takers fills p c.in-Taker.j c.requires.spares c.requires.known
    c.requires.stuck.cant
    (subst (λ t. IsTargetDue turns takers fills (length fills) p t) c.in-Taker.is
    c.requires.stuck.unmet.due) c.if-demand-takers.false

pub unreachable-requires : goal.unreachable-requires
unreachable-requires c =
    let turns = c.args.turns.now in
    let fills = c.args.fills.now in
    let p = c.args.demand.at in
    none_due c.args.end turns p (length fills) c.in-Turn.field-0 c.requires.spares
    c.requires.stuck.unmet.before c.requires.known
    (subst (λ t. IsTargetDue turns c.args.takers.now fills (length fills) p t) c.in-Turn.is
    c.requires.stuck.unmet.due)
