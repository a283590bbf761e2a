use Rattle.std.proofs.Common.{arith, subst, reverse}
use Rattle.calls_verdict.specs.Verdicts.{IsDecision}
use Rattle.calls_verdict.proofs.Turns.{turn_kind, turn_part, turn_history, turn_end, turn_added}
use Rattle.calls_verdict.proofs.deciding.decide.Goals as goal

pub end_of-end-requires : goal.end_of-end-requires
end_of-end-requires c = omega (arith, c.requires.room)

pub decide_object-requires-clause-history : goal.decide_object-requires-clause-history
decide_object-requires-clause-history c =
    turn_history c.args.kinds.now c.args.events.now c.requires.history c.in_ok-parts.parts.items
    c.in_ok-parts.ensures
    c.loop-object.object c.loop-object-test.true c.index-kinds-object.result c.index-kinds-object.is
    c.index.result.now c.index.ensures c.part-own.result c.part-own.ensures

pub decide_object-requires-clause-end : goal.decide_object-requires-clause-end
decide_object-requires-clause-end c =
    omega (
      arith,
      c.end_of-end.ensures,
      turn_end c.args.kinds.now c.args.events.now c.requires.history
          c.in_ok-parts.parts.items c.in_ok-parts.ensures c.loop-object.object
          c.loop-object-test.true
          c.index-kinds-object.result c.index-kinds-object.is c.index.result.now c.index.ensures
          c.part-own.result c.part-own.ensures,
    )

pub add-requires : goal.add-requires
add-requires c =
    turn_added c.args.kinds.now c.args.events.now c.requires.history c.in_ok-parts.parts.items
    c.in_ok-parts.ensures
    c.loop-object.object c.loop-object-test.true c.index-kinds-object.result c.index-kinds-object.is
    c.index.result.now c.index.ensures c.part-own.result c.part-own.ensures
    c.end_of-end.result c.in_ok-decision.decision c.end_of-end.ensures c.requires.room
    c.in_ok-decision.ensures

pub loop-object-preserved : goal.loop-object-preserved
loop-object-preserved c =
    c.in_ok-add.ensures c.args.kinds.now (reverse c.args.events.now) c.index-kinds-object.result
    c.requires.history
    (turn_kind c.args.kinds.now c.args.events.now c.requires.history c.in_ok-parts.parts.items
    c.in_ok-parts.ensures
    c.loop-object.object c.loop-object-test.true c.index-kinds-object.result c.index-kinds-object.is
    c.index.result.now c.index.ensures c.part-own.result c.part-own.ensures)
    (turn_part c.args.kinds.now c.args.events.now c.requires.history c.in_ok-parts.parts.items
    c.in_ok-parts.ensures
    c.loop-object.object c.loop-object-test.true c.index-kinds-object.result c.index-kinds-object.is
    c.index.result.now c.index.ensures c.part-own.result c.part-own.ensures)
    (subst (λ t. IsDecision c.index-kinds-object.result c.part-own.result t
    c.in_ok-decision.decision)
    c.end_of-end.ensures c.in_ok-decision.ensures)
    c.loop-object.invariant
