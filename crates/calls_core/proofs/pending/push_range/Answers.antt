use Rattle.std.proofs.Common.{arith, sym, ◌∙◌, ◌≡◌, length}
use Rattle.std.proofs.lemmas.Bool.{eqb-true}
use Rattle.calls_core.specs.declared.history.TheConstants.{WORKERS}
use Rattle.calls_core.proofs.Ranges.{raised_more, raised_full}
use Rattle.calls_core.proofs.pending.push_range.Goals as goal

pub returns-then-is_full : goal.returns-then-is_full
returns-then-is_full c = λ room.
    (let full : length c.loop-i.list.items ≡ WORKERS =
    eqb-true (length c.loop-i.list.items) WORKERS
    (sym c.is_full.ensures.value ∙ c.if-is_full.true) in
    absurd (raised_full c.args.from c.loop-i.i c.args.upto c.args.list.now.items
    c.loop-i.list.items c.loop-i.invariant.0 c.loop-i-test.true c.loop-i.invariant.2 full
    room))

pub loop-i-preserved : goal.loop-i-preserved
loop-i-preserved c = (
  omega (arith, c.loop-i.invariant.0),
  omega (arith, c.loop-i-test.true),
  c.push.ensures.items ∙ raised_more c.args.from c.loop-i.i c.args.list.now.items
      c.loop-i.list.items c.loop-i.invariant.0 c.loop-i.invariant.2,
)
