use Rattle.std.proofs.Common.{below_more, refl, sym, subst}
use Rattle.std.proofs.lemmas.Bool.{both_ways}
use Rattle.calls_counts.specs.Scanning.{AreInvocations}
use Rattle.calls_counts.proofs.Observing.{NotFewer, not_fewer, contains_placed, many_shown}
use Rattle.calls_counts.proofs.observe.too_little.Goals as goal

pub returns-then-is_fewer : goal.returns-then-is_fewer
returns-then-is_fewer c = λ n lt r.
    (let invocations = subst (AreInvocations c.args.slots.now c.args.call.first)
    (sym c.deref.ensures.value) c.in_ok-firsts.ensures.counted in (
      refl,
      contains_placed c.args.reads.now c.loop-p.p-index _ c.loop-p-test.true,
      (c.is_fewer.ensures c.args.slots.now invocations).0 c.if-is_fewer.true,
    ))

pub loop-p-preserved : goal.loop-p-preserved
loop-p-preserved c =
    let invocations = subst (AreInvocations c.args.slots.now c.args.call.first)
    (sym c.deref.ensures.value) c.in_ok-firsts.ensures.counted in
    below_more (NotFewer c.args.slots.now c.args.reads.now c.args.call c.args.number)
    c.loop-p.p-index c.loop-p.invariant
    (not_fewer c.args.slots.now c.args.reads.now c.args.call c.args.number c.loop-p.p-index _ (λ f.
    both_ways c.is_fewer.result c.if-is_fewer.false
    ((c.is_fewer.ensures c.args.slots.now invocations).1 f)))

pub returns : goal.returns
returns c = many_shown c.args.start c.args.slots.now c.args.reads.now c.args.call c.args.number
    c.loop-p.p-index c.loop-p-test.false c.loop-p.invariant
