use Rattle.std.proofs.Common.{◌<◌, length, arith}
use Rattle.std.proofs.lemmas.Grind.{common_steps}
use Rattle.calls_shapes.specs.Tallies.{tally_at}
use Rattle.calls_report.proofs.Passing.{take_read, past_read}
use Rattle.calls_shapes.proofs.TallyLemmas.{tallies_more}
use Rattle.calls_shapes.proofs.tallies.tallies_of.Goals as goal

pub loop-i-preserved : goal.loop-i-preserved
loop-i-preserved c =
    let events = c.args.events.now in
    let before = c.loop-i.invariant in
    let x = c.at-event.result in
    let lt : c.loop-i.i < length events = omega (arith, c.loop-i-test.true, c.len-i-end.ensures) in
    let next = take_read events c.loop-i.i x lt (c.at-event.ensures x) in
    let past = past_read events c.loop-i.i x lt (c.at-event.ensures x) in
    record {
      pending = grind (arith, common_steps);
      called = grind (arith, common_steps);
      returned = grind (arith, common_steps);
      few = omega (arith, before.few, c.count_call.ensures.few);
      few_returned = omega (arith, before.few_returned, c.count_one.ensures.few);
      count = omega (arith, before.count, c.in_ok-push.ensures.len);
      each = tallies_more (tally_at c.args.counted events) c.loop-i.tallies.items
          c.push.new.self.items c.loop-i.i c.loop-i.tally
          c.in_ok-push.ensures.items before.count before.each before.called before.returned;
    }

pub returns-clause-each : goal.returns-clause-each
returns-clause-each c = λ p within.
    let before = c.loop-i.invariant in
    tallies_more (tally_at c.args.counted c.args.events.now) c.loop-i.tallies.items
    c.push-2.new.self.items c.loop-i.i c.loop-i.tally
    c.in_ok-push-2.ensures.items before.count before.each before.called before.returned p
    (omega (arith, within, c.loop-i-test.false, c.len-i-end.ensures))
