use Rattle.std.proofs.Common.{arith, map, refl}
use Rattle.std.proofs.lemmas.List.{length-map}
use Rattle.calls_core.specs.Parts.{event_at, events_at}
use Rattle.calls_verdict.proofs.PartsMore.{index_more, parts_beyond}
use Rattle.calls_verdict.proofs.splitting.add.Goals as goal

pub returns-in_ok-push-clause-added : goal.returns-in_ok-push-clause-added
returns-in_ok-push-clause-added c =
    λ events past is each. index_more events c.args.object c.args.i c.args.parts.now.items
    _ c.push.new.self c.index_mut.result.now past is (omega (arith, c.if-object-len.true))
    c.index_mut.ensures.value c.in_ok-push.ensures refl each

pub returns-else-object-len-clause-added : goal.returns-else-object-len-clause-added
returns-else-object-len-clause-added c =
    λ events past is each. parts_beyond c.args.object (event_at events c.args.i) past
    (map (events_at events) c.args.parts.now.items) is
    (λ lt. omega (
      arith,
      c.if-object-len.false,
      length-map c.args.parts.now.items
          (events_at events),
    )) each
