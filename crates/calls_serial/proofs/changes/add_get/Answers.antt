use Rattle.std.proofs.Common.{ap, ◌∙◌}
use Rattle.calls_serial.specs.declared.stage.Stage.{Stage}
use Rattle.calls_serial.specs.kept.Stages.{as_get, stage_gets, stage_view, with_get}
use Rattle.calls_serial.proofs.Finding.{more_gets, pushed}
use Rattle.calls_serial.proofs.changes.add_get.Goals as goal

pub returns : goal.returns
returns c prefix h back e is =
    (let s = c.index_mut.result.now in
    pushed c.args.stages.now.items prefix h back c.args.i c.args.get _ s e is
    (ap (λ gets. record {
      put = s.put;
      value = s.value;
      moment = s.moment;
      link = s.link;
      gets = stage_gets s.value gets;
    })
    c.in_ok-push.ensures.items
    ∙ ap (λ gets. record {
      put = s.put;
      value = s.value;
      moment = s.moment;
      link = s.link;
      gets = gets;
    })
    (more_gets s.value s.gets.items c.new.result c.args.get c.new.ensures)
    ∙ ap (λ (z : Stage). with_get (as_get z.value c.args.get) (stage_view z))
    c.index_mut.ensures.value))
