use Rattle.std.proofs.Common.{ap, get_or}
use Rattle.calls_buffers.specs.declared.accesses.Place.TheVariants.{Completed}
use Rattle.calls_buffers.specs.declared.accesses.Access.{Access}
use Rattle.calls_buffers.specs.kept.Pairs.{window_of}
use Rattle.calls_buffers.proofs.Takings.{taken_step}
use Rattle.calls_buffers.proofs.turns.taken_windows.Goals as goal

pub loop-k-preserved : goal.loop-k-preserved
loop-k-preserved c =
    let end = c.args.end in
    let puts = c.args.puts.now in
    let k = c.loop-k.k in
    let d : Access = record { item = 0; place = Completed 0; first = 0; last = 0 } in
    taken_step end c.args.takes.now puts c.args.order.now k d c.loop-k.windows.items _
    (window_of end (get_or puts k d) c.take_of-take.result) _ c.loop-k-test.true
    (ap (window_of end (get_or puts k d)) c.take_of-take.ensures) c.in_ok-add_window.ensures
    c.loop-k.invariant
