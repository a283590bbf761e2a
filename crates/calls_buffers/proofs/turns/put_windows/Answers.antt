use Rattle.std.proofs.Common.{[], ap, sym, ◌∙◌, Some, None, append-nil, slice_get}
use Rattle.calls_turns.specs.declared.turn.Taker.{Taker}
use Rattle.calls_buffers.specs.kept.Puttings.{put_window}
use Rattle.calls_buffers.specs.kept.Pairs.{window_of}
use Rattle.calls_buffers.proofs.PutTurns.{put_step}
use Rattle.calls_buffers.proofs.turns.put_windows.Goals as goal
use Rattle.calls_buffers.proofs.turns.put_windows.Goals.{in-Some+in_ok-add_window, in_default}

pub loop-k-preserved : goal.loop-k-preserved
loop-k-preserved c =
    let end = c.args.end in
    let puts = c.args.puts.now in
    let takes = c.args.takes.now in
    let order = c.args.order.now in
    let k = c.loop-k.k in
    let base = c.loop-k.windows.items in
    let d : Taker = record { call = 0; item = None; from = 0; by = 0 } in
    elim c.match-access_at.branch [
      | in-Some+in_ok-add_window w ↦ put_step end puts takes order k d base _
          (window_of end w.in-Some.put w.access_at-take.result) _ c.loop-k-test.true
          (ap (put_window end (Some w.in-Some.put)) w.access_at-take.ensures
          ∙ ap (λ o. put_window end o (slice_get takes k)) (sym w.in-Some.is ∙ c.access_at.ensures))
          (ap (λ v. v.items) w.windows-is ∙ w.in_ok-add_window.ensures) c.loop-k.invariant
      | in_default w ↦ put_step end puts takes order k d base _ [] _ c.loop-k-test.true
          (ap (λ o. put_window end o (slice_get takes k))
          (sym w.in_default.is ∙ c.access_at.ensures))
          (ap (λ v. v.items) w.windows-is ∙ sym (append-nil base)) c.loop-k.invariant
    ]
