use Rattle.std.proofs.Common.{◌≡◌, ◌++◌, take}
use Rattle.calls_serial.specs.kept.Stages.{put_calls, stage_gets}
use Rattle.calls_serial.proofs.pass.add_calls.Given as goal

abbrev pub invariant-loop-get : goal.invariant-loop-get
invariant-loop-get l =
    l.calls ≡ l.fn.calls ++ (put_calls l.stage.put
    ++ stage_gets l.stage.value (take l.get-index l.get-items))
