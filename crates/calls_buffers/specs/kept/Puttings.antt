-- The windows of items that are put in by takers of turns, and taken out in a known order.
use Rattle.std.specs.Prelude.{ℕ, ◌+◌, List, [], ◌∷◌, ◌++◌, Option, Some, None, slice_get}
use Rattle.calls_turns.specs.declared.turn.Taker.{Taker}
use Rattle.calls_buffers.specs.declared.accesses.Access.{Access}
use Rattle.calls_buffers.specs.declared.windows.Window.{Window}
use Rattle.calls_buffers.specs.kept.Pairs.{window_of}

-- the window of a produce with this consume, if there is one
abbrev pub put_window : ℕ → Option Access → Option Access → List Window
put_window end None take = []
put_window end (Some p) take = window_of end p take

-- each produce that takes a turn with the consume of this turn. The first turn is number k
abbrev pub put_windows : ℕ → List Access → List Access → ℕ → List Taker → List Window
put_windows end puts takes k [] = []
put_windows end puts takes k (x ∷ order) =
    put_window end (slice_get puts x.call) (slice_get takes k)
    ++ put_windows end puts takes (k + 1) order
