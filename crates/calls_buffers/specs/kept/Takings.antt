-- Items that are taken out in the order in which they were put in, with their consumes.
use Rattle.std.specs.Prelude.{ℕ, Option, Some, None, slice_get, List, [], ◌∷◌, ◌++◌}
use Rattle.calls_turns.specs.declared.turn.Taker.{Taker}
use Rattle.calls_buffers.specs.declared.accesses.Place.TheVariants.{Pending}
use Rattle.calls_buffers.specs.declared.accesses.Access.{Access}
use Rattle.calls_buffers.specs.declared.windows.Window.{Window}
use Rattle.calls_buffers.specs.kept.Pairs.{window_of}

-- the consume of a taker who takes item v: one of these if it has an item, and a pending one if not
abbrev pub take_with : List Access → ℕ → Taker → Option ℕ → Option Access
take_with takes v x None =
    Some (record { item = v; place = Pending x.call; first = x.from; last = x.by })
take_with takes v x (Some w) = slice_get takes x.call

abbrev pub take_by : List Access → ℕ → Taker → Option Access
take_by takes v x = take_with takes v x x.item

abbrev pub take_of : List Access → ℕ → Option Taker → Option Access
take_of takes v None = None
take_of takes v (Some x) = take_by takes v x

-- the windows of items that are put in, in this order, and taken out by these takers
abbrev pub taken_windows : ℕ → List Access → List Access → List Taker → List Window
taken_windows end takes [] order = []
taken_windows end takes (p ∷ puts) [] = window_of end p None ++ taken_windows end takes puts []
taken_windows end takes (p ∷ puts) (x ∷ order) =
    window_of end p (take_by takes p.item x) ++ taken_windows end takes puts order
