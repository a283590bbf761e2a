-- The bars of completed calls, with the marks at their linearization points.
use Rattle.std.specs.Prelude.{Bool, List, reverse}
use Rattle.std.specs.List.{filter}
use Rattle.ec_count.specs.Tables.{Tables}
use Rattle.ec_core.specs.declared.act.Entry.{Entry}
use Rattle.ec_order.specs.declared.placed.Placed.{Placed}
use Rattle.ec_order.specs.Points.{ordered_by_points}
use Rattle.ec_draw.specs.declared.window.Window.{Window}
use Rattle.ec_draw.specs.Windows.{meets}

-- whether a call is shown
abbrev pub is_shown : Window → Placed → Bool
is_shown w p = meets w p.call.first p.call.last

-- the completed calls that are shown, each with its point, in order of their points
abbrev pub bars : Tables → Window → List Entry → List Placed
bars t w h = filter (is_shown w) (ordered_by_points t (reverse h))
