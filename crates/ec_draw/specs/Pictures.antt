-- The shapes of a picture of a history.
use Rattle.std.specs.Prelude.{List, ◌++◌, map, reverse}
use Rattle.ec_count.specs.Tables.{Tables}
use Rattle.ec_core.specs.declared.act.Entry.{Entry}
use Rattle.ec_heading.specs.declared.group.Group.{Group}
use Rattle.ec_order.specs.declared.placed.Placed.{Placed}
use Rattle.ec_draw.specs.declared.window.Window.{Window}
use Rattle.ec_draw.specs.declared.open.PendingBar.{PendingBar}
use Rattle.ec_draw.specs.declared.dot.Dot.{Dot}
use Rattle.ec_draw.specs.Bars.{bars}
use Rattle.ec_draw.specs.Open.{pending_bars}
use Rattle.ec_draw.specs.Dots.{dots_of}
use Rattle.ec_draw.specs.declared.picture.Picture.{Picture}
use Rattle.ec_draw.specs.declared.arrow.Arrow.{Arrow}
use Rattle.ec_draw.specs.Curves.{CurveModel, curves_of_counts, curve_model}
use Rattle.ec_draw.specs.Balances.{balance_lines}
use Rattle.ec_draw.specs.Shades.{ShadeModel, shade_model, shades}
use Rattle.ec_draw.specs.Arrows.{arrows}

-- a picture, as a contract sees it: the completed calls with their linearization points, the
-- pending calls, the entries with the components that they read or raised, the curves of counts and
-- of balances, the accepted tries, and the deliveries
pub record Shapes : Type 0 where
  pub window : Window
  pub calls : List Placed
  pub begun : List PendingBar
  pub dots : List Dot
  pub curves : List CurveModel
  pub shades : List ShadeModel
  pub arrows : List Arrow

-- the picture of a history, on these declarations, with these groups, and through this window
abbrev pub shapes : Tables → List Group → Window → List Entry → Shapes
shapes t gs w h = record {
  window = w;
  calls = bars t w h;
  begun = pending_bars t w h;
  dots = dots_of t w (reverse h);
  curves = curves_of_counts t w h ++ balance_lines gs w h;
  shades = shades t gs w h;
  arrows = arrows t gs w h;
}

-- the shapes that a picture has
abbrev pub kept_shapes : Picture → Shapes
kept_shapes p = record {
  window = p.window;
  calls = p.calls.items;
  begun = p.begun.items;
  dots = p.dots.items;
  curves = map curve_model p.curves.items;
  shades = map shade_model p.shades.items;
  arrows = p.arrows.items;
}
