-- The bars of pending calls.
use Rattle.std.specs.Prelude.{ℕ, ◌==◌, ◌&&◌, not, Bool, zero, suc, List, [], ◌∷◌, ◌++◌, length}
use Rattle.std.specs.Prelude.{Option, if◌then◌else◌, nat_lt, reverse}
use Rattle.std.specs.Option.{option_map, option_to_list}
use Rattle.std.specs.List.{filter}
use Rattle.ec_count.specs.Tables.{Tables}
use Rattle.ec_core.specs.declared.act.Entry.{Entry}
use Rattle.ec_core.specs.Calls.{CallSoFar, under_way, is_go}
use Rattle.ec_draw.specs.declared.window.Window.{Window}
use Rattle.ec_draw.specs.declared.open.PendingBar.{PendingBar}

-- whether an entry is one of w, and begins a call
abbrev pub begins : ℕ → Entry → Bool
begins w x = x.worker == w && not (is_go x.act)

-- the position of the latest entry of w that began a call
unfoldable pub begun_at : ℕ → List Entry → ℕ
begun_at w [] = 0
begun_at w (x ∷ past) = if begins w x then length past else begun_at w past

-- the call of w that is pending after the history so far, if there is one; its first entry is the
-- latest of w that began a call
abbrev pub open_of : ℕ → List Entry → CallSoFar → PendingBar
open_of w past call = record { worker = w; op = call.op; first = begun_at w past }

abbrev pub open_call : ℕ → List Entry → Option PendingBar
open_call w past = option_map (open_of w past) (under_way w past)

-- whether a pending call is shown: it began before the end of the window
abbrev pub is_open_shown : Window → PendingBar → Bool
is_open_shown w o = nat_lt o.first w.to

abbrev pub open_bars_of : Window → ℕ → List Entry → List PendingBar
open_bars_of w n past = filter (is_open_shown w) (option_to_list (open_call n past))

-- the shown pending calls of the first n workers
unfoldable pub pending_bars_of : Window → ℕ → List Entry → List PendingBar
pending_bars_of w zero past = []
pending_bars_of w (suc n) past = pending_bars_of w n past ++ open_bars_of w n past

-- the calls that are pending at the end of a history and are shown, in the order of their workers
abbrev pub pending_bars : Tables → Window → List Entry → List PendingBar
pending_bars t w h = pending_bars_of w t.workers (reverse h)
