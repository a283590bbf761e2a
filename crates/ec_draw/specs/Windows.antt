-- Which entries a picture shows, and the column of each moment.
use Rattle.std.specs.Prelude.{ℕ, ◌-◌, Bool, ◌&&◌, nat_le, nat_lt, min}
use Rattle.ec_draw.specs.declared.window.Window.{Window}
use Rattle.ec_draw.specs.declared.window.TheConstants.{COLUMNS_MAX}

-- whether the entry at position k is shown
abbrev pub shows : Window → ℕ → Bool
shows w k = nat_le w.from k && nat_lt k w.to

-- whether a call with these first and last entries is shown: it began before the end of the window,
-- and did not end before its start
abbrev pub meets : Window → ℕ → ℕ → Bool
meets w first last = nat_lt first w.to && nat_le w.from last

-- how many columns are shown
abbrev pub columns : Window → ℕ
columns w = min (w.to - w.from) COLUMNS_MAX

-- the column of moment k: the one at which the window begins has column 0, and a moment before or
-- after the window has the column of the nearer edge
abbrev pub column : Window → ℕ → ℕ
column w k = min (k - w.from) (columns w)
