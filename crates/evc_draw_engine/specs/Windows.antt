-- Which entries of a trace are drawn.
use Rattle.std.specs.Prelude.{ℕ, ◌-◌, ◌==◌, ◌&&◌, min, max, Bool, not, nat_le, nat_lt, List, ◌++◌}
use Rattle.std.specs.Prelude.{codes, decimal, if◌then◌else◌}
use Rattle.ec_draw.specs.declared.window.Window.{Window}
use Rattle.ec_draw.specs.declared.window.TheConstants.{COLUMNS_MAX}
use Rattle.evc_draw_cli.specs.declared.choice.Range.{Range}
use Rattle.evc_draw_cli.specs.declared.choice.TheConstants.{NO_END}

-- the part of a range that is among the first n entries
abbrev pub window_on : Range → ℕ → Window
window_on r n = record { from = min r.from n; to = min r.to n }

-- whether a window has too many entries for a picture
abbrev pub is_wide : Window → Bool
is_wide w = nat_lt COLUMNS_MAX (w.to - w.from)

-- the last entries of a window, as many as a picture can have
abbrev pub last_of : Window → Window
last_of w = record { from = max w.from (w.to - COLUMNS_MAX); to = w.to }

-- the window that is drawn of n columns: an accepted trace has one for each entry, and a rejected
-- one those up to the faulty line, which has a column
abbrev pub window_for : Range → ℕ → Window
window_for r n = last_of (window_on r n)

-- the note on a range that has more entries than a picture can have
abbrev pub cut_note : List ℕ
cut_note = codes "more than 400 entries: only the last 400 are drawn\n"

-- RANGES WITHOUT ENTRIES

-- whether a range is the whole one, so that none was given
abbrev pub is_whole : Range → Bool
is_whole r = r.from == 0 && r.to == NO_END

-- whether a range was given, and has none of n entries
abbrev pub is_empty : Range → ℕ → Bool
is_empty r n = not (is_whole r) && nat_le (min r.to n) r.from

-- the words on the last entry of a range, if it has an end
abbrev pub last_words : ℕ → List ℕ
last_words to = if to == NO_END then codes " on" else (codes " to " ++ decimal (to - 1))

unfoldable pub range_words : Range → List ℕ
range_words r = codes "from " ++ decimal r.from ++ last_words r.to

unfoldable pub empty_note : Range → ℕ → List ℕ
empty_note r n = codes "no entry " ++ range_words r ++ codes ": the trace has " ++ decimal n
    ++ codes " entries\n"
