-- Points by an index of the advances.
use Rattle.std.specs.Prelude.{◌≡◌, ℕ, ◌+◌, ◌<◌, max, List, zero, suc, [], ◌∷◌, ◌++◌, length, map, Option, Some, None, if◌then◌else◌, slice_index, slice_index_or}
use Rattle.ec_core.specs.declared.act.Act.{Act}
use Rattle.ec_core.specs.declared.act.Act.TheVariants.{Advance}
use Rattle.ec_core.specs.declared.act.Entry.{Entry}
use Rattle.ec_core.specs.Counts.{is_advance}
use Rattle.ec_core.specs.Rounds.{event_or}
use Rattle.ec_numbers.specs.Numbers.{NumberListModel}
use Rattle.ec_order.specs.declared.call.Call.{Call}
use Rattle.ec_order.specs.declared.placed.Placed.{Placed}
use Rattle.ec_order.specs.Calls.{is_reading}
use Rattle.ec_core.specs.CallLists.{reply_number}

-- the moments after the advances of e
unfoldable pub advance_moments : ℕ → List Entry → List ℕ
advance_moments e [] = []
advance_moments e (x ∷ past) = advance_moments e past ++ (if is_advance e x.act then (length past + 1) ∷ [] else [])

-- the moment after the r-th advance, and moment 0 for r = 0
abbrev pub moment_of_advance : List ℕ → ℕ → ℕ
moment_of_advance moments zero = 0
moment_of_advance moments (suc r) = slice_index moments r

-- the moments of e in an index
abbrev pub moments_in : List NumberListModel → ℕ → List ℕ
moments_in lists e = slice_index_or (map (λ v. v.list) lists) e []

abbrev pub IsIndex : List Entry → List NumberListModel → Type 0
IsIndex past lists = (e : ℕ) → e < 32 → moments_in lists e ≡ advance_moments e past

-- the point of a call, if these are the moments after the advances of its eventcount
abbrev pub point_by : List ℕ → Call → ℕ
point_by moments c = if is_reading c.op then max c.round (moment_of_advance moments (reply_number c.reply)) else c.last

abbrev pub point_in : List NumberListModel → Call → ℕ
point_in lists c = point_by (moments_in lists (event_or c.op)) c

abbrev pub placed_in : List NumberListModel → Call → Placed
placed_in lists c = record { call = c; point = point_in lists c }

-- the moment is added after those of the eventcount that the act advances
pub record NotesAct (lists : List NumberListModel) (act : Act) (moment : ℕ) (new : List NumberListModel) : Type 0 where
  pub long : length new ≡ length lists
  pub moments : (e : ℕ) → moments_in new e ≡ moments_in lists e ++ (if is_advance e act then moment ∷ [] else [])

-- the eventcount that an act advances
abbrev pub advanced_event : Act → Option ℕ
advanced_event (Advance e) = Some e
advanced_event _ = None
