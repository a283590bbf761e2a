-- The completed calls of a history in order of their points, as they are found while the history is
-- streamed.
use Rattle.std.specs.Prelude.{◌≡◌, ℕ, ◌+◌, ◌≤◌, Bool, true, false, not, nat_lt, List, [], ◌∷◌, length, map, reverse, Option, if◌then◌else◌}
use Rattle.std.specs.List.{filter}
use Rattle.ec_count.specs.Tables.{Tables}
use Rattle.ec_core.specs.declared.act.Entry.{Entry}
use Rattle.ec_core.specs.declared.pending_calls.PendingCall.{PendingCall}
use Rattle.ec_core.specs.Acceptance.{IsAccepted}
use Rattle.ec_core.specs.PendingCalls.{AreCalls}
use Rattle.ec_order.specs.declared.call.Call.{Call}
use Rattle.ec_order.specs.declared.linearized_entry.LinearizedEntry.{LinearizedEntry}
use Rattle.ec_order.specs.declared.placed.Placed.{Placed}
use Rattle.ec_order.specs.Calls.{is_one_entry_call}
use Rattle.ec_order.specs.Points.{by_moments, ordered_by_points}
use Rattle.ec_order.specs.AdvanceLogModel.{AdvanceLogModel, AreAdvanceLogs, IsPointBy}
use Rattle.ec_order.specs.Verdicts.{IsLinearizationWithPoints}
use Rattle.ec_order.specs.Walk.{is_one_entry_act, due_then, readings, PutsIn}

-- a call, written as one entry: the act that began it, and its last reply
abbrev pub entry_of_call : Call → Entry
entry_of_call c = record { worker = c.worker; act = c.op; reply = c.reply }

-- a placed call, so written, with its point
abbrev pub linearized_entry : Placed → LinearizedEntry
linearized_entry p = record { point = p.point; entry = entry_of_call p.call }

abbrev pub entry_point : LinearizedEntry → ℕ
entry_point d = d.point

-- these represent a linearization of the completed calls of a past, each with its point
pub record IsGoodLinearization (t : Tables) (past : List Entry) (calls : List LinearizedEntry) : Type 0 where
  pub placed : List Placed
  pub returned : calls ≡ map linearized_entry placed
  pub good : IsLinearizationWithPoints t past placed

-- the completed calls of a past in order of their points, so written
abbrev pub linearized_entries : Tables → List Entry → List LinearizedEntry
linearized_entries t past = map linearized_entry (ordered_by_points t past)

-- WHAT IS STORED

-- the declarations; the pending calls; the advances of each eventcount, with the moments only of
-- those that were made while a read or an await of it is pending; for each entry whether it is a
-- whole call; the entries that are; the completed reads and awaits of more entries in order of
-- their points; and whether an allocation failed for one entry
pub record LinearizerModel : Type 0 where
  pub setup : Tables
  pub under_way : List (Option PendingCall)
  pub advances : List AdvanceLogModel
  pub marks : List Bool
  pub one_entry_calls : List Entry
  pub readings : List LinearizedEntry
  pub out_of_memory : Bool

-- whether a call has more than one entry
abbrev pub is_long : Placed → Bool
is_long p = nat_lt p.call.first p.call.last

-- the completed reads and awaits of more than one entry, in order of their responses
abbrev pub long_readings : Tables → List Entry → List Placed
long_readings t past = filter is_long (readings t past)

-- it represents an accepted past
pub record IsLinearizerModel (k : LinearizerModel) (past : List Entry) : Type 0 where
  pub under_way : AreCalls k.setup k.under_way past
  pub advances : AreAdvanceLogs k.advances past
  pub marks : k.marks ≡ map is_one_entry_call (reverse past)
  pub one_entry_calls : k.one_entry_calls ≡ filter is_one_entry_call (reverse past)
  pub readings : (n : ℕ) → length past ≤ n → k.readings ≡ map linearized_entry (by_moments (long_readings k.setup past) n)

-- a call that an entry ends is inserted by its point, found by the advances that are stored before
-- that entry is added
pub record PutsByPoint (kept : List AdvanceLogModel) (c : Call) (old new : List LinearizedEntry) : Type 0 where
  pub point : ℕ
  pub is : IsPointBy kept c point
  pub puts : PutsIn entry_point old new (linearized_entry (record { call = c; point = point }))

-- one more entry, at this position, is added
pub record TakesIn (old : LinearizerModel) (place : ℕ) (x : Entry) (new : LinearizerModel) : Type 0 where
  pub timed : (past : List Entry) → place ≡ length past → IsAccepted old.setup (x ∷ past) → IsLinearizerModel old past → IsLinearizerModel new (x ∷ past)

-- it represents a past, if the past is accepted and no allocation failed
abbrev pub IsLinearizer : LinearizerModel → List Entry → Type 0
IsLinearizer k past = k.out_of_memory ≡ false → IsAccepted k.setup past → IsLinearizerModel k past

-- it has the same declarations as at the start, and represents a past
abbrev pub LinearizesOn : LinearizerModel → LinearizerModel → List Entry → Type 0
LinearizesOn start now past = (now.setup ≡ start.setup) × IsLinearizer now past

-- THE ITERATOR
-- Marks say of the entries from a position on whether they are whole calls; another list has those
-- that are.

-- whether the next entry is a read or an await that is a whole call
abbrev pub read_comes : List Bool → List Entry → Bool
read_comes (true ∷ marks) (x ∷ one_entry_calls) = not (is_one_entry_act x.act)
read_comes marks one_entry_calls = false

-- the moment at which a read or an await of more entries comes: its point, but the moment after it
-- if it waits for a read or an await that is a whole call, and so has its point there and ends no
-- later
abbrev pub due_moment : Bool → LinearizedEntry → ℕ
due_moment waits d = if waits then d.point + 1 else d.point

-- what comes after those that are due at moment k, if these are the entries from position k on, and the reads and awaits of more
-- entries that are left
unfoldable pub entries_after_moment : ℕ → List Bool → List Entry → List LinearizedEntry
    → List LinearizedEntry
entries_after_moment k [] one_entry_calls readings = []
entries_after_moment k (true ∷ marks) [] readings = due_then (due_moment (read_comes marks [])) (k + 1) (entries_after_moment (k + 1) marks []) readings
entries_after_moment k (true ∷ marks) (x ∷ one_entry_calls) readings =
    record { point = k; entry = x } ∷ due_then (due_moment (read_comes marks one_entry_calls)) (k + 1) (entries_after_moment (k + 1) marks one_entry_calls) readings
entries_after_moment k (false ∷ marks) one_entry_calls readings = due_then (due_moment (read_comes marks one_entry_calls)) (k + 1) (entries_after_moment (k + 1) marks one_entry_calls) readings

-- the calls from moment k on
abbrev pub entries_from_moment : ℕ → List Bool → List Entry → List LinearizedEntry
    → List LinearizedEntry
entries_from_moment k marks one_entry_calls readings = due_then (due_moment (read_comes marks one_entry_calls)) k (entries_after_moment k marks one_entry_calls) readings
