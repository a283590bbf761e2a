-- The advances of each eventcount, as a pass over a history stores them for the points of its
-- calls. The point of a read or an await is no earlier than the start of its last round. So of the
-- advances before the call it depends only on their number. The moment after an advance is stored
-- only while a read or an await of the eventcount is pending.
use Rattle.std.specs.Prelude.{◌≡◌, ℕ, ◌+◌, ◌-◌, ◌^◌, ◌<◌, ◌≤◌, ◌==◌, Bool, true, false, nat_le, List, [], ◌∷◌, ◌++◌, length, Option, Some, None, if◌then◌else◌, slice_get, slice_index, slice_index_or}
use Rattle.std.specs.Option.{option_to_list}
use Rattle.ec_count.specs.Tables.{Tables, IsDeclared}
use Rattle.ec_core.specs.declared.act.Act.{Act}
use Rattle.ec_core.specs.declared.act.Act.TheVariants.{Read, Await, Go}
use Rattle.ec_core.specs.declared.act.Entry.{Entry}
use Rattle.ec_core.specs.Acceptance.{IsAccepted}
use Rattle.ec_core.specs.Calls.{CallSoFar, under_way, call_with}
use Rattle.ec_core.specs.Counts.{total, sum_to}
use Rattle.ec_core.specs.Rounds.{read_event}
use Rattle.ec_order.specs.declared.call.Call.{Call}
use Rattle.ec_order.specs.Calls.{ended_by, is_one_entry_call}
use Rattle.ec_order.specs.Index.{advance_moments}
use Rattle.ec_order.specs.Points.{point_of}
use Rattle.ec_order.specs.Walk.{is_one_entry_act}

-- of one eventcount: how many advances came before those whose moments are stored, the moments
-- after these, and how many reads and awaits of it are pending
pub record AdvanceLogModel : Type 0 where
  pub before : ℕ
  pub moments : List ℕ
  pub readers : ℕ

-- the moment after the r-th advance, if it is stored, otherwise moment 0
abbrev pub moment_since : AdvanceLogModel → ℕ → ℕ
moment_since k r = if nat_le r k.before then 0 else slice_index k.moments (r - k.before - 1)

-- one more advance: if no read or await is pending it is counted, otherwise the moment after it is
-- stored
pub record AddsAdvance (old : AdvanceLogModel) (moment : ℕ) (new : AdvanceLogModel) : Type 0 where
  pub unread : old.readers ≡ 0 → old.before + 1 < 2 ^ 64 → new ≡ record old { before = old.before + 1 }
  pub read : 0 < old.readers → new ≡ record old { moments = old.moments ++ moment ∷ [] }

-- one more read or await is pending
pub record BeginsRead (old new : AdvanceLogModel) : Type 0 where
  pub readers : old.readers < 255 → new ≡ record old { readers = old.readers + 1 }

-- a pending one has ended: with the last one the moments are dropped
pub record EndsRead (old new : AdvanceLogModel) : Type 0 where
  pub others : 1 < old.readers → new ≡ record old { readers = old.readers - 1 }
  pub last : old.readers ≡ 1 → old.before + length old.moments < 2 ^ 64 → new ≡ record { before = old.before + length old.moments; moments = []; readers = 0 }

-- WHAT THEY REPRESENT

-- whether an act reads or awaits e
abbrev pub is_reading_of : ℕ → Act → Bool
is_reading_of e (Read f) = f == e
is_reading_of e (Await f v) = f == e
is_reading_of e _ = false

-- whether there is a call, and it reads or awaits e
abbrev pub reads_event : ℕ → Option CallSoFar → Bool
reads_event e None = false
reads_event e (Some call) = is_reading_of e call.op

-- how many of the workers have a read or an await of e pending after this history
abbrev pub readers : ℕ → List Entry → ℕ
readers e past = sum_to (λ w. if reads_event e (under_way w past) then 1 else 0) 16

-- the history before a call's first entry
abbrev pub opening_past : CallSoFar → List Entry
opening_past call = slice_index_or call.moments (length call.moments - 1) []

-- it represents the advances of e after this history: those whose moments are dropped were made
-- before any read or await of e that is pending began
pub record IsAdvanceLog (e : ℕ) (past : List Entry) (k : AdvanceLogModel) : Type 0 where
  pub gone : List ℕ
  pub all : advance_moments e past ≡ gone ++ k.moments
  pub before : length gone ≡ k.before
  pub readers : k.readers ≡ readers e past
  pub unread : k.readers ≡ 0 → k.moments ≡ []
  pub since : (w : ℕ) (call : CallSoFar) → w < 16 → under_way w past ≡ Some call → is_reading_of e call.op ≡ true → k.before ≤ total e (opening_past call)

-- each represents those of its eventcount
abbrev pub AreAdvanceLogs : List AdvanceLogModel → List Entry → Type 0
AreAdvanceLogs kept past = (e : ℕ) → e < 32 → (k : AdvanceLogModel) × (slice_get kept e ≡ Some k) × IsAdvanceLog e past k

-- WITH ONE MORE ENTRY

-- the eventcount that a call begun by the second act was pending on, if an entry with the first act
-- ends it: a call of one entry never was pending
abbrev pub ended_event : Act → Act → Option ℕ
ended_event Go op = read_event op
ended_event _ op = None

-- an entry with this act, which is a whole call, is added; the moment is the one after it
pub record NotesAlone (old : List AdvanceLogModel) (act : Act) (moment : ℕ) (new : List AdvanceLogModel) : Type 0 where
  pub after : (t : Tables) (past : List Entry) (x : Entry) → IsDeclared t → IsAccepted t (x ∷ past) → act ≡ x.act → is_one_entry_call x ≡ true → moment ≡ length past + 1
      → AreAdvanceLogs old past → AreAdvanceLogs new (x ∷ past)

-- an entry with this act, which is one of a read or an await, is added; what is returned is the
-- call that it ends, if it ends one
pub record FollowsReading (old : List AdvanceLogModel) (act : Act) (returned : Option Call) (new : List AdvanceLogModel) : Type 0 where
  pub after : (t : Tables) (past : List Entry) (x : Entry) → IsDeclared t → IsAccepted t (x ∷ past) → act ≡ x.act → is_one_entry_act x.act ≡ false
      → ended_by t x (call_with x past) ≡ option_to_list returned → AreAdvanceLogs old past → AreAdvanceLogs new (x ∷ past)

-- it is the point of the read or await that an entry ends, by what is stored before that entry is
-- added
pub record IsPointBy (kept : List AdvanceLogModel) (c : Call) (k : ℕ) : Type 0 where
  pub is : (t : Tables) (past : List Entry) (x : Entry) → IsDeclared t → IsAccepted t (x ∷ past) → is_one_entry_act x.act ≡ false
      → ended_by t x (call_with x past) ≡ c ∷ [] → AreAdvanceLogs kept past
      → k ≡ point_of (x ∷ past) c
