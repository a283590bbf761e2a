-- Rounds: a call on an eventcount of n components reads component 0, 1, .. n - 1 at its entries in turn, then
-- component 0 again. A round's sum adds each component as it was at its own moment.
use Rattle.std.specs.Prelude.{◌≡◌, ℕ, ◌+◌, ◌-◌, ◌%◌, nat_le, List, zero, suc, [], ◌∷◌, ◌++◌, length, Option, Some, None, if◌then◌else◌, unwrap_or, slice_index_or}
use Rattle.ec_count.specs.Tables.{Tables, signallers}
use Rattle.ec_core.specs.declared.act.Act.{Act}
use Rattle.ec_core.specs.declared.act.Act.TheVariants.{Advance, Read, Await}
use Rattle.ec_core.specs.declared.act.Reply.{Reply}
use Rattle.ec_core.specs.declared.act.Reply.TheVariants.{Number, Pending}
use Rattle.ec_core.specs.declared.act.Entry.{Entry}
use Rattle.ec_core.specs.Counts.{component_total}
use Rattle.ec_core.specs.Calls.{CallSoFar}

-- the eventcount that an advance, a read or an await names
abbrev pub event_of : Act → Option ℕ
event_of (Advance e) = Some e
event_of (Read e) = Some e
event_of (Await e v) = Some e
event_of _ = None

abbrev pub event_or : Act → ℕ
event_or act = unwrap_or (event_of act) 0

-- the eventcount that a read or an await reads
abbrev pub read_event : Act → Option ℕ
read_event (Read e) = Some e
read_event (Await e v) = Some e
read_event _ = None

-- how many components e has: one for each declared signaller
abbrev pub component_count : Tables → ℕ → ℕ
component_count t e = length (signallers t e)

-- the component that comes next after these entries of a call
abbrev pub next_component : Tables → ℕ → List (List Entry) → ℕ
next_component t e moments = length moments % component_count t e

-- the sum of components 0 to i - 1 of e; the last was read at the first of the moments, and so on
-- back
unfoldable pub sum_read : Tables → ℕ → ℕ → List (List Entry) → ℕ
sum_read t e zero moments = 0
sum_read t e (suc i) [] = 0
sum_read t e (suc i) (past ∷ moments) = component_total t e i past + sum_read t e i moments

-- the sum of a whole round, whose moments come the newest first
abbrev pub round_sum : Tables → ℕ → List (List Entry) → ℕ
round_sum t e moments = sum_read t e (component_count t e) moments

-- the position of the entry at the i-th of a call's moments, the newest of which is the 0-th
abbrev pub position_of : List (List Entry) → ℕ → ℕ
position_of moments i = length (slice_index_or moments i [])

-- the position at which a call's last round began
abbrev pub round_start : Tables → ℕ → List (List Entry) → ℕ
round_start t e moments = position_of moments ((length moments - 1) % component_count t e)

-- the reply at the end of a round of sum s: Pending to an await that falls short
abbrev pub round_reply : Act → ℕ → Reply
round_reply (Await e v) s = if nat_le v s then Number s else Pending
round_reply _ s = Number s

-- the reply to an entry that reads for op after past, if earlier entries of the call were at these
-- moments
unfoldable pub read_reply : Tables → Act → List Entry → List (List Entry) → Reply
read_reply t op past moments =
    let e = event_or op in
    let c = next_component t e moments in
    if nat_le (component_count t e) (c + 1) then round_reply op (sum_read t e (suc c) (past ∷ moments)) else Pending

-- the reply to a go
abbrev pub go_reply : Tables → List Entry → Option CallSoFar → Reply
go_reply t past None = Pending
go_reply t past (Some call) = read_reply t call.op past call.moments

-- the one reversed history is a suffix of the other: it came first
pub record IsPastOf (early late : List Entry) : Type 0 where
  pub since : List Entry
  pub is : late ≡ since ++ early

abbrev pub EachIsPastOf : List (List Entry) → List Entry → Type 0
EachIsPastOf [] late = Unit {0}
EachIsPastOf (p ∷ ps) late = IsPastOf p late × EachIsPastOf ps late

abbrev pub IsPastOfEach : List Entry → List (List Entry) → Type 0
IsPastOfEach early [] = Unit {0}
IsPastOfEach early (p ∷ ps) = IsPastOf early p × IsPastOfEach early ps
