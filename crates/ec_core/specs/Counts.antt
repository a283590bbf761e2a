-- The counts of a history. The history so far is given reversed, as past: the entries before a
-- moment, the newest first, so that each entry is followed by those before it. (Reed and Kanodia:
-- the value of an eventcount is the number of its advances.)
use Rattle.std.specs.Prelude.{ℕ, ◌+◌, Bool, false, ◌==◌, ◌&&◌, List, [], ◌∷◌, zero, suc, reverse, take, Option, Some, None, if◌then◌else◌, unwrap_or, slice_get}
use Rattle.ec_count.specs.Tables.{Tables, signallers}
use Rattle.ec_count.specs.Members.{index_of, replace_at}
use Rattle.ec_core.specs.declared.act.Act.{Act}
use Rattle.ec_core.specs.declared.act.Act.TheVariants.{Advance, Read, Await, Go, Ticket, Put, Get, Hand}
use Rattle.ec_core.specs.declared.act.Entry.{Entry}

-- the history h, which is in order of time, up to moment k: its first k entries, reversed
abbrev pub past_at : ℕ → List Entry → List Entry
past_at k h = reverse (take k h)

abbrev pub is_advance : ℕ → Act → Bool
is_advance e (Advance f) = f == e
is_advance e _ = false

abbrev pub is_ticket : ℕ → Act → Bool
is_ticket q (Ticket r) = r == q
is_ticket q _ = false

-- the total of e: its advances
unfoldable pub total : ℕ → List Entry → ℕ
total e [] = 0
total e (x ∷ past) = (if is_advance e x.act then 1 else 0) + total e past

-- the worker to which an act transfers its component of e
abbrev pub hand_of : ℕ → Act → Option ℕ
hand_of e (Hand f b) = if f == e then Some b else None
hand_of e _ = None

-- the signallers of e after an act of w, if they were ws before it: if w is one of them, a hand of
-- e to b replaces it by b
abbrev pub signallers_after : ℕ → ℕ → Act → List ℕ → List ℕ
signallers_after e w (Advance f) ws = ws
signallers_after e w (Read f) ws = ws
signallers_after e w (Await f v) ws = ws
signallers_after e w Go ws = ws
signallers_after e w (Ticket q) ws = ws
signallers_after e w (Put x v) ws = ws
signallers_after e w (Get x) ws = ws
signallers_after e w (Hand f b) ws = if f == e then replace_at (index_of w ws) b ws else ws

-- the signallers of e after past, in order of component: the declared ones, as hands replaced them
unfoldable pub signallers_at : Tables → ℕ → List Entry → List ℕ
signallers_at t e [] = signallers t e
signallers_at t e (x ∷ past) = signallers_after e x.worker x.act (signallers_at t e past)

-- the worker that signals component c of e then
abbrev pub signaller_at : Tables → ℕ → List Entry → ℕ → Option ℕ
signaller_at t e past c = slice_get (signallers_at t e past) c

-- the component of e that w signals then
abbrev pub component_at : Tables → ℕ → List Entry → ℕ → Option ℕ
component_at t e past w = index_of w (signallers_at t e past)

abbrev pub is_place : ℕ → Option ℕ → Bool
is_place c None = false
is_place c (Some d) = d == c

-- component c of e: the advances of e made by the signaller of c at their own moment
unfoldable pub component_total : Tables → ℕ → ℕ → List Entry → ℕ
component_total t e c [] = 0
component_total t e c (x ∷ past) = (if is_advance e x.act && is_place c (component_at t e past x.worker) then 1 else 0) + component_total t e c past

-- the tickets of q that were drawn
unfoldable pub issued : ℕ → List Entry → ℕ
issued q [] = 0
issued q (x ∷ past) = (if is_ticket q x.act then 1 else 0) + issued q past

-- the value that an act puts into cell x
abbrev pub put_in : ℕ → Act → Option ℕ
put_in x (Put y v) = if y == x then Some v else None
put_in x _ = None

-- the value last put into cell x; 0 if there is none
unfoldable pub cell_value : ℕ → List Entry → ℕ
cell_value x [] = 0
cell_value x (y ∷ past) = unwrap_or (put_in x y.act) (cell_value x past)

-- f 0 + .. + f (n - 1)
unfoldable pub sum_to : (ℕ → ℕ) → ℕ → ℕ
sum_to f zero = 0
sum_to f (suc n) = f n + sum_to f n
