-- Accepted histories: no entry is refused at its own moment, and each reply is the right one.
use Rattle.std.specs.Prelude.{◌≡◌, ℕ, Bool, true, false, ◌==◌, ◌&&◌, ◌||◌, nat_le, nat_lt, not, List, [], ◌∷◌, length, Option, Some, None, is_some, Result, Ok, Err}
use Rattle.std.specs.Option.{option_map_or}
use Rattle.ec_count.specs.Tables.{Tables, first_that, may_observe, may_take, may_write, may_read, may_hand}
use Rattle.ec_core.specs.declared.act.Act.{Act}
use Rattle.ec_core.specs.declared.act.Act.TheVariants.{Advance, Read, Await, Go, Ticket, Put, Get, Hand}
use Rattle.ec_core.specs.declared.act.Reply.{Reply}
use Rattle.ec_core.specs.declared.act.Reply.TheVariants.{Done, Number}
use Rattle.ec_core.specs.declared.act.Entry.{Entry}
use Rattle.ec_core.specs.declared.act.Refusal.{Refusal}
use Rattle.ec_core.specs.declared.act.Refusal.TheVariants.{UnknownWorker, Busy, Idle, UnknownObject, NoRight, ValueTooLarge, AtLimit, NotHandable, AlreadySignals}
use Rattle.ec_core.specs.declared.act.TheConstants.{VALUE_MAX}
use Rattle.ec_core.specs.Counts.{component_total, component_at, issued, cell_value}
use Rattle.ec_core.specs.Calls.{is_go, under_way}
use Rattle.ec_core.specs.Rounds.{read_reply, go_reply}

-- whether the act names something that is not declared
abbrev pub names_unknown_object : Tables → Act → Bool
names_unknown_object t (Advance e) = nat_le (length t.events) e
names_unknown_object t (Read e) = nat_le (length t.events) e
names_unknown_object t (Await e v) = nat_le (length t.events) e
names_unknown_object t Go = false
names_unknown_object t (Ticket q) = nat_le (length t.takers) q
names_unknown_object t (Put x v) = nat_le (length t.cells) x
names_unknown_object t (Get x) = nat_le (length t.cells) x
names_unknown_object t (Hand e b) = nat_le (length t.events) e || nat_le t.workers b

-- whether w has the right that the act needs
abbrev pub has_right : Tables → List Entry → ℕ → Act → Bool
has_right t past w (Advance e) = is_some (component_at t e past w)
has_right t past w (Read e) = may_observe t e w
has_right t past w (Await e v) = may_observe t e w
has_right t past w Go = true
has_right t past w (Ticket q) = may_take t q w
has_right t past w (Put x v) = may_write t x w
has_right t past w (Get x) = may_read t x w
has_right t past w (Hand e b) = is_some (component_at t e past w)

-- whether a put or a threshold is above the greatest value
abbrev pub is_too_large : Act → Bool
is_too_large (Await e v) = nat_lt VALUE_MAX v
is_too_large (Put x v) = nat_lt VALUE_MAX v
is_too_large _ = false

-- whether the count that the act would raise is at the limit: w's own component, or the number of tickets
abbrev pub is_at_limit : Tables → List Entry → ℕ → Act → Bool
is_at_limit t past w (Advance e) = option_map_or (λ c. component_total t e c past == t.limit) (component_at t e past w) false
is_at_limit t past w (Ticket q) = issued q past == t.limit
is_at_limit t past w _ = false

-- whether the act transfers a component of a fixed eventcount
abbrev pub is_not_handable : Tables → Act → Bool
is_not_handable t (Hand e b) = not (may_hand t e)
is_not_handable t _ = false

-- whether the receiver of a hand signals the eventcount already
abbrev pub signals_already : Tables → List Entry → Act → Bool
signals_already t past (Hand e b) = is_some (component_at t e past b)
signals_already t past _ = false

-- the first refusal whose test holds, given whether a call of w is pending, whether w has the
-- right, whether the count is at its limit, and whether the receiver of a hand signals already
abbrev pub refusal_in : Tables → ℕ → Act → Bool → Bool → Bool → Bool → Option Refusal
refusal_in t w act busy right at_limit already = first_that (
    (nat_le t.workers w, UnknownWorker)
    ∷ (busy && not (is_go act), Busy)
    ∷ (not busy && is_go act, Idle)
    ∷ (names_unknown_object t act, UnknownObject)
    ∷ (not right, NoRight)
    ∷ (is_too_large act, ValueTooLarge)
    ∷ (at_limit, AtLimit)
    ∷ (is_not_handable t act, NotHandable)
    ∷ (already, AlreadySignals)
    ∷ [])

-- the refusal of an act of w after the reversed history past
abbrev pub refusal_of : Tables → List Entry → ℕ → Act → Option Refusal
refusal_of t past w act = refusal_in t w act (is_some (under_way w past)) (has_right t past w act) (is_at_limit t past w act) (signals_already t past act)

-- the right reply to it, if it is not refused
abbrev pub reply_of : Tables → List Entry → ℕ → Act → Reply
reply_of t past w (Advance e) = Done
reply_of t past w (Read e) = read_reply t (Read e) past []
reply_of t past w (Await e v) = read_reply t (Await e v) past []
reply_of t past w Go = go_reply t past (under_way w past)
reply_of t past w (Ticket q) = Number (issued q past)
reply_of t past w (Put x v) = Done
reply_of t past w (Get x) = Number (cell_value x past)
reply_of t past w (Hand e b) = Done

abbrev pub refused_or : {X : Type 0} → Option Refusal → X → Result X Refusal
refused_or None x = Ok x
refused_or (Some r) x = Err r

-- the refusal, otherwise the right reply
unfoldable pub answer_of : Tables → List Entry → ℕ → Act → Result Reply Refusal
answer_of t past w act = refused_or (refusal_of t past w act) (reply_of t past w act)

-- each entry has the answer to its act at its own moment
abbrev pub IsAccepted : Tables → List Entry → Type 0
IsAccepted t [] = Unit {0}
IsAccepted t (x ∷ past) = (answer_of t past x.worker x.act ≡ Ok x.reply) × IsAccepted t past
