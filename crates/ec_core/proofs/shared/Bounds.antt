-- No count exceeds its limit, and no number of a reply exceeds the greatest value.
use Rattle.std.proofs.Common.{◌≡◌, ℕ, zero, suc, ◌+◌, ◌*◌, ◌^◌, ◌<◌, ◌≤◌, Bool, true, false, ◌&&◌, List, [], ◌∷◌, length, Option, Some, None, Ok, nat_le, refl, ap, arith, subst, cond, ◌==◌, ◌≢◌, unwrap_or}
use Rattle.std.specs.Option.{option_map_or}
use Rattle.std.proofs.lemmas.Bool.{and_parts, eqb-true, eqb-false, ltb-false, leb-false}
use Rattle.std.proofs.lemmas.Nat.{mod_below}
use Rattle.ec_count.specs.Tables.{Tables, IsDeclared}
use Rattle.ec_core.specs.declared.act.Act.{Act}
use Rattle.ec_core.specs.declared.act.Act.TheVariants.{Advance, Read, Await, Go, Ticket, Put, Get, Hand}
use Rattle.ec_core.specs.declared.act.Reply.{Reply}
use Rattle.ec_core.specs.declared.act.Reply.TheVariants.{Number, Pending}
use Rattle.ec_core.specs.declared.act.Entry.{Entry}
use Rattle.ec_core.specs.declared.act.TheConstants.{VALUE_MAX}
use Rattle.ec_core.specs.Counts.{component_total, issued, cell_value, is_advance, is_ticket, is_place, put_in, component_at}
use Rattle.ec_core.specs.Calls.{CallSoFar, under_way}
use Rattle.ec_core.specs.Rounds.{event_or, component_count, sum_read, next_component, round_reply, read_reply, go_reply, IsPastOf, EachIsPastOf}
use Rattle.ec_core.specs.Acceptance.{reply_of, answer_of, is_at_limit, is_too_large, names_unknown_object, IsAccepted}
use Rattle.ec_core.specs.Values.{TellsAtMost}
use Rattle.ec_core.proofs.shared.Answering.{allowed, width_few, width_some, call_reads, reading_event, IsReadingCall}
use Rattle.ec_core.proofs.shared.Totals.{comp_later}
use Rattle.ec_core.proofs.shared.Pasts.{IsCallBefore, call_before}

-- one more, if the test passes, which it does only below the limit
grown : (b : Bool) (n limit : ℕ) → (b ≡ true → (n == limit) ≡ false) → n ≤ limit → cond b 1 0 + n ≤ limit
grown true n limit h le = (let other : n ≢ limit = eqb-false n limit (h refl) in omega arith)
grown false n limit h le = omega arith

pub place_is : (c : ℕ) (o : Option ℕ) → is_place c o ≡ true → o ≡ Some c
place_is c None h = cc
place_is c (Some d) h = ap Some (eqb-true d c h)

-- an advance that is not at the limit finds its component below it
advance_below : (t : Tables) (past : List Entry) (w e c : ℕ) (act : Act) → (is_advance e act && is_place c (component_at t e past w)) ≡ true
    → is_at_limit t past w act ≡ false → (component_total t e c past == t.limit) ≡ false
advance_below t past w e c (Advance f) h room =
    let k = and_parts (f == e) (is_place c (component_at t e past w)) h in
    let same : f ≡ e = eqb-true f e k.0 in
    let P : ℕ → Type 0 = λ g. option_map_or (λ d. component_total t g d past == t.limit) (component_at t g past w) false ≡ false in
    let Q : Option ℕ → Type 0 = λ o. option_map_or (λ d. component_total t e d past == t.limit) o false ≡ false in
    subst Q (place_is c (component_at t e past w) k.1) (subst P same room)
advance_below t past w e c (Read f) h room = cc
advance_below t past w e c (Await f v) h room = cc
advance_below t past w e c Go h room = cc
advance_below t past w e c (Ticket q) h room = cc
advance_below t past w e c (Put x v) h room = cc
advance_below t past w e c (Get x) h room = cc
advance_below t past w e c (Hand f g) h room = cc

-- no component exceeds the limit
pub component_within : (t : Tables) (e c : ℕ) (past : List Entry) → IsAccepted t past → component_total t e c past ≤ t.limit
unfolding component_total
component_within t e c [] acc = omega arith
component_within t e c (x ∷ past) acc =
    grown (is_advance e x.act && is_place c (component_at t e past x.worker)) (component_total t e c past) t.limit
    (λ h. advance_below t past x.worker e c x.act h (allowed t past x.worker x.act x.reply acc.0).0.room) (component_within t e c past acc.1)

ticket_below : (t : Tables) (past : List Entry) (w q : ℕ) (act : Act) → is_ticket q act ≡ true → is_at_limit t past w act ≡ false → (issued q past == t.limit) ≡ false
ticket_below t past w q (Ticket r) h room =
    let same : r ≡ q = eqb-true r q h in
    let P : ℕ → Type 0 = λ p. (issued p past == t.limit) ≡ false in
    subst P same room
ticket_below t past w q (Advance e) h room = cc
ticket_below t past w q (Read e) h room = cc
ticket_below t past w q (Await e v) h room = cc
ticket_below t past w q Go h room = cc
ticket_below t past w q (Put x v) h room = cc
ticket_below t past w q (Get x) h room = cc
ticket_below t past w q (Hand e f) h room = cc

-- no number of tickets drawn exceeds the limit
pub issued_within : (t : Tables) (q : ℕ) (past : List Entry) → IsAccepted t past → issued q past ≤ t.limit
unfolding issued
issued_within t q [] acc = omega arith
issued_within t q (x ∷ past) acc =
    grown (is_ticket q x.act) (issued q past) t.limit
    (λ h. ticket_below t past x.worker q x.act h (allowed t past x.worker x.act x.reply acc.0).0.room) (issued_within t q past acc.1)

put_or : (b : Bool) (v d : ℕ) → v ≤ VALUE_MAX → d ≤ VALUE_MAX → unwrap_or (cond b (Some v) None) d ≤ VALUE_MAX
put_or true v d hv hd = hv
put_or false v d hv hd = hd

put_within : (x d : ℕ) (act : Act) → is_too_large act ≡ false → d ≤ VALUE_MAX → unwrap_or (put_in x act) d ≤ VALUE_MAX
put_within x d (Put y v) small h = put_or (y == x) v d (ltb-false VALUE_MAX v small) h
put_within x d (Advance e) small h = h
put_within x d (Read e) small h = h
put_within x d (Await e v) small h = h
put_within x d Go small h = h
put_within x d (Ticket q) small h = h
put_within x d (Get y) small h = h
put_within x d (Hand e f) small h = h

-- no cell holds more than the greatest value
pub cell_within : (t : Tables) (x : ℕ) (past : List Entry) → IsAccepted t past → cell_value x past ≤ VALUE_MAX
unfolding cell_value
cell_within t x [] acc = omega arith
cell_within t x (y ∷ past) acc = put_within x (cell_value x past) y.act (allowed t past y.worker y.act y.reply acc.0).0.small (cell_within t x past acc.1)

-- the sum of some components is at most 2 ^ 48 for each of them
pub sum_within : (t : Tables) (e i : ℕ) (moments : List (List Entry)) (late : List Entry) → t.limit < 2 ^ 48 → IsAccepted t late → EachIsPastOf moments late
    → sum_read t e i moments ≤ i * 2 ^ 48
unfolding sum_read
sum_within t e zero moments late low acc h = omega arith
sum_within t e (suc i) [] late low acc h = omega arith
sum_within t e (suc i) (p ∷ moments) late low acc h =
    let here : component_total t e i p ≤ component_total t e i late = comp_later t e i p late h.0 in
    let within : component_total t e i late ≤ t.limit = component_within t e i late acc in
    let rest : sum_read t e i moments ≤ i * 2 ^ 48 = sum_within t e i moments late low acc h.1 in
    omega arith

number_if : (b : Bool) (n : ℕ) → n ≤ VALUE_MAX → TellsAtMost VALUE_MAX (cond b (Number n) Pending)
number_if true n h = h
number_if false n h = tt

round_small : (op : Act) (s : ℕ) → s ≤ VALUE_MAX → TellsAtMost VALUE_MAX (round_reply op s)
round_small (Await e v) s h = number_if (nat_le v s) s h
round_small (Advance e) s h = h
round_small (Read e) s h = h
round_small Go s h = h
round_small (Ticket q) s h = h
round_small (Put x v) s h = h
round_small (Get x) s h = h
round_small (Hand e f) s h = h

small_if : (b : Bool) (reply : Reply) → TellsAtMost VALUE_MAX reply → TellsAtMost VALUE_MAX (cond b reply Pending)
small_if true reply h = h
small_if false reply h = tt

-- sixteen components of less than 2 ^ 48 each
small_sum : (s n : ℕ) → s ≤ n * 2 ^ 48 → n ≤ 16 → s ≤ VALUE_MAX
small_sum s n h few = omega arith

read_small : (t : Tables) (op : Act) (past : List Entry) (moments : List (List Entry)) → IsDeclared t → t.limit < 2 ^ 48 → IsAccepted t past
    → event_or op < length t.events → EachIsPastOf moments past → TellsAtMost VALUE_MAX (read_reply t op past moments)
unfolding read_reply
read_small t op past moments d low acc known h =
    let e = event_or op in
    let c = next_component t e moments in
    let some : 0 < component_count t e = width_some t e d known in
    let few : component_count t e ≤ 16 = width_few t e d in
    let below : c < component_count t e = mod_below (length moments) (component_count t e) some in
    let itself : IsPastOf past past = record { since = []; is = refl } in
    let sum : sum_read t e (suc c) (past ∷ moments) ≤ suc c * 2 ^ 48 = sum_within t e (suc c) (past ∷ moments) past low acc (itself, h) in
    small_if (nat_le (component_count t e) (c + 1)) (round_reply op (sum_read t e (suc c) (past ∷ moments)))
    (round_small op (sum_read t e (suc c) (past ∷ moments)) (small_sum (sum_read t e (suc c) (past ∷ moments)) (suc c) sum (omega arith)))

go_small : (t : Tables) (past : List Entry) (o : Option CallSoFar) → IsDeclared t → t.limit < 2 ^ 48 → IsAccepted t past → IsReadingCall t o → IsCallBefore o past
    → TellsAtMost VALUE_MAX (go_reply t past o)
go_small t past None d low acc reading before = tt
go_small t past (Some call) d low acc reading before = read_small t call.op past call.moments d low acc (reading_event t call.op reading) before

small_number : (n limit : ℕ) → n ≤ limit → limit < 2 ^ 48 → n ≤ VALUE_MAX
small_number n limit le low = omega arith

reply_small : (t : Tables) (past : List Entry) (w : ℕ) (act : Act) → IsDeclared t → t.limit < 2 ^ 48 → IsAccepted t past
    → names_unknown_object t act ≡ false → TellsAtMost VALUE_MAX (reply_of t past w act)
reply_small t past w (Advance e) d low acc known = tt
reply_small t past w (Read e) d low acc known = read_small t (Read e) past [] d low acc (leb-false (length t.events) e known) tt
reply_small t past w (Await e v) d low acc known = read_small t (Await e v) past [] d low acc (leb-false (length t.events) e known) tt
reply_small t past w Go d low acc known = go_small t past (under_way w past) d low acc (call_reads t past w acc) (call_before w past)
reply_small t past w (Ticket q) d low acc known = small_number (issued q past) t.limit (issued_within t q past acc) low
reply_small t past w (Put x v) d low acc known = tt
reply_small t past w (Get x) d low acc known = cell_within t x past acc
reply_small t past w (Hand e b) d low acc known = tt

-- no number in the reply to an act after an accepted history exceeds the greatest value
pub told_small : (t : Tables) (past : List Entry) (w : ℕ) (act : Act) (reply : Reply) → IsDeclared t → IsAccepted t past
    → answer_of t past w act ≡ Ok reply → TellsAtMost VALUE_MAX reply
told_small t past w act reply d acc h =
    let k = allowed t past w act reply h in
    subst (TellsAtMost VALUE_MAX) k.1 (reply_small t past w act d d.limit.1 acc k.0.known)
