-- The call that an entry is by itself, and the calls of more entries.
use Rattle.std.proofs.Common.{◌≡◌, ℕ, suc, ◌-◌, ◌%◌, ◌≤◌, ◌==◌, inl, inr, Bool, true, false, not, ◌&&◌, nat_lt, List, [], ◌∷◌, length, map, Some, refl, ap, sym, ◌∙◌, arith, cond}
use Rattle.std.specs.List.{All, filter}
use Rattle.std.proofs.Math.Nat.{mod-le}
use Rattle.std.proofs.lemmas.Bool.{lt-ltb, le-ltb}
use Rattle.std.proofs.lemmas.List.Elements.{All-nil, All-cons, All-filter, filter_passes}
use Rattle.ec_count.specs.Tables.{Tables}
use Rattle.ec_core.specs.declared.act.Act.{Act}
use Rattle.ec_core.specs.declared.act.Act.TheVariants.{Go}
use Rattle.ec_core.specs.declared.act.Entry.{Entry}
use Rattle.ec_core.specs.Calls.{call_with, call_with_act, is_go, is_pending, under_way}
use Rattle.ec_core.specs.Counts.{total}
use Rattle.ec_core.specs.Rounds.{event_or, position_of, component_count}
use Rattle.ec_order.specs.declared.call.Call.{Call}
use Rattle.ec_order.specs.Calls.{call_of_entries, ended_by, is_reading, is_one_entry_call}
use Rattle.ec_core.specs.CallLists.{reply_number}
use Rattle.ec_order.specs.Points.{first_entries, first_moment, point_of, with_point}
use Rattle.ec_order.specs.Linearizer.{is_long, long_readings}
use Rattle.ec_order.specs.Walk.{alone_at, is_one_entry_act, reads, readings}
use Rattle.ec_order.proofs.Chains.{past_shorter}
use Rattle.ec_order.proofs.Cutting.{Own, first_at_end, first_more, first_past, gone_begins, own_first, own_under_way, rest_own}
use Rattle.ec_order.proofs.Ends.{Ends}
use Rattle.ec_order.proofs.Gathering.{placed, whole_from, whole_parts}
use Rattle.ec_order.proofs.Inserting.{AllRead}
use Rattle.ec_core.proofs.shared.Tracking.{go_is}

-- A WHOLE CALL

-- the call that an entry at a position is
abbrev pub call_alone : Entry → ℕ → Call
call_alone x i = record { worker = x.worker; op = x.act; reply = x.reply; first = i; round = i; last = i }

pub whole_ends : (t : Tables) (x : Entry) (past : List Entry) → is_one_entry_call x ≡ true → ended_by t x (call_with x past) ≡ call_alone x (length past) ∷ []
whole_ends t x past whole =
    let parts = whole_parts x whole in
    let n = component_count t (event_or x.act) in
    let first : 0 % n ≡ 0 = (let le : 0 % n ≤ 0 = mod-le 0 n in omega arith) in
    ap (ended_by t x) (gone_begins x.act past (under_way x.worker past) parts.0)
    ∙ ap (λ b. cond b [] (call_of_entries t x x.act (past ∷ []) ∷ [])) parts.1
    ∙ ap (λ k. record (call_alone x (length past)) { round = position_of (past ∷ []) k } ∷ []) first

-- its point is its position
point_alone : (whole : List Entry) (x : Entry) (i : ℕ) → point_of whole (call_alone x i) ≡ i
unfolding first_moment
point_alone whole x i =
    let test = λ (k : ℕ). total (event_or x.act) (first_entries k whole) == reply_number x.reply in
    let none : i - i ≡ 0 = omega arith in
    elim (is_reading x.act) as (λ b. cond b (first_moment test i (i - i)) i ≡ i) [
      | true ↦ ap (first_moment test i) none
      | false ↦ refl
    ]

pub placed_whole : (t : Tables) (x : Entry) (past whole : List Entry) → is_one_entry_call x ≡ true
    → map (with_point whole) (ended_by t x (call_with_act x.act past (under_way x.worker past))) ≡ alone_at (length past) x ∷ []
placed_whole t x past whole is =
    let i = length past in
    ap (map (with_point whole)) (whole_ends t x past is) ∙ ap (λ k. record { call = call_alone x i; point = k } ∷ []) (point_alone whole x i)

pub not_long : (k : ℕ) (x : Entry) → is_long (alone_at k x) ≡ false
not_long k x = le-ltb k k (omega arith)

-- what it adds to the reads and awaits is not long
pub whole_short : (k : ℕ) (x : Entry) → filter is_long (filter reads (alone_at k x ∷ [])) ≡ []
whole_short k x =
    elim (is_reading x.act) as (λ b. filter is_long (cond b (alone_at k x ∷ []) []) ≡ []) [
      | true ↦ ap (λ b. cond b (alone_at k x ∷ []) []) (not_long k x)
      | false ↦ refl
    ]

pub reading_or_alone : (act : Act) → is_go act ≡ false → is_reading act ≡ not (is_one_entry_act act)
reading_or_alone Go begins = cc
reading_or_alone act begins = refl

-- A CALL OF MORE ENTRIES

-- each of them is a read or an await
pub long_read : (t : Tables) (past : List Entry) → AllRead (long_readings t past)
long_read t past = All-filter is_long (λ p. reads p ≡ true) (readings t past) (filter_passes reads (placed t past))

abbrev pub IsLongReading : Call → Type 0
IsLongReading c = (is_reading c.op ≡ true) × (nat_lt c.first c.last ≡ true)

rest_long : (t : Tables) (w : ℕ) (x : Entry) (op : Act) (past : List Entry) (rest : List (List Entry)) → Own w op past rest
    → nat_lt (call_of_entries t x op (past ∷ rest)).first (call_of_entries t x op (past ∷ rest)).last ≡ true
rest_long t w x op past rest own =
    let f = own_first w op past rest own in
    let one : suc (length rest) - 1 ≡ length rest = omega arith in
    let first : position_of (past ∷ rest) (suc (length rest) - 1) ≡ length (first_past rest) = ap (position_of (past ∷ rest)) one ∙ ap length (first_at_end past rest ∙ first_more past past w op rest own) in
    lt-ltb (position_of (past ∷ rest) (suc (length rest) - 1)) (length past) (omega (arith, first, past_shorter (f.entry ∷ first_past rest) past f.in_late))

one_of : (a b : Bool) → (not a && not b) ≡ false → b ≡ false → a ≡ true
one_of true b h is = refl
one_of false b h is = (let other : b ≡ true = (elim b as (λ c. not c ≡ false → c ≡ true) [ true ↦ λ e. refl | false ↦ λ e. cc ] h) in cc)

-- what an entry ends, if it is no whole call
pub others_long : (t : Tables) (x : Entry) (past : List Entry) → is_one_entry_call x ≡ false → Ends t x past (under_way x.worker past)
    → All IsLongReading (ended_by t x (call_with_act x.act past (under_way x.worker past)))
others_long t x past part (inl n) = rw n.is (All-nil IsLongReading)
others_long t x past part (inr (inl r)) =
    let go : x.act ≡ Go = go_is x.act (one_of (is_go x.act) (is_pending x.reply) part r.final) in
    let gone : call_with_act Go past (under_way x.worker past) ≡ Some (record { op = r.op; moments = past ∷ r.rest }) = ap (λ a. call_with_act a past (under_way x.worker past)) (sym go) ∙ r.gone in
    let own : Own x.worker r.op past r.rest = rest_own x.worker past (under_way x.worker past) r.op r.rest (own_under_way x.worker past) gone in
    rw r.is (All-cons IsLongReading (call_of_entries t x r.op (past ∷ r.rest)) [] (r.reading, rest_long t x.worker x r.op past r.rest own) (All-nil IsLongReading))
others_long t x past part (inr (inr a)) = (let whole : is_one_entry_call x ≡ true = whole_from x a.begins a.final in cc)
