-- What an entry adds to the completed calls with their points.
use Rattle.std.proofs.Common.{◌≡◌, ℕ, zero, suc, ◌+◌, ◌-◌, ◌<◌, ◌≤◌, inl, inr, Bool, true, false, not, ◌&&◌, is_some, List, [], ◌∷◌, ◌++◌, length, map, Option, Some, None, refl, ap, sym, ◌∙◌, arith, cond, subst, ◌==◌, append-nil}
use Rattle.std.specs.Option.{option_to_list}
use Rattle.std.specs.List.{All, Contains, filter, insert}
use Rattle.std.proofs.lemmas.Bool.{eqb-true}
use Rattle.std.proofs.lemmas.List.{map-append}
use Rattle.std.proofs.lemmas.List.Elements.{All-nil, All-cons, All-head, All-tail, All-contains, Contains-append_right, filter-append}
use Rattle.ec_count.specs.Tables.{Tables, IsDeclared}
use Rattle.ec_core.specs.declared.act.Entry.{Entry}
use Rattle.ec_core.specs.Counts.{total}
use Rattle.ec_core.specs.Calls.{CallSoFar, under_way, call_with_act, call_with, is_go, is_pending}
use Rattle.ec_core.specs.Rounds.{event_or}
use Rattle.ec_core.specs.Acceptance.{IsAccepted}
use Rattle.ec_core.proofs.shared.Answering.{allowed}
use Rattle.ec_order.specs.declared.call.Call.{Call}
use Rattle.ec_order.specs.declared.placed.Placed.{Placed}
use Rattle.ec_order.specs.Calls.{call_of_entries, ended_by, finished_calls, is_reading, is_one_entry_call}
use Rattle.ec_core.specs.CallLists.{reply_number}
use Rattle.ec_order.specs.Points.{first_entries, first_moment, point_of, with_point, by_moments}
use Rattle.ec_order.specs.Walk.{is_one_entry_act, placed_point, reads, readings, IsPlaceFor}
use Rattle.ec_order.proofs.Points.{first_next}
use Rattle.ec_order.proofs.Ends.{Ends, ends}
use Rattle.ec_order.proofs.Fits.{Fits, all_fit, point_bounds}
use Rattle.ec_order.proofs.Walking.{alone_from}
use Rattle.ec_order.proofs.Inserting.{AllRead, inserted}

-- A POINT STAYS

first_moment_agree : (f g : ℕ → Bool) (k n : ℕ) → ((j : ℕ) → k ≤ j → j < k + n → f j ≡ g j) → first_moment f k n ≡ first_moment g k n
unfolding first_moment
first_moment_agree f g k zero h = refl
first_moment_agree f g k (suc n) h =
    ap (λ b. cond b k (first_moment f (k + 1) n)) (h k (omega arith) (omega arith))
    ∙ ap (λ z. cond (g k) k z) (first_moment_agree f g (k + 1) n (λ j a b. h j (omega arith) (omega arith)))

point_later : (x : Entry) (past : List Entry) (c : Call) → Fits past c → point_of (x ∷ past) c ≡ point_of past c
point_later x past c f =
    let e = event_or c.op in
    let order : c.round ≤ c.last = f.round in
    let last : c.last < length past = f.last in
    ap (λ k. cond (is_reading c.op) k c.last)
    (first_moment_agree (λ k. total e (first_entries k (x ∷ past)) == reply_number c.reply) (λ k. total e (first_entries k past) == reply_number c.reply) c.round (c.last - c.round)
    (λ j a b. ap (λ p. total e p == reply_number c.reply) (first_next j x past (omega arith))))

placed_later : (x : Entry) (past : List Entry) (cs : List Call) → All (Fits past) cs → map (with_point (x ∷ past)) cs ≡ map (with_point past) cs
placed_later x past [] h = refl
placed_later x past (c ∷ cs) h =
    let at : ℕ → Placed = λ k. record { call = c; point = k } in
    ap (λ k. at k ∷ map (with_point (x ∷ past)) cs) (point_later x past c (All-head (Fits past) c cs h))
    ∙ ap (λ ps. with_point past c ∷ ps) (placed_later x past cs (All-tail (Fits past) c cs h))

-- WHAT AN ENTRY ADDS

-- the completed calls with their points
abbrev pub placed : Tables → List Entry → List Placed
placed t past = map (with_point past) (finished_calls t past)

pub placed_more : (t : Tables) (x : Entry) (past : List Entry) → IsDeclared t → IsAccepted t (x ∷ past)
    → placed t (x ∷ past) ≡ placed t past ++ map (with_point (x ∷ past)) (ended_by t x (call_with_act x.act past (under_way x.worker past)))
unfolding finished_calls
placed_more t x past d acc =
    let f = with_point (x ∷ past) in
    let cs = finished_calls t past in
    let more = ended_by t x (call_with_act x.act past (under_way x.worker past)) in
    map-append f cs more ∙ ap (λ ps. ps ++ map f more) (placed_later x past cs (all_fit t past d acc.1))

pub added : (t : Tables) (x : Entry) (past : List Entry) → IsDeclared t → IsAccepted t (x ∷ past)
    → readings t (x ∷ past) ≡ readings t past ++ filter reads (map (with_point (x ∷ past)) (ended_by t x (call_with_act x.act past (under_way x.worker past))))
added t x past d acc =
    let more = ended_by t x (call_with_act x.act past (under_way x.worker past)) in
    ap (filter reads) (placed_more t x past d acc) ∙ filter-append reads (placed t past) (map (with_point (x ∷ past)) more)

-- what any other entry ends is one
pub others_read : (t : Tables) (x : Entry) (past : List Entry) → is_one_entry_act x.act ≡ false → Ends t x past (under_way x.worker past)
    → All (λ (c : Call). is_reading c.op ≡ true) (ended_by t x (call_with_act x.act past (under_way x.worker past)))
others_read t x past other (inl n) = rw n.is (All-nil (λ (c : Call). is_reading c.op ≡ true))
others_read t x past other (inr (inl r)) = rw r.is (All-cons (λ (c : Call). is_reading c.op ≡ true) (call_of_entries t x r.op (past ∷ r.rest)) [] r.reading (All-nil (λ (c : Call). is_reading c.op ≡ true)))
others_read t x past other (inr (inr a)) = (let one_entry_calls : is_one_entry_act x.act ≡ true = alone_from x.act a.begins a.acting in cc)

-- A WHOLE CALL CHANGES NO PENDING CALL

not_some : (o : Option CallSoFar) → is_some o ≡ false → o ≡ None
not_some None h = refl
not_some (Some call) h = cc

and_true : (a b : Bool) → (a && not b) ≡ false → b ≡ false → a ≡ false
and_true true b h is = sym (ap not is) ∙ h
and_true false b h is = refl

neither : (a b : Bool) → (not a && not b) ≡ true → (a ≡ false) × (b ≡ false)
neither true b h = cc
neither false true h = cc
neither false false h = (refl, refl)

-- it is no go, and its reply is not Pending
pub whole_parts : (x : Entry) → is_one_entry_call x ≡ true → (is_go x.act ≡ false) × (is_pending x.reply ≡ false)
whole_parts x whole = neither (is_go x.act) (is_pending x.reply) whole

pub whole_from : (x : Entry) → is_go x.act ≡ false → is_pending x.reply ≡ false → is_one_entry_call x ≡ true
whole_from x begins final = ap (λ a. not a && not (is_pending x.reply)) begins ∙ ap not final

-- so is each act but a read, an await and a go
pub alone_whole : (t : Tables) (x : Entry) (past : List Entry) → is_one_entry_act x.act ≡ true → Ends t x past (under_way x.worker past) → is_one_entry_call x ≡ true
alone_whole t x past one_entry_calls (inl n) =
    (let other : is_one_entry_act x.act ≡ false = n.goes_on in cc)
alone_whole t x past one_entry_calls (inr (inl r)) =
    (let other : is_one_entry_act x.act ≡ false = r.goes_on in cc)
alone_whole t x past one_entry_calls (inr (inr a)) = whole_from x a.begins a.final

pub whole_leaves : (t : Tables) (x : Entry) (past : List Entry) (w : ℕ) → IsDeclared t → IsAccepted t (x ∷ past) → is_one_entry_call x ≡ true → under_way w (x ∷ past) ≡ under_way w past
unfolding under_way
whole_leaves t x past w d acc whole =
    let parts = whole_parts x whole in
    let k = allowed t past x.worker x.act x.reply acc.0 in
    let none : under_way x.worker past ≡ None = not_some (under_way x.worker past) (and_true (is_some (under_way x.worker past)) (is_go x.act) k.0.free parts.0) in
    elim (x.worker == w) as (λ b. (x.worker == w) ≡ b → cond b (cond (is_pending x.reply) (call_with_act x.act past (under_way w past)) None) (under_way w past) ≡ under_way w past) [
      | true ↦ λ e. ap (λ b. cond b (call_with_act x.act past (under_way w past)) None) parts.1 ∙ sym none ∙ ap (λ v. under_way v past) (eqb-true x.worker w e)
      | false ↦ λ e. refl
    ] refl

-- a call that ends at an entry is one of those of the past with it
pub known_call : (t : Tables) (x : Entry) (past : List Entry) (c : Call) → ended_by t x (call_with x past) ≡ option_to_list (Some c) → Contains (finished_calls t (x ∷ past)) c
unfolding finished_calls
known_call t x past c is =
    Contains-append_right (finished_calls t past) (ended_by t x (call_with_act x.act past (under_way x.worker past))) c (subst (λ cs. Contains cs c) (sym is) (zero, omega arith, refl))

-- READS AND AWAITS WITH ONE MORE ENTRY

-- nor does an entry that ends no call
pub readings_none : (t : Tables) (x : Entry) (past : List Entry) → IsDeclared t → IsAccepted t (x ∷ past) → ended_by t x (call_with x past) ≡ [] → readings t (x ∷ past) ≡ readings t past
readings_none t x past d acc none =
    added t x past d acc ∙ ap (λ cs. readings t past ++ filter reads (map (with_point (x ∷ past)) cs)) none ∙ append-nil (readings t past)

-- the call that another one ends is added
pub record AddsReading (t : Tables) (x : Entry) (past : List Entry) (p : Placed) : Type 0 where
  pub reading : reads p ≡ true
  pub fits : Fits (x ∷ past) p.call
  pub low : p.point < suc (length past)
  pub is : readings t (x ∷ past) ≡ readings t past ++ p ∷ []

pub readings_more : (t : Tables) (x : Entry) (past : List Entry) (c : Call) → IsDeclared t → IsAccepted t (x ∷ past) → is_one_entry_act x.act ≡ false → ended_by t x (call_with x past) ≡ c ∷ []
    → AddsReading t x past (with_point (x ∷ past) c)
readings_more t x past c d acc other is =
    let reading : is_reading c.op ≡ true = All-head (λ (c : Call). is_reading c.op ≡ true) c [] (subst (All (λ (c : Call). is_reading c.op ≡ true)) is (others_read t x past other (ends t x past d acc))) in
    let known : Contains (finished_calls t (x ∷ past)) c = known_call t x past c is in
    let fits : Fits (x ∷ past) c = All-contains (Fits (x ∷ past)) (finished_calls t (x ∷ past)) c (all_fit t (x ∷ past) d acc) known in
    let p = with_point (x ∷ past) c in
    record {
      reading = reading;
      fits = fits;
      low = (point_bounds (x ∷ past) c fits).2;
      is = added t x past d acc ∙ ap (λ cs. readings t past ++ filter reads (map (with_point (x ∷ past)) cs)) is ∙ ap (λ b. readings t past ++ cond b (p ∷ []) []) reading;
    }

-- it is inserted by its point among those that are stored
pub put_among : (rs : List Placed) (x : Entry) (past : List Entry) (c : Call) (k n at : ℕ) (ps : List Placed) → AllRead rs → is_reading c.op ≡ true
    → k ≡ point_of (x ∷ past) c → point_of (x ∷ past) c < suc (length past) → length past < n → ps ≡ by_moments rs n → IsPlaceFor placed_point ps k at
    → insert ps at (record { call = c; point = k }) ≡ by_moments (rs ++ with_point (x ∷ past) c ∷ []) n
put_among rs x past c k n at ps all reading there below lt same place =
    let p = with_point (x ∷ past) c in
    let on : ℕ → Placed = λ j. record { call = c; point = j } in
    let low : p.point < n = omega arith in
    ap (λ j. insert ps at (on j)) there ∙ inserted rs ps p n at all reading low same (subst (λ j. IsPlaceFor placed_point ps j at) there place)

-- NONE

pub by_moments_none : (n : ℕ) → by_moments [] n ≡ []
unfolding by_moments
by_moments_none zero = refl
by_moments_none (suc n) = ap (λ ps. ps ++ []) (by_moments_none n)
