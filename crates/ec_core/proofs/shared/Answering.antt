-- A world answers as its history says.
use Rattle.std.proofs.Common.{◌≡◌, ℕ, suc, ◌+◌, ◌%◌, ◌<◌, ◌≤◌, Bool, true, false, not, ◌&&◌, List, [], ◌∷◌, length, Option, Some, None, is_some, nat_le, unwrap_or, Ok, refl, ap, ◌∙◌, arith, add-one, subst, cond, ◌==◌}
use Rattle.std.specs.Option.{option_map, option_map_or}
use Rattle.std.proofs.lemmas.Bool.{eqb-true, leb-false, leb-true}
use Rattle.std.proofs.lemmas.Nat.{mod_below}
use Rattle.std.proofs.Math.Nat.{suc-mod, mod_self, mod-eq_of_lt}
use Rattle.ec_count.specs.Tables.{Tables, IsDeclared}
use Rattle.ec_count.specs.Members.{index_of}
use Rattle.ec_count.proofs.Membership.{place_within}
use Rattle.ec_count.proofs.shared.Declared.{few_signallers, some_signaller}
use Rattle.ec_core.specs.declared.act.Act.{Act}
use Rattle.ec_core.specs.declared.act.Act.TheVariants.{Advance, Read, Await, Go, Ticket, Put, Get, Hand}
use Rattle.ec_core.specs.declared.act.Reply.{Reply}
use Rattle.ec_core.specs.declared.act.Reply.TheVariants.{Done, Number, Pending}
use Rattle.ec_core.specs.declared.act.Entry.{Entry}
use Rattle.ec_core.specs.declared.act.Refusal.{Refusal}
use Rattle.ec_core.specs.declared.effect.Effect.TheVariants as effects
use Rattle.ec_core.specs.Counts.{signallers_at, component_at, component_total}
use Rattle.ec_core.specs.Calls.{CallSoFar, under_way, is_pending, call_with_act}
use Rattle.ec_core.specs.Rounds.{event_or, component_count, sum_read, next_component, round_reply, read_reply}
use Rattle.ec_core.specs.Acceptance.{reply_of, answer_of, refusal_of, refused_or, has_right, is_at_limit, IsAccepted, names_unknown_object, is_too_large, is_not_handable, signals_already}
use Rattle.ec_core.specs.Calls.{is_go}
use Rattle.ec_core.specs.Standing.{State, Represents, count_at, call_progress, progress_of}
use Rattle.ec_core.specs.Progress.{Progress, RoundSoFar}
use Rattle.ec_core.specs.kept.Fields.{stored_progress, component_in, right_in, already_in, is_full, is_full_for, count_value, read_with, read_component, read_effect, IsNamed}
use Rattle.ec_core.proofs.shared.Signalling.{signallers_length}

-- an eventcount has at most 16 components
pub width_few : (t : Tables) (e : ℕ) → IsDeclared t → component_count t e ≤ 16
width_few t e d = few_signallers t e d

-- a declared eventcount has at least one component
pub width_some : (t : Tables) (e : ℕ) → IsDeclared t → e < length t.events → 0 < component_count t e
width_some t e d lt = some_signaller t e d lt

pub component_few : (t : Tables) (past : List Entry) (e w c : ℕ) → IsDeclared t → component_at t e past w ≡ Some c → c < 16
component_few t past e w c d h = omega (arith, place_within w (signallers_at t e past) 0 c h, signallers_length t e past, width_few t e d)

-- the component that a world finds is that of its history
pub component_is : (s : State) (past : List Entry) (e w : ℕ) → Represents s past → e < 32 → component_in s e w ≡ component_at s.setup e past w
component_is s past e w st lt = ap (λ o. index_of w (unwrap_or o [])) (st.signal e lt)

-- a world stores the progress of a pending call that its history says
pub kept_is : (s : State) (past : List Entry) (w : ℕ) → Represents s past → w < 16 → stored_progress s w ≡ progress_of s.setup w past
kept_is s past w st lt = ap (λ o. unwrap_or o None) (st.calls w lt)

pub is_some_map : (t : Tables) (o : Option CallSoFar)
    → is_some (option_map (call_progress t) o) ≡ is_some o
is_some_map t None = refl
is_some_map t (Some call) = refl

advance_full : (s : State) (past : List Entry) (w e : ℕ) → Represents s past → e < 32 → (o : Option ℕ) → component_at s.setup e past w ≡ o
    → option_map_or (λ c. is_full (count_at s.counts e c)) o false ≡ option_map_or (λ c. component_total s.setup e c past == s.setup.limit) o false
advance_full s past w e st lt None h = refl
advance_full s past w e st lt (Some c) h = ap is_full (st.counts e c lt (component_few s.setup past e w c st.declared h))

-- the count that an act would raise is at its limit as the history says
pub full_is : (s : State) (past : List Entry) (w : ℕ) (act : Act) → Represents s past → IsNamed act
    → is_full_for s w act ≡ is_at_limit s.setup past w act
full_is s past w (Advance e) st named =
    ap (λ o. option_map_or (λ c. is_full (count_at s.counts e c)) o false) (component_is s past e w st named)
    ∙ advance_full s past w e st named (component_at s.setup e past w) refl
full_is s past w (Read e) st named = refl
full_is s past w (Await e v) st named = refl
full_is s past w Go st named = refl
full_is s past w (Ticket q) st named = ap is_full (st.issued q named)
full_is s past w (Put x v) st named = refl
full_is s past w (Get x) st named = refl
full_is s past w (Hand e b) st named = refl

-- the rights that a world finds are those of its history
pub right_is : (s : State) (past : List Entry) (w : ℕ) (act : Act) → Represents s past → IsNamed act → right_in s past w act ≡ has_right s.setup past w act
right_is s past w (Advance e) st named = ap is_some (component_is s past e w st named)
right_is s past w (Read e) st named = refl
right_is s past w (Await e v) st named = refl
right_is s past w Go st named = refl
right_is s past w (Ticket q) st named = refl
right_is s past w (Put x v) st named = refl
right_is s past w (Get x) st named = refl
right_is s past w (Hand e b) st named = ap is_some (component_is s past e w st named)

-- whether the receiver of a hand signals already is as the history says
pub already_is : (s : State) (past : List Entry) (act : Act) → Represents s past → IsNamed act → already_in s act ≡ signals_already s.setup past act
already_is s past (Hand e b) st named = ap is_some (component_is s past e b st named)
already_is s past (Advance e) st named = refl
already_is s past (Read e) st named = refl
already_is s past (Await e v) st named = refl
already_is s past Go st named = refl
already_is s past (Ticket q) st named = refl
already_is s past (Put x v) st named = refl
already_is s past (Get x) st named = refl

-- the act is a read or an await of a declared eventcount
abbrev pub IsReading : Tables → Act → Type 0
IsReading t (Read e) = e < length t.events
IsReading t (Await e v) = e < length t.events
IsReading t _ = ⊥

-- a call, if there is one, was begun by a read or an await of a declared eventcount
abbrev pub IsReadingCall : Tables → Option CallSoFar → Type 0
IsReadingCall t None = Unit {0}
IsReadingCall t (Some call) = IsReading t call.op

chosen_none : {F : Type 0} (b : Bool) (f : F) (o : Option F) → cond b (Some f) o ≡ None → (b ≡ false) × (o ≡ None)
chosen_none true f o h = cc
chosen_none false f o h = (refl, h)

-- what an answer that is no refusal says of the tests
pub record IsAllowed (t : Tables) (past : List Entry) (w : ℕ) (act : Act) : Type 0 where
  pub declared : nat_le t.workers w ≡ false
  pub free : (is_some (under_way w past) && not (is_go act)) ≡ false
  pub going : (not (is_some (under_way w past)) && is_go act) ≡ false
  pub known : names_unknown_object t act ≡ false
  pub right : not (has_right t past w act) ≡ false
  pub small : is_too_large act ≡ false
  pub room : is_at_limit t past w act ≡ false
  pub handable : is_not_handable t act ≡ false
  pub fresh : signals_already t past act ≡ false

accepted_or : (o : Option Refusal) (x y : Reply) → refused_or o x ≡ Ok y → (o ≡ None) × (x ≡ y)
accepted_or None x y h = (refl, cc)
accepted_or (Some r) x y h = cc

-- an act that gets a reply passed each test, and the reply is the right one
pub allowed : (t : Tables) (past : List Entry) (w : ℕ) (act : Act) (reply : Reply) → answer_of t past w act ≡ Ok reply
    → IsAllowed t past w act × (reply_of t past w act ≡ reply)
unfolding answer_of
allowed t past w act reply h =
    let k = accepted_or (refusal_of t past w act) (reply_of t past w act) reply h in
    let a = chosen_none _ _ _ k.0 in
    let b = chosen_none _ _ _ a.1 in
    let c = chosen_none _ _ _ b.1 in
    let d = chosen_none _ _ _ c.1 in
    let e = chosen_none _ _ _ d.1 in
    let f = chosen_none _ _ _ e.1 in
    let g = chosen_none _ _ _ f.1 in
    let i = chosen_none _ _ _ g.1 in
    let j = chosen_none _ _ _ i.1 in
    (record { declared = a.0; free = b.0; going = c.0; known = d.0; right = e.0; small = f.0; room = g.0; handable = i.0; fresh = j.0 }, k.1)

kept_or : (t : Tables) (b : Bool) (o : Option CallSoFar) → IsReadingCall t o → IsReadingCall t (cond b o None)
kept_or t true o h = h
kept_or t false o h = tt

go_kept : (t : Tables) (past : List Entry) (o : Option CallSoFar) → IsReadingCall t o → IsReadingCall t (call_with_act Go past o)
go_kept t past None h = tt
go_kept t past (Some call) h = h

-- a step leaves its worker with such a call
reading_step : (t : Tables) (past : List Entry) (w : ℕ) (act : Act) (reply : Reply) → IsAllowed t past w act → reply_of t past w act ≡ reply
    → IsReadingCall t (under_way w past) → IsReadingCall t (cond (is_pending reply) (call_with_act act past (under_way w past)) None)
reading_step t past w (Advance e) reply a r h = subst (λ p. IsReadingCall t (cond (is_pending p) (call_with_act (Advance e) past (under_way w past)) None)) r tt
reading_step t past w (Read e) reply a r h = kept_or t (is_pending reply) (Some (record { op = Read e; moments = past ∷ [] })) (leb-false (length t.events) e a.known)
reading_step t past w (Await e v) reply a r h = kept_or t (is_pending reply) (Some (record { op = Await e v; moments = past ∷ [] })) (leb-false (length t.events) e a.known)
reading_step t past w Go reply a r h = kept_or t (is_pending reply) (call_with_act Go past (under_way w past)) (go_kept t past (under_way w past) h)
reading_step t past w (Ticket q) reply a r h = subst (λ p. IsReadingCall t (cond (is_pending p) (call_with_act (Ticket q) past (under_way w past)) None)) r tt
reading_step t past w (Put x v) reply a r h = subst (λ p. IsReadingCall t (cond (is_pending p) (call_with_act (Put x v) past (under_way w past)) None)) r tt
reading_step t past w (Get x) reply a r h = subst (λ p. IsReadingCall t (cond (is_pending p) (call_with_act (Get x) past (under_way w past)) None)) r tt
reading_step t past w (Hand e f) reply a r h = subst (λ p. IsReadingCall t (cond (is_pending p) (call_with_act (Hand e f) past (under_way w past)) None)) r tt

-- each pending call in an accepted history was begun by a read or an await of a declared eventcount
pub call_reads : (t : Tables) (past : List Entry) (w : ℕ) → IsAccepted t past → IsReadingCall t (under_way w past)
unfolding under_way
call_reads t [] w acc = tt
call_reads t (x ∷ past) w acc =
    elim (x.worker == w) as (λ b. (x.worker == w) ≡ b → IsReadingCall t (cond b (cond (is_pending x.reply) (call_with_act x.act past (under_way w past)) None) (under_way w past))) [
      | true ↦ λ h.
          (let P : ℕ → Type 0 = λ v. answer_of t past v x.act ≡ Ok x.reply in
          let k = allowed t past w x.act x.reply (subst P (eqb-true x.worker w h) acc.0) in
          reading_step t past w x.act x.reply k.0 k.1 (call_reads t past w acc.1))
      | false ↦ λ h. call_reads t past w acc.1
    ] refl

-- the eventcount that such an act names is declared
pub reading_event : (t : Tables) (op : Act) → IsReading t op → event_or op < length t.events
reading_event t (Read e) h = h
reading_event t (Await e v) h = h
reading_event t (Advance e) h = absurd h
reading_event t Go h = absurd h
reading_event t (Ticket q) h = absurd h
reading_event t (Put x v) h = absurd h
reading_event t (Get x) h = absurd h
reading_event t (Hand e f) h = absurd h

-- counting modulo n: the next remainder is one more, or 0 if that is n
pub mod_next : (n k : ℕ) → 0 < n → suc k % n ≡ cond (nat_le n (k % n + 1)) 0 (k % n + 1)
mod_next n k h =
    elim (nat_le n (k % n + 1)) as (λ b. nat_le n (k % n + 1) ≡ b → suc k % n ≡ cond b 0 (k % n + 1)) [
      | true ↦ λ e.
          (let le : n ≤ k % n + 1 = leb-true n (k % n + 1) e in
          let lt : k % n < n = mod_below k n h in
          let whole : suc (k % n) ≡ n = omega arith in
          suc-mod k n ∙ ap (λ v. v % n) whole ∙ mod_self n)
      | false ↦ λ e.
          (let below : k % n + 1 < n = leb-false n (k % n + 1) e in
          let lt : suc (k % n) < n = omega arith in
          let one : suc (k % n) ≡ k % n + 1 = omega arith in
          suc-mod k n ∙ mod-eq_of_lt lt ∙ one)
    ] refl

-- the progress of the round of a call
abbrev pub round_of : Progress → RoundSoFar
round_of u = record { index = u.index; sum = u.sum }

way_round : (reply : Reply) (c : ℕ) (f : ℕ → ℕ) → c ≡ 0 → f 0 ≡ 0 → read_with reply (record { index = 0; sum = 0 }) ≡ read_with reply (record { index = c; sum = f c })
way_round Pending c f e z = cc
way_round Done c f e z = cc
way_round (Number n) c f e z = refl

way_on : (op : Act) (b : Bool) (next c total : ℕ) (f : ℕ → ℕ) → next ≡ cond b 0 (c + 1) → f 0 ≡ 0 → f (c + 1) ≡ total
    → cond b (read_with (round_reply op total) (record { index = 0; sum = 0 })) (effects.GoOn (record { index = c + 1; sum = total }))
    ≡ read_with (cond b (round_reply op total) Pending) (record { index = next; sum = f next })
way_on op true next c total f e z g = way_round (round_reply op total) next f e z
way_on op false next c total f e z g = cc

-- one more read has the reply that the history says, and a call that stays pending has the progress
-- of that of the history
pub read_is : (s : State) (past : List Entry) (op : Act) (moments : List (List Entry)) → Represents s past → event_or op < 32
    → 0 < component_count s.setup (event_or op) → next_component s.setup (event_or op) moments < 16
    → read_effect s (call_progress s.setup (record { op = op; moments = moments }))
    ≡ read_with (read_reply s.setup op past moments) (round_of (call_progress s.setup (record { op = op; moments = past ∷ moments })))
unfolding read_reply sum_read
read_is s past op moments st e some c =
    let n = component_count s.setup (event_or op) in
    let i = next_component s.setup (event_or op) moments in
    let rest = sum_read s.setup (event_or op) i moments in
    ap (λ o. read_component op n i (count_value o + rest)) (st.counts (event_or op) i e c)
    ∙ way_on op (nat_le n (i + 1)) (suc (length moments) % n) i (component_total s.setup (event_or op) i past + rest) (λ j. sum_read s.setup (event_or op) j (past ∷ moments))
    (mod_next n (length moments) some) refl (ap (λ j. sum_read s.setup (event_or op) j (past ∷ moments)) (add-one i))
