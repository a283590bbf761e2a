-- The entries of read-only workers leave no trace in the replies to the others.
use Rattle.std.proofs.Common.{◌≡◌, ℕ, zero, suc, ◌+◌, ◌%◌, Bool, true, false, not, ◌&&◌, ◌||◌, List, [], ◌∷◌, ◌++◌, length, reverse, take, subst, All, ◌<◌, Option, Some, None, is_some, unwrap_or, nat_le, Ok, arith, refl, ap, sym, ◌∙◌, cond, ◌==◌, map, slice_get, slice_set}
use Rattle.std.specs.Option.{option_map, option_map_or}
use Rattle.std.proofs.lemmas.Bool.{eqb-true, eq-eqb, or_parts}
use Rattle.std.proofs.Math.Bool.{and-false}
use Rattle.std.proofs.Math.Nat.{zero-add}
use Rattle.std.proofs.lemmas.List.{length-map, length-reverse, reverse-append, reverse-reverse, append-nil, take-append-le, take_all}
use Rattle.std.proofs.lemmas.List.Elements.{filter-append}
use Rattle.std.specs.List.{list_any, position_from}
use Rattle.ec_count.specs.Tables.{Tables, may_take, may_write, is_silent}
use Rattle.ec_count.specs.Members.{is_member, index_of, replace_at}
use Rattle.ec_count.proofs.shared.Quiet.{silent_has_none, silent_from_none}
use Rattle.ec_core.specs.declared.act.Act.{Act}
use Rattle.ec_core.specs.declared.act.Act.TheVariants.{Advance, Read, Await, Go, Ticket, Put, Get, Hand}
use Rattle.ec_core.specs.declared.act.Reply.{Reply}
use Rattle.ec_core.specs.declared.act.Reply.TheVariants.{Number, Pending}
use Rattle.ec_core.specs.declared.act.Entry.{Entry}
use Rattle.ec_core.specs.Counts.{past_at, component_total, issued, cell_value, is_advance, is_ticket, is_place, put_in, signallers_after, signallers_at, component_at}
use Rattle.ec_core.specs.Calls.{CallSoFar, under_way, call_with_act, is_pending}
use Rattle.ec_core.specs.Rounds.{event_or, component_count, sum_read, next_component, round_reply, read_reply, go_reply, IsPastOf, EachIsPastOf}
use Rattle.ec_core.specs.Acceptance.{reply_of, answer_of, refusal_of, refusal_in, refused_or, has_right, is_at_limit, signals_already, IsAccepted}
use Rattle.ec_core.specs.Silence.{IsSilent, hands_to, without}
use Rattle.ec_core.specs.Laws.{OthersStand}
use Rattle.ec_count.proofs.Membership.{place_within}
use Rattle.ec_core.proofs.shared.Answering.{allowed}
use Rattle.ec_core.proofs.shared.Moments.{accepted_until, answered_after, past_next, past_end, past_through, split_at}
use Rattle.ec_core.proofs.shared.Totals.{some_of}
use Rattle.ec_core.proofs.shared.Pasts.{past_itself, past_of_past, past_later, call_before, IsCallBefore}
use Rattle.ec_core.proofs.shared.Signalling.{handed_by_none}

-- a worker that signals nothing at any moment of a reversed history, takes from no sequencer and
-- writes no cell
pub record IsQuiet (t : Tables) (past : List Entry) (w : ℕ) : Type 0 where
  pub signals : (early : List Entry) → IsPastOf early past → (e : ℕ) → component_at t e early w ≡ None
  pub takes : (q : ℕ) → may_take t q w ≡ false
  pub writes : (x : ℕ) → may_write t x w ≡ false

abbrev pub AreQuiet : Tables → (ℕ → Bool) → List Entry → Type 0
AreQuiet t s past = (w : ℕ) → s w ≡ true → IsQuiet t past w

-- who is quiet in a reversed history is so in each suffix of it
quiet_earlier : (t : Tables) (s : ℕ → Bool) (early past : List Entry) → IsPastOf early past → AreQuiet t s past → AreQuiet t s early
quiet_earlier t s early past is silent w h =
    let q = silent w h in
    record { signals = λ p at. q.signals p (past_of_past p early past at is); takes = q.takes; writes = q.writes }

quiet_before : (t : Tables) (s : ℕ → Bool) (x : Entry) (past : List Entry) → AreQuiet t s (x ∷ past) → AreQuiet t s past
quiet_before t s x past = quiet_earlier t s past (x ∷ past) (past_later past past x (past_itself past))

none_now : (t : Tables) (s : ℕ → Bool) (x : Entry) (past : List Entry) (e : ℕ) → AreQuiet t s (x ∷ past) → s x.worker ≡ true → component_at t e past x.worker ≡ None
none_now t s x past e silent h = (silent x.worker h).signals past (past_later past past x (past_itself past)) e

-- the same workers signal
signallers_without : (t : Tables) (s : ℕ → Bool) (e : ℕ) (past : List Entry) → AreQuiet t s past → signallers_at t e (without s past) ≡ signallers_at t e past
unfolding signallers_at
signallers_without t s e [] silent = refl
signallers_without t s e (x ∷ past) silent =
    elim (s x.worker) as (λ b. s x.worker ≡ b → signallers_at t e (cond (not b) (x ∷ without s past) (without s past)) ≡ signallers_after e x.worker x.act (signallers_at t e past)) [
      | true ↦ λ h. signallers_without t s e past (quiet_before t s x past silent) ∙ sym (handed_by_none e x.worker x.act (signallers_at t e past) (none_now t s x past e silent h))
      | false ↦ λ h. ap (signallers_after e x.worker x.act) (signallers_without t s e past (quiet_before t s x past silent))
    ] refl

component_without : (t : Tables) (s : ℕ → Bool) (e : ℕ) (past : List Entry) (w : ℕ) → AreQuiet t s past → component_at t e (without s past) w ≡ component_at t e past w
component_without t s e past w silent = ap (index_of w) (signallers_without t s e past silent)

comp_without : (t : Tables) (s : ℕ → Bool) (e c : ℕ) (past : List Entry) → AreQuiet t s past → component_total t e c (without s past) ≡ component_total t e c past
unfolding component_total
comp_without t s e c [] silent = refl
comp_without t s e c (x ∷ past) silent =
    let rest : component_total t e c (without s past) ≡ component_total t e c past = comp_without t s e c past (quiet_before t s x past silent) in
    elim (s x.worker) as (λ b. s x.worker ≡ b → component_total t e c (cond (not b) (x ∷ without s past) (without s past)) ≡ cond (is_advance e x.act && is_place c (component_at t e past x.worker)) 1 0 + component_total t e c past) [
      | true ↦ λ h.
          (let off : (is_advance e x.act && is_place c (component_at t e past x.worker)) ≡ false = ap (λ o. is_advance e x.act && is_place c o) (none_now t s x past e silent h) ∙ and-false (is_advance e x.act) in
          rest ∙ sym (zero-add (component_total t e c past)) ∙ ap (λ b. cond b 1 0 + component_total t e c past) (sym off))
      | false ↦ λ h.
          ap (λ o. cond (is_advance e x.act && is_place c o) 1 0 + component_total t e c (without s past)) (component_without t s e past x.worker (quiet_before t s x past silent))
          ∙ ap (λ n. cond (is_advance e x.act && is_place c (component_at t e past x.worker)) 1 0 + n) rest
    ] refl

no_ticket : (t : Tables) (past : List Entry) (w q : ℕ) (act : Act) → not (has_right t past w act) ≡ false → IsQuiet t past w → is_ticket q act ≡ false
no_ticket t past w q (Ticket r) right silent = (let quiet : may_take t r w ≡ false = silent.takes r in cc)
no_ticket t past w q (Advance f) right silent = refl
no_ticket t past w q (Read f) right silent = refl
no_ticket t past w q (Await f v) right silent = refl
no_ticket t past w q Go right silent = refl
no_ticket t past w q (Put x v) right silent = refl
no_ticket t past w q (Get x) right silent = refl
no_ticket t past w q (Hand e f) right silent = refl

no_put : (t : Tables) (past : List Entry) (w x : ℕ) (act : Act) → not (has_right t past w act) ≡ false → IsQuiet t past w → put_in x act ≡ None
no_put t past w x (Put y v) right silent = (let quiet : may_write t y w ≡ false = silent.writes y in cc)
no_put t past w x (Advance f) right silent = refl
no_put t past w x (Read f) right silent = refl
no_put t past w x (Await f v) right silent = refl
no_put t past w x Go right silent = refl
no_put t past w x (Ticket q) right silent = refl
no_put t past w x (Get y) right silent = refl
no_put t past w x (Hand e f) right silent = refl

issued_without : (t : Tables) (s : ℕ → Bool) (q : ℕ) (past : List Entry) → IsAccepted t past → AreQuiet t s past → issued q (without s past) ≡ issued q past
unfolding issued
issued_without t s q [] acc silent = refl
issued_without t s q (x ∷ past) acc silent =
    elim (s x.worker) as (λ b. s x.worker ≡ b → issued q (cond (not b) (x ∷ without s past) (without s past)) ≡ cond (is_ticket q x.act) 1 0 + issued q past) [
      | true ↦ λ h.
          (let off : is_ticket q x.act ≡ false = no_ticket t past x.worker q x.act (allowed t past x.worker x.act x.reply acc.0).0.right (quiet_before t s x past silent x.worker h) in
          issued_without t s q past acc.1 (quiet_before t s x past silent) ∙ sym (zero-add (issued q past)) ∙ ap (λ b. cond b 1 0 + issued q past) (sym off))
      | false ↦ λ h. ap (λ n. cond (is_ticket q x.act) 1 0 + n) (issued_without t s q past acc.1 (quiet_before t s x past silent))
    ] refl

cell_without : (t : Tables) (s : ℕ → Bool) (y : ℕ) (past : List Entry) → IsAccepted t past → AreQuiet t s past → cell_value y (without s past) ≡ cell_value y past
unfolding cell_value
cell_without t s y [] acc silent = refl
cell_without t s y (x ∷ past) acc silent =
    elim (s x.worker) as (λ b. s x.worker ≡ b → cell_value y (cond (not b) (x ∷ without s past) (without s past)) ≡ unwrap_or (put_in y x.act) (cell_value y past)) [
      | true ↦ λ h.
          (let off : put_in y x.act ≡ None = no_put t past x.worker y x.act (allowed t past x.worker x.act x.reply acc.0).0.right (quiet_before t s x past silent x.worker h) in
          cell_without t s y past acc.1 (quiet_before t s x past silent) ∙ ap (λ o. unwrap_or o (cell_value y past)) (sym off))
      | false ↦ λ h. ap (unwrap_or (put_in y x.act)) (cell_without t s y past acc.1 (quiet_before t s x past silent))
    ] refl

abbrev call_without : (ℕ → Bool) → CallSoFar → CallSoFar
call_without s call = record { op = call.op; moments = map (without s) call.moments }

gone_without : (s : ℕ → Bool) (act : Act) (past : List Entry) (o : Option CallSoFar) → call_with_act act (without s past) (option_map (call_without s) o) ≡ option_map (call_without s) (call_with_act act past o)
gone_without s Go past None = refl
gone_without s Go past (Some call) = refl
gone_without s (Advance e) past o = refl
gone_without s (Read e) past o = refl
gone_without s (Await e v) past o = refl
gone_without s (Ticket q) past o = refl
gone_without s (Put x v) past o = refl
gone_without s (Get x) past o = refl
gone_without s (Hand e f) past o = refl

if_without : (s : ℕ → Bool) (b : Bool) (o : Option CallSoFar) → cond b (option_map (call_without s) o) None ≡ option_map (call_without s) (cond b o None)
if_without s true o = refl
if_without s false o = refl

under_way_without : (s : ℕ → Bool) (w : ℕ) (past : List Entry) → s w ≡ false → under_way w (without s past) ≡ option_map (call_without s) (under_way w past)
unfolding under_way
under_way_without s w [] h = refl
under_way_without s w (x ∷ past) h =
    elim (s x.worker) as (λ b. s x.worker ≡ b → under_way w (cond (not b) (x ∷ without s past) (without s past))
    ≡ option_map (call_without s) (cond (x.worker == w) (cond (is_pending x.reply) (call_with_act x.act past (under_way w past)) None) (under_way w past))) [
      | true ↦ λ k.
          (elim (x.worker == w) as (λ b. (x.worker == w) ≡ b → under_way w (without s past) ≡ option_map (call_without s) (cond b (cond (is_pending x.reply) (call_with_act x.act past (under_way w past)) None) (under_way w past))) [
            | true ↦ λ e. (let same : x.worker ≡ w = eqb-true x.worker w e in let yes : s w ≡ true = ap s (sym same) ∙ k in cc)
            | false ↦ λ e. under_way_without s w past h
          ] refl)
      | false ↦ λ k.
          (elim (x.worker == w) as (λ b. cond b (cond (is_pending x.reply) (call_with_act x.act (without s past) (under_way w (without s past))) None) (under_way w (without s past)) ≡ option_map (call_without s) (cond b (cond (is_pending x.reply) (call_with_act x.act past (under_way w past)) None) (under_way w past))) [
            | true ↦ ap (λ o. cond (is_pending x.reply) (call_with_act x.act (without s past) o) None) (under_way_without s w past h)
                ∙ ap (λ o. cond (is_pending x.reply) o None) (gone_without s x.act past (under_way w past)) ∙ if_without s (is_pending x.reply) (call_with_act x.act past (under_way w past))
            | false ↦ under_way_without s w past h
          ])
    ] refl

is_some_without : (s : ℕ → Bool) (o : Option CallSoFar) → is_some (option_map (call_without s) o) ≡ is_some o
is_some_without s None = refl
is_some_without s (Some call) = refl

sum_without : (t : Tables) (s : ℕ → Bool) (e i : ℕ) (past : List Entry) (moments : List (List Entry)) → EachIsPastOf moments past → AreQuiet t s past → sum_read t e i (map (without s) moments) ≡ sum_read t e i moments
unfolding sum_read
sum_without t s e zero past moments each silent = refl
sum_without t s e (suc i) past [] each silent = refl
sum_without t s e (suc i) past (p ∷ moments) each silent =
    let here = comp_without t s e i p (quiet_earlier t s p past each.0 silent) in
    let rest = sum_without t s e i past moments each.1 silent in
    cc

read_without : (t : Tables) (s : ℕ → Bool) (op : Act) (past : List Entry) (moments : List (List Entry)) → EachIsPastOf moments past → AreQuiet t s past
    → read_reply t op (without s past) (map (without s) moments) ≡ read_reply t op past moments
unfolding read_reply
read_without t s op past moments each silent =
    let e = event_or op in
    let same : length (map (without s) moments) ≡ length moments = length-map moments (without s) in
    ap (λ n. cond (nat_le (component_count t e) (n % component_count t e + 1)) (round_reply op (sum_read t e (suc (n % component_count t e)) (without s past ∷ map (without s) moments))) Pending) same
    ∙ ap (λ r. cond (nat_le (component_count t e) (next_component t e moments + 1)) (round_reply op r) Pending) (sum_without t s e (suc (next_component t e moments)) past (past ∷ moments) (past_itself past, each) silent)

go_without : (t : Tables) (s : ℕ → Bool) (past : List Entry) (o : Option CallSoFar) → IsCallBefore o past → AreQuiet t s past
    → go_reply t (without s past) (option_map (call_without s) o) ≡ go_reply t past o
go_without t s past None before silent = refl
go_without t s past (Some call) before silent = read_without t s call.op past call.moments before silent

reply_without : (t : Tables) (s : ℕ → Bool) (past : List Entry) (w : ℕ) (act : Act) → IsAccepted t past → AreQuiet t s past → s w ≡ false
    → reply_of t (without s past) w act ≡ reply_of t past w act
reply_without t s past w (Advance e) acc silent kept = refl
reply_without t s past w (Read e) acc silent kept = read_without t s (Read e) past [] tt silent
reply_without t s past w (Await e v) acc silent kept = read_without t s (Await e v) past [] tt silent
reply_without t s past w Go acc silent kept = ap (go_reply t (without s past)) (under_way_without s w past kept) ∙ go_without t s past (under_way w past) (call_before w past) silent
reply_without t s past w (Ticket q) acc silent kept = ap Number (issued_without t s q past acc silent)
reply_without t s past w (Put x v) acc silent kept = refl
reply_without t s past w (Get x) acc silent kept = ap Number (cell_without t s x past acc silent)
reply_without t s past w (Hand e b) acc silent kept = refl

full_in : (t : Tables) (s : ℕ → Bool) (e : ℕ) (past : List Entry) (o : Option ℕ) → AreQuiet t s past
    → option_map_or (λ c. component_total t e c (without s past) == t.limit) o false ≡ option_map_or (λ c. component_total t e c past == t.limit) o false
full_in t s e past None silent = refl
full_in t s e past (Some c) silent = ap (λ n. n == t.limit) (comp_without t s e c past silent)

full_without : (t : Tables) (s : ℕ → Bool) (past : List Entry) (w : ℕ) (act : Act) → IsAccepted t past → AreQuiet t s past
    → is_at_limit t (without s past) w act ≡ is_at_limit t past w act
full_without t s past w (Advance e) acc silent =
    ap (λ o. option_map_or (λ c. component_total t e c (without s past) == t.limit) o false) (component_without t s e past w silent)
    ∙ full_in t s e past (component_at t e past w) silent
full_without t s past w (Ticket q) acc silent = ap (λ n. n == t.limit) (issued_without t s q past acc silent)
full_without t s past w (Read e) acc silent = refl
full_without t s past w (Await e v) acc silent = refl
full_without t s past w Go acc silent = refl
full_without t s past w (Put x v) acc silent = refl
full_without t s past w (Get x) acc silent = refl
full_without t s past w (Hand e f) acc silent = refl

right_without : (t : Tables) (s : ℕ → Bool) (past : List Entry) (w : ℕ) (act : Act) → AreQuiet t s past → has_right t (without s past) w act ≡ has_right t past w act
right_without t s past w (Advance e) silent = ap is_some (component_without t s e past w silent)
right_without t s past w (Read e) silent = refl
right_without t s past w (Await e v) silent = refl
right_without t s past w Go silent = refl
right_without t s past w (Ticket q) silent = refl
right_without t s past w (Put x v) silent = refl
right_without t s past w (Get x) silent = refl
right_without t s past w (Hand e b) silent = ap is_some (component_without t s e past w silent)

already_without : (t : Tables) (s : ℕ → Bool) (past : List Entry) (act : Act) → AreQuiet t s past → signals_already t (without s past) act ≡ signals_already t past act
already_without t s past (Hand e b) silent = ap is_some (component_without t s e past b silent)
already_without t s past (Advance e) silent = refl
already_without t s past (Read e) silent = refl
already_without t s past (Await e v) silent = refl
already_without t s past Go silent = refl
already_without t s past (Ticket q) silent = refl
already_without t s past (Put x v) silent = refl
already_without t s past (Get x) silent = refl

-- the others get the same answers
pub answer_without : (t : Tables) (s : ℕ → Bool) (past : List Entry) (w : ℕ) (act : Act) → IsAccepted t past → AreQuiet t s past → s w ≡ false
    → answer_of t (without s past) w act ≡ answer_of t past w act
unfolding answer_of
answer_without t s past w act acc silent kept =
    let r = reply_of t (without s past) w act in
    let full = is_at_limit t (without s past) w act in
    let already = signals_already t (without s past) act in
    ap (λ b. refused_or (refusal_in t w act b (has_right t (without s past) w act) full already) r) (ap is_some (under_way_without s w past kept) ∙ is_some_without s (under_way w past))
    ∙ ap (λ b. refused_or (refusal_in t w act (is_some (under_way w past)) b full already) r) (right_without t s past w act silent)
    ∙ ap (λ b. refused_or (refusal_in t w act (is_some (under_way w past)) (has_right t past w act) b already) r) (full_without t s past w act acc silent)
    ∙ ap (λ b. refused_or (refusal_in t w act (is_some (under_way w past)) (has_right t past w act) (is_at_limit t past w act) b) r) (already_without t s past act silent)
    ∙ ap (refused_or (refusal_of t past w act)) (reply_without t s past w act acc silent kept)

-- the other entries are accepted
pub accepted_without : (t : Tables) (s : ℕ → Bool) (past : List Entry) → IsAccepted t past → AreQuiet t s past → IsAccepted t (without s past)
accepted_without t s [] acc silent = tt
accepted_without t s (x ∷ past) acc silent =
    elim (s x.worker) as (λ b. s x.worker ≡ b → IsAccepted t (cond (not b) (x ∷ without s past) (without s past))) [
      | true ↦ λ h. accepted_without t s past acc.1 (quiet_before t s x past silent)
      | false ↦ λ h. (answer_without t s past x.worker x.act acc.1 (quiet_before t s x past silent) h ∙ acc.0, accepted_without t s past acc.1 (quiet_before t s x past silent))
    ] refl

or_member : (a b : Bool) (P : Type 0) → (a ≡ true → P) → (b ≡ true → P) → (a || b) ≡ true → P
or_member true b P f g h = f refl
or_member false b P f g h = g h

-- each of the listed workers is read-only
pub members_silent : (t : Tables) (h : List Entry) (ws : List ℕ) → All (λ w. IsSilent t h w) ws → (w : ℕ) → is_member w ws ≡ true → IsSilent t h w
members_silent t h [] all w is = cc
members_silent t h (v ∷ vs) all w is =
    or_member (v == w) (is_member w vs) (IsSilent t h w)
    (λ e. subst (IsSilent t h) (eqb-true v w e) (all 0 v (omega arith)))
    (λ e. members_silent t h vs (λ k d lt. all (suc k) d (omega arith)) w e) is

-- a suffix of a reversed history is that at the moment of its length
past_is : (h since early : List Entry) → reverse h ≡ since ++ early → past_at (length early) h ≡ early
past_is h since early is =
    let whole : h ≡ reverse early ++ reverse since = sym (reverse-reverse h) ∙ ap reverse is ∙ reverse-append since early in
    let within : length early ≡ length (reverse early) = sym (length-reverse early) in
    ap (λ l. reverse (take (length early) l)) whole
    ∙ ap reverse (take-append-le (length early) (reverse early) (reverse since) (omega arith) ∙ take_all (length early) (reverse early) (omega arith))
    ∙ reverse-reverse early

-- RECEIVERS

set_none : (w b : ℕ) (ws : List ℕ) (low c : ℕ) → (b == w) ≡ false → position_from (λ v. v == w) low ws ≡ None → position_from (λ v. v == w) low (slice_set ws c b) ≡ None
set_none w b [] low c other h = refl
set_none w b (v ∷ ws) low zero other h =
    ap (λ is. cond is (Some low) (position_from (λ u. u == w) (low + 1) ws)) other
    ∙ (elim (v == w) as (λ is. cond is (Some low) (position_from (λ u. u == w) (low + 1) ws) ≡ None → position_from (λ u. u == w) (low + 1) ws ≡ None) [
      | true ↦ λ g. cc
      | false ↦ λ g. g
    ] h)
set_none w b (v ∷ ws) low (suc c) other h =
    elim (v == w) as (λ is. cond is (Some low) (position_from (λ u. u == w) (low + 1) ws) ≡ None → cond is (Some low) (position_from (λ u. u == w) (low + 1) (slice_set ws c b)) ≡ None) [
      | true ↦ λ g. g
      | false ↦ λ g. set_none w b ws (low + 1) c other g
    ] h

set_some : (w : ℕ) (ws : List ℕ) (low c : ℕ) → c < length ws → position_from (λ v. v == w) low (slice_set ws c w) ≡ None → ⊥
set_some w [] low c lt h = absurd (omega arith)
set_some w (v ∷ ws) low zero lt h =
    (let some : Some low ≡ None = sym (ap (λ is. cond is (Some low) (position_from (λ u. u == w) (low + 1) ws)) (eq-eqb w w refl)) ∙ h in cc)
set_some w (v ∷ ws) low (suc c) lt h =
    elim (v == w) as (λ is. cond is (Some low) (position_from (λ u. u == w) (low + 1) (slice_set ws c w)) ≡ None → ⊥) [
      | true ↦ λ g. cc
      | false ↦ λ g. set_some w ws (low + 1) c (omega arith) g
    ] h

none_replaced : (w b : ℕ) (ws : List ℕ) (o : Option ℕ) → (b == w) ≡ false → index_of w ws ≡ None → index_of w (replace_at o b ws) ≡ None
none_replaced w b ws None other h = h
none_replaced w b ws (Some c) other h = set_none w b ws 0 c other h

-- an act that transfers nothing to a worker leaves it no signaller
not_handed : (e v w : ℕ) (act : Act) (ws : List ℕ) → hands_to w act ≡ false → index_of w ws ≡ None → index_of w (signallers_after e v act ws) ≡ None
not_handed e v w (Advance f) ws other h = h
not_handed e v w (Read f) ws other h = h
not_handed e v w (Await f u) ws other h = h
not_handed e v w Go ws other h = h
not_handed e v w (Ticket q) ws other h = h
not_handed e v w (Put x u) ws other h = h
not_handed e v w (Get x) ws other h = h
not_handed e v w (Hand f b) ws other h =
    elim (f == e) as (λ is. index_of w (cond is (replace_at (index_of v ws) b ws) ws) ≡ None) [
      | true ↦ none_replaced w b ws (index_of v ws) other h
      | false ↦ h
    ]

-- an answered hand makes its receiver a signaller
received : (t : Tables) (past : List Entry) (v w : ℕ) (act : Act) (reply : Reply) → answer_of t past v act ≡ Ok reply → hands_to w act ≡ true
    → (e : ℕ) × (index_of w (signallers_after e v act (signallers_at t e past)) ≡ None → ⊥)
received t past v w (Hand e b) reply answered is =
    let ws = signallers_at t e past in
    let k = some_of (component_at t e past v) (allowed t past v (Hand e b) reply answered).0.right in
    let within : k.0 < 0 + length ws = place_within v ws 0 k.0 k.1 in
    let after : index_of w (cond (e == e) (replace_at (index_of v ws) b ws) ws) ≡ index_of w (slice_set ws k.0 w) =
    ap (λ same. index_of w (cond same (replace_at (index_of v ws) b ws) ws)) (eq-eqb e e refl)
    ∙ ap (λ o. index_of w (replace_at o b ws)) k.1 ∙ ap (λ u. index_of w (slice_set ws k.0 u)) (eqb-true b w is) in
    (e, λ none. set_some w ws 0 k.0 (omega arith) (sym after ∙ none))
received t past v w (Advance f) reply answered is = cc
received t past v w (Read f) reply answered is = cc
received t past v w (Await f u) reply answered is = cc
received t past v w Go reply answered is = cc
received t past v w (Ticket q) reply answered is = cc
received t past v w (Put x u) reply answered is = cc
received t past v w (Get x) reply answered is = cc

-- a worker that received a component is not read-only
pub receiver_speaks : (t : Tables) (h done others : List Entry) (x : Entry) (w : ℕ) → IsAccepted t (reverse h) → done ++ x ∷ others ≡ h → hands_to w x.act ≡ true
    → IsSilent t h w → ⊥
unfolding signallers_at
receiver_speaks t h done others x w acc is to silent =
    let r = received t (reverse done) x.worker w x.act x.reply (answered_after t h done others x acc is) to in
    let early : List Entry = x ∷ reverse done in
    r.1 (ap (λ p. component_at t r.0 p w) (sym (past_is h (reverse others) early (past_through h done others x is))) ∙ silent.signals (length early) r.0)

handed_none : (t : Tables) (e w k : ℕ) (h : List Entry) (o : Option Entry) → slice_get h k ≡ o → option_map_or (λ (x : Entry). hands_to w x.act) o false ≡ false
    → component_at t e (past_at k h) w ≡ None → component_at t e (past_at (suc k) h) w ≡ None
unfolding signallers_at
handed_none t e w k h None at off none = ap (λ p. component_at t e p w) (past_end h k at) ∙ none
handed_none t e w k h (Some x) at off none =
    ap (λ p. component_at t e p w) (past_next h k x at) ∙ not_handed e x.worker w x.act (signallers_at t e (past_at k h)) off none

none_at : (w : ℕ) (h : List Entry) (k : ℕ) → list_any (λ (x : Entry). hands_to w x.act) h ≡ false → option_map_or (λ (x : Entry). hands_to w x.act) (slice_get h k) false ≡ false
none_at w [] k off = refl
none_at w (x ∷ h) zero off = (or_parts (hands_to w x.act) (list_any (λ (y : Entry). hands_to w y.act) h) off).0
none_at w (x ∷ h) (suc k) off = none_at w h k (or_parts (hands_to w x.act) (list_any (λ (y : Entry). hands_to w y.act) h) off).1

none_signalled : (t : Tables) (h : List Entry) (w : ℕ) → list_any (λ (x : Entry). hands_to w x.act) h ≡ false → (e : ℕ) → component_at t e [] w ≡ None
    → (k : ℕ) → component_at t e (past_at k h) w ≡ None
none_signalled t h w off e none zero = none
none_signalled t h w off e none (suc k) = handed_none t e w k h (slice_get h k) refl (none_at w h k off) (none_signalled t h w off e none k)

-- a worker that is read-only by the declarations, and received no component, is read-only
pub silent_by_entries : (t : Tables) (h : List Entry) (w : ℕ) → is_silent t w ≡ true → list_any (λ (x : Entry). hands_to w x.act) h ≡ false → IsSilent t h w
unfolding signallers_at
silent_by_entries t h w is off =
    let r = silent_has_none t w is in
    record { declared = r.0; signals = λ k e. none_signalled t h w off e (r.1.signals e) k; takes = r.1.takes; writes = r.1.writes }

-- a read-only worker is so by the declarations
pub silent_declared : (t : Tables) (h : List Entry) (w : ℕ) → IsSilent t h w → is_silent t w ≡ true
unfolding signallers_at
silent_declared t h w q = silent_from_none t w q.declared (record { signals = λ e. q.signals 0 e; takes = q.takes; writes = q.writes })

-- the read-only workers of a history are quiet in it
quiet_all : (t : Tables) (s : ℕ → Bool) (h : List Entry) → ((w : ℕ) → s w ≡ true → IsSilent t h w) → AreQuiet t s (reverse h)
quiet_all t s h silent w is =
    let q = silent w is in
    record {
      signals = λ early at e. ap (λ p. component_at t e p w) (sym (past_is h at.since early at.is)) ∙ q.signals (length early) e;
      takes = q.takes;
      writes = q.writes;
    }

filter_end : (s : ℕ → Bool) (h : List Entry) (x : Entry) → without s (h ++ x ∷ []) ≡ without s h ++ cond (not (s x.worker)) (x ∷ []) []
filter_end s h x = filter-append (λ y. not (s y.worker)) h (x ∷ [])

turned_end : (s : ℕ → Bool) (b : Bool) (h : List Entry) (x : Entry) → reverse h ++ cond b (x ∷ []) [] ≡ reverse (cond b (x ∷ h) h)
turned_end s true h x = sym (reverse-append (x ∷ []) h)
turned_end s false h x = append-nil (reverse h)

-- without some workers, the reversed history is the reverse of the history
pub without_reverse : (s : ℕ → Bool) (h : List Entry) → without s (reverse h) ≡ reverse (without s h)
without_reverse s [] = refl
without_reverse s (x ∷ h) =
    ap (without s) (reverse-append (x ∷ []) h) ∙ filter_end s (reverse h) x
    ∙ ap (λ r. r ++ cond (not (s x.worker)) (x ∷ []) []) (without_reverse s h) ∙ turned_end s (not (s x.worker)) (without s h) x

-- an entry of another worker gets the same answer
pub kept_answer : (t : Tables) (s : ℕ → Bool) (h done others : List Entry) (x : Entry) → IsAccepted t (reverse h) → ((w : ℕ) → s w ≡ true → IsSilent t h w)
    → done ++ x ∷ others ≡ h → s x.worker ≡ false → answer_of t (reverse (without s done)) x.worker x.act ≡ Ok x.reply
kept_answer t s h done others x acc silent is kept =
    ap (λ past. answer_of t past x.worker x.act) (sym (without_reverse s done))
    ∙ answer_without t s (reverse done) x.worker x.act (accepted_until t h done (x ∷ others) acc is)
    (quiet_earlier t s (reverse done) (reverse h) (record { since = reverse (x ∷ others); is = ap reverse (sym is) ∙ reverse-append done (x ∷ others) }) (quiet_all t s h silent)) kept
    ∙ answered_after t h done others x acc is

pub others_stand : OthersStand
others_stand t s h acc silent = (
  subst (IsAccepted t) (without_reverse s h) (accepted_without t s (reverse h) acc (quiet_all t s h silent)),
  λ k x at kept. (let r = split_at h k x at in kept_answer t s h (take k h) r.0 x acc silent (sym r.1) kept),
)
