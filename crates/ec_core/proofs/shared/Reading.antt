-- Where a call began, what the reply to a read says of that moment, and counts by worker.
use Rattle.std.proofs.Common.{◌≡◌, ◌≢◌, ℕ, zero, suc, ◌+◌, ◌<◌, ◌≤◌, Bool, true, false, ◌&&◌, List, [], ◌∷◌, length, Option, Some, None, nat_le, Ok, refl, ap, sym, ◌∙◌, arith, subst, cond, ◌==◌, ◌⊎◌, inl, inr}
use Rattle.std.proofs.lemmas.Bool.{eqb-true, eqb-false, eq-eqb, leb-true, leb-false}
use Rattle.std.proofs.Math.Nat.{zero-add, mod-eq_of_lt}
use Rattle.ec_count.specs.Tables.{Tables, IsDeclared}
use Rattle.ec_core.specs.declared.act.Act.{Act}
use Rattle.ec_core.specs.declared.act.Act.TheVariants.{Advance, Read, Await, Go, Ticket, Put, Get, Hand}
use Rattle.ec_core.specs.declared.act.Reply.TheVariants.{Number, Pending}
use Rattle.ec_core.specs.declared.act.Entry.{Entry}
use Rattle.ec_core.specs.Counts.{total, issued, sum_to, is_advance, is_ticket}
use Rattle.ec_core.specs.Calls.{CallSoFar, under_way, call_with_act, is_pending}
use Rattle.ec_core.specs.Rounds.{component_count, sum_read, next_component, round_reply, read_reply, IsPastOf, IsPastOfEach, EachIsPastOf}
use Rattle.ec_core.specs.Acceptance.{reply_of, answer_of, names_unknown_object, IsAccepted}
use Rattle.ec_core.specs.Following.{Rule, opening_act, block}
use Rattle.ec_core.proofs.shared.Answering.{allowed, call_reads, IsReading, IsReadingCall, width_some}
use Rattle.ec_core.proofs.shared.Totals.{raised_sum, zeros, round_between}
use Rattle.ec_core.proofs.shared.Pasts.{call_before, past_of_past, pending_is}
use Rattle.ec_core.proofs.shared.CallRounds.{IsStacked, IsCallStacked, call_stacked}
use Rattle.ec_core.proofs.shared.Moments.{accepted_before}
use Rattle.ec_core.proofs.shared.Following.{other_block, pending_after, opened_is, moments_before, op_at, moments_of, reply_read}

-- COUNTS BY WORKER

pub never : (b : Bool) → (b && false) ≡ false
never true = refl
never false = refl

pub always : (b : Bool) → (b && true) ≡ b
always true = refl
always false = refl

-- how many acts of a worker pass a test
unfoldable pub made_by : (Act → Bool) → ℕ → List Entry → ℕ
made_by f w [] = 0
made_by f w (x ∷ past) = cond (f x.act && (x.worker == w)) 1 0 + made_by f w past

-- an entry does not add to the acts of other workers
pub made_by_other : (f : Act → Bool) (w : ℕ) (x : Entry) (past : List Entry) → (x.worker == w) ≡ false → made_by f w (x ∷ past) ≡ made_by f w past
unfolding made_by
made_by_other f w x past h = ap (λ b. cond (f x.act && b) 1 0 + made_by f w past) h ∙ ap (λ b. cond b 1 0 + made_by f w past) (never (f x.act)) ∙ zero-add (made_by f w past)

-- an entry adds its act to those of its worker, if it passes the test
pub made_by_own : (f : Act → Bool) (x : Entry) (past : List Entry) → made_by f x.worker (x ∷ past) ≡ cond (f x.act) 1 0 + made_by f x.worker past
unfolding made_by
made_by_own f x past = ap (λ b. cond (f x.act && b) 1 0 + made_by f x.worker past) (eq-eqb x.worker x.worker refl) ∙ ap (λ b. cond b 1 0 + made_by f x.worker past) (always (f x.act))

-- the acts in all that pass a test
unfoldable made : (Act → Bool) → List Entry → ℕ
made f [] = 0
made f (x ∷ past) = cond (f x.act) 1 0 + made f past

made_is : (f : Act → Bool) (t : Tables) (past : List Entry) → IsAccepted t past → sum_to (λ w. made_by f w past) t.workers ≡ made f past
unfolding made made_by
made_is f t [] acc = zeros t.workers
made_is f t (x ∷ past) acc =
    raised_sum (f x.act) (Some x.worker) t.workers (λ w. made_by f w past)
    (λ e. (x.worker, refl, leb-false t.workers x.worker (allowed t past x.worker x.act x.reply acc.0).0.declared))
    ∙ ap (λ n. cond (f x.act) 1 0 + n) (made_is f t past acc.1)

total_made : (e : ℕ) (past : List Entry) → made (is_advance e) past ≡ total e past
unfolding made total
total_made e [] = refl
total_made e (x ∷ past) = ap (λ n. cond (is_advance e x.act) 1 0 + n) (total_made e past)

issued_made : (q : ℕ) (past : List Entry) → made (is_ticket q) past ≡ issued q past
unfolding made issued
issued_made q [] = refl
issued_made q (x ∷ past) = ap (λ n. cond (is_ticket q x.act) 1 0 + n) (issued_made q past)

-- the advances of the workers add up to the total
pub total_by : (t : Tables) (e : ℕ) (past : List Entry) → IsAccepted t past → sum_to (λ w. made_by (is_advance e) w past) t.workers ≡ total e past
total_by t e past acc = made_is (is_advance e) t past acc ∙ total_made e past

-- the tickets of the workers add up to those that were drawn
pub issued_by : (t : Tables) (q : ℕ) (past : List Entry) → IsAccepted t past → sum_to (λ w. made_by (is_ticket q) w past) t.workers ≡ issued q past
issued_by t q past acc = made_is (is_ticket q) t past acc ∙ issued_made q past

-- if no number is greater than the other with its index, neither is the sum
pub sum_least : (n : ℕ) (f g : ℕ → ℕ) → ((c : ℕ) → f c ≤ g c) → sum_to f n ≤ sum_to g n
unfolding sum_to
sum_least zero f g h = omega arith
sum_least (suc n) f g h = (let here : f n ≤ g n = h n in let rest : sum_to f n ≤ sum_to g n = sum_least n f g h in omega arith)

-- if no number is greater than the other with its index, and one is less, so is the sum
pub sum_less : (n : ℕ) (f g : ℕ → ℕ) (w : ℕ) → ((c : ℕ) → f c ≤ g c) → w < n → f w < g w → sum_to f n < sum_to g n
unfolding sum_to
sum_less zero f g w h lt less = absurd (omega arith)
sum_less (suc n) f g w h lt less =
    elim (n == w) as (λ b. (n == w) ≡ b → f n + sum_to f n < g n + sum_to g n) [
      | true ↦ λ e.
          (let P : ℕ → Type 0 = λ k. f k < g k in
          let here : f n < g n = subst P (sym (eqb-true n w e)) less in
          let rest : sum_to f n ≤ sum_to g n = sum_least n f g h in omega arith)
      | false ↦ λ e.
          (let other : n ≢ w = eqb-false n w e in
          let here : f n ≤ g n = h n in
          let rest : sum_to f n < sum_to g n = sum_less n f g w h (omega arith) less in omega arith)
    ] refl

-- WHERE A CALL BEGAN

-- the oldest of the moments
abbrev pub oldest : List Entry → List (List Entry) → List Entry
oldest p [] = p
oldest p (q ∷ ps) = oldest q ps

-- the reversed history before the invocation of the call that an entry is part of
abbrev pub began : Entry → List Entry → List Entry
began x past = oldest past (moments_of x.act (under_way x.worker past))

oldest_past : (p : List Entry) (ps : List (List Entry)) → EachIsPastOf ps p → IsStacked ps → IsPastOf (oldest p ps) p × IsPastOfEach (oldest p ps) ps
oldest_past p [] h n = (record { since = []; is = refl }, tt)
oldest_past p (q ∷ ps) h n =
    (let k = oldest_past q ps n.0 n.1 in
    (past_of_past (oldest q ps) q p k.0 h.0, (k.0, k.1)))

moments_stacked : (act : Act) (o : Option CallSoFar) → IsCallStacked o → IsStacked (moments_of act o)
moments_stacked Go None h = tt
moments_stacked Go (Some call) h = h
moments_stacked (Advance e) o h = tt
moments_stacked (Read e) o h = tt
moments_stacked (Await e v) o h = tt
moments_stacked (Ticket q) o h = tt
moments_stacked (Put y v) o h = tt
moments_stacked (Get y) o h = tt
moments_stacked (Hand e f) o h = tt

-- an entry's call began no later than each entry of the call so far
pub began_past : (x : Entry) (past : List Entry) → IsPastOf (began x past) past × IsPastOfEach (began x past) (moments_of x.act (under_way x.worker past))
began_past x past = oldest_past past (moments_of x.act (under_way x.worker past)) (moments_before x.act (under_way x.worker past) past (call_before x.worker past)) (moments_stacked x.act (under_way x.worker past) (call_stacked x.worker past))

abbrev IsBegunAt : Rule → ℕ → List Entry → List (List Entry) → Type 0
IsBegunAt r w now [] = ⊥
IsBegunAt r w now (p ∷ ps) = block r w (oldest p ps) ≡ block r w now

abbrev IsBegun : Rule → ℕ → List Entry → Option CallSoFar → Type 0
IsBegun r w now None = Unit {0}
IsBegun r w now (Some call) = IsBegunAt r w now call.moments

begun_at_later : (r : Rule) (w : ℕ) (past now : List Entry) (ps : List (List Entry)) → block r w now ≡ block r w past → IsBegunAt r w past ps → IsBegunAt r w now ps
begun_at_later r w past now [] e h = h
begun_at_later r w past now (p ∷ ps) e h = h ∙ sym e

begun_on : (r : Rule) (w : ℕ) (past now : List Entry) (ps : List (List Entry)) → block r w now ≡ block r w past → IsBegunAt r w past ps → IsBegunAt r w now (past ∷ ps)
begun_on r w past now [] e h = absurd h
begun_on r w past now (p ∷ ps) e h = h ∙ sym e

began_moments : (r : Rule) (w : ℕ) (past : List Entry) (ps : List (List Entry)) → IsBegunAt r w past ps → block r w (oldest past ps) ≡ block r w past
began_moments r w past [] h = refl
began_moments r w past (p ∷ ps) h = h

pending_block : (r : Rule) (w : ℕ) (x : Entry) (past : List Entry) → (x.worker == w) ≡ true → is_pending x.reply ≡ true → block r w (x ∷ past) ≡ block r w past
unfolding block
pending_block r w x past h p = rw h (pending_after r (block r w past) (opening_act x.act (under_way w past)) x.reply p)

begun_later : (r : Rule) (w : ℕ) (past now : List Entry) (o : Option CallSoFar) → block r w now ≡ block r w past → IsBegun r w past o → IsBegun r w now o
begun_later r w past now None e h = tt
begun_later r w past now (Some call) e h = begun_at_later r w past now call.moments e h

begun_after : (r : Rule) (w : ℕ) (act : Act) (past now : List Entry) (o : Option CallSoFar) → block r w now ≡ block r w past → IsBegun r w past o → IsBegun r w now (call_with_act act past o)
begun_after r w Go past now None e h = tt
begun_after r w Go past now (Some call) e h = begun_on r w past now call.moments e h
begun_after r w (Advance f) past now o e h = sym e
begun_after r w (Read f) past now o e h = sym e
begun_after r w (Await f v) past now o e h = sym e
begun_after r w (Ticket q) past now o e h = sym e
begun_after r w (Put y v) past now o e h = sym e
begun_after r w (Get y) past now o e h = sym e
begun_after r w (Hand f g) past now o e h = sym e

-- a worker's current list is the one that it was in when its pending call began
begun : (r : Rule) (w : ℕ) (past : List Entry) → IsBegun r w past (under_way w past)
unfolding under_way
begun r w [] = tt
begun r w (x ∷ past) =
    elim (x.worker == w) as (λ b. (x.worker == w) ≡ b → IsBegun r w (x ∷ past) (cond b (cond (is_pending x.reply) (call_with_act x.act past (under_way w past)) None) (under_way w past))) [
      | true ↦ λ h.
          (elim (is_pending x.reply) as (λ p. is_pending x.reply ≡ p → IsBegun r w (x ∷ past) (cond p (call_with_act x.act past (under_way w past)) None)) [
            | true ↦ λ k. begun_after r w x.act past (x ∷ past) (under_way w past) (pending_block r w x past h k) (begun r w past)
            | false ↦ λ k. tt
          ] refl)
      | false ↦ λ h. begun_later r w past (x ∷ past) (under_way w past) (other_block r w x past h) (begun r w past)
    ] refl

began_of : (r : Rule) (w : ℕ) (act : Act) (past : List Entry) (o : Option CallSoFar) → IsBegun r w past o → block r w (oldest past (moments_of act o)) ≡ block r w past
began_of r w Go past None h = refl
began_of r w Go past (Some call) h = began_moments r w past call.moments h
began_of r w (Advance f) past o h = refl
began_of r w (Read f) past o h = refl
began_of r w (Await f v) past o h = refl
began_of r w (Ticket q) past o h = refl
began_of r w (Put y v) past o h = refl
began_of r w (Get y) past o h = refl
began_of r w (Hand e f) past o h = refl

-- the list of an entry's worker is the one that it was in when the entry's call began
pub began_block : (r : Rule) (x : Entry) (past : List Entry) → block r x.worker (began x past) ≡ block r x.worker past
began_block r x past = began_of r x.worker x.act past (under_way x.worker past) (begun r x.worker past)

-- WHAT A READ RETURNS

abbrev IsShort : Tables → Act → List (List Entry) → Type 0
IsShort t (Read e) moments = length moments < component_count t e
IsShort t _ moments = Unit {0}

abbrev IsShortCall : Tables → Option CallSoFar → Type 0
IsShortCall t None = Unit {0}
IsShortCall t (Some call) = IsShort t call.op call.moments

-- a pending read has not yet read each component
short_next : (t : Tables) (e : ℕ) (past : List Entry) (moments : List (List Entry)) → length moments < component_count t e → read_reply t (Read e) past moments ≡ Pending → suc (length moments) < component_count t e
unfolding read_reply
short_next t e past moments lt =
    let c = next_component t e moments in
    elim (nat_le (component_count t e) (c + 1)) as (λ b. nat_le (component_count t e) (c + 1) ≡ b → cond b (round_reply (Read e) (sum_read t e (suc c) (past ∷ moments))) Pending ≡ Pending → suc (length moments) < component_count t e) [
      | true ↦ λ h p. cc
      | false ↦ λ h p. (let at : c ≡ length moments = mod-eq_of_lt lt in let k : c + 1 < component_count t e = leb-false (component_count t e) (c + 1) h in omega arith)
    ] refl

short_op : (t : Tables) (op : Act) (past : List Entry) (moments : List (List Entry)) → IsShort t op moments → read_reply t op past moments ≡ Pending → IsShort t op (past ∷ moments)
short_op t (Read e) past moments h p = short_next t e past moments h p
short_op t (Advance e) past moments h p = tt
short_op t (Await e v) past moments h p = tt
short_op t Go past moments h p = tt
short_op t (Ticket q) past moments h p = tt
short_op t (Put y v) past moments h p = tt
short_op t (Get y) past moments h p = tt
short_op t (Hand e f) past moments h p = tt

short_gone : (t : Tables) (past : List Entry) (w : ℕ) (act : Act) (o : Option CallSoFar) → IsDeclared t → under_way w past ≡ o → names_unknown_object t act ≡ false → IsReadingCall t o → IsShortCall t o
    → reply_of t past w act ≡ Pending → IsShortCall t (call_with_act act past o)
short_gone t past w Go None d e known r h p = tt
short_gone t past w Go (Some call) d e known r h p = short_op t call.op past call.moments h (sym (reply_read t past w Go (Some call) e r) ∙ p)
short_gone t past w (Read f) o d e known r h p = short_next t f past [] (width_some t f d (leb-false (length t.events) f known)) p
short_gone t past w (Await f v) o d e known r h p = tt
short_gone t past w (Advance f) o d e known r h p = tt
short_gone t past w (Ticket q) o d e known r h p = tt
short_gone t past w (Put y v) o d e known r h p = tt
short_gone t past w (Get y) o d e known r h p = tt
short_gone t past w (Hand f g) o d e known r h p = tt

short : (t : Tables) (w : ℕ) (past : List Entry) → IsDeclared t → IsAccepted t past → IsShortCall t (under_way w past)
unfolding under_way
short t w [] d acc = tt
short t w (x ∷ past) d acc =
    elim (x.worker == w) as (λ b. (x.worker == w) ≡ b → IsShortCall t (cond b (cond (is_pending x.reply) (call_with_act x.act past (under_way w past)) None) (under_way w past))) [
      | true ↦ λ h.
          (elim (is_pending x.reply) as (λ p. is_pending x.reply ≡ p → IsShortCall t (cond p (call_with_act x.act past (under_way w past)) None)) [
            | true ↦ λ k.
                (let P : ℕ → Type 0 = λ v. answer_of t past v x.act ≡ Ok x.reply in
                let a = allowed t past w x.act x.reply (subst P (eqb-true x.worker w h) acc.0) in
                short_gone t past w x.act (under_way w past) d refl a.0.known (call_reads t past w acc.1) (short t w past d acc.1) (a.1 ∙ pending_is x.reply k))
            | false ↦ λ k. tt
          ] refl)
      | false ↦ λ h. short t w past d acc.1
    ] refl

short_now : (t : Tables) (act : Act) (o : Option CallSoFar) → IsDeclared t → names_unknown_object t act ≡ false → IsShortCall t o → IsShort t (opening_act act o) (moments_of act o)
short_now t Go None d k h = tt
short_now t Go (Some call) d k h = h
short_now t (Read e) o d k h = width_some t e d (leb-false (length t.events) e k)
short_now t (Await e v) o d k h = tt
short_now t (Advance e) o d k h = tt
short_now t (Ticket q) o d k h = tt
short_now t (Put y v) o d k h = tt
short_now t (Get y) o d k h = tt
short_now t (Hand e f) o d k h = tt

is_reading : (t : Tables) (act op : Act) (e : ℕ) → (act ≡ op) ⊎ (IsReading t op × (act ≡ Go)) → op ≡ Read e → names_unknown_object t act ≡ false → IsReading t op
is_reading t act op e (inr k) is known = k.0
is_reading t act op e (inl same) is known =
    (let P : Act → Type 0 = λ a. names_unknown_object t a ≡ false in
    let Q : Act → Type 0 = λ a. IsReading t a in
    let at : names_unknown_object t (Read e) ≡ false = subst P (same ∙ is) known in
    subst Q (sym is) (leb-false (length t.events) e at))

-- the number that ends a read is at least the total if the read began
read_low_at : (t : Tables) (e : ℕ) (early past : List Entry) (moments : List (List Entry)) (s : ℕ) → IsAccepted t past → length moments < component_count t e
    → IsPastOf early past → IsPastOfEach early moments → EachIsPastOf moments past → read_reply t (Read e) past moments ≡ Number s → total e early ≤ s
unfolding read_reply
read_low_at t e early past moments s acc lt before each pasts =
    let c = next_component t e moments in
    elim (nat_le (component_count t e) (c + 1)) as (λ b. nat_le (component_count t e) (c + 1) ≡ b → cond b (round_reply (Read e) (sum_read t e (suc c) (past ∷ moments))) Pending ≡ Number s → total e early ≤ s) [
      | true ↦ λ h p.
          (let at : c ≡ length moments = mod-eq_of_lt lt in
          let le : component_count t e ≤ c + 1 = leb-true (component_count t e) (c + 1) h in
          let whole : suc c ≡ component_count t e = omega arith in
          let same : sum_read t e (suc c) (past ∷ moments) ≡ s = cc in
          let P : List Entry → Type 0 = λ z. IsAccepted t z in
          let acc' : IsAccepted t early = accepted_before t before.since early (subst P before.is acc) in
          let low : total e early ≤ sum_read t e (component_count t e) (past ∷ moments) =
          (round_between t e early past (past ∷ moments) acc' acc (omega arith) (before, each) (record { since = []; is = refl }, pasts)).0 in
          let is : sum_read t e (component_count t e) (past ∷ moments) ≡ s = ap (λ n. sum_read t e n (past ∷ moments)) (sym whole) ∙ same in
          omega arith)
      | false ↦ λ h p. cc
    ] refl

-- a read returns at least the total at the moment at which it began
pub read_low : (t : Tables) (x : Entry) (past : List Entry) (e s : ℕ) → IsDeclared t → IsAccepted t (x ∷ past) → op_at x past ≡ Read e → x.reply ≡ Number s → total e (began x past) ≤ s
read_low t x past e s d acc op returned =
    let k = allowed t past x.worker x.act x.reply acc.0 in
    let o = under_way x.worker past in
    let moments = moments_of x.act o in
    let P : Act → Type 0 = λ a. IsShort t a moments in
    let few : length moments < component_count t e = subst P op (short_now t x.act o d k.0.known (short t x.worker past d acc.1)) in
    let Q : Act → Type 0 = λ a. IsReading t a in
    let reading : IsReading t (op_at x past) = is_reading t x.act (op_at x past) e (opened_is t x.act o k.0.going (call_reads t past x.worker acc.1)) op k.0.known in
    let reply : read_reply t (Read e) past moments ≡ Number s = ap (λ a. read_reply t a past moments) (sym op) ∙ sym (reply_read t past x.worker x.act o refl reading) ∙ k.1 ∙ returned in
    let b = began_past x past in
    read_low_at t e (began x past) past moments s acc.1 few b.0 b.1 (moments_before x.act o past (call_before x.worker past)) reply
