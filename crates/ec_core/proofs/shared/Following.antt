-- Steps of workers that conform to their lists.
use Rattle.std.proofs.Common.{◌≡◌, ℕ, suc, ◌+◌, ◌<◌, ◌≤◌, Bool, true, false, not, ◌&&◌, ◌||◌, List, [], ◌∷◌, ◌++◌, length, Option, Some, None, is_some, nat_le, unwrap_or, refl, ap, sym, ◌∙◌, arith, subst, cond, ◌==◌, ◌⊎◌, inl, inr}
use Rattle.std.proofs.lemmas.Bool.{eqb-true, eq-eqb, and_parts, leb-true, leb-false}
use Rattle.std.proofs.lemmas.Nat.{mod_below}
use Rattle.ec_count.specs.Tables.{Tables, IsDeclared}
use Rattle.ec_core.specs.declared.act.Act.{Act}
use Rattle.ec_core.specs.declared.act.Act.TheVariants.{Advance, Read, Await, Go, Ticket, Put, Get, Hand}
use Rattle.ec_core.specs.declared.act.Reply.{Reply}
use Rattle.ec_core.specs.declared.act.Reply.TheVariants.{Done, Number, Pending}
use Rattle.ec_core.specs.declared.act.Entry.{Entry}
use Rattle.ec_core.specs.Counts.{total, component_total, issued, cell_value, sum_to, is_advance, is_ticket, put_in}
use Rattle.ec_core.specs.Calls.{CallSoFar, under_way, call_with_act, is_pending, is_go}
use Rattle.ec_core.specs.Rounds.{event_or, component_count, sum_read, next_component, round_reply, read_reply, go_reply, EachIsPastOf}
use Rattle.ec_core.specs.Acceptance.{reply_of, names_unknown_object, IsAccepted}
use Rattle.ec_core.specs.Following.{CompletedCall, Rule, opening_act, block_after, block, is_right, Follow}
use Rattle.ec_core.specs.CallLists.{is_act, without_value}
use Rattle.ec_core.proofs.shared.Answering.{allowed, call_reads, IsReading, IsReadingCall, reading_event, width_some}
use Rattle.ec_core.proofs.shared.Totals.{total_is, sum_high}
use Rattle.ec_core.proofs.shared.Pasts.{IsCallBefore, call_before, past_itself}

-- BLOCKS

-- an entry leaves the lists of other workers as they are
pub other_block : (r : Rule) (w : ℕ) (x : Entry) (past : List Entry) → (x.worker == w) ≡ false → block r w (x ∷ past) ≡ block r w past
unfolding block
other_block r w x past h = rw h refl

-- an entry extends its worker's list, by the act that began its call and its reply
pub own_block : (r : Rule) (x : Entry) (past : List Entry)
    → block r x.worker (x ∷ past) ≡ block_after r (block r x.worker past) (opening_act x.act (under_way x.worker past)) x.reply
unfolding block
own_block r x past = rw (eq-eqb x.worker x.worker refl) refl

-- a call that stays pending leaves the list as it is
pub pending_after : (r : Rule) (b : List CompletedCall) (op : Act) (reply : Reply) → is_pending reply ≡ true → block_after r b op reply ≡ b
pending_after r b op Pending h = refl
pending_after r b op Done h = cc
pending_after r b op (Number n) h = cc

-- an entry with the reply Pending leaves the lists of all workers as they are
pub block_pending : (r : Rule) (w : ℕ) (x : Entry) (past : List Entry) → is_pending x.reply ≡ true → block r w (x ∷ past) ≡ block r w past
unfolding block
block_pending r w x past h =
    elim (x.worker == w) as (λ b. cond b (block_after r (block r w past) (opening_act x.act (under_way w past)) x.reply) (block r w past) ≡ block r w past) [
      | true ↦ pending_after r (block r w past) (opening_act x.act (under_way w past)) x.reply h
      | false ↦ refl
    ]

-- THE ACT THAT BEGAN A CALL

pub opened_is : (t : Tables) (act : Act) (o : Option CallSoFar) → (not (is_some o) && is_go act) ≡ false → IsReadingCall t o
    → (act ≡ opening_act act o) ⊎ (IsReading t (opening_act act o) × (act ≡ Go))
opened_is t Go None h r = cc
opened_is t Go (Some call) h r = inr (r, refl)
opened_is t (Advance e) o h r = inl refl
opened_is t (Read e) o h r = inl refl
opened_is t (Await e v) o h r = inl refl
opened_is t (Ticket q) o h r = inl refl
opened_is t (Put x v) o h r = inl refl
opened_is t (Get x) o h r = inl refl
opened_is t (Hand e f) o h r = inl refl

-- what is the same for a go and all reads and awaits is the same for an act and the act that began its call
pub same_test : {T : Type 0} (f : Act → T) (y : T) (t : Tables) (act op : Act) → (f Go ≡ y) → ((e : ℕ) → f (Read e) ≡ y) → ((e v : ℕ) → f (Await e v) ≡ y)
    → (act ≡ op) ⊎ (IsReading t op × (act ≡ Go)) → f act ≡ f op
same_test f y t act op go read await (inl same) = ap f same
same_test f y t act (Read e) go read await (inr k) = ap f k.1 ∙ go ∙ sym (read e)
same_test f y t act (Await e v) go read await (inr k) = ap f k.1 ∙ go ∙ sym (await e v)
same_test f y t act (Advance e) go read await (inr k) = absurd k.0
same_test f y t act Go go read await (inr k) = absurd k.0
same_test f y t act (Ticket q) go read await (inr k) = absurd k.0
same_test f y t act (Put x v) go read await (inr k) = absurd k.0
same_test f y t act (Get x) go read await (inr k) = absurd k.0
same_test f y t act (Hand e g) go read await (inr k) = absurd k.0

-- REPLIES TO A CALL

read_ends : (t : Tables) (op : Act) (past : List Entry) (moments : List (List Entry)) → IsAccepted t past → 0 < component_count t (event_or op) → EachIsPastOf moments past
    → (read_reply t op past moments ≡ Pending) ⊎ ((s : ℕ) × (s ≤ total (event_or op) past) × (read_reply t op past moments ≡ round_reply op s))
unfolding read_reply
read_ends t op past moments acc some pasts =
    let e = event_or op in
    let c = next_component t e moments in
    elim (nat_le (component_count t e) (c + 1)) as (λ b. nat_le (component_count t e) (c + 1) ≡ b
    → (cond b (round_reply op (sum_read t e (suc c) (past ∷ moments))) Pending ≡ Pending)
    ⊎ ((s : ℕ) × (s ≤ total e past) × (cond b (round_reply op (sum_read t e (suc c) (past ∷ moments))) Pending ≡ round_reply op s))) [
      | true ↦ λ h.
          (let le : component_count t e ≤ c + 1 = leb-true (component_count t e) (c + 1) h in
          let lt : c < component_count t e =
          mod_below (length moments) (component_count t e) some in
          let whole : suc c ≡ component_count t e = omega arith in
          let below : sum_read t e (suc c) (past ∷ moments) ≤ sum_to (λ i. component_total t e i past) (suc c) = sum_high t e (suc c) past (past ∷ moments) (past_itself past, pasts) in
          let all : sum_to (λ i. component_total t e i past) (suc c) ≡ total e past = ap (sum_to (λ i. component_total t e i past)) whole ∙ total_is t e past acc in
          inr (sum_read t e (suc c) (past ∷ moments), (let k : sum_read t e (suc c) (past ∷ moments) ≤ total e past = omega arith in k), refl))
      | false ↦ λ h. inl refl
    ] refl

-- the moments of the earlier entries of the call that an act is part of
abbrev pub moments_of : Act → Option CallSoFar → List (List Entry)
moments_of Go None = []
moments_of Go (Some call) = call.moments
moments_of act o = []

pub moments_before : (act : Act) (o : Option CallSoFar) (past : List Entry) → IsCallBefore o past → EachIsPastOf (moments_of act o) past
moments_before Go None past h = tt
moments_before Go (Some call) past h = h
moments_before (Advance e) o past h = tt
moments_before (Read e) o past h = tt
moments_before (Await e v) o past h = tt
moments_before (Ticket q) o past h = tt
moments_before (Put y v) o past h = tt
moments_before (Get y) o past h = tt
moments_before (Hand e f) o past h = tt

pub reply_read : (t : Tables) (past : List Entry) (w : ℕ) (act : Act) (o : Option CallSoFar) → under_way w past ≡ o → IsReading t (opening_act act o)
    → reply_of t past w act ≡ read_reply t (opening_act act o) past (moments_of act o)
reply_read t past w Go None e r = absurd r
reply_read t past w Go (Some call) e r = ap (go_reply t past) e
reply_read t past w (Read f) o e r = refl
reply_read t past w (Await f v) o e r = refl
reply_read t past w (Advance f) o e r = absurd r
reply_read t past w (Ticket q) o e r = absurd r
reply_read t past w (Put y v) o e r = absurd r
reply_read t past w (Get y) o e r = absurd r
reply_read t past w (Hand f g) o e r = absurd r

-- what the reply to an entry says, by the act that began its call
abbrev pub IsReplyTo : Tables → List Entry → Act → Reply → Type 0
IsReplyTo t past (Advance e) reply = reply ≡ Done
IsReplyTo t past (Read e) reply = (reply ≡ Pending) ⊎ ((s : ℕ) × (s ≤ total e past) × (reply ≡ Number s))
IsReplyTo t past (Await e v) reply = (reply ≡ Pending) ⊎ ((s : ℕ) × (v ≤ s) × (s ≤ total e past) × (reply ≡ Number s))
IsReplyTo t past Go reply = ⊥
IsReplyTo t past (Ticket q) reply = reply ≡ Number (issued q past)
IsReplyTo t past (Put x v) reply = reply ≡ Done
IsReplyTo t past (Get x) reply = reply ≡ Number (cell_value x past)
IsReplyTo t past (Hand e b) reply = reply ≡ Done

told_read : (t : Tables) (past : List Entry) (op : Act) (reply : Reply) → IsReading t op
    → (reply ≡ Pending) ⊎ ((s : ℕ) × (s ≤ total (event_or op) past) × (reply ≡ round_reply op s)) → IsReplyTo t past op reply
told_read t past (Read e) reply r h = h
told_read t past (Await e v) reply r (inl h) = inl h
told_read t past (Await e v) reply r (inr k) =
    elim (nat_le v k.0) as (λ b. nat_le v k.0 ≡ b → reply ≡ cond b (Number k.0) Pending → (reply ≡ Pending) ⊎ ((s : ℕ) × (v ≤ s) × (s ≤ total e past) × (reply ≡ Number s))) [
      | true ↦ λ q g. inr (k.0, leb-true v k.0 q, k.1, g)
      | false ↦ λ q g. inl g
    ] refl k.2
told_read t past (Advance e) reply r h = absurd r
told_read t past Go reply r h = absurd r
told_read t past (Ticket q) reply r h = absurd r
told_read t past (Put x v) reply r h = absurd r
told_read t past (Get x) reply r h = absurd r
told_read t past (Hand e b) reply r h = absurd r

pub reading_told : (t : Tables) (past : List Entry) (w : ℕ) (act : Act) (o : Option CallSoFar) (reply : Reply) → IsDeclared t → IsAccepted t past → IsCallBefore o past → under_way w past ≡ o
    → reply_of t past w act ≡ reply → IsReading t (opening_act act o) → IsReplyTo t past (opening_act act o) reply
reading_told t past w act o reply d acc before e h r =
    let known : event_or (opening_act act o) < length t.events =
    reading_event t (opening_act act o) r in
    let is : reply ≡ read_reply t (opening_act act o) past (moments_of act o) = sym h ∙ reply_read t past w act o e r in
    let P : Reply → Type 0 = λ p. (p ≡ Pending) ⊎ ((s : ℕ) × (s ≤ total (event_or (opening_act act o)) past) × (p ≡ round_reply (opening_act act o) s)) in
    told_read t past (opening_act act o) reply r
    (subst P (sym is) (read_ends t (opening_act act o) past (moments_of act o) acc (width_some t (event_or (opening_act act o)) d known) (moments_before act o past before)))

told_any : (t : Tables) (past : List Entry) (w : ℕ) (act : Act) (o : Option CallSoFar) (reply : Reply) → IsDeclared t → IsAccepted t past → IsCallBefore o past → under_way w past ≡ o
    → reply_of t past w act ≡ reply → names_unknown_object t act ≡ false → (not (is_some o) && is_go act) ≡ false → IsReadingCall t o → IsReplyTo t past (opening_act act o) reply
told_any t past w Go None reply d acc b e h known going r = cc
told_any t past w Go (Some call) reply d acc b e h known going r = reading_told t past w Go (Some call) reply d acc b e h r
told_any t past w (Read f) o reply d acc b e h known going r = reading_told t past w (Read f) o reply d acc b e h (leb-false (length t.events) f known)
told_any t past w (Await f v) o reply d acc b e h known going r = reading_told t past w (Await f v) o reply d acc b e h (leb-false (length t.events) f known)
told_any t past w (Advance f) o reply d acc b e h known going r = sym h
told_any t past w (Ticket q) o reply d acc b e h known going r = sym h
told_any t past w (Put x v) o reply d acc b e h known going r = sym h
told_any t past w (Get x) o reply d acc b e h known going r = sym h
told_any t past w (Hand f g) o reply d acc b e h known going r = sym h

-- the act that began the call of an entry
abbrev pub op_at : Entry → List Entry → Act
op_at x past = opening_act x.act (under_way x.worker past)

-- the reply of each entry of an accepted history is one that the act that began its call may get
pub step_told : (t : Tables) (x : Entry) (past : List Entry) → IsDeclared t → IsAccepted t (x ∷ past) → IsReplyTo t past (op_at x past) x.reply
step_told t x past d acc =
    let k = allowed t past x.worker x.act x.reply acc.0 in
    told_any t past x.worker x.act (under_way x.worker past) x.reply d acc.1 (call_before x.worker past) refl k.1 k.0.known k.0.going (call_reads t past x.worker acc.1)

-- each entry of an accepted history is the act that began its call, or a go of a read or an await
pub step_opened : (t : Tables) (x : Entry) (past : List Entry) → IsAccepted t (x ∷ past) → (x.act ≡ op_at x past) ⊎ (IsReading t (op_at x past) × (x.act ≡ Go))
step_opened t x past acc =
    let k = allowed t past x.worker x.act x.reply acc.0 in
    opened_is t x.act (under_way x.worker past) k.0.going (call_reads t past x.worker acc.1)

-- COUNTS, BY THE ACT THAT BEGAN THE CALL

-- an entry of an accepted history adds to a total what the act that began its call adds
pub total_step : (t : Tables) (e : ℕ) (x : Entry) (past : List Entry) → IsAccepted t (x ∷ past) → total e (x ∷ past) ≡ cond (is_advance e (op_at x past)) 1 0 + total e past
unfolding total
total_step t e x past acc = ap (λ b. cond b 1 0 + total e past) (same_test (is_advance e) false t x.act (op_at x past) refl (λ f. refl) (λ f v. refl) (step_opened t x past acc))

-- an entry of an accepted history draws the ticket that the act that began its call draws, and no other
pub issued_step : (t : Tables) (q : ℕ) (x : Entry) (past : List Entry) → IsAccepted t (x ∷ past) → issued q (x ∷ past) ≡ cond (is_ticket q (op_at x past)) 1 0 + issued q past
unfolding issued
issued_step t q x past acc = ap (λ b. cond b 1 0 + issued q past) (same_test (is_ticket q) false t x.act (op_at x past) refl (λ f. refl) (λ f v. refl) (step_opened t x past acc))

-- an entry of an accepted history puts into a cell what the act that began its call puts, and nothing else
pub cell_step : (t : Tables) (y : ℕ) (x : Entry) (past : List Entry) → IsAccepted t (x ∷ past) → cell_value y (x ∷ past) ≡ unwrap_or (put_in y (op_at x past)) (cell_value y past)
unfolding cell_value
cell_step t y x past acc = ap (λ o. unwrap_or o (cell_value y past)) (same_test (put_in y) None t x.act (op_at x past) refl (λ f. refl) (λ f v. refl) (step_opened t x past acc))

-- RIGHT ACTS

abbrev pub IsRightCall : Rule → List CompletedCall → Option CallSoFar → Type 0
IsRightCall r b None = Unit {0}
IsRightCall r b (Some call) = is_right r b call.op ≡ true

right_after : (r : Rule) (b : List CompletedCall) (act : Act) (past : List Entry) (reply : Reply) (o : Option CallSoFar) → is_right r b act ≡ true → IsRightCall r b o
    → IsRightCall r (block_after r b (opening_act act o) reply) (cond (is_pending reply) (call_with_act act past o) None)
right_after r b act past Done o h k = tt
right_after r b act past (Number n) o h k = tt
right_after r b Go past Pending None h k = tt
right_after r b Go past Pending (Some call) h k = k
right_after r b (Advance e) past Pending o h k = h
right_after r b (Read e) past Pending o h k = h
right_after r b (Await e v) past Pending o h k = h
right_after r b (Ticket q) past Pending o h k = h
right_after r b (Put x v) past Pending o h k = h
right_after r b (Get x) past Pending o h k = h
right_after r b (Hand e f) past Pending o h k = h

-- the pending call is right in the current list
pub right_call : (rules : ℕ → Rule) (past : List Entry) (w : ℕ) → Follow rules past → IsRightCall (rules w) (block (rules w) w past) (under_way w past)
unfolding under_way block
right_call rules [] w f = tt
right_call rules (x ∷ past) w f =
    elim (x.worker == w) as (λ b. (x.worker == w) ≡ b → IsRightCall (rules w)
    (cond b (block_after (rules w) (block (rules w) w past) (opening_act x.act (under_way w past)) x.reply) (block (rules w) w past))
    (cond b (cond (is_pending x.reply) (call_with_act x.act past (under_way w past)) None) (under_way w past))) [
      | true ↦ λ h.
          (let P : ℕ → Type 0 = λ v. is_right (rules v) (block (rules v) v past) x.act ≡ true in
          right_after (rules w) (block (rules w) w past) x.act past x.reply (under_way w past) (subst P (eqb-true x.worker w h) f.0) (right_call rules past w f.1))
      | false ↦ λ h. right_call rules past w f.1
    ] refl

right_op : (r : Rule) (b : List CompletedCall) (act : Act) (o : Option CallSoFar) → is_right r b act ≡ true → IsRightCall r b o → is_right r b (opening_act act o) ≡ true
right_op r b Go None h k = h
right_op r b Go (Some call) h k = k
right_op r b (Advance e) o h k = h
right_op r b (Read e) o h k = h
right_op r b (Await e v) o h k = h
right_op r b (Ticket q) o h k = h
right_op r b (Put x v) o h k = h
right_op r b (Get x) o h k = h
right_op r b (Hand e f) o h k = h

due_of : (c f : Bool) → (not c || f) ≡ true → (c ≡ false) ⊎ ((c ≡ true) × (f ≡ true))
due_of true f h = inr (refl, h)
due_of false f h = inl refl

due_act : (r : Rule) (b : List CompletedCall) (op : Act) → is_right r b op ≡ true → (op ≡ Go → ⊥) → (r.concerns b op ≡ false) ⊎ ((r.concerns b op ≡ true) × (r.fits b op ≡ true))
due_act r b Go h n = absurd (n refl)
due_act r b (Advance e) h n = due_of _ _ h
due_act r b (Read e) h n = due_of _ _ h
due_act r b (Await e v) h n = due_of _ _ h
due_act r b (Ticket q) h n = due_of _ _ h
due_act r b (Put x v) h n = due_of _ _ h
due_act r b (Get x) h n = due_of _ _ h
due_act r b (Hand e c) h n = due_of _ _ h

no_go : (t : Tables) (past : List Entry) (op : Act) (reply : Reply) → IsReplyTo t past op reply → op ≡ Go → ⊥
no_go t past Go reply h e = h
no_go t past (Advance f) reply h e = cc
no_go t past (Read f) reply h e = cc
no_go t past (Await f v) reply h e = cc
no_go t past (Ticket q) reply h e = cc
no_go t past (Put x v) reply h e = cc
no_go t past (Get x) reply h e = cc
no_go t past (Hand f g) reply h e = cc

-- the call of an entry does not concern its worker's list, or is next in it
pub step_due : (t : Tables) (rules : ℕ → Rule) (x : Entry) (past : List Entry) → IsDeclared t → IsAccepted t (x ∷ past) → Follow rules (x ∷ past)
    → let b = block (rules x.worker) x.worker past in
    ((rules x.worker).concerns b (op_at x past) ≡ false) ⊎ (((rules x.worker).concerns b (op_at x past) ≡ true) × ((rules x.worker).fits b (op_at x past) ≡ true))
step_due t rules x past d acc f =
    due_act (rules x.worker) (block (rules x.worker) x.worker past) (op_at x past)
    (right_op (rules x.worker) (block (rules x.worker) x.worker past) x.act (under_way x.worker past) f.0 (right_call rules past x.worker f.1))
    (no_go t past (op_at x past) x.reply (step_told t x past d acc))

-- TESTS OF ACTS

-- acts that the test finds to be one are the same
pub is_act-true : (a b : Act) → is_act a b ≡ true → a ≡ b
is_act-true (Advance e) (Advance f) h = ap Advance (eqb-true e f h)
is_act-true (Read e) (Read f) h = ap Read (eqb-true e f h)
is_act-true (Await e v) (Await f u) h =
    (let k = and_parts (e == f) (v == u) h in let p : e ≡ f = eqb-true e f k.0 in let q : v ≡ u = eqb-true v u k.1 in cc)
is_act-true Go Go h = refl
is_act-true (Ticket q) (Ticket r) h = ap Ticket (eqb-true q r h)
is_act-true (Put x v) (Put y u) h =
    (let k = and_parts (x == y) (v == u) h in let p : x ≡ y = eqb-true x y k.0 in let q : v ≡ u = eqb-true v u k.1 in cc)
is_act-true (Get x) (Get y) h = ap Get (eqb-true x y h)
is_act-true (Hand e b) (Hand f c) h =
    (let k = and_parts (e == f) (b == c) h in let p : e ≡ f = eqb-true e f k.0 in let q : b ≡ c = eqb-true b c k.1 in cc)
is_act-true _ _ h = cc

-- the test finds each act to be itself
pub is_act-same : (a : Act) → is_act a a ≡ true
is_act-same (Advance e) = eq-eqb e e refl
is_act-same (Read e) = eq-eqb e e refl
is_act-same (Await e v) = rw (eq-eqb e e refl, eq-eqb v v refl) refl
is_act-same Go = refl
is_act-same (Ticket q) = eq-eqb q q refl
is_act-same (Put x v) = rw (eq-eqb x x refl, eq-eqb v v refl) refl
is_act-same (Get x) = eq-eqb x x refl
is_act-same (Hand e b) = rw (eq-eqb e e refl, eq-eqb b b refl) refl

abbrev pub with_value : Act → ℕ → Act
with_value (Put x u) v = Put x v
with_value act v = act

value_of : Act → ℕ
value_of (Put x v) = v
value_of _ = 0

valued : (a : Act) → a ≡ with_value (without_value a) (value_of a)
unfolding value_of
valued (Advance e) = refl
valued (Read e) = refl
valued (Await e v) = refl
valued Go = refl
valued (Ticket q) = refl
valued (Put x v) = refl
valued (Get x) = refl
valued (Hand e f) = refl

-- the act is the one that is due, with some value
pub due_is : (due op : Act) → is_act due (without_value op) ≡ true → (v : ℕ)
    × (op ≡ with_value due v)
due_is due op h = (value_of op, valued op ∙ ap (λ a. with_value a (value_of op)) (sym (is_act-true due (without_value op) h)))

-- HOW A LIST GROWS

-- a completed call that the list has next extends it, or ends it
grown : (r : Rule) (calls : List CompletedCall) (op : Act) (reply : Reply) → r.concerns calls op ≡ true → is_pending reply ≡ false
    → block_after r calls op reply ≡ cond (r.ends (calls ++ record { op = op; reply = reply } ∷ [])) [] (calls ++ record { op = op; reply = reply } ∷ [])
grown r calls op Pending on h = cc
grown r calls op Done on h = rw on refl
grown r calls op (Number n) on h = rw on refl

-- a completed call that concerns its worker's list extends it, or begins it again if it is whole
pub after_told : (r : Rule) (x : Entry) (past : List Entry) (calls : List CompletedCall) (op : Act) → block r x.worker past ≡ calls → op_at x past ≡ op → r.concerns calls op ≡ true → is_pending x.reply ≡ false
    → block r x.worker (x ∷ past) ≡ cond (r.ends (calls ++ record { op = op; reply = x.reply } ∷ [])) [] (calls ++ record { op = op; reply = x.reply } ∷ [])
after_told r x past calls op at is on done =
    own_block r x past ∙ ap (λ z. block_after r z (op_at x past) x.reply) at ∙ ap (λ o. block_after r calls o x.reply) is ∙ grown r calls op x.reply on done

-- an entry with the reply Pending leaves its worker's list as it is
pub after_pending : (r : Rule) (x : Entry) (past : List Entry) → x.reply ≡ Pending → block r x.worker (x ∷ past) ≡ block r x.worker past
after_pending r x past e = own_block r x past ∙ ap (λ p. block_after r (block r x.worker past) (op_at x past) p) e

off_after : (r : Rule) (calls : List CompletedCall) (op : Act) (reply : Reply) → r.concerns calls op ≡ false → block_after r calls op reply ≡ calls
off_after r calls op Pending h = refl
off_after r calls op Done h = rw h refl
off_after r calls op (Number n) h = rw h refl

-- an entry whose call does not concern the list of its worker leaves it as it is
pub off_block : (r : Rule) (x : Entry) (past : List Entry) → r.concerns (block r x.worker past) (op_at x past) ≡ false → block r x.worker (x ∷ past) ≡ block r x.worker past
off_block r x past h = own_block r x past ∙ off_after r (block r x.worker past) (op_at x past) x.reply h
