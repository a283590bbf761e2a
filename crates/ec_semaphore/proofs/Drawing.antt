-- The pairs are those that a history draws, in the order of their first tickets.
use Rattle.std.proofs.Common.{◌≡◌, ◌≢◌, ℕ, zero, suc, ◌+◌, ◌<◌, ◌≤◌, Bool, true, false, not, ◌&&◌, ◌||◌, List, [], ◌∷◌, ◌++◌, length, Some, None, refl, ap, sym, ◌∙◌, arith, subst, cond, ◌==◌, nat_lt, ◌⊎◌, inl, inr, slice_get, reverse, length-append}
use Rattle.std.specs.Prelude.{option_to_list}
use Rattle.std.proofs.lemmas.Bool.{eqb-true, eqb-false, eq-eqb, ne_eqb, and_parts, or_parts, ltb-true, ltb-false}
use Rattle.std.proofs.lemmas.Option.{slice_get_cases, slice_get_within}
use Rattle.std.proofs.Math.Seq.{take-length}
use Rattle.ec_count.specs.Tables.{Tables, IsDeclared}
use Rattle.ec_core.specs.declared.act.Act.{Act}
use Rattle.ec_core.specs.declared.act.Act.TheVariants.{Advance, Await, Ticket}
use Rattle.ec_core.specs.declared.act.Reply.{Reply}
use Rattle.ec_core.specs.declared.act.Reply.TheVariants.{Done, Number}
use Rattle.ec_core.specs.declared.act.Entry.{Entry}
use Rattle.ec_core.specs.Counts.{past_at, issued}
use Rattle.ec_core.specs.Calls.{is_pending}
use Rattle.ec_core.specs.Acceptance.{IsAccepted}
use Rattle.ec_core.specs.Following.{CompletedCall, block, Follow}
use Rattle.ec_core.specs.CallLists.{is_act, reply_number}
use Rattle.ec_core.proofs.shared.Answering.{IsReading}
use Rattle.ec_core.proofs.shared.Joining.{get_front as get_old, get_back}
use Rattle.ec_core.proofs.shared.Breaks.{follow_of}
use Rattle.ec_core.proofs.shared.Moments.{past_next, past_end, moment_before, beginnings}
use Rattle.ec_core.proofs.shared.Queue.{QueuePosition, turn_is}
use Rattle.ec_core.proofs.shared.Following.{other_block, IsReplyTo, op_at, step_told, step_opened, step_due, is_act-true, after_told, after_pending, off_block}
use Rattle.ec_semaphore.specs.declared.pair.Pair.{Pair}
use Rattle.ec_semaphore.specs.Shapes.{Semaphore}
use Rattle.ec_semaphore.specs.Uses.{is_on}
use Rattle.ec_semaphore.specs.Both.{sequencer_number, is_begun, both_rule, both_rules}
use Rattle.ec_semaphore.specs.Pairs.{pair_after, pair_with, pairs_in}
use Rattle.ec_semaphore.specs.InOrder.{calls_at, ticket_entry, DrawsPair, ArePairs}
use Rattle.ec_semaphore.proofs.TicketOrder.{seat_of, pairs_at, no_pair, paired}
use Rattle.ec_semaphore.proofs.shared.Implying.{outside}
use Rattle.ec_core.proofs.shared.Stepping.{entry as entry_of}

-- ONE ENTRY

act_is : (t : Tables) (x : Entry) (past : List Entry) (q : ℕ) → IsAccepted t (x ∷ past) → op_at x past ≡ Ticket q → x.act ≡ Ticket q
act_is t x past q acc is =
    elim (step_opened t x past acc) [
      | inl same ↦ same ∙ is
      | inr k ↦ (let P : Act → Type 0 = λ a. IsReading t a in absurd (subst P is k.0))
    ]

ticket_is : (x : Entry) (q n : ℕ) → x.act ≡ Ticket q → x.reply ≡ Number n → x ≡ ticket_entry x.worker q n
ticket_is x q n act reply =
    let first : x ≡ entry_of x.worker (Ticket q) x.reply = ap (λ a. entry_of x.worker a x.reply) act in
    first ∙ ap (entry_of x.worker (Ticket q)) reply

-- the entry draws the first ticket of its worker's critical section
pub record DrawsFirst (c : Semaphore) (lines : ℕ → Bool) (x : Entry) (past : List Entry) (t r : CompletedCall) : Type 0 where
  pub wait : CompletedCall
  pub was : block (both_rule c lines) x.worker past ≡ t ∷ wait ∷ []
  pub is : x ≡ ticket_entry x.worker (sequencer_number r.op) (reply_number r.reply)

-- the entry draws the second
record DrawsSecond (c : Semaphore) (lines : ℕ → Bool) (x : Entry) (past : List Entry) : Type 0 where
  ticket : CompletedCall
  wait : CompletedCall
  first : CompletedCall
  line : ℕ
  number : ℕ
  was : block (both_rule c lines) x.worker past ≡ ticket ∷ wait ∷ first ∷ []
  is : x ≡ ticket_entry x.worker line number

-- a worker that has three calls of its critical section after an entry of its own drew the first
-- ticket by it
first_of : (c : Semaphore) (lines : ℕ → Bool) (t : Tables) (x : Entry) (past : List Entry) (calls : List CompletedCall) (u a r : CompletedCall) → IsAccepted t (x ∷ past)
    → block (both_rule c lines) x.worker past ≡ calls → (is_begun calls || is_on c (op_at x past)) ≡ true → (both_rule c lines).fits calls (op_at x past) ≡ true → IsReplyTo t past (op_at x past) x.reply
    → block (both_rule c lines) x.worker (x ∷ past) ≡ u ∷ a ∷ r ∷ [] → DrawsFirst c lines x past u r
first_of c lines t x past [] u a r acc at on due returned three =
    let P : Act → Type 0 = λ z. IsReplyTo t past z x.reply in
    let op : op_at x past ≡ Ticket c.line = sym (is_act-true (Ticket c.line) (op_at x past) (and_parts (is_act (Ticket c.line) (op_at x past)) true due).0) in
    let reply : x.reply ≡ Number (issued c.line past) = subst P op returned in
    let next = after_told (both_rule c lines) x past [] (op_at x past) at refl on (ap is_pending reply) in
    absurd (cc)
first_of c lines t x past (v ∷ []) u a r acc at on due returned three =
    let P : Act → Type 0 = λ z. IsReplyTo t past z x.reply in
    let op : op_at x past ≡ Await c.count (reply_number v.reply) = sym (is_act-true (Await c.count (reply_number v.reply)) (op_at x past) (and_parts (is_act (Await c.count (reply_number v.reply)) (op_at x past)) true due).0) in
    elim (subst P op returned) [
      | inl pending ↦ (let same = after_pending (both_rule c lines) x past pending ∙ at in absurd (cc))
      | inr k ↦ (let next = after_told (both_rule c lines) x past (v ∷ []) (op_at x past) at refl on (ap is_pending k.3) in absurd (cc))
    ]
first_of c lines t x past (v ∷ b ∷ []) u a r acc at on due returned three =
    let P : Act → Type 0 = λ z. IsReplyTo t past z x.reply in
    let q = sequencer_number (op_at x past) in
    let ok = and_parts (is_act (Ticket (sequencer_number (op_at x past))) (op_at x past)) (lines (sequencer_number (op_at x past))) due in
    let op : op_at x past ≡ Ticket (sequencer_number (op_at x past)) = sym (is_act-true (Ticket (sequencer_number (op_at x past))) (op_at x past) ok.0) in
    let reply : x.reply ≡ Number (issued (sequencer_number (op_at x past)) past) =
    subst P op returned in
    let n : CompletedCall = record { op = op_at x past; reply = x.reply } in
    let next : block (both_rule c lines) x.worker (x ∷ past) ≡ v ∷ b ∷ n ∷ [] = after_told (both_rule c lines) x past (v ∷ b ∷ []) (op_at x past) at refl on (ap is_pending reply) in
    let same : v ∷ b ∷ n ∷ [] ≡ u ∷ a ∷ r ∷ [] = sym next ∙ three in
    let first : v ≡ u = cc in
    let third : n ≡ r = cc in
    let line : sequencer_number (op_at x past) ≡ sequencer_number r.op =
    ap (λ (z : CompletedCall). sequencer_number z.op) third in
    let number : reply_number x.reply ≡ reply_number r.reply = ap (λ (z : CompletedCall). reply_number z.reply) third in
    record {
      wait = b;
      was = at ∙ ap (λ z. z ∷ b ∷ []) first;
      is = ticket_is x (sequencer_number r.op) (reply_number r.reply) (act_is t x past (sequencer_number (op_at x past)) acc op ∙ ap Ticket line) (reply ∙ ap Number (sym (ap reply_number reply) ∙ number));
    }
first_of c lines t x past (v ∷ b ∷ s ∷ []) u a r acc at on due returned three =
    let P : Act → Type 0 = λ z. IsReplyTo t past z x.reply in
    let ok = and_parts (is_act (Ticket (sequencer_number (op_at x past))) (op_at x past)) (lines (sequencer_number (op_at x past)) && not (sequencer_number s.op == sequencer_number (op_at x past))) due in
    let op : op_at x past ≡ Ticket (sequencer_number (op_at x past)) = sym (is_act-true (Ticket (sequencer_number (op_at x past))) (op_at x past) ok.0) in
    let reply : x.reply ≡ Number (issued (sequencer_number (op_at x past)) past) =
    subst P op returned in
    let next = after_told (both_rule c lines) x past (v ∷ b ∷ s ∷ []) (op_at x past) at refl on (ap is_pending reply) in
    absurd (cc)
first_of c lines t x past (v ∷ b ∷ s ∷ y ∷ []) u a r acc at on due returned three =
    let P : Act → Type 0 = λ z. IsReplyTo t past z x.reply in
    let op : op_at x past ≡ Advance c.count = sym (is_act-true (Advance c.count) (op_at x past) (and_parts (is_act (Advance c.count) (op_at x past)) true due).0) in
    let reply : x.reply ≡ Done = subst P op returned in
    let next = after_told (both_rule c lines) x past (v ∷ b ∷ s ∷ y ∷ []) (op_at x past) at refl on (ap is_pending reply) in
    absurd (cc)
first_of c lines t x past (v ∷ b ∷ s ∷ y ∷ z ∷ rest) u a r acc at on due returned three = cc

-- an entry that completes a pair draws the second ticket
second_of : (c : Semaphore) (lines : ℕ → Bool) (t : Tables) (x : Entry) (past : List Entry) (calls : List CompletedCall) → IsAccepted t (x ∷ past)
    → block (both_rule c lines) x.worker past ≡ calls → (both_rule c lines).fits calls (op_at x past) ≡ true → IsReplyTo t past (op_at x past) x.reply
    → (pair_with calls x ≡ None) ⊎ DrawsSecond c lines x past
second_of c lines t x past [] acc at due returned = inl refl
second_of c lines t x past (u ∷ []) acc at due returned = inl refl
second_of c lines t x past (u ∷ a ∷ []) acc at due returned = inl refl
second_of c lines t x past (u ∷ a ∷ r ∷ []) acc at due returned =
    let P : Act → Type 0 = λ z. IsReplyTo t past z x.reply in
    let ok = and_parts (is_act (Ticket (sequencer_number (op_at x past))) (op_at x past)) (lines (sequencer_number (op_at x past)) && not (sequencer_number r.op == sequencer_number (op_at x past))) due in
    let op : op_at x past ≡ Ticket (sequencer_number (op_at x past)) = sym (is_act-true (Ticket (sequencer_number (op_at x past))) (op_at x past) ok.0) in
    let reply : x.reply ≡ Number (issued (sequencer_number (op_at x past)) past) =
    subst P op returned in
    inr (record {
      ticket = u;
      wait = a;
      first = r;
      line = sequencer_number (op_at x past);
      number = issued (sequencer_number (op_at x past)) past;
      was = at;
      is = ticket_is x (sequencer_number (op_at x past)) (issued (sequencer_number (op_at x past)) past) (act_is t x past (sequencer_number (op_at x past)) acc op) reply;
    })
second_of c lines t x past (u ∷ a ∷ r ∷ s ∷ rest) acc at due returned = inl refl

pair_at : (r : CompletedCall) (x : Entry) (q n : ℕ) → x ≡ ticket_entry x.worker q n
    → pair_after r x x.act ≡ Some (record { worker = x.worker; first = sequencer_number r.op; first_ticket = reply_number r.reply; second = q; second_ticket = n })
pair_at r x q n is =
    let act : x.act ≡ Ticket q = ap (λ (e : Entry). e.act) is in
    let reply : reply_number x.reply ≡ n = ap (λ (e : Entry). reply_number e.reply) is in
    ap (pair_after r x) act
    ∙ ap (λ (m : ℕ). let p : Pair = record { worker = x.worker; first = sequencer_number r.op; first_ticket = reply_number r.reply; second = q; second_ticket = m } in Some p) reply

-- MOMENTS

abbrev drawn_at : Semaphore → (ℕ → Bool) → List Entry → ℕ → List Pair
drawn_at c lines h n = pairs_in c lines (past_at n h)

-- a worker that has drawn the first ticket of its critical section, and not the second, drew it by
-- an entry that is its latest
record IsHolding (c : Semaphore) (lines : ℕ → Bool) (h : List Entry) (n w : ℕ) (t r : CompletedCall) : Type 0 where
  at : ℕ
  before : at < n
  entry : slice_get h at ≡ Some (ticket_entry w (sequencer_number r.op) (reply_number r.reply))
  entered : length (calls_at c lines h at w) ≡ 2
  none_since : (j : ℕ) (x : Entry) → at < j → j < n → slice_get h j ≡ Some x → x.worker ≢ w
  count : length (drawn_at c lines h at) ≡ reply_number t.reply

-- the pairs up to moment n are those that were drawn up to then
record ArePairsDrawnUpTo (c : Semaphore) (lines : ℕ → Bool) (h : List Entry) (n : ℕ) : Type 0 where
  first_at : ℕ → ℕ
  second_at : ℕ → ℕ
  each : (i : ℕ) (p : Pair) → slice_get (drawn_at c lines h n) i ≡ Some p → DrawsPair c lines h p (first_at i) (second_at i)
  done : (i m : ℕ) → m ≤ n → i < length (drawn_at c lines h m) → second_at i < m
  in_order : (i j : ℕ) → i < j → j < length (drawn_at c lines h n) → first_at i < first_at j
  all : (p : Pair) (k l : ℕ) → DrawsPair c lines h p k l → l < n → (i : ℕ) × (slice_get (drawn_at c lines h n) i ≡ Some p) × (first_at i ≡ k)
  holding : (w : ℕ) (t a r : CompletedCall) → calls_at c lines h n w ≡ t ∷ a ∷ r ∷ [] → IsHolding c lines h n w t r

below_next : (j n : ℕ) → j < suc n → (j < n) ⊎ (j ≡ n)
below_next j n lt =
    elim (j == n) as (λ b. (j == n) ≡ b → (j < n) ⊎ (j ≡ n)) [
      | true ↦ λ e. inr (eqb-true j n e)
      | false ↦ λ e. (let other : j ≢ n = eqb-false j n e in let less : j < n = omega arith in inl less)
    ] refl

-- a worker that makes no entry keeps its calls
calls_kept : (c : Semaphore) (lines : ℕ → Bool) (h : List Entry) (w k m : ℕ) → k < m → ((j : ℕ) (x : Entry) → k < j → j < m → slice_get h j ≡ Some x → x.worker ≢ w)
    → calls_at c lines h m w ≡ calls_at c lines h (suc k) w
calls_kept c lines h w k zero lt none = absurd (omega arith)
calls_kept c lines h w k (suc m) lt none =
    elim (below_next k m lt) [
      | inl less ↦
          (let before : calls_at c lines h m w ≡ calls_at c lines h (suc k) w = calls_kept c lines h w k m less (λ j x p q. none j x p (omega arith)) in
          elim (slice_get h m) as (λ o. slice_get h m ≡ o → calls_at c lines h (suc m) w ≡ calls_at c lines h (suc k) w) [
            | None ↦ λ e. ap (block (both_rule c lines) w) (past_end h m e) ∙ before
            | Some x ↦ λ e.
                (let other : x.worker ≢ w = none m x less (omega arith) e in
                ap (block (both_rule c lines) w) (past_next h m x e) ∙ other_block (both_rule c lines) w x (past_at m h) (ne_eqb x.worker w other) ∙ before)
          ] refl)
      | inr same ↦ ap (λ n. calls_at c lines h (suc n) w) (sym same)
    ]

two_long : (calls : List CompletedCall) → length calls ≡ 2 → (t : CompletedCall)
    × (a : CompletedCall) × (calls ≡ t ∷ a ∷ [])
two_long [] h = absurd (omega arith)
two_long (t ∷ []) h = absurd (omega arith)
two_long (t ∷ a ∷ []) h = (t, a, refl)
two_long (t ∷ a ∷ r ∷ rest) h = absurd (omega arith)

-- the second ticket of a pair that the history draws completes the pair
completes : (c : Semaphore) (lines : ℕ → Bool) (h : List Entry) (p : Pair) (k l : ℕ) (x : Entry) → DrawsPair c lines h p k l → slice_get h l ≡ Some x
    → pair_with (calls_at c lines h l x.worker) x ≡ Some p
completes c lines h p k l x d is =
    let y = ticket_entry p.worker p.first p.first_ticket in
    let z = ticket_entry p.worker p.second p.second_ticket in
    let two = two_long (calls_at c lines h k p.worker) d.entered in
    let n : CompletedCall = record { op = Ticket p.first; reply = Number p.first_ticket } in
    let after : block (both_rule c lines) p.worker (y ∷ past_at k h) ≡ two.0 ∷ two.1 ∷ n ∷ [] =
    after_told (both_rule c lines) y (past_at k h) (two.0 ∷ two.1 ∷ []) (Ticket p.first) two.2 refl refl refl in
    let held : calls_at c lines h l p.worker ≡ two.0 ∷ two.1 ∷ n ∷ [] =
    calls_kept c lines h p.worker k l d.order d.none_between ∙ ap (block (both_rule c lines) p.worker) (past_next h k y d.first) ∙ after in
    let same : z ≡ x = (let both : Some z ≡ Some x = sym d.second ∙ is in cc) in
    let P : Entry → Type 0 = λ e. pair_with (calls_at c lines h l e.worker) e ≡ Some p in
    subst P same (ap (λ calls. pair_with calls z) held)

-- LISTS WITH ONE MORE

get_push : {X : Type 0} (xs : List X) (y z : X) (i : ℕ) → slice_get (xs ++ y ∷ []) i ≡ Some z → ((i < length xs) × (slice_get xs i ≡ Some z)) ⊎ ((i ≡ length xs) × (y ≡ z))
get_push [] y z zero h = inr (refl, cc)
get_push [] y z (suc i) h = cc
get_push (x ∷ xs) y z zero h = inl (omega arith, h)
get_push (x ∷ xs) y z (suc i) h =
    elim (get_push xs y z i h) [
      | inl k ↦ (let lt : i < length xs = k.0 in inl (omega arith, k.1))
      | inr k ↦ (let same : i ≡ length xs = k.0 in inr (omega arith, k.1))
    ]

element : {X : Type 0} (xs : List X) (i : ℕ) → i < length xs → (x : X) × (slice_get xs i ≡ Some x)
element xs i below =
    elim ((slice_get_cases xs i).1) [
      | inl p ↦ (p.0, p.2)
      | inr q ↦ (let past : length xs ≤ i = q.0 in absurd (omega arith))
    ]

length_push : {X : Type 0} (xs : List X) (y : X) → length (xs ++ y ∷ []) ≡ suc (length xs)
length_push xs y = omega (arith, length-append xs (y ∷ []))

-- f, and v at m
abbrev with_at : (ℕ → ℕ) → ℕ → ℕ → ℕ → ℕ
with_at f m v i = cond (i == m) v (f i)

with_at_same : (f : ℕ → ℕ) (m v i : ℕ) → i ≡ m → with_at f m v i ≡ v
with_at_same f m v i same = ap (λ b. cond b v (f i)) (eq-eqb i m same)

with_at_other : (f : ℕ → ℕ) (m v i : ℕ) → i < m → with_at f m v i ≡ f i
with_at_other f m v i lt = ap (λ b. cond b v (f i)) (ne_eqb i m (λ e. omega arith))

-- THE STEP FROM ONE MOMENT TO THE NEXT

-- what is known of an entry of a history that is accepted and followed
record IsStep (c : Semaphore) (lines : ℕ → Bool) (t : Tables) (h : List Entry) (n : ℕ) (x : Entry) : Type 0 where
  apart : lines c.line ≡ false
  declared : IsDeclared t
  entry : slice_get h n ≡ Some x
  accepted : IsAccepted t (x ∷ past_at n h)
  followed : Follow (both_rules c lines) (x ∷ past_at n h)

step_at : (c : Semaphore) (lines : ℕ → Bool) (t : Tables) (h : List Entry) (n : ℕ) (x : Entry) → lines c.line ≡ false → IsDeclared t → IsAccepted t (reverse h) → Follow (both_rules c lines) (reverse h)
    → slice_get h n ≡ Some x → IsStep c lines t h n x
step_at c lines t h n x apart dec acc f is = record {
  apart = apart;
  declared = dec;
  entry = is;
  accepted = subst (IsAccepted t) (past_next h n x is) (beginnings t (suc n) h acc);
  followed = subst (Follow (both_rules c lines)) (past_next h n x is) (follow_of (both_rules c lines) h (past_at (suc n) h) f (moment_before h (suc n)));
}

-- the worker whose turn it is: as many pairs are drawn as its ticket says
turn_at : (c : Semaphore) (lines : ℕ → Bool) (t : Tables) (h : List Entry) (n : ℕ) (x : Entry) (w : ℕ) (u a : CompletedCall) (rest : List CompletedCall) → IsStep c lines t h n x
    → calls_at c lines h n w ≡ u ∷ a ∷ rest → length rest ≤ 1 → length (drawn_at c lines h n) ≡ reply_number u.reply
turn_at c lines t h n x w u a rest s at few =
    let b = paired c lines t (past_at n h) s.apart s.declared s.accepted.1 s.followed.1 in
    let seated = ap seat_of at in
    let stage : (seat_of (calls_at c lines h n w)).stage ≡ 1 + length (a ∷ rest) = ap (λ (z : QueuePosition). z.stage) seated in
    let turn : (seat_of (calls_at c lines h n w)).turn ≡ reply_number u.reply = ap (λ (z : QueuePosition). z.turn) seated in
    let k = turn_is _ _ _ _ w b.queue (omega arith) (omega arith) in
    sym k.0 ∙ turn

held_later : (c : Semaphore) (lines : ℕ → Bool) (h : List Entry) (n w : ℕ) (t r : CompletedCall) → ((x : Entry) → slice_get h n ≡ Some x → x.worker ≢ w) → IsHolding c lines h n w t r → IsHolding c lines h (suc n) w t r
held_later c lines h n w t r other k = record {
  at = k.at;
  before = (let lt : k.at < n = k.before in omega arith);
  entry = k.entry;
  entered = k.entered;
  none_since = λ j x after lt is.
      elim (below_next j n lt) [
        | inl less ↦ k.none_since j x after less is
        | inr same ↦ other x (ap (slice_get h) (sym same) ∙ is)
      ];
  count = k.count;
}

-- a worker that has drawn the first of two tickets, and not the second, after its own entry drew it by this one
pub draws_first : (c : Semaphore) (lines : ℕ → Bool) (t : Tables) (x : Entry) (past : List Entry) (u a r : CompletedCall) → IsDeclared t → IsAccepted t (x ∷ past) → Follow (both_rules c lines) (x ∷ past)
    → block (both_rule c lines) x.worker (x ∷ past) ≡ u ∷ a ∷ r ∷ [] → DrawsFirst c lines x past u r
draws_first c lines t x past u a r dec acc f at =
    elim (step_due t (both_rules c lines) x past dec acc f) [
      | inl off ↦
          (let o = or_parts (is_begun (block (both_rule c lines) x.worker past)) (is_on c (op_at x past)) off in
          let none = outside (block (both_rule c lines) x.worker past) o.0 in
          let same = off_block (both_rule c lines) x past off in
          absurd (cc))
      | inr due ↦ first_of c lines t x past (block (both_rule c lines) x.worker past) u a r acc refl due.0 due.1 (step_told t x past dec acc) at
    ]

held_now : (c : Semaphore) (lines : ℕ → Bool) (t : Tables) (h : List Entry) (n : ℕ) (x : Entry) (u a r : CompletedCall) → IsStep c lines t h n x → block (both_rule c lines) x.worker (x ∷ past_at n h) ≡ u ∷ a ∷ r ∷ []
    → IsHolding c lines h (suc n) x.worker u r
held_now c lines t h n x u a r s at =
    let d = draws_first c lines t x (past_at n h) u a r s.declared s.accepted s.followed at in
    record {
      at = n;
      before = omega arith;
      entry = s.entry ∙ ap Some d.is;
      entered = ap length d.was;
      none_since = λ j y after lt is. absurd (omega arith);
      count = turn_at c lines t h n x x.worker u d.wait [] s d.was (omega arith);
    }

holding_next : (c : Semaphore) (lines : ℕ → Bool) (t : Tables) (h : List Entry) (n : ℕ) (x : Entry) → IsStep c lines t h n x
    → ((w : ℕ) (u a r : CompletedCall) → calls_at c lines h n w ≡ u ∷ a ∷ r ∷ [] → IsHolding c lines h n w u r)
    → (w : ℕ) (u a r : CompletedCall) → calls_at c lines h (suc n) w ≡ u ∷ a ∷ r ∷ [] → IsHolding c lines h (suc n) w u r
holding_next c lines t h n x s before w u a r at =
    let now : block (both_rule c lines) w (x ∷ past_at n h) ≡ u ∷ a ∷ r ∷ [] = ap (block (both_rule c lines) w) (sym (past_next h n x s.entry)) ∙ at in
    elim (x.worker == w) as (λ b. (x.worker == w) ≡ b → IsHolding c lines h (suc n) w u r) [
      | true ↦ λ e.
          (let P : ℕ → Type 0 = λ v. block (both_rule c lines) v (x ∷ past_at n h) ≡ u ∷ a ∷ r ∷ [] in
          let Q : ℕ → Type 0 = λ v. IsHolding c lines h (suc n) v u r in
          subst Q (eqb-true x.worker w e) (held_now c lines t h n x u a r s (subst P (sym (eqb-true x.worker w e)) now)))
      | false ↦ λ e.
          (let was : calls_at c lines h n w ≡ u ∷ a ∷ r ∷ [] = sym (other_block (both_rule c lines) w x (past_at n h) e) ∙ now in
          held_later c lines h n w u r (λ y is. (let same : x ≡ y = (let k : Some x ≡ Some y = sym s.entry ∙ is in cc) in let P : Entry → Type 0 = λ z. z.worker ≢ w in subst P same (eqb-false x.worker w e))) (before w u a r was))
    ] refl

-- no pair is lost
drawn_up : (c : Semaphore) (lines : ℕ → Bool) (h : List Entry) (m n : ℕ) → m ≤ n → length (drawn_at c lines h m) ≤ length (drawn_at c lines h n)
drawn_up c lines h m zero le = (let same : m ≡ 0 = omega arith in let equal = ap (λ k. length (drawn_at c lines h k)) same in omega arith)
drawn_up c lines h m (suc n) le =
    elim (m == suc n) as (λ b. (m == suc n) ≡ b → length (drawn_at c lines h m) ≤ length (drawn_at c lines h (suc n))) [
      | true ↦ λ e. (let equal = ap (λ k. length (drawn_at c lines h k)) (eqb-true m (suc n) e) in omega arith)
      | false ↦ λ e.
          (let other : m ≢ suc n = eqb-false m (suc n) e in
          let before : length (drawn_at c lines h m) ≤ length (drawn_at c lines h n) = drawn_up c lines h m n (omega arith) in
          let more : length (drawn_at c lines h n) ≤ length (drawn_at c lines h (suc n)) =
          elim (slice_get h n) as (λ o. slice_get h n ≡ o → length (drawn_at c lines h n) ≤ length (drawn_at c lines h (suc n))) [
            | None ↦ λ q. (let equal = ap (λ p. length (pairs_in c lines p)) (past_end h n q) in omega arith)
            | Some x ↦ λ q.
                (let equal = ap (λ p. length (pairs_in c lines p)) (past_next h n x q) ∙ ap length (pairs_at c lines x (past_at n h) (block (both_rule c lines) x.worker (past_at n h)) refl) in
                omega (arith, length-append (pairs_in c lines (past_at n h)) (option_to_list (pair_with (block (both_rule c lines) x.worker (past_at n h)) x))))
          ] refl in
          omega arith)
    ] refl

-- an entry that completes no pair
none_next : (c : Semaphore) (lines : ℕ → Bool) (t : Tables) (h : List Entry) (n : ℕ) (x : Entry) → IsStep c lines t h n x → pair_with (calls_at c lines h n x.worker) x ≡ None → ArePairsDrawnUpTo c lines h n → ArePairsDrawnUpTo c lines h (suc n)
none_next c lines t h n x s none b =
    let same : drawn_at c lines h (suc n) ≡ drawn_at c lines h n = ap (pairs_in c lines) (past_next h n x s.entry) ∙ no_pair c lines x (past_at n h) (calls_at c lines h n x.worker) refl none in
    let long : length (drawn_at c lines h (suc n)) ≡ length (drawn_at c lines h n) = ap length same in
    record {
      first_at = b.first_at;
      second_at = b.second_at;
      each = λ i p at. b.each i p (ap (λ ps. slice_get ps i) (sym same) ∙ at);
      done = λ i m le lt.
          elim (m == suc n) as (λ z. (m == suc n) ≡ z → b.second_at i < m) [
            | true ↦ λ e.
                (let now : m ≡ suc n = eqb-true m (suc n) e in
                let count : length (drawn_at c lines h m) ≡ length (drawn_at c lines h (suc n)) = ap (λ k. length (drawn_at c lines h k)) now in
                let before : b.second_at i < n = b.done i n (omega arith) (omega arith) in omega arith)
            | false ↦ λ e. (let other : m ≢ suc n = eqb-false m (suc n) e in b.done i m (omega arith) lt)
          ] refl;
      in_order = λ i j less lt. b.in_order i j less (omega arith);
      all = λ p k l d lt.
          elim (below_next l n lt) [
            | inl less ↦ (let i = b.all p k l d less in (i.0, ap (λ ps. slice_get ps i.0) same ∙ i.1, i.2))
            | inr now ↦
                (let D : ℕ → Type 0 = λ m. DrawsPair c lines h p k m in
                let full = completes c lines h p k n x (subst D now d) s.entry in absurd (cc))
          ];
      holding = holding_next c lines t h n x s b.holding;
    }

apart_cases : (a b : ℕ) → a ≢ b → (a < b) ⊎ (b < a)
apart_cases a b other =
    elim (nat_lt a b) as (λ z. nat_lt a b ≡ z → (a < b) ⊎ (b < a)) [
      | true ↦ λ e. inl (ltb-true a b e)
      | false ↦ λ e. (let le : b ≤ a = ltb-false a b e in let less : b < a = omega arith in inr less)
    ] refl

-- a worker's latest entry before its second ticket is the one that drew the first
one_first : (c : Semaphore) (lines : ℕ → Bool) (h : List Entry) (p : Pair) (k n : ℕ) (t r : CompletedCall) → DrawsPair c lines h p k n → (i : IsHolding c lines h n p.worker t r) → i.at ≡ k
one_first c lines h p k n t r d i =
    elim (i.at == k) as (λ b. (i.at == k) ≡ b → i.at ≡ k) [
      | true ↦ λ e. eqb-true i.at k e
      | false ↦ λ e.
          (elim (apart_cases i.at k (eqb-false i.at k e)) [
            | inl less ↦ absurd (i.none_since k (ticket_entry p.worker p.first p.first_ticket) less d.order d.first refl)
            | inr more ↦ absurd (d.none_between i.at (ticket_entry p.worker (sequencer_number r.op) (reply_number r.reply)) more i.before i.entry refl)
          ])
    ] refl

abbrev pair_from : Entry → CompletedCall → ℕ → ℕ → Pair
pair_from x r q n = record { worker = x.worker; first = sequencer_number r.op; first_ticket = reply_number r.reply; second = q; second_ticket = n }

-- an entry that completes one
pair_next : (c : Semaphore) (lines : ℕ → Bool) (t : Tables) (h : List Entry) (n : ℕ) (x : Entry) → IsStep c lines t h n x → DrawsSecond c lines x (past_at n h) → ArePairsDrawnUpTo c lines h n → ArePairsDrawnUpTo c lines h (suc n)
pair_next c lines t h n x s d b =
    let old = drawn_at c lines h n in
    let m = length (drawn_at c lines h n) in
    let p = pair_from x d.first d.line d.number in
    let held = b.holding x.worker d.ticket d.wait d.first d.was in
    let before : held.at < n = held.before in
    let made : pair_with (calls_at c lines h n x.worker) x ≡ Some (pair_from x d.first d.line d.number) = ap (λ calls. pair_with calls x) d.was ∙ pair_at d.first x d.line d.number d.is in
    let same : drawn_at c lines h (suc n) ≡ drawn_at c lines h n ++ pair_from x d.first d.line d.number ∷ [] =
    ap (pairs_in c lines) (past_next h n x s.entry) ∙ pairs_at c lines x (past_at n h) (calls_at c lines h n x.worker) refl ∙ ap (λ o. drawn_at c lines h n ++ option_to_list o) made in
    let long : length (drawn_at c lines h (suc n)) ≡ suc (length (drawn_at c lines h n)) = ap length same ∙ length_push (drawn_at c lines h n) (pair_from x d.first d.line d.number) in
    let fresh : length (drawn_at c lines h held.at) ≡ length (drawn_at c lines h n) = held.count ∙ sym (turn_at c lines t h n x x.worker d.ticket d.wait (d.first ∷ []) s d.was (omega arith)) in
    let draws : DrawsPair c lines h (pair_from x d.first d.line d.number) held.at n = record {
      order = held.before;
      entered = held.entered;
      first = held.entry;
      second = s.entry ∙ ap Some d.is;
      none_between = held.none_since;
    } in
    let first_at = with_at b.first_at (length (drawn_at c lines h n)) held.at in
    let second_at = with_at b.second_at (length (drawn_at c lines h n)) n in
    record {
      first_at = with_at b.first_at (length (drawn_at c lines h n)) held.at;
      second_at = with_at b.second_at (length (drawn_at c lines h n)) n;
      each = λ i o at.
          elim (get_push (drawn_at c lines h n) (pair_from x d.first d.line d.number) o i (ap (λ ps. slice_get ps i) (sym same) ∙ at)) [
            | inl k ↦
                (let D : ℕ → Type 0 = λ f. DrawsPair c lines h o f (b.second_at i) in
                let E : ℕ → Type 0 = λ g. DrawsPair c lines h o (with_at b.first_at (length (drawn_at c lines h n)) held.at i) g in
                subst E (sym (with_at_other b.second_at (length (drawn_at c lines h n)) n i k.0)) (subst D (sym (with_at_other b.first_at (length (drawn_at c lines h n)) held.at i k.0)) (b.each i o k.1)))
            | inr k ↦
                (let D : ℕ → Type 0 = λ f. DrawsPair c lines h (pair_from x d.first d.line d.number) f n in
                let E : ℕ → Type 0 = λ g. DrawsPair c lines h (pair_from x d.first d.line d.number) (with_at b.first_at (length (drawn_at c lines h n)) held.at i) g in
                let P : Pair → Type 0 = λ q. DrawsPair c lines h q (with_at b.first_at (length (drawn_at c lines h n)) held.at i) (with_at b.second_at (length (drawn_at c lines h n)) n i) in
                subst P k.1 (subst E (sym (with_at_same b.second_at (length (drawn_at c lines h n)) n i k.0)) (subst D (sym (with_at_same b.first_at (length (drawn_at c lines h n)) held.at i k.0)) draws)))
          ];
      done = λ i k le lt.
          elim (k == suc n) as (λ z. (k == suc n) ≡ z → with_at b.second_at (length (drawn_at c lines h n)) n i < k) [
            | true ↦ λ e.
                (let now : k ≡ suc n = eqb-true k (suc n) e in
                let count : length (drawn_at c lines h k) ≡ length (drawn_at c lines h (suc n)) = ap (λ j. length (drawn_at c lines h j)) now in
                elim (below_next i (length (drawn_at c lines h n)) (let less : i < suc (length (drawn_at c lines h n)) = omega arith in less)) [
                  | inl less ↦ (let is = with_at_other b.second_at (length (drawn_at c lines h n)) n i less in let early : b.second_at i < n = b.done i n (omega arith) less in omega arith)
                  | inr at ↦ (let is = with_at_same b.second_at (length (drawn_at c lines h n)) n i at in omega arith)
                ])
            | false ↦ λ e.
                (let other : k ≢ suc n = eqb-false k (suc n) e in
                let up : length (drawn_at c lines h k) ≤ length (drawn_at c lines h n) = drawn_up c lines h k n (omega arith) in
                let less : i < length (drawn_at c lines h n) = omega arith in
                let is = with_at_other b.second_at (length (drawn_at c lines h n)) n i less in
                let early : b.second_at i < k = b.done i k (omega arith) lt in omega arith)
          ] refl;
      in_order = λ i j less lt.
          elim (below_next j (length (drawn_at c lines h n)) (let below : j < suc (length (drawn_at c lines h n)) = omega arith in below)) [
            | inl under ↦
                (let first = with_at_other b.first_at (length (drawn_at c lines h n)) held.at i (omega arith) in
                let second = with_at_other b.first_at (length (drawn_at c lines h n)) held.at j under in
                let order : b.first_at i < b.first_at j = b.in_order i j less under in omega arith)
            | inr at ↦
                (let under : i < length (drawn_at c lines h n) = omega arith in
                let first = with_at_other b.first_at (length (drawn_at c lines h n)) held.at i under in
                let second = with_at_same b.first_at (length (drawn_at c lines h n)) held.at j at in
                let o = element (drawn_at c lines h n) i under in
                let drawn : b.first_at i < b.second_at i = (b.each i o.0 o.1).order in
                let early : b.second_at i < held.at = b.done i held.at (omega arith) (omega arith) in
                omega arith)
          ];
      all = λ o k l q lt.
          elim (below_next l n lt) [
            | inl less ↦
                (let i = b.all o k l q less in
                let under : i.0 < length (drawn_at c lines h n) = slice_get_within (drawn_at c lines h n) i.0 o i.1 in (
                  i.0,
                  ap (λ ps. slice_get ps i.0) same ∙ get_old (drawn_at c lines h n) (pair_from x d.first d.line d.number ∷ []) i.0 under ∙ i.1,
                  with_at_other b.first_at (length (drawn_at c lines h n)) held.at i.0 under ∙ i.2,
                ))
            | inr now ↦
                (let D : ℕ → Type 0 = λ f. DrawsPair c lines h o k f in
                let q' = subst D now q in
                let full : Some o ≡ Some (pair_from x d.first d.line d.number) = sym (completes c lines h o k n x q' s.entry) ∙ made in
                let is : o ≡ pair_from x d.first d.line d.number = cc in
                let E : Pair → Type 0 = λ z. DrawsPair c lines h z k n in
                let only : held.at ≡ k = one_first c lines h (pair_from x d.first d.line d.number) k n d.ticket d.first (subst E is q') held in (
                  length (drawn_at c lines h n),
                  ap (λ ps. slice_get ps (length (drawn_at c lines h n))) same ∙ get_back (drawn_at c lines h n) (pair_from x d.first d.line d.number ∷ []) (length (drawn_at c lines h n)) 0 (omega arith) ∙ ap Some (sym is),
                  with_at_same b.first_at (length (drawn_at c lines h n)) held.at (length (drawn_at c lines h n)) refl ∙ only,
                ))
          ];
      holding = holding_next c lines t h n x s b.holding;
    }

-- THE WHOLE HISTORY

drawn_first : (c : Semaphore) (lines : ℕ → Bool) (h : List Entry) → ArePairsDrawnUpTo c lines h 0
unfolding pairs_in block
drawn_first c lines h = record {
  first_at = λ i. 0;
  second_at = λ i. 0;
  each = λ i p at. cc;
  done = λ i m le lt. (let same : m ≡ 0 = omega arith in let none = ap (λ k. length (drawn_at c lines h k)) same in absurd (omega arith));
  in_order = λ i j less lt. absurd (omega arith);
  all = λ p k l d lt. absurd (omega arith);
  holding = λ w t a r at. cc;
}

drawn_next : (c : Semaphore) (lines : ℕ → Bool) (t : Tables) (h : List Entry) (n : ℕ) (x : Entry) → IsStep c lines t h n x → ArePairsDrawnUpTo c lines h n → ArePairsDrawnUpTo c lines h (suc n)
drawn_next c lines t h n x s b =
    let calls = calls_at c lines h n x.worker in
    elim (step_due t (both_rules c lines) x (past_at n h) s.declared s.accepted s.followed) [
      | inl off ↦
          (let o = or_parts (is_begun (calls_at c lines h n x.worker)) (is_on c (op_at x (past_at n h))) off in
          none_next c lines t h n x s (ap (λ z. pair_with z x) (outside (calls_at c lines h n x.worker) o.0)) b)
      | inr due ↦
          (elim (second_of c lines t x (past_at n h) (calls_at c lines h n x.worker) s.accepted refl due.1 (step_told t x (past_at n h) s.declared s.accepted)) [
            | inl none ↦ none_next c lines t h n x s none b
            | inr d ↦ pair_next c lines t h n x s d b
          ])
    ]

drawn_until : (c : Semaphore) (lines : ℕ → Bool) (t : Tables) (h : List Entry) (n : ℕ) → lines c.line ≡ false → IsDeclared t → IsAccepted t (reverse h) → Follow (both_rules c lines) (reverse h)
    → n ≤ length h → ArePairsDrawnUpTo c lines h n
drawn_until c lines t h zero apart dec acc f le = drawn_first c lines h
drawn_until c lines t h (suc n) apart dec acc f le =
    (let x = element h n (omega arith) in
    drawn_next c lines t h n x.0 (step_at c lines t h n x.0 apart dec acc f x.1) (drawn_until c lines t h n apart dec acc f (omega arith)))

pub pairs_drawn : (c : Semaphore) (lines : ℕ → Bool) (t : Tables) (h : List Entry) → lines c.line ≡ false → IsDeclared t → IsAccepted t (reverse h) → Follow (both_rules c lines) (reverse h)
    → ArePairs c lines h (pairs_in c lines (reverse h))
pairs_drawn c lines t h apart dec acc f =
    let b = drawn_until c lines t h (length h) apart dec acc f (omega arith) in
    let whole : past_at (length h) h ≡ reverse h = ap reverse (take-length h) in
    let P : List Entry → Type 0 = λ p. ArePairs c lines h (pairs_in c lines p) in
    subst P whole (record {
      first_at = b.first_at;
      second_at = b.second_at;
      each = b.each;
      in_order = b.in_order;
      all = λ p k l d. b.all p k l d (slice_get_within h l (ticket_entry p.worker p.second p.second_ticket) d.second);
    })
