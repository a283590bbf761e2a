-- A semaphore that is followed never has a balance below 0.
use Rattle.std.proofs.Common.{◌≡◌, ◌≢◌, ℕ, zero, suc, ◌+◌, ◌-◌, ◌<◌, ◌≤◌, Bool, true, false, not, ◌&&◌, ◌||◌, List, [], ◌∷◌, refl, ap, sym, ◌∙◌, arith, subst, cond, ◌==◌, inl, inr}
use Rattle.std.proofs.lemmas.Bool.{eqb-true, eqb-false, eq-eqb, ne_eqb, or_cases}
use Rattle.std.proofs.Math.Nat.{zero-add}
use Rattle.ec_count.specs.Tables.{Tables, IsDeclared}
use Rattle.ec_core.specs.declared.act.Act.{Act}
use Rattle.ec_core.specs.declared.act.Act.TheVariants.{Advance, Read, Await, Go, Ticket, Put, Get, Hand}
use Rattle.ec_core.specs.declared.act.Reply.TheVariants.{Done, Number, Pending}
use Rattle.ec_core.specs.declared.act.Entry.{Entry}
use Rattle.ec_core.specs.Counts.{total, issued, is_advance, is_ticket, sum_to}
use Rattle.ec_core.specs.Calls.{is_pending}
use Rattle.ec_core.specs.Acceptance.{IsAccepted}
use Rattle.ec_core.specs.Following.{CompletedCall, block, Follow}
use Rattle.ec_core.specs.CallLists.{is_due, reply_number}
use Rattle.ec_core.proofs.shared.Totals.{sum_same, one_more}
use Rattle.ec_core.proofs.shared.Following.{other_block, IsReplyTo, op_at, step_told, total_step, issued_step, step_due, is_act-true, after_told, after_pending, off_block}
use Rattle.ec_semaphore.specs.Shapes.{Semaphore}
use Rattle.ec_semaphore.specs.Uses.{down_call, up_call, is_on, use_rule, use_rules}
use Rattle.ec_semaphore.specs.Balances.{is_await, is_down, downs}
use Rattle.ec_core.proofs.shared.Reading.{never}

-- the ticket of a list of calls that has drawn one
abbrev pub turn_of : List CompletedCall → ℕ
turn_of [] = 0
turn_of (t ∷ rest) = reply_number t.reply

abbrev pub calls_of : Semaphore → List Entry → ℕ → List CompletedCall
calls_of s past w = block (use_rule s) w past

-- whether the P with ticket k is completed
unfoldable pub is_completed : Semaphore → ℕ → List Entry → Bool
is_completed s k [] = false
is_completed s k (x ∷ past) = (is_down s x past && (turn_of (calls_of s past x.worker) == k)) || is_completed s k past

abbrev pub one : Bool → ℕ
one b = cond b 1 0

pub record IsBalanced (s : Semaphore) (past : List Entry) : Type 0 where
  pub count : downs s past ≡ sum_to (λ k. one (is_completed s k past)) (issued s.line past)
  pub low : (k : ℕ) → is_completed s k past ≡ true → k < s.initial + total s.count past
  pub known : (k : ℕ) → issued s.line past ≤ k → is_completed s k past ≡ false
  pub held : (w : ℕ) (c : CompletedCall) → calls_of s past w ≡ c ∷ [] → (reply_number c.reply < issued s.line past) × (is_completed s (reply_number c.reply) past ≡ false)
  pub apart : (v w : ℕ) (c d : CompletedCall) → calls_of s past v ≡ c ∷ [] → calls_of s past w ≡ d ∷ [] → reply_number c.reply ≡ reply_number d.reply → v ≡ w

-- SUMS

sum_at_most : (f : ℕ → Bool) (m : ℕ) → sum_to (λ k. one (f k)) m ≤ m
unfolding sum_to
sum_at_most f zero = omega arith
sum_at_most f (suc m) =
    elim (f m) as (λ b. one b + sum_to (λ k. one (f k)) m ≤ suc m) [
      | true ↦ (let rest : sum_to (λ k. one (f k)) m ≤ m = sum_at_most f m in omega arith)
      | false ↦ (let rest : sum_to (λ k. one (f k)) m ≤ m = sum_at_most f m in omega arith)
    ]

-- no more than n of the numbers pass a test that none from n on passes
sum_few : (f : ℕ → Bool) (n m : ℕ) → ((k : ℕ) → f k ≡ true → k < n) → sum_to (λ k. one (f k)) m ≤ n
unfolding sum_to
sum_few f n zero h = omega arith
sum_few f n (suc m) h =
    elim (f m) as (λ b. f m ≡ b → one b + sum_to (λ k. one (f k)) m ≤ n) [
      | true ↦ λ e. (let below : m < n = h m e in let rest : sum_to (λ k. one (f k)) m ≤ m = sum_at_most f m in omega arith)
      | false ↦ λ e. (let rest : sum_to (λ k. one (f k)) m ≤ n = sum_few f n m h in omega arith)
    ] refl

one_plus : (b c : Bool) → (b ≡ true → c ≡ false) → one (b || c) ≡ cond b 1 0 + one c
one_plus true true h = (let k : true ≡ false = h refl in cc)
one_plus true false h = refl
one_plus false true h = refl
one_plus false false h = refl

-- one more number passes
sum_more : (f : ℕ → Bool) (t n : ℕ) → t < n → f t ≡ false → sum_to (λ k. one ((t == k) || f k)) n ≡ 1 + sum_to (λ k. one (f k)) n
sum_more f t n lt none =
    sum_same n (λ k. one ((t == k) || f k)) (λ k. cond (t == k) 1 0 + one (f k)) (λ k below. one_plus (t == k) (f k) (λ e. ap f (sym (eqb-true t k e)) ∙ none))
    ∙ one_more n (λ k. one (f k)) t lt

-- ONE STEP

-- lists that are unchanged, except the worker's, which has no ticket
held_less : (s : Semaphore) (x : Entry) (past : List Entry) → calls_of s (x ∷ past) x.worker ≡ [] → (w : ℕ) (c : CompletedCall) → calls_of s (x ∷ past) w ≡ c ∷ [] → ((x.worker == w) ≡ false) × (calls_of s past w ≡ c ∷ [])
held_less s x past none w c at =
    elim (x.worker == w) as (λ b. (x.worker == w) ≡ b → (b ≡ false) × (calls_of s past w ≡ c ∷ [])) [
      | true ↦ λ e. (let same : calls_of s (x ∷ past) w ≡ [] = (let P : ℕ → Type 0 = λ v. calls_of s (x ∷ past) v ≡ [] in subst P (eqb-true x.worker w e) none) in cc)
      | false ↦ λ e. (refl, sym (other_block (use_rule s) w x past e) ∙ at)
    ] refl

-- all lists are unchanged
held_same : (s : Semaphore) (x : Entry) (past : List Entry) → calls_of s (x ∷ past) x.worker ≡ calls_of s past x.worker → (w : ℕ) → calls_of s (x ∷ past) w ≡ calls_of s past w
held_same s x past same w =
    elim (x.worker == w) as (λ b. (x.worker == w) ≡ b → calls_of s (x ∷ past) w ≡ calls_of s past w) [
      | true ↦ λ e. (let P : ℕ → Type 0 = λ v. calls_of s (x ∷ past) v ≡ calls_of s past v in subst P (eqb-true x.worker w e) same)
      | false ↦ λ e. other_block (use_rule s) w x past e
    ] refl

finished_same : (s : Semaphore) (k : ℕ) (x : Entry) (past : List Entry) → is_down s x past ≡ false → is_completed s k (x ∷ past) ≡ is_completed s k past
unfolding is_completed
finished_same s k x past h = rw h refl

downs_same : (s : Semaphore) (x : Entry) (past : List Entry) → is_down s x past ≡ false → downs s (x ∷ past) ≡ downs s past
unfolding downs
downs_same s x past h = rw h (zero-add (downs s past))

-- no ticket is drawn and no P ends: each list is unchanged, or the worker's is empty
still : (s : Semaphore) (x : Entry) (past : List Entry) → issued s.line (x ∷ past) ≡ issued s.line past → total s.count past ≤ total s.count (x ∷ past) → is_down s x past ≡ false
    → ((w : ℕ) (c : CompletedCall) → calls_of s (x ∷ past) w ≡ c ∷ [] → calls_of s past w ≡ c ∷ []) → IsBalanced s past → IsBalanced s (x ∷ past)
still s x past drawn up none same b = record {
  count = downs_same s x past none ∙ b.count ∙ ap (sum_to (λ k. one (is_completed s k past))) (sym drawn)
      ∙ sum_same (issued s.line (x ∷ past)) (λ k. one (is_completed s k past)) (λ k. one (is_completed s k (x ∷ past))) (λ k lt. ap one (sym (finished_same s k x past none)));
  low = λ k e. (let lt : k < s.initial + total s.count past = b.low k (sym (finished_same s k x past none) ∙ e) in omega arith);
  known = λ k le. finished_same s k x past none ∙ b.known k (omega arith);
  held = λ w c at. (let k = b.held w c (same w c at) in let lt : reply_number c.reply < issued s.line past = k.0 in (omega arith, finished_same s (reply_number c.reply) x past none ∙ k.1));
  apart = λ v w c d p q e. b.apart v w c d (same v c p) (same w d q) e;
}

plus_one : (n : ℕ) → 1 + n ≡ suc n
plus_one n = omega arith

not_await : (s : Semaphore) (x : Entry) (past : List Entry) (op : Act) → op_at x past ≡ op → is_await s.count op ≡ false → is_down s x past ≡ false
not_await s x past op is h = ap (λ a. is_await s.count a && not (is_pending x.reply)) is ∙ ap (λ b. b && not (is_pending x.reply)) h

not_pending : (s : Semaphore) (x : Entry) (past : List Entry) → x.reply ≡ Pending → is_down s x past ≡ false
not_pending s x past h = ap (λ r. is_await s.count (op_at x past) && not (is_pending r)) h ∙ never (is_await s.count (op_at x past))

draw : (s : Semaphore) (t : Tables) (x : Entry) (past : List Entry) (c : CompletedCall) → IsAccepted t (x ∷ past) → op_at x past ≡ Ticket s.line → calls_of s (x ∷ past) x.worker ≡ c ∷ [] → reply_number c.reply ≡ issued s.line past
    → IsBalanced s past → IsBalanced s (x ∷ past)
unfolding sum_to
draw s t x past c acc op at turn b =
    let drawn : issued s.line (x ∷ past) ≡ suc (issued s.line past) =
    issued_step t s.line x past acc ∙ ap (λ a. cond (is_ticket s.line a) 1 0 + issued s.line past) op ∙ ap (λ v. cond v 1 0 + issued s.line past) (eq-eqb s.line s.line refl) ∙ plus_one (issued s.line past) in
    let level : total s.count (x ∷ past) ≡ total s.count past = total_step t s.count x past acc ∙ ap (λ a. cond (is_advance s.count a) 1 0 + total s.count past) op ∙ zero-add (total s.count past) in
    let none : is_down s x past ≡ false = not_await s x past (Ticket s.line) op refl in
    let fresh : is_completed s (issued s.line past) past ≡ false = b.known (issued s.line past) (omega arith) in
    let mine : (w : ℕ) (d : CompletedCall) → calls_of s (x ∷ past) w ≡ d ∷ [] → (x.worker == w) ≡ true → reply_number d.reply ≡ issued s.line past =
    λ w d q e. (let P : ℕ → Type 0 = λ v. calls_of s (x ∷ past) v ≡ c ∷ [] in
    let same : calls_of s (x ∷ past) w ≡ c ∷ [] = subst P (eqb-true x.worker w e) at in
    ap turn_of (sym q ∙ same) ∙ turn) in
    let theirs : (w : ℕ) (d : CompletedCall) → calls_of s (x ∷ past) w ≡ d ∷ [] → (x.worker == w) ≡ false → calls_of s past w ≡ d ∷ [] = λ w d q e. sym (other_block (use_rule s) w x past e) ∙ q in
    record {
      count = downs_same s x past none ∙ b.count
          ∙ sum_same (issued s.line past) (λ k. one (is_completed s k past)) (λ k. one (is_completed s k (x ∷ past))) (λ k lt. ap one (sym (finished_same s k x past none)))
          ∙ sym (ap (sum_to (λ k. one (is_completed s k (x ∷ past)))) drawn ∙ ap (λ v. one v + sum_to (λ k. one (is_completed s k (x ∷ past))) (issued s.line past)) (finished_same s (issued s.line past) x past none ∙ fresh) ∙ zero-add (sum_to (λ k. one (is_completed s k (x ∷ past))) (issued s.line past)));
      low = λ k e. (let lt : k < s.initial + total s.count past = b.low k (sym (finished_same s k x past none) ∙ e) in omega arith);
      known = λ k le. finished_same s k x past none ∙ b.known k (omega arith);
      held = λ w d q. elim (x.worker == w) as (λ v. (x.worker == w) ≡ v → (reply_number d.reply < issued s.line (x ∷ past)) × (is_completed s (reply_number d.reply) (x ∷ past) ≡ false)) [
        | true ↦ λ e. (let num : reply_number d.reply ≡ issued s.line past = mine w d q e in (omega arith, finished_same s (reply_number d.reply) x past none ∙ ap (λ n. is_completed s n past) num ∙ fresh))
        | false ↦ λ e. (let k = b.held w d (theirs w d q e) in let lt : reply_number d.reply < issued s.line past = k.0 in (omega arith, finished_same s (reply_number d.reply) x past none ∙ k.1))
      ] refl;
      apart = λ v w d f p q same. elim (x.worker == v) as (λ z. (x.worker == v) ≡ z → v ≡ w) [
        | true ↦ λ e. (elim (x.worker == w) as (λ z. (x.worker == w) ≡ z → v ≡ w) [
          | true ↦ λ g. sym (eqb-true x.worker v e) ∙ eqb-true x.worker w g
          | false ↦ λ g. (let num : reply_number d.reply ≡ issued s.line past = mine v d p e in let lt : reply_number f.reply < issued s.line past = (b.held w f (theirs w f q g)).0 in absurd (omega arith))
        ] refl)
        | false ↦ λ e. (elim (x.worker == w) as (λ z. (x.worker == w) ≡ z → v ≡ w) [
          | true ↦ λ g. (let num : reply_number f.reply ≡ issued s.line past = mine w f q g in let lt : reply_number d.reply < issued s.line past = (b.held v d (theirs v d p e)).0 in absurd (omega arith))
          | false ↦ λ g. b.apart v w d f (theirs v d p e) (theirs w f q g) same
        ] refl)
      ] refl;
    }

finished_now : (s : Semaphore) (x : Entry) (past : List Entry) (turn k : ℕ) → is_down s x past ≡ true → turn_of (calls_of s past x.worker) ≡ turn → is_completed s k (x ∷ past) ≡ ((turn == k) || is_completed s k past)
unfolding is_completed
finished_now s x past turn k is at = ap (λ b. (b && (turn_of (calls_of s past x.worker) == k)) || is_completed s k past) is ∙ ap (λ n. (n == k) || is_completed s k past) at

downs_now : (s : Semaphore) (x : Entry) (past : List Entry) → is_down s x past ≡ true → downs s (x ∷ past) ≡ 1 + downs s past
unfolding downs
downs_now s x past is = rw is refl

finish : (s : Semaphore) (t : Tables) (x : Entry) (past : List Entry) (c : CompletedCall) (v : ℕ) → IsAccepted t (x ∷ past) → op_at x past ≡ Await s.count v → is_pending x.reply ≡ false
    → calls_of s past x.worker ≡ c ∷ [] → calls_of s (x ∷ past) x.worker ≡ [] → reply_number c.reply + 1 - s.initial ≤ total s.count past → IsBalanced s past → IsBalanced s (x ∷ past)
finish s t x past c v acc op done at after reached b =
    let drawn : issued s.line (x ∷ past) ≡ issued s.line past = issued_step t s.line x past acc ∙ ap (λ a. cond (is_ticket s.line a) 1 0 + issued s.line past) op ∙ zero-add (issued s.line past) in
    let level : total s.count (x ∷ past) ≡ total s.count past = total_step t s.count x past acc ∙ ap (λ a. cond (is_advance s.count a) 1 0 + total s.count past) op ∙ zero-add (total s.count past) in
    let down : is_down s x past ≡ true = ap (λ a. is_await s.count a && not (is_pending x.reply)) op ∙ ap (λ p. p && not (is_pending x.reply)) (eq-eqb s.count s.count refl) ∙ ap not done in
    let turn = reply_number c.reply in
    let now : (k : ℕ) → is_completed s k (x ∷ past) ≡ ((reply_number c.reply == k) || is_completed s k past) = λ k. finished_now s x past (reply_number c.reply) k down (ap turn_of at) in
    let mine = b.held x.worker c at in
    let lt : reply_number c.reply < issued s.line past = mine.0 in
    record {
      count = downs_now s x past down ∙ ap (λ n. 1 + n) b.count ∙ sym (sum_more (λ k. is_completed s k past) (reply_number c.reply) (issued s.line past) lt mine.1)
          ∙ sum_same (issued s.line past) (λ k. one ((reply_number c.reply == k) || is_completed s k past)) (λ k. one (is_completed s k (x ∷ past))) (λ k below. ap one (sym (now k)))
          ∙ ap (sum_to (λ k. one (is_completed s k (x ∷ past)))) (sym drawn);
      low = λ k e. (elim (or_cases (reply_number c.reply == k) (is_completed s k past) (sym (now k)
          ∙ e)) [
            | inl p ↦ (let same : reply_number c.reply ≡ k = eqb-true (reply_number c.reply) k p in omega arith)
            | inr q ↦ (let k' : k < s.initial + total s.count past = b.low k q in omega arith)
          ]);
      known = λ k le. (let off : (reply_number c.reply == k) ≡ false = ne_eqb (reply_number c.reply) k (λ e. omega arith) in now k ∙ ap (λ p. p || is_completed s k past) off ∙ b.known k (omega arith));
      held = λ w d q.
          (let k = held_less s x past after w d q in
          let h = b.held w d k.1 in
          let less : reply_number d.reply < issued s.line past = h.0 in
          let other : x.worker ≢ w = eqb-false x.worker w k.0 in
          let off : (reply_number c.reply == reply_number d.reply) ≡ false = ne_eqb (reply_number c.reply) (reply_number d.reply) (λ e. other (b.apart x.worker w c d at k.1 e)) in
          (omega arith, now (reply_number d.reply) ∙ ap (λ p. p || is_completed s (reply_number d.reply) past) off ∙ h.1));
      apart = λ y w d f p q e. b.apart y w d f (held_less s x past after y d p).1 (held_less s x past after w f q).1 e;
    }

-- an act that is not on the semaphore changes nothing
quiet : (s : Semaphore) (op : Act) → is_on s op ≡ false → (is_ticket s.line op ≡ false) × (is_await s.count op ≡ false)
quiet s (Advance e) h = (refl, refl)
quiet s (Read e) h = (refl, refl)
quiet s (Await e v) h = (refl, h)
quiet s Go h = (refl, refl)
quiet s (Ticket q) h = (h, refl)
quiet s (Put y v) h = (refl, refl)
quiet s (Get y) h = (refl, refl)
quiet s (Hand e b) h = (refl, refl)

total_up : (t : Tables) (e : ℕ) (x : Entry) (past : List Entry) → IsAccepted t (x ∷ past) → total e past ≤ total e (x ∷ past)
total_up t e x past acc = (let k = total_step t e x past acc in omega arith)

unticketed : (s : Semaphore) (t : Tables) (x : Entry) (past : List Entry) (op : Act) → IsAccepted t (x ∷ past) → op_at x past ≡ op → is_ticket s.line op ≡ false → issued s.line (x ∷ past) ≡ issued s.line past
unticketed s t x past op acc is none = issued_step t s.line x past acc ∙ ap (λ a. cond (is_ticket s.line a) 1 0 + issued s.line past) is ∙ ap (λ v. cond v 1 0 + issued s.line past) none ∙ zero-add (issued s.line past)

step_on : (s : Semaphore) (t : Tables) (x : Entry) (past : List Entry) (calls : List CompletedCall) → IsAccepted t (x ∷ past) → calls_of s past x.worker ≡ calls → is_on s (op_at x past) ≡ true
    → (is_due (down_call s calls) (op_at x past) || is_due (up_call s calls) (op_at x past)) ≡ true → IsReplyTo t past (op_at x past) x.reply → IsBalanced s past → IsBalanced s (x ∷ past)
step_on s t x past [] acc at on due returned b =
    let P : Act → Type 0 = λ a. IsReplyTo t past a x.reply in
    elim (or_cases _ _ due) [
      | inl d ↦
          (let op : op_at x past ≡ Ticket s.line = sym (is_act-true (Ticket s.line) (op_at x past) d) in
          let reply : x.reply ≡ Number (issued s.line past) = subst P op returned in
          draw s t x past (record { op = Ticket s.line; reply = x.reply }) acc op (after_told (use_rule s) x past [] (Ticket s.line) at op (ap (is_on s) (sym op) ∙ on) (ap is_pending reply)) (ap reply_number reply) b)
      | inr u ↦
          (let op : op_at x past ≡ Advance s.count = sym (is_act-true (Advance s.count) (op_at x past) u) in
          let reply : x.reply ≡ Done = subst P op returned in
          let after : calls_of s (x ∷ past) x.worker ≡ [] =
          after_told (use_rule s) x past [] (Advance s.count) at op (ap (is_on s) (sym op) ∙ on) (ap is_pending reply)
          ∙ ap (λ p. cond p [] (record { op = Advance s.count; reply = x.reply } ∷ [])) (eq-eqb s.count s.count refl) in
          still s x past (unticketed s t x past (Advance s.count) acc op refl) (total_up t s.count x past acc) (not_await s x past (Advance s.count) op refl)
          (λ w c q. (held_less s x past after w c q).1) b)
    ]
step_on s t x past (c ∷ []) acc at on due returned b =
    let P : Act → Type 0 = λ a. IsReplyTo t past a x.reply in
    let v = reply_number c.reply + 1 - s.initial in
    elim (or_cases _ _ due) [
      | inl d ↦
          (let op : op_at x past ≡ Await s.count (reply_number c.reply + 1 - s.initial) = sym (is_act-true (Await s.count (reply_number c.reply + 1 - s.initial)) (op_at x past) d) in
          elim (subst P op returned) [
            | inl pending ↦ still s x past (unticketed s t x past (Await s.count (reply_number c.reply + 1 - s.initial)) acc op refl) (total_up t s.count x past acc) (not_pending s x past pending)
                (λ w e q. sym (held_same s x past (after_pending (use_rule s) x past pending) w) ∙ q) b
            | inr k ↦
                (let low : reply_number c.reply + 1 - s.initial ≤ k.0 = k.1 in
                let high : k.0 ≤ total s.count past = k.2 in
                finish s t x past c (reply_number c.reply + 1 - s.initial) acc op (ap is_pending k.3) at
                (after_told (use_rule s) x past (c ∷ []) (Await s.count (reply_number c.reply + 1 - s.initial)) at op (ap (is_on s) (sym op) ∙ on) (ap is_pending k.3)) (omega arith) b)
          ])
      | inr u ↦ cc
    ]
step_on s t x past (c ∷ d ∷ rest) acc at on due returned b = cc

step : (s : Semaphore) (t : Tables) (x : Entry) (past : List Entry) → IsDeclared t → IsAccepted t (x ∷ past) → Follow (use_rules s) (x ∷ past) → IsBalanced s past → IsBalanced s (x ∷ past)
step s t x past dec acc f b =
    elim (step_due t (use_rules s) x past dec acc f) [
      | inl off ↦
          (let q = quiet s (op_at x past) off in
          still s x past (unticketed s t x past (op_at x past) acc refl q.0) (total_up t s.count x past acc) (not_await s x past (op_at x past) refl q.1)
          (λ w e z. sym (held_same s x past (off_block (use_rule s) x past off) w) ∙ z) b)
      | inr k ↦ step_on s t x past (calls_of s past x.worker) acc refl k.0 k.1 (step_told t x past dec acc) b
    ]

at_first : (s : Semaphore) → IsBalanced s []
unfolding downs issued is_completed block sum_to
at_first s = record {
  count = refl;
  low = λ k e. cc;
  known = λ k le. refl;
  held = λ w c at. cc;
  apart = λ v w c d p q e. cc;
}

pub balanced : (s : Semaphore) (t : Tables) (past : List Entry) → IsDeclared t → IsAccepted t past → Follow (use_rules s) past → IsBalanced s past
balanced s t [] dec acc f = at_first s
balanced s t (x ∷ past) dec acc f = step s t x past dec acc f (balanced s t past dec acc.1 f.1)

-- THE BALANCE IS AT LEAST 0

pub downs_few : (s : Semaphore) (t : Tables) (past : List Entry) → IsDeclared t → IsAccepted t past → Follow (use_rules s) past → downs s past ≤ s.initial + total s.count past
downs_few s t past dec acc f =
    (let b = balanced s t past dec acc f in
    let sum : sum_to (λ k. one (is_completed s k past)) (issued s.line past) ≤ s.initial + total s.count past = sum_few (λ k. is_completed s k past) (s.initial + total s.count past) (issued s.line past) b.low in
    omega (arith, b.count))
