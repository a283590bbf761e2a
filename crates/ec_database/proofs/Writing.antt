-- Writers that follow a database write one version after another.
use Rattle.std.proofs.Common.{◌≡◌, ◌≢◌, ℕ, zero, suc, ◌+◌, ◌<◌, ◌≤◌, Bool, true, false, not, List, [], ◌∷◌, ◌++◌, length, Option, Some, None, is_some, nat_le, nat_lt, unwrap_or, get_or, refl, ap, sym, ◌∙◌, arith, subst, cond, ◌==◌, ◌⊎◌, inl, inr}
use Rattle.std.proofs.lemmas.Bool.{eqb-true, eqb-false, eq-eqb, ne_eqb, or_parts, and_from, le-leb, lt-ltb, ltb-true, ltb-false, leb-true, leb-false, lt-leb, le-ltb}
use Rattle.std.proofs.lemmas.List.{length-append}
use Rattle.std.proofs.Math.Nat.{zero-add}
use Rattle.ec_count.specs.Tables.{Tables}
use Rattle.ec_core.specs.declared.act.Act.{Act}
use Rattle.ec_core.specs.declared.act.Act.TheVariants.{Advance, Read, Await, Go, Ticket, Put, Get, Hand}
use Rattle.ec_core.specs.declared.act.Reply.TheVariants.{Done, Number, Pending}
use Rattle.ec_core.specs.declared.act.Entry.{Entry}
use Rattle.ec_core.specs.Counts.{total, issued, cell_value, is_advance, is_ticket, put_in}
use Rattle.ec_core.specs.Calls.{is_pending}
use Rattle.ec_core.specs.Acceptance.{IsAccepted}
use Rattle.ec_core.specs.Following.{CompletedCall, block}
use Rattle.ec_core.specs.CallLists.{is_due, without_value, reply_number}
use Rattle.ec_core.proofs.shared.Following.{other_block, same_test, IsReplyTo, op_at, step_opened, total_step, issued_step, cell_step, due_is, after_told, after_pending}
use Rattle.ec_core.proofs.shared.Queue.{QueuePosition, IsQueue, IsElsewhereSame, still, draw, enter, make, leave, turn_is}
use Rattle.ec_core.proofs.shared.Reading.{made_by, made_by_other, made_by_own}
use Rattle.ec_database.specs.Shapes.{Database, IsShape}
use Rattle.ec_database.specs.Calls.{write_call}
use Rattle.ec_database.specs.Following.{is_cell, is_on, write_rule, try_rule, rules}
use Rattle.ec_database.specs.Calls.{drawn_turn}
use Rattle.ec_database.proofs.Written.{chosen_if, written, IsVersionIn}
use Rattle.ec_database.proofs.Counting.{puts_at}
use Rattle.ec_database.specs.Tries.{is_put_on}

-- POSITIONS, one queue for each cell

abbrev pub nobody : QueuePosition
nobody = record { stage = 0; turn = 0 }

abbrev pub seat_at : ℕ → List CompletedCall → QueuePosition
seat_at j [] = nobody
seat_at j (a ∷ []) = nobody
seat_at j (a ∷ t ∷ []) = record { stage = 1; turn = reply_number t.reply }
seat_at j (a ∷ t ∷ i ∷ puts) = record { stage = cond (nat_le (length puts) j) 2 4; turn = reply_number t.reply }

abbrev pub seat : Database → (ℕ → Bool) → ℕ → List Entry → ℕ → QueuePosition
seat d writers j past w = cond (writers w) (seat_at j (block (write_rule d) w past)) nobody

-- whether a writer is in its list, and whether it is there without a ticket
abbrev pub lead_of : List CompletedCall → ℕ
lead_of [] = 0
lead_of (a ∷ rest) = 1

abbrev pub wait_of : List CompletedCall → ℕ
wait_of [] = 0
wait_of (a ∷ []) = 1
wait_of (a ∷ t ∷ rest) = 0

abbrev pub lead : Database → (ℕ → Bool) → List Entry → ℕ → ℕ
lead d writers past w = cond (writers w) (lead_of (block (write_rule d) w past)) 0

abbrev pub wait : Database → (ℕ → Bool) → List Entry → ℕ → ℕ
wait d writers past w = cond (writers w) (wait_of (block (write_rule d) w past)) 0

pub record IsWriting (d : Database) (writers : ℕ → Bool) (past : List Entry) : Type 0 where
  pub queue : (j : ℕ) → j < d.cells → IsQueue (seat d writers j past) (issued d.turn past) (total d.done past) (puts_at d j past)
  pub leads : (w : ℕ) → made_by (is_advance d.start) w past ≡ lead d writers past w + made_by (is_advance d.done) w past
  pub waits : (w : ℕ) → made_by (is_advance d.start) w past ≡ wait d writers past w + made_by (is_ticket d.turn) w past
  pub latest : (j : ℕ) → j < d.cells → IsVersionIn d writers (puts_at d j past) j (cell_value (d.first_cell + j) past) past

-- ONE STEP

pub record IsStep (d : Database) (writers : ℕ → Bool) (t : Tables) (x : Entry) (past : List Entry) : Type 0 where
  pub shape : IsShape d
  pub accepted : IsAccepted t (x ∷ past)
  pub before : IsWriting d writers past

abbrev pub plus_if : Bool → ℕ → ℕ
plus_if true n = 1 + n
plus_if false n = n

plus_is : (a : Bool) (n : ℕ) → cond a 1 0 + n ≡ plus_if a n
plus_is true n = refl
plus_is false n = zero-add n

moved_queue : (s : ℕ → QueuePosition) (drawn gone made drawn' gone' made' : ℕ) → drawn' ≡ drawn → gone' ≡ gone → made' ≡ made → IsQueue s drawn gone made → IsQueue s drawn' gone' made'
moved_queue s drawn gone made drawn' gone' made' ed eg em q =
    let P : ℕ → Type 0 = λ n. IsQueue s n gone' made' in
    let Q : ℕ → Type 0 = λ n. IsQueue s drawn n made' in
    let R : ℕ → Type 0 = λ n. IsQueue s drawn gone n in
    subst P (sym ed) (subst Q (sym eg) (subst R (sym em) q))

elsewhere : (d : Database) (writers : ℕ → Bool) (j : ℕ) (x : Entry) (past : List Entry) → IsElsewhereSame x.worker (seat d writers j past) (seat d writers j (x ∷ past))
elsewhere d writers j x past v h = ap (λ calls. cond (writers v) (seat_at j calls) nobody) (other_block (write_rule d) v x past h)

pub put_in_op : (y : ℕ) (t : Tables) (x : Entry) (past : List Entry) → IsAccepted t (x ∷ past) → put_in y x.act ≡ put_in y (op_at x past)
put_in_op y t x past acc = same_test (put_in y) None t x.act (op_at x past) refl (λ f. refl) (λ f v. refl) (step_opened t x past acc)

by_step : (f : Act → Bool) (t : Tables) (x : Entry) (past : List Entry) (b : Bool) → IsAccepted t (x ∷ past) → f Go ≡ false → ((e : ℕ) → f (Read e) ≡ false) → ((e v : ℕ) → f (Await e v) ≡ false) → f (op_at x past) ≡ b
    → made_by f x.worker (x ∷ past) ≡ cond b 1 0 + made_by f x.worker past
by_step f t x past b acc g r a is =
    made_by_own f x past ∙ ap (λ v. cond v 1 0 + made_by f x.worker past) (same_test f false t x.act (op_at x past) g r a (step_opened t x past acc) ∙ is)

puts_step : (d : Database) (j : ℕ) (t : Tables) (x : Entry) (past : List Entry) → IsAccepted t (x ∷ past)
    → puts_at d j (x ∷ past) ≡ cond (is_some (put_in (d.first_cell + j) (op_at x past))) 1 0 + puts_at d j past
unfolding puts_at
puts_step d j t x past acc = ap (λ o. cond (is_some o) 1 0 + puts_at d j past) (put_in_op (d.first_cell + j) t x past acc)

-- what holds of each worker's counts, if it holds of the one that moved
each_count : (d : Database) (writers : ℕ → Bool) (f g : Act → Bool) (m : List CompletedCall → ℕ) (x : Entry) (past : List Entry)
    → ((w : ℕ) → made_by f w past ≡ cond (writers w) (m (block (write_rule d) w past)) 0 + made_by g w past)
    → made_by f x.worker (x ∷ past) ≡ cond (writers x.worker) (m (block (write_rule d) x.worker (x ∷ past))) 0 + made_by g x.worker (x ∷ past)
    → (w : ℕ) → made_by f w (x ∷ past) ≡ cond (writers w) (m (block (write_rule d) w (x ∷ past))) 0 + made_by g w (x ∷ past)
each_count d writers f g m x past h own w =
    elim (x.worker == w) as (λ b. (x.worker == w) ≡ b → made_by f w (x ∷ past) ≡ cond (writers w) (m (block (write_rule d) w (x ∷ past))) 0 + made_by g w (x ∷ past)) [
      | true ↦ λ e. (let P : ℕ → Type 0 = λ v. made_by f v (x ∷ past) ≡ cond (writers v) (m (block (write_rule d) v (x ∷ past))) 0 + made_by g v (x ∷ past) in subst P (eqb-true x.worker w e) own)
      | false ↦ λ e. made_by_other f w x past e ∙ h w ∙ ap (λ c. cond (writers w) (m c) 0 + made_by g w past) (sym (other_block (write_rule d) w x past e))
          ∙ ap (λ n. cond (writers w) (m (block (write_rule d) w (x ∷ past))) 0 + n) (sym (made_by_other g w x past e))
    ] refl

-- one more on both sides
own_count : (d : Database) (writers : ℕ → Bool) (f g : Act → Bool) (m : List CompletedCall → ℕ) (x : Entry) (past : List Entry) (n n' : ℕ) (a b : Bool)
    → made_by f x.worker past ≡ n + made_by g x.worker past → made_by f x.worker (x ∷ past) ≡ cond a 1 0 + made_by f x.worker past → made_by g x.worker (x ∷ past) ≡ cond b 1 0 + made_by g x.worker past
    → cond (writers x.worker) (m (block (write_rule d) x.worker (x ∷ past))) 0 ≡ n' → cond a 1 0 + n ≡ n' + cond b 1 0
    → made_by f x.worker (x ∷ past) ≡ cond (writers x.worker) (m (block (write_rule d) x.worker (x ∷ past))) 0 + made_by g x.worker (x ∷ past)
own_count d writers f g m x past n n' a b h ef eg en sum = rw (en, ef, eg, h) (omega arith)

pub written_same : (d : Database) (writers : ℕ → Bool) (j k : ℕ) (x : Entry) (past : List Entry) → put_in (d.first_cell + j) x.act ≡ None → written d writers j k (x ∷ past) ≡ written d writers j k past
unfolding written
written_same d writers j k x past none = ap (λ o. chosen_if (drawn_turn (block (rules d writers x.worker) x.worker past) == k) o (written d writers j k past)) none

version_same : (d : Database) (writers : ℕ → Bool) (n j v : ℕ) (x : Entry) (past : List Entry) → put_in (d.first_cell + j) x.act ≡ None → IsVersionIn d writers n j v past → IsVersionIn d writers n j v (x ∷ past)
version_same d writers zero j v x past none h = h
version_same d writers (suc k) j v x past none h = written_same d writers j k x past none ∙ h

latest_same : (d : Database) (writers : ℕ → Bool) (t : Tables) (x : Entry) (past : List Entry) (j : ℕ) → IsAccepted t (x ∷ past) → put_in (d.first_cell + j) (op_at x past) ≡ None
    → IsVersionIn d writers (puts_at d j past) j (cell_value (d.first_cell + j) past) past → IsVersionIn d writers (puts_at d j (x ∷ past)) j (cell_value (d.first_cell + j) (x ∷ past)) (x ∷ past)
latest_same d writers t x past j acc none h =
    let count : puts_at d j (x ∷ past) ≡ puts_at d j past = puts_step d j t x past acc ∙ ap (λ o. cond (is_some o) 1 0 + puts_at d j past) none ∙ zero-add (puts_at d j past) in
    let value : cell_value (d.first_cell + j) (x ∷ past) ≡ cell_value (d.first_cell + j) past = cell_step t (d.first_cell + j) x past acc ∙ ap (λ o. unwrap_or o (cell_value (d.first_cell + j) past)) none in
    let P : ℕ → Type 0 = λ n. IsVersionIn d writers n j (cell_value (d.first_cell + j) (x ∷ past)) (x ∷ past) in
    let Q : ℕ → Type 0 = λ v. IsVersionIn d writers (puts_at d j past) j v (x ∷ past) in
    subst P (sym count) (subst Q (sym value) (version_same d writers (puts_at d j past) j (cell_value (d.first_cell + j) past) x past (put_in_op (d.first_cell + j) t x past acc ∙ none) h))

built : (d : Database) (writers : ℕ → Bool) (t : Tables) (x : Entry) (past : List Entry) (op : Act) (a b c : Bool) (n m n' m' : ℕ) → IsStep d writers t x past → op_at x past ≡ op
    → is_advance d.start op ≡ a → is_advance d.done op ≡ b → is_ticket d.turn op ≡ c
    → ((j : ℕ) → j < d.cells → IsQueue (seat d writers j (x ∷ past)) (plus_if c (issued d.turn past)) (plus_if b (total d.done past)) (plus_if (is_some (put_in (d.first_cell + j) op)) (puts_at d j past)))
    → lead d writers past x.worker ≡ n → lead d writers (x ∷ past) x.worker ≡ n' → cond a 1 0 + n ≡ n' + cond b 1 0
    → wait d writers past x.worker ≡ m → wait d writers (x ∷ past) x.worker ≡ m' → cond a 1 0 + m ≡ m' + cond c 1 0
    → ((j : ℕ) → j < d.cells → IsVersionIn d writers (puts_at d j (x ∷ past)) j (cell_value (d.first_cell + j) (x ∷ past)) (x ∷ past))
    → IsWriting d writers (x ∷ past)
built d writers t x past op a b c n m n' m' s is ea eb ec queue ln ln' ls wn wn' ws latest =
    let start = by_step (is_advance d.start) t x past a s.accepted refl (λ e. refl) (λ e v. refl) (ap (is_advance d.start) is ∙ ea) in
    let done = by_step (is_advance d.done) t x past b s.accepted refl (λ e. refl) (λ e v. refl) (ap (is_advance d.done) is ∙ eb) in
    let ticket = by_step (is_ticket d.turn) t x past c s.accepted refl (λ e. refl) (λ e v. refl) (ap (is_ticket d.turn) is ∙ ec) in
    record {
      queue = λ j lt. moved_queue (seat d writers j (x ∷ past)) _ _ _ _ _ _
          (issued_step t d.turn x past s.accepted ∙ ap (λ v. cond v 1 0 + issued d.turn past) (ap (is_ticket d.turn) is ∙ ec) ∙ plus_is c (issued d.turn past))
          (total_step t d.done x past s.accepted ∙ ap (λ v. cond v 1 0 + total d.done past) (ap (is_advance d.done) is ∙ eb) ∙ plus_is b (total d.done past))
          (puts_step d j t x past s.accepted ∙ ap (λ o. cond (is_some (put_in (d.first_cell + j) o)) 1 0 + puts_at d j past) is ∙ plus_is (is_some (put_in (d.first_cell + j) op)) (puts_at d j past))
          (queue j lt);
      leads = each_count d writers (is_advance d.start) (is_advance d.done) lead_of x past s.before.leads
          (own_count d writers (is_advance d.start) (is_advance d.done) lead_of x past n n' a b (s.before.leads x.worker ∙ ap (λ k. k + made_by (is_advance d.done) x.worker past) ln) start done ln' ls);
      waits = each_count d writers (is_advance d.start) (is_ticket d.turn) wait_of x past s.before.waits
          (own_count d writers (is_advance d.start) (is_ticket d.turn) wait_of x past m m' a c (s.before.waits x.worker ∙ ap (λ k. k + made_by (is_ticket d.turn) x.worker past) wn) start ticket wn' ws);
      latest = latest;
    }

-- WHAT CHANGES NOTHING

pub record IsQuiet (d : Database) (op : Act) : Type 0 where
  pub start : is_advance d.start op ≡ false
  pub done : is_advance d.done op ≡ false
  pub ticket : is_ticket d.turn op ≡ false
  pub cells : (j : ℕ) → j < d.cells → put_in (d.first_cell + j) op ≡ None
  pub puts : is_put_on d op ≡ false

pub quiet_read : (d : Database) (e : ℕ) → IsQuiet d (Read e)
quiet_read d e = record { start = refl; done = refl; ticket = refl; cells = λ j lt. refl; puts = refl }

pub quiet_await : (d : Database) (e v : ℕ) → IsQuiet d (Await e v)
quiet_await d e v = record { start = refl; done = refl; ticket = refl; cells = λ j lt. refl; puts = refl }

pub quiet_get : (d : Database) (y : ℕ) → IsQuiet d (Get y)
quiet_get d y = record { start = refl; done = refl; ticket = refl; cells = λ j lt. refl; puts = refl }

pub is_cell_at : (d : Database) (j : ℕ) → j < d.cells → is_cell d (d.first_cell + j) ≡ true
is_cell_at d j lt = and_from (nat_le d.first_cell (d.first_cell + j)) (nat_lt (d.first_cell + j) (d.first_cell + d.cells)) (le-leb _ _ (omega arith)) (lt-ltb _ _ (omega arith))

pub off_cell : (d : Database) (y v j : ℕ) → is_cell d y ≡ false → j < d.cells → put_in (d.first_cell + j) (Put y v) ≡ None
off_cell d y v j h lt =
    let other : (y == d.first_cell + j) ≡ false = ne_eqb y (d.first_cell + j) (λ e. (let on : is_cell d y ≡ true = ap (is_cell d) e ∙ is_cell_at d j lt in cc)) in
    rw other refl

pub quiet_off : (d : Database) (op : Act) → is_on d op ≡ false → IsQuiet d op
quiet_off d (Advance e) h = (let k = or_parts (e == d.start) (e == d.done) h in record { start = k.0; done = k.1; ticket = refl; cells = λ j lt. refl; puts = refl })
quiet_off d (Read e) h = quiet_read d e
quiet_off d (Await e v) h = quiet_await d e v
quiet_off d Go h = record { start = refl; done = refl; ticket = refl; cells = λ j lt. refl; puts = refl }
quiet_off d (Ticket q) h = record { start = refl; done = refl; ticket = h; cells = λ j lt. refl; puts = refl }
quiet_off d (Put y v) h = record { start = refl; done = refl; ticket = refl; cells = λ j lt. off_cell d y v j h lt; puts = h }
quiet_off d (Get y) h = quiet_get d y
quiet_off d (Hand e b) h = record { start = refl; done = refl; ticket = refl; cells = λ j lt. refl; puts = refl }

turned : (a b : ℕ) → (a == b) ≡ false → (b == a) ≡ false
turned a b h = (let other : a ≢ b = eqb-false a b h in ne_eqb b a (λ e. other (sym e)))

role_same : {T : Type 0} (d : Database) (writers : ℕ → Bool) (x : Entry) (past : List Entry) (f : List CompletedCall → T) (none : T)
    → (writers x.worker ≡ true → block (write_rule d) x.worker (x ∷ past) ≡ block (write_rule d) x.worker past)
    → cond (writers x.worker) (f (block (write_rule d) x.worker (x ∷ past))) none ≡ cond (writers x.worker) (f (block (write_rule d) x.worker past)) none
role_same d writers x past f none h =
    elim (writers x.worker) as (λ p. writers x.worker ≡ p → cond p (f (block (write_rule d) x.worker (x ∷ past))) none ≡ cond p (f (block (write_rule d) x.worker past)) none) [
      | true ↦ λ e. ap f (h e)
      | false ↦ λ e. refl
    ] refl

one_plus : (n : ℕ) → 1 + n ≡ suc n
one_plus n = omega arith

-- no position changes
pub quiet_same : (d : Database) (writers : ℕ → Bool) (t : Tables) (x : Entry) (past : List Entry) (op : Act) → IsStep d writers t x past → op_at x past ≡ op → IsQuiet d op
    → (writers x.worker ≡ true → block (write_rule d) x.worker (x ∷ past) ≡ block (write_rule d) x.worker past) → IsWriting d writers (x ∷ past)
quiet_same d writers t x past op s is q same =
    built d writers t x past op false false false (lead d writers past x.worker) (wait d writers past x.worker) (lead d writers past x.worker) (wait d writers past x.worker) s is q.start q.done q.ticket
    (λ j lt. moved_queue (seat d writers j (x ∷ past)) (issued d.turn past) (total d.done past) (puts_at d j past) (issued d.turn past) (total d.done past) (plus_if (is_some (put_in (d.first_cell + j) op)) (puts_at d j past)) refl refl
    (ap (λ o. plus_if (is_some o) (puts_at d j past)) (q.cells j lt))
    (still (seat d writers j past) (seat d writers j (x ∷ past)) _ _ _ x.worker (s.before.queue j lt) (elsewhere d writers j x past) (role_same d writers x past (seat_at j) nobody same)))
    refl (role_same d writers x past lead_of 0 same) (omega arith) refl (role_same d writers x past wait_of 0 same) (omega arith)
    (λ j lt. latest_same d writers t x past j s.accepted (ap (put_in (d.first_cell + j)) is ∙ q.cells j lt) (s.before.latest j lt))

-- WRITERS

pub seat_is : (d : Database) (writers : ℕ → Bool) (j : ℕ) (past : List Entry) (w : ℕ) (calls : List CompletedCall) → writers w ≡ true → block (write_rule d) w past ≡ calls → seat d writers j past w ≡ seat_at j calls
seat_is d writers j past w calls role is = rw role (ap (seat_at j) is)

lead_is : (d : Database) (writers : ℕ → Bool) (past : List Entry) (w : ℕ) (calls : List CompletedCall) → writers w ≡ true → block (write_rule d) w past ≡ calls → lead d writers past w ≡ lead_of calls
lead_is d writers past w calls role is = rw role (ap lead_of is)

wait_is : (d : Database) (writers : ℕ → Bool) (past : List Entry) (w : ℕ) (calls : List CompletedCall) → writers w ≡ true → block (write_rule d) w past ≡ calls → wait d writers past w ≡ wait_of calls
wait_is d writers past w calls role is = rw role (ap wait_of is)

-- a writer's call, from the lists before and after it
moved : (d : Database) (writers : ℕ → Bool) (t : Tables) (x : Entry) (past : List Entry) (op : Act) (a b c : Bool) (calls next : List CompletedCall) → IsStep d writers t x past → writers x.worker ≡ true → op_at x past ≡ op
    → block (write_rule d) x.worker past ≡ calls → block (write_rule d) x.worker (x ∷ past) ≡ next
    → is_advance d.start op ≡ a → is_advance d.done op ≡ b → is_ticket d.turn op ≡ c
    → cond a 1 0 + lead_of calls ≡ lead_of next + cond b 1 0 → cond a 1 0 + wait_of calls ≡ wait_of next + cond c 1 0
    → ((j : ℕ) → j < d.cells → seat d writers j past x.worker ≡ seat_at j calls → seat d writers j (x ∷ past) x.worker ≡ seat_at j next
    → IsQueue (seat d writers j (x ∷ past)) (plus_if c (issued d.turn past)) (plus_if b (total d.done past)) (plus_if (is_some (put_in (d.first_cell + j) op)) (puts_at d j past)))
    → ((j : ℕ) → j < d.cells → IsVersionIn d writers (puts_at d j (x ∷ past)) j (cell_value (d.first_cell + j) (x ∷ past)) (x ∷ past))
    → IsWriting d writers (x ∷ past)
moved d writers t x past op a b c calls next s role is at after ea eb ec ls ws queue latest =
    built d writers t x past op a b c (lead_of calls) (wait_of calls) (lead_of next) (wait_of next) s is ea eb ec
    (λ j lt. queue j lt (seat_is d writers j past x.worker calls role at) (seat_is d writers j (x ∷ past) x.worker next role after))
    (lead_is d writers past x.worker calls role at) (lead_is d writers (x ∷ past) x.worker next role after) ls
    (wait_is d writers past x.worker calls role at) (wait_is d writers (x ∷ past) x.worker next role after) ws latest

-- the values are unchanged
unput : (d : Database) (writers : ℕ → Bool) (t : Tables) (x : Entry) (past : List Entry) (op : Act) → IsStep d writers t x past → op_at x past ≡ op → ((y : ℕ) → put_in y op ≡ None)
    → (j : ℕ) → j < d.cells → IsVersionIn d writers (puts_at d j (x ∷ past)) j (cell_value (d.first_cell + j) (x ∷ past)) (x ∷ past)
unput d writers t x past op s is none j lt = latest_same d writers t x past j s.accepted (ap (put_in (d.first_cell + j)) is ∙ none (d.first_cell + j)) (s.before.latest j lt)

write_start : (d : Database) (writers : ℕ → Bool) (t : Tables) (x : Entry) (past : List Entry) (a : CompletedCall) → IsStep d writers t x past → writers x.worker ≡ true
    → op_at x past ≡ Advance d.start → block (write_rule d) x.worker past ≡ [] → block (write_rule d) x.worker (x ∷ past) ≡ a ∷ [] → IsWriting d writers (x ∷ past)
write_start d writers t x past a s role is at after =
    moved d writers t x past (Advance d.start) true false false [] (a ∷ []) s role is at after (eq-eqb d.start d.start refl) s.shape.counts refl refl refl
    (λ j lt was now. still _ _ _ _ _ x.worker (s.before.queue j lt) (elsewhere d writers j x past) (now ∙ sym was))
    (unput d writers t x past (Advance d.start) s is (λ y. refl))

write_draw : (d : Database) (writers : ℕ → Bool) (t : Tables) (x : Entry) (past : List Entry) (a c : CompletedCall) → IsStep d writers t x past → writers x.worker ≡ true
    → op_at x past ≡ Ticket d.turn → block (write_rule d) x.worker past ≡ a ∷ [] → block (write_rule d) x.worker (x ∷ past) ≡ a ∷ c ∷ [] → reply_number c.reply ≡ issued d.turn past → IsWriting d writers (x ∷ past)
write_draw d writers t x past a c s role is at after turn =
    moved d writers t x past (Ticket d.turn) false false true (a ∷ []) (a ∷ c ∷ []) s role is at after refl refl (eq-eqb d.turn d.turn refl) refl refl
    (λ j lt was now. draw _ _ _ _ _ x.worker (s.before.queue j lt) (elsewhere d writers j x past) (ap (λ (z : QueuePosition). z.stage) now) (ap (λ (z : QueuePosition). z.turn) now ∙ turn))
    (unput d writers t x past (Ticket d.turn) s is (λ y. refl))

write_enter : (d : Database) (writers : ℕ → Bool) (t : Tables) (x : Entry) (past : List Entry) (a c i : CompletedCall) → IsStep d writers t x past → writers x.worker ≡ true
    → op_at x past ≡ Await d.done (reply_number c.reply) → block (write_rule d) x.worker past ≡ a ∷ c ∷ [] → block (write_rule d) x.worker (x ∷ past) ≡ a ∷ c ∷ i ∷ []
    → reply_number c.reply ≤ total d.done past → IsWriting d writers (x ∷ past)
write_enter d writers t x past a c i s role is at after reached =
    moved d writers t x past (Await d.done (reply_number c.reply)) false false false (a ∷ c ∷ []) (a ∷ c ∷ i ∷ []) s role is at after refl refl refl refl refl
    (λ j lt was now.
    (let st : (seat d writers j past x.worker).stage ≡ 1 =
    ap (λ (z : QueuePosition). z.stage) was in
    let tu : (seat d writers j past x.worker).turn ≡ reply_number c.reply = ap (λ (z : QueuePosition). z.turn) was in
    let st' : (seat d writers j (x ∷ past) x.worker).stage ≡ 2 = ap (λ (z : QueuePosition). z.stage) now ∙ ap (λ b. cond b 2 4) (le-leb 0 j (omega arith)) in
    let tu' : (seat d writers j (x ∷ past) x.worker).turn ≡ reply_number c.reply = ap (λ (z : QueuePosition). z.turn) now in
    enter _ _ _ _ _ x.worker (s.before.queue j lt) (elsewhere d writers j x past) (omega arith) (omega arith) (omega arith) (omega arith) (tu' ∙ sym tu) (omega arith)))
    (unput d writers t x past (Await d.done (reply_number c.reply)) s is (λ y. refl))

write_leave : (d : Database) (writers : ℕ → Bool) (t : Tables) (x : Entry) (past : List Entry) (a c i : CompletedCall) (puts : List CompletedCall) → IsStep d writers t x past → writers x.worker ≡ true
    → op_at x past ≡ Advance d.done → block (write_rule d) x.worker past ≡ a ∷ c ∷ i ∷ puts → length puts ≡ d.cells → block (write_rule d) x.worker (x ∷ past) ≡ [] → IsWriting d writers (x ∷ past)
write_leave d writers t x past a c i puts s role is at full after =
    moved d writers t x past (Advance d.done) false true false (a ∷ c ∷ i ∷ puts) [] s role is at after (turned d.start d.done s.shape.counts) (eq-eqb d.done d.done refl) refl refl refl
    (λ j lt was now.
    (let st : (seat d writers j past x.worker).stage ≡ 4 = ap (λ (z : QueuePosition). z.stage) was ∙ ap (λ b. cond b 2 4) (lt-leb (length puts) j (omega arith)) in
    leave _ _ _ _ _ x.worker (s.before.queue j lt) (elsewhere d writers j x past) st (ap (λ (z : QueuePosition). z.stage) now)))
    (unput d writers t x past (Advance d.done) s is (λ y. refl))

pub rules_write : (d : Database) (writers : ℕ → Bool) (past : List Entry) (w : ℕ) (calls : List CompletedCall) → writers w ≡ true → block (write_rule d) w past ≡ calls → block (rules d writers w) w past ≡ calls
rules_write d writers past w calls role at = ap (λ p. block (cond p (write_rule d) (try_rule d)) w past) role ∙ at

pub written_now : (d : Database) (writers : ℕ → Bool) (x : Entry) (past : List Entry) (j turn v k : ℕ) → put_in (d.first_cell + j) x.act ≡ Some v → drawn_turn (block (rules d writers x.worker) x.worker past) ≡ turn
    → written d writers j k (x ∷ past) ≡ cond (turn == k) (Some v) (written d writers j k past)
unfolding written
written_now d writers x past j turn v k is at =
    ap (λ o. chosen_if (drawn_turn (block (rules d writers x.worker) x.worker past) == k) o (written d writers j k past)) is ∙ ap (λ n. cond (n == k) (Some v) (written d writers j k past)) at

put_this : (first k j v : ℕ) → (k == j) ≡ true → put_in (first + j) (Put (first + k) v) ≡ Some v
put_this first k j v h = (let same : k ≡ j = eqb-true k j h in let q : (first + k == first + j) ≡ true = eq-eqb (first + k) (first + j) (ap (λ n. first + n) same) in rw q refl)

put_other : (first k j v : ℕ) → (k == j) ≡ false → put_in (first + j) (Put (first + k) v) ≡ None
put_other first k j v h = (let other : k ≢ j = eqb-false k j h in let q : (first + k == first + j) ≡ false = ne_eqb (first + k) (first + j) (λ e. other (omega arith)) in rw q refl)

same_side : (k l j : ℕ) → l ≡ k + 1 → (k == j) ≡ false → nat_le l j ≡ nat_le k j
same_side k l j len h =
    (let other : k ≢ j = eqb-false k j h in
    elim (nat_le k j) as (λ b. nat_le k j ≡ b → nat_le l j ≡ b) [
      | true ↦ λ e. (let le : k ≤ j = leb-true k j e in le-leb l j (omega arith))
      | false ↦ λ e. (let gt : j < k = leb-false k j e in lt-leb l j (omega arith))
    ] refl)

write_put : (d : Database) (writers : ℕ → Bool) (t : Tables) (x : Entry) (past : List Entry) (a c i p : CompletedCall) (puts : List CompletedCall) (v : ℕ) → IsStep d writers t x past → writers x.worker ≡ true
    → op_at x past ≡ Put (d.first_cell + length puts) v → block (write_rule d) x.worker past ≡ a ∷ c ∷ i ∷ puts → length puts < d.cells → block (write_rule d) x.worker (x ∷ past) ≡ a ∷ c ∷ i ∷ (puts ++ p ∷ [])
    → IsWriting d writers (x ∷ past)
write_put d writers t x past a c i p puts v s role is at room after =
    let k = length puts in
    let longer : length (puts ++ p ∷ []) ≡ length puts + 1 = length-append puts (p ∷ []) in
    moved d writers t x past (Put (d.first_cell + k) v) false false false (a ∷ c ∷ i ∷ puts) (a ∷ c ∷ i ∷ (puts ++ p ∷ [])) s role is at after refl refl refl refl refl
    (λ j lt was now. elim (k == j) as (λ b. (k == j) ≡ b → IsQueue (seat d writers j (x ∷ past)) (issued d.turn past) (total d.done past) (plus_if (is_some (put_in (d.first_cell + j) (Put (d.first_cell + k) v))) (puts_at d j past))) [
      | true ↦ λ h.
          (let same : length puts ≡ j = eqb-true k j h in
          let st : (seat d writers j past x.worker).stage ≡ 2 = ap (λ (z : QueuePosition). z.stage) was ∙ ap (λ b. cond b 2 4) (le-leb (length puts) j (omega arith)) in
          let st' : (seat d writers j (x ∷ past) x.worker).stage ≡ 4 = ap (λ (z : QueuePosition). z.stage) now ∙ ap (λ b. cond b 2 4) (lt-leb (length (puts ++ p ∷ [])) j (omega arith)) in
          let tu : (seat d writers j (x ∷ past) x.worker).turn ≡ (seat d writers j past x.worker).turn = ap (λ (z : QueuePosition). z.turn) now ∙ sym (ap (λ (z : QueuePosition). z.turn) was) in
          let P : Option ℕ → Type 0 = λ o. IsQueue (seat d writers j (x ∷ past)) (issued d.turn past) (total d.done past) (plus_if (is_some o) (puts_at d j past)) in
          subst P (sym (put_this d.first_cell k j v h)) (make _ _ _ _ _ x.worker (s.before.queue j lt) (elsewhere d writers j x past) (omega arith) (omega arith) st' tu))
      | false ↦ λ h.
          (let keep : seat d writers j (x ∷ past) x.worker ≡ seat d writers j past x.worker =
          now ∙ ap (λ b. (let z : QueuePosition = record { stage = cond b 2 4; turn = reply_number c.reply } in z)) (same_side k (length (puts ++ p ∷ [])) j longer h) ∙ sym was in
          let P : Option ℕ → Type 0 = λ o. IsQueue (seat d writers j (x ∷ past)) (issued d.turn past) (total d.done past) (plus_if (is_some o) (puts_at d j past)) in
          subst P (sym (put_other d.first_cell k j v h)) (still _ _ _ _ _ x.worker (s.before.queue j lt) (elsewhere d writers j x past) keep))
    ] refl)
    (λ j lt. elim (k == j) as (λ b. (k == j) ≡ b → IsVersionIn d writers (puts_at d j (x ∷ past)) j (cell_value (d.first_cell + j) (x ∷ past)) (x ∷ past)) [
      | true ↦ λ h.
          (let same : length puts ≡ j = eqb-true k j h in
          let was = seat_is d writers j past x.worker (a ∷ c ∷ i ∷ puts) role at in
          let st : (seat d writers j past x.worker).stage ≡ 2 = ap (λ (z : QueuePosition). z.stage) was ∙ ap (λ b. cond b 2 4) (le-leb (length puts) j (omega arith)) in
          let mine = turn_is _ _ _ _ x.worker (s.before.queue j lt) (omega arith) (omega arith) in
          let turn : drawn_turn (block (rules d writers x.worker) x.worker past)
          ≡ puts_at d j past =
          ap drawn_turn (rules_write d writers past x.worker (a ∷ c ∷ i ∷ puts) role at) ∙ sym (ap (λ (z : QueuePosition). z.turn) was) ∙ mine.0 in
          let here : put_in (d.first_cell + j) (op_at x past) ≡ Some v = ap (put_in (d.first_cell + j)) is ∙ put_this d.first_cell k j v h in
          let more : puts_at d j (x ∷ past) ≡ suc (puts_at d j past) = puts_step d j t x past s.accepted ∙ ap (λ o. cond (is_some o) 1 0 + puts_at d j past) here ∙ one_plus (puts_at d j past) in
          let value : cell_value (d.first_cell + j) (x ∷ past) ≡ v = cell_step t (d.first_cell + j) x past s.accepted ∙ ap (λ o. unwrap_or o (cell_value (d.first_cell + j) past)) here in
          let put : written d writers j (puts_at d j past) (x ∷ past) ≡ Some v =
          written_now d writers x past j (puts_at d j past) v (puts_at d j past) (put_in_op (d.first_cell + j) t x past s.accepted ∙ here) turn ∙ (rw (eq-eqb (puts_at d j past) (puts_at d j past) refl) refl) in
          let P : ℕ → Type 0 = λ n. IsVersionIn d writers n j (cell_value (d.first_cell + j) (x ∷ past)) (x ∷ past) in
          subst P (sym more) (put ∙ ap Some (sym value)))
      | false ↦ λ h. latest_same d writers t x past j s.accepted (ap (put_in (d.first_cell + j)) is ∙ put_other d.first_cell k j v h) (s.before.latest j lt)
    ] refl)

-- EACH CALL OF A WRITER

chosen_some : (d : Database) (values : List ℕ) (k : ℕ) → k ≤ d.cells
    → is_some (cond (nat_lt k d.cells) (Some (Put (d.first_cell + k) (get_or values k 0))) (cond (k == d.cells) (Some (Advance d.done)) None)) ≡ true
chosen_some d values k le =
    elim (nat_lt k d.cells) as (λ b. nat_lt k d.cells ≡ b → is_some (cond b (Some (Put (d.first_cell + k) (get_or values k 0))) (cond (k == d.cells) (Some (Advance d.done)) None)) ≡ true) [
      | true ↦ λ h. refl
      | false ↦ λ h. (let ge : d.cells ≤ k = ltb-false k d.cells h in let q : (k == d.cells) ≡ true = eq-eqb k d.cells (omega arith) in rw q refl)
    ] refl

chosen_none : (d : Database) (values : List ℕ) (k : ℕ) → d.cells < k
    → is_some (cond (nat_lt k d.cells) (Some (Put (d.first_cell + k) (get_or values k 0))) (cond (k == d.cells) (Some (Advance d.done)) None)) ≡ false
chosen_none d values k gt = (let p : nat_lt k d.cells ≡ false = le-ltb k d.cells (omega arith) in let q : (k == d.cells) ≡ false = ne_eqb k d.cells (λ e. omega arith) in rw (p, q) refl)

-- an await that is not completed changes nothing
await_cases : (d : Database) (writers : ℕ → Bool) (t : Tables) (x : Entry) (past : List Entry) (e v : ℕ) → IsStep d writers t x past → op_at x past ≡ Await e v
    → (x.reply ≡ Pending) ⊎ ((s : ℕ) × (v ≤ s) × (s ≤ total e past) × (x.reply ≡ Number s))
    → ((is_pending x.reply ≡ false) × (v ≤ total e past) → IsWriting d writers (x ∷ past)) → IsWriting d writers (x ∷ past)
await_cases d writers t x past e v s is (inl pending) go = quiet_same d writers t x past (Await e v) s is (quiet_await d e v) (λ role. after_pending (write_rule d) x past pending)
await_cases d writers t x past e v s is (inr k) go = (let low : v ≤ k.0 = k.1 in let high : k.0 ≤ total e past = k.2 in go (ap is_pending k.3, omega arith))

pub write_step : (d : Database) (writers : ℕ → Bool) (t : Tables) (x : Entry) (past : List Entry) (calls : List CompletedCall) → IsStep d writers t x past → writers x.worker ≡ true
    → block (write_rule d) x.worker past ≡ calls → is_on d (op_at x past) ≡ true → is_due (write_call d [] calls) (without_value (op_at x past)) ≡ true → IsReplyTo t past (op_at x past) x.reply
    → IsWriting d writers (x ∷ past)
write_step d writers t x past [] s role at on due returned =
    let op : op_at x past ≡ Advance d.start = (due_is (Advance d.start) (op_at x past) due).1 in
    let P : Act → Type 0 = λ a. IsReplyTo t past a x.reply in
    let reply : x.reply ≡ Done = subst P op returned in
    write_start d writers t x past (record { op = Advance d.start; reply = x.reply }) s role op at (after_told (write_rule d) x past [] (Advance d.start) at op (ap (is_on d) (sym op) ∙ on) (ap is_pending reply))
write_step d writers t x past (a ∷ []) s role at on due returned =
    let op : op_at x past ≡ Ticket d.turn = (due_is (Ticket d.turn) (op_at x past) due).1 in
    let P : Act → Type 0 = λ a. IsReplyTo t past a x.reply in
    let reply : x.reply ≡ Number (issued d.turn past) = subst P op returned in
    write_draw d writers t x past a (record { op = Ticket d.turn; reply = x.reply }) s role op at (after_told (write_rule d) x past (a ∷ []) (Ticket d.turn) at op (ap (is_on d) (sym op) ∙ on) (ap is_pending reply)) (ap reply_number reply)
write_step d writers t x past (a ∷ c ∷ []) s role at on due returned =
    let op : op_at x past ≡ Await d.done (reply_number c.reply) = (due_is (Await d.done (reply_number c.reply)) (op_at x past) due).1 in
    let P : Act → Type 0 = λ a. IsReplyTo t past a x.reply in
    await_cases d writers t x past d.done (reply_number c.reply) s op (subst P op returned)
    (λ k. write_enter d writers t x past a c (record { op = Await d.done (reply_number c.reply); reply = x.reply }) s role op at
    (after_told (write_rule d) x past (a ∷ c ∷ []) (Await d.done (reply_number c.reply)) at op (ap (is_on d) (sym op) ∙ on) k.0
    ∙ ap (λ b. cond (not b) [] (a ∷ c ∷ record { op = Await d.done (reply_number c.reply); reply = x.reply } ∷ [])) (chosen_some d [] 0 (omega arith))) k.1)
write_step d writers t x past (a ∷ c ∷ i ∷ puts) s role at on due returned =
    let P : Act → Type 0 = λ a. IsReplyTo t past a x.reply in
    elim (nat_lt (length puts) d.cells) as (λ b. nat_lt (length puts) d.cells ≡ b
    → is_due (cond b (Some (Put (d.first_cell + length puts) (get_or [] (length puts) 0))) (cond (length puts == d.cells) (Some (Advance d.done)) None)) (without_value (op_at x past)) ≡ true → IsWriting d writers (x ∷ past)) [
      | true ↦ λ h due.
          (let due' = due_is (Put (d.first_cell + length puts) (get_or [] (length puts) 0)) (op_at x past) due in
          let op : op_at x past ≡ Put (d.first_cell + length puts) due'.0 = due'.1 in
          let reply : x.reply ≡ Done = subst P op returned in
          let lt : length puts < d.cells = ltb-true (length puts) d.cells h in
          let p : CompletedCall =
          record { op = Put (d.first_cell + length puts) due'.0; reply = x.reply } in
          let longer : length (puts ++ p ∷ []) ≡ length puts + 1 = length-append puts (p ∷ []) in
          write_put d writers t x past a c i p puts due'.0 s role op at lt
          (after_told (write_rule d) x past (a ∷ c ∷ i ∷ puts) (Put (d.first_cell + length puts) due'.0) at op (ap (is_on d) (sym op) ∙ on) (ap is_pending reply)
          ∙ ap (λ b. cond (not b) [] (a ∷ c ∷ i ∷ (puts ++ p ∷ []))) (chosen_some d [] (length (puts ++ p ∷ [])) (omega arith))))
      | false ↦ λ h due.
          (elim (length puts == d.cells) as (λ b. (length puts == d.cells) ≡ b → is_due (cond b (Some (Advance d.done)) None) (without_value (op_at x past)) ≡ true → IsWriting d writers (x ∷ past)) [
            | true ↦ λ full due.
                (let op : op_at x past ≡ Advance d.done = (due_is (Advance d.done) (op_at x past) due).1 in
                let reply : x.reply ≡ Done = subst P op returned in
                let len : length puts ≡ d.cells = eqb-true (length puts) d.cells full in
                let p : CompletedCall = record { op = Advance d.done; reply = x.reply } in
                let longer : length (puts ++ p ∷ []) ≡ length puts + 1 = length-append puts (p ∷ []) in
                write_leave d writers t x past a c i puts s role op at len
                (after_told (write_rule d) x past (a ∷ c ∷ i ∷ puts) (Advance d.done) at op (ap (is_on d) (sym op) ∙ on) (ap is_pending reply)
                ∙ ap (λ b. cond (not b) [] (a ∷ c ∷ i ∷ (puts ++ p ∷ []))) (chosen_none d [] (length (puts ++ p ∷ [])) (omega arith))))
            | false ↦ λ no due. cc
          ] refl due)
    ] refl due
