-- Writers keep their queues at each step, and if no more writes were started than are done, nothing
-- is put.
use Rattle.std.proofs.Common.{◌≡◌, ℕ, zero, suc, ◌+◌, ◌<◌, ◌≤◌, Bool, true, false, List, [], ◌∷◌, length, Some, None, nat_lt, get_or, refl, ap, ◌∙◌, arith, cond, ◌==◌, ◌⊎◌, inl, inr}
use Rattle.std.proofs.lemmas.Bool.{ltb-true, leb-false}
use Rattle.ec_count.specs.Tables.{Tables, IsDeclared}
use Rattle.ec_core.specs.declared.act.Act.{Act}
use Rattle.ec_core.specs.declared.act.Act.TheVariants.{Advance, Read, Await, Go, Ticket, Put, Get, Hand}
use Rattle.ec_core.specs.declared.act.Entry.{Entry}
use Rattle.ec_core.specs.Counts.{total, issued, cell_value, is_advance, is_ticket, put_in, sum_to}
use Rattle.ec_core.specs.Acceptance.{IsAccepted}
use Rattle.ec_core.specs.Following.{CompletedCall, block, Follow}
use Rattle.ec_core.specs.CallLists.{is_due, without_value, reply_number}
use Rattle.ec_core.proofs.shared.Answering.{allowed}
use Rattle.ec_core.proofs.shared.Following.{same_test, op_at, step_told, step_opened, step_due, due_is, off_block}
use Rattle.ec_core.proofs.shared.Queue.{QueuePosition, IsQueue}
use Rattle.ec_core.proofs.shared.Reading.{made_by, total_by, issued_by, sum_least, sum_less}
use Rattle.ec_database.specs.Shapes.{Database, IsShape}
use Rattle.ec_database.specs.Calls.{write_call, try_call}
use Rattle.ec_database.specs.Following.{is_on, write_rule, try_rule, rules}
use Rattle.ec_database.proofs.Counting.{puts_at}
use Rattle.ec_database.specs.Tries.{is_put_on}
use Rattle.ec_database.proofs.Writing.{nobody, seat, lead_of, lead, wait, IsWriting, IsStep, quiet_read, quiet_await, quiet_get, quiet_off, quiet_same, write_step, off_cell}

-- COUNTS

-- a writer that is in its list has started and is not done
pub lead_less : (d : Database) (writers : ℕ → Bool) (t : Tables) (past : List Entry) → IsAccepted t past → IsWriting d writers past → total d.done past ≤ total d.start past
lead_less d writers t past acc h =
    (let sum : sum_to (λ w. made_by (is_advance d.done) w past) t.workers ≤ sum_to (λ w. made_by (is_advance d.start) w past) t.workers =
    sum_least t.workers (λ w. made_by (is_advance d.done) w past) (λ w. made_by (is_advance d.start) w past) (λ w. (let k = h.leads w in omega arith)) in
    let a = total_by t d.done past acc in
    let b = total_by t d.start past acc in
    omega arith)

pub drawn_less : (d : Database) (writers : ℕ → Bool) (t : Tables) (past : List Entry) → IsAccepted t past → IsWriting d writers past → issued d.turn past ≤ total d.start past
drawn_less d writers t past acc h =
    (let sum : sum_to (λ w. made_by (is_ticket d.turn) w past) t.workers ≤ sum_to (λ w. made_by (is_advance d.start) w past) t.workers =
    sum_least t.workers (λ w. made_by (is_ticket d.turn) w past) (λ w. made_by (is_advance d.start) w past) (λ w. (let k = h.waits w in omega arith)) in
    let a = issued_by t d.turn past acc in
    let b = total_by t d.start past acc in
    omega arith)

-- if no more was started than done, no writer is in its list
calm : (d : Database) (writers : ℕ → Bool) (t : Tables) (past : List Entry) (w : ℕ) → IsAccepted t past → IsWriting d writers past → w < t.workers → total d.start past ≤ total d.done past → lead d writers past w ≡ 0
calm d writers t past w acc h lt le =
    elim (lead d writers past w) as (λ n. lead d writers past w ≡ n → n ≡ 0) [
      | zero ↦ λ e. refl
      | suc n ↦ λ e.
          (let k = h.leads w in
          let less : made_by (is_advance d.done) w past < made_by (is_advance d.start) w past = omega arith in
          let sum : sum_to (λ v. made_by (is_advance d.done) v past) t.workers < sum_to (λ v. made_by (is_advance d.start) v past) t.workers =
          sum_less t.workers (λ v. made_by (is_advance d.done) v past) (λ v. made_by (is_advance d.start) v past) w (λ v. (let z = h.leads v in omega arith)) lt less in
          let a = total_by t d.done past acc in
          let b = total_by t d.start past acc in
          absurd (omega arith))
    ] refl

-- WRITES AT EACH STEP

pub on_of : (d : Database) (p : Bool) (calls : List CompletedCall) (op : Act) (a : Bool) → (cond p (write_rule d) (try_rule d)).concerns calls op ≡ a → is_on d op ≡ a
on_of d true calls op a h = h
on_of d false calls op a h = h

-- what a reader has next is quiet
try_quiet : (d : Database) (calls : List CompletedCall) (op : Act) → is_due (try_call d calls) (without_value op) ≡ true → (e : ℕ) × ((op ≡ Read e) ⊎ (((v : ℕ) × (op ≡ Await e v)) ⊎ (op ≡ Get e)))
try_quiet d [] op due = (d.start, inl (due_is (Read d.start) op due).1)
try_quiet d (r ∷ []) op due = (d.done, inr (inl (reply_number r.reply, (due_is (Await d.done (reply_number r.reply)) op due).1)))
try_quiet d (r ∷ a ∷ gets) op due =
    elim (nat_lt (length gets) d.cells) as (λ b. is_due (cond b (Some (Get (d.first_cell + length gets))) (cond (length gets == d.cells) (Some (Read d.start)) None)) (without_value op) ≡ true → (e : ℕ) × ((op ≡ Read e) ⊎ (((v : ℕ) × (op ≡ Await e v)) ⊎ (op ≡ Get e)))) [
      | true ↦ λ due. (d.first_cell + length gets, inr (inr (due_is (Get (d.first_cell + length gets)) op due).1))
      | false ↦ λ due.
          (elim (length gets == d.cells) as (λ b. is_due (cond b (Some (Read d.start)) None) (without_value op) ≡ true → (e : ℕ) × ((op ≡ Read e) ⊎ (((v : ℕ) × (op ≡ Await e v)) ⊎ (op ≡ Get e)))) [
            | true ↦ λ due. (d.start, inl (due_is (Read d.start) op due).1)
            | false ↦ λ due. cc
          ] due)
    ] due

quiet_kind : (d : Database) (writers : ℕ → Bool) (t : Tables) (x : Entry) (past : List Entry) (op : Act) → IsStep d writers t x past → op_at x past ≡ op → writers x.worker ≡ false
    → (e : ℕ) × ((op ≡ Read e) ⊎ (((v : ℕ) × (op ≡ Await e v)) ⊎ (op ≡ Get e))) → IsWriting d writers (x ∷ past)
quiet_kind d writers t x past op s is role k =
    elim k.1 [
      | inl a ↦ quiet_same d writers t x past (Read k.0) s (is ∙ a) (quiet_read d k.0) (λ role'. cc)
      | inr b ↦
          (elim b [
            | inl a ↦ quiet_same d writers t x past (Await k.0 a.0) s (is ∙ a.1) (quiet_await d k.0 a.0) (λ role'. cc)
            | inr a ↦ quiet_same d writers t x past (Get k.0) s (is ∙ a) (quiet_get d k.0) (λ role'. cc)
          ])
    ]

both_same : {T : Type 0} (p : Bool) (x : T) → cond p x x ≡ x
both_same true x = refl
both_same false x = refl

no_lead : (d : Database) (writers : ℕ → Bool) (w : ℕ) → lead d writers [] w ≡ 0
unfolding block
no_lead d writers w = both_same (writers w) 0

no_wait : (d : Database) (writers : ℕ → Bool) (w : ℕ) → wait d writers [] w ≡ 0
unfolding block
no_wait d writers w = both_same (writers w) 0

no_seat : (d : Database) (writers : ℕ → Bool) (j w : ℕ) → (seat d writers j [] w).stage ≡ 0
unfolding block
no_seat d writers j w = ap (λ (z : QueuePosition). z.stage) (both_same (writers w) nobody)

empty_queue : (s : ℕ → QueuePosition) → ((w : ℕ) → (s w).stage ≡ 0) → IsQueue s 0 0 0
empty_queue s h = record {
  some = omega arith;
  few = omega arith;
  low = λ w a. (let z : (s w).stage ≡ 0 = h w in absurd (omega arith));
  high = λ w a. (let z : (s w).stage ≡ 0 = h w in absurd (omega arith));
  apart = λ v w a b e. (let z : (s w).stage ≡ 0 = h w in absurd (omega arith));
  inside = λ w a. (let z : (s w).stage ≡ 0 = h w in absurd (omega arith));
  before = λ w a b. (let z : (s w).stage ≡ 0 = h w in absurd (omega arith));
  after = λ w a. (let z : (s w).stage ≡ 0 = h w in absurd (omega arith));
}

at_first : (d : Database) (writers : ℕ → Bool) → IsWriting d writers []
unfolding total issued puts_at made_by cell_value
at_first d writers = record {
  queue = λ j lt. empty_queue (seat d writers j []) (no_seat d writers j);
  leads = λ w. (let z = no_lead d writers w in omega arith);
  waits = λ w. (let z = no_wait d writers w in omega arith);
  latest = λ j lt. refl;
}

step : (d : Database) (writers : ℕ → Bool) (t : Tables) (x : Entry) (past : List Entry) → IsShape d → IsDeclared t → IsAccepted t (x ∷ past) → Follow (rules d writers) (x ∷ past)
    → IsWriting d writers past → IsWriting d writers (x ∷ past)
step d writers t x past shape dec acc f before =
    let w = x.worker in
    let op = op_at x past in
    let s : IsStep d writers t x past = record { shape = shape; accepted = acc; before = before } in
    let returned = step_told t x past dec acc in
    elim (step_due t (rules d writers) x past dec acc f) [
      | inl off ↦
          (let no : is_on d op ≡ false = on_of d (writers w) (block (rules d writers w) w past) op false off in
          quiet_same d writers t x past op s refl (quiet_off d op no) (λ role. off_block (write_rule d) x past no))
      | inr k ↦
          (let on : is_on d op ≡ true = on_of d (writers w) (block (rules d writers w) w past) op true k.0 in
          elim (writers w) as (λ p. writers w ≡ p → (cond p (write_rule d) (try_rule d)).fits (block (cond p (write_rule d) (try_rule d)) w past) op ≡ true → IsWriting d writers (x ∷ past)) [
            | true ↦ λ role due. write_step d writers t x past (block (write_rule d) w past) s role refl on due returned
            | false ↦ λ role due. quiet_kind d writers t x past op s refl role (try_quiet d (block (try_rule d) w past) op due)
          ] refl k.1)
    ]

pub writing : (d : Database) (writers : ℕ → Bool) (t : Tables) (past : List Entry) → IsShape d → IsDeclared t → IsAccepted t past → Follow (rules d writers) past → IsWriting d writers past
writing d writers t [] shape dec acc f = at_first d writers
writing d writers t (x ∷ past) shape dec acc f = step d writers t x past shape dec acc f (writing d writers t past shape dec acc.1 f.1)

-- A PUT IS MADE BY A WRITER IN ITS LIST

abbrev pub is_some_put : Act → Bool
is_some_put (Put y v) = true
is_some_put _ = false

write_place : (d : Database) (calls : List CompletedCall) (op : Act) → is_due (write_call d [] calls) (without_value op) ≡ true → is_some_put op ≡ true
    → (a : CompletedCall) × (c : CompletedCall) × (i : CompletedCall) × (rest : List CompletedCall) × (v : ℕ) × (calls ≡ a ∷ c ∷ i ∷ rest) × (op ≡ Put (d.first_cell + length rest) v) × (length rest < d.cells)
write_place d [] op due put = (let k = due_is (Advance d.start) op due in let no : is_some_put op ≡ false = ap is_some_put k.1 in cc)
write_place d (a ∷ []) op due put = (let k = due_is (Ticket d.turn) op due in let no : is_some_put op ≡ false = ap is_some_put k.1 in cc)
write_place d (a ∷ c ∷ []) op due put = (let k = due_is (Await d.done (reply_number c.reply)) op due in let no : is_some_put op ≡ false = ap is_some_put k.1 in cc)
write_place d (a ∷ c ∷ i ∷ rest) op due put =
    elim (nat_lt (length rest) d.cells) as (λ b. nat_lt (length rest) d.cells ≡ b
    → is_due (cond b (Some (Put (d.first_cell + length rest) (get_or [] (length rest) 0))) (cond (length rest == d.cells) (Some (Advance d.done)) None)) (without_value op) ≡ true
    → (a' : CompletedCall) × (c' : CompletedCall) × (i' : CompletedCall) × (rest' : List CompletedCall) × (v : ℕ) × (a ∷ c ∷ i ∷ rest ≡ a' ∷ c' ∷ i' ∷ rest') × (op ≡ Put (d.first_cell + length rest') v) × (length rest' < d.cells)) [
      | true ↦ λ h due. (let k = due_is (Put (d.first_cell + length rest) (get_or [] (length rest) 0)) op due in (a, c, i, rest, k.0, refl, k.1, ltb-true (length rest) d.cells h))
      | false ↦ λ h due.
          (elim (length rest == d.cells) as (λ b. is_due (cond b (Some (Advance d.done)) None) (without_value op) ≡ true
          → (a' : CompletedCall) × (c' : CompletedCall) × (i' : CompletedCall) × (rest' : List CompletedCall) × (v : ℕ) × (a ∷ c ∷ i ∷ rest ≡ a' ∷ c' ∷ i' ∷ rest') × (op ≡ Put (d.first_cell + length rest') v) × (length rest' < d.cells)) [
            | true ↦ λ due. (let k = due_is (Advance d.done) op due in let no : is_some_put op ≡ false = ap is_some_put k.1 in cc)
            | false ↦ λ due. cc
          ] due)
    ] refl due

no_put_there : (op : Act) → (e : ℕ) × ((op ≡ Read e) ⊎ (((v : ℕ) × (op ≡ Await e v)) ⊎ (op ≡ Get e))) → is_some_put op ≡ false
no_put_there op k =
    elim k.1 [
      | inl a ↦ ap is_some_put a
      | inr b ↦ (elim b [ inl a ↦ ap is_some_put a.1 | inr a ↦ ap is_some_put a ])
    ]

-- a put on the database is the one that its writer has next
pub put_is : (d : Database) (writers : ℕ → Bool) (t : Tables) (x : Entry) (past : List Entry) → IsDeclared t → IsAccepted t (x ∷ past) → Follow (rules d writers) (x ∷ past)
    → is_some_put (op_at x past) ≡ true → is_on d (op_at x past) ≡ true
    → (writers x.worker ≡ true) × ((a : CompletedCall) × (c : CompletedCall) × (i : CompletedCall) × (rest : List CompletedCall) × (v : ℕ) × (block (write_rule d) x.worker past ≡ a ∷ c ∷ i ∷ rest) × (op_at x past ≡ Put (d.first_cell + length rest) v) × (length rest < d.cells))
put_is d writers t x past dec acc f put on =
    let w = x.worker in
    let op = op_at x past in
    elim (step_due t (rules d writers) x past dec acc f) [
      | inl off ↦ (let no : is_on d op ≡ false = on_of d (writers w) (block (rules d writers w) w past) op false off in cc)
      | inr k ↦
          (elim (writers w) as (λ p. writers w ≡ p → (cond p (write_rule d) (try_rule d)).fits (block (cond p (write_rule d) (try_rule d)) w past) op ≡ true
          → (writers w ≡ true) × ((a : CompletedCall) × (c : CompletedCall) × (i : CompletedCall) × (rest : List CompletedCall) × (v : ℕ) × (block (write_rule d) w past ≡ a ∷ c ∷ i ∷ rest) × (op ≡ Put (d.first_cell + length rest) v) × (length rest < d.cells))) [
            | true ↦ λ role due. (role, write_place d (block (write_rule d) w past) op due put)
            | false ↦ λ role due. (let no : is_some_put op ≡ false = no_put_there op (try_quiet d (block (try_rule d) w past) op due) in cc)
          ] refl k.1)
    ]

is_put_some : (d : Database) (op : Act) → is_put_on d op ≡ true → (is_some_put op ≡ true) × (is_on d op ≡ true)
is_put_some d (Put y v) h = (refl, h)
is_put_some d (Advance e) h = cc
is_put_some d (Read e) h = cc
is_put_some d (Await e v) h = cc
is_put_some d Go h = cc
is_put_some d (Ticket q) h = cc
is_put_some d (Get y) h = cc
is_put_some d (Hand e b) h = cc

worker_declared : (t : Tables) (x : Entry) (past : List Entry) → IsAccepted t (x ∷ past) → x.worker < t.workers
worker_declared t x past acc = leb-false t.workers x.worker (allowed t past x.worker x.act x.reply acc.0).0.declared

pub put_on_op : (d : Database) (t : Tables) (x : Entry) (past : List Entry) → IsAccepted t (x ∷ past) → is_put_on d x.act ≡ is_put_on d (op_at x past)
put_on_op d t x past acc = same_test (is_put_on d) false t x.act (op_at x past) refl (λ f. refl) (λ f v. refl) (step_opened t x past acc)

lead_one : (d : Database) (writers : ℕ → Bool) (past : List Entry) (w : ℕ) (a : CompletedCall) (rest : List CompletedCall) → writers w ≡ true → block (write_rule d) w past ≡ a ∷ rest → lead d writers past w ≡ 1
lead_one d writers past w a rest role is = rw role (ap lead_of is)

-- in a calm moment nothing is put
pub no_put : (d : Database) (writers : ℕ → Bool) (t : Tables) (x : Entry) (past : List Entry) → IsShape d → IsDeclared t → IsAccepted t (x ∷ past) → Follow (rules d writers) (x ∷ past)
    → total d.start past ≤ total d.done past → is_put_on d (op_at x past) ≡ false
no_put d writers t x past shape dec acc f le =
    elim (is_put_on d (op_at x past)) as (λ b. is_put_on d (op_at x past) ≡ b → b ≡ false) [
      | false ↦ λ e. refl
      | true ↦ λ e.
          (let k = is_put_some d (op_at x past) e in
          let p = put_is d writers t x past dec acc f k.0 k.1 in
          let one : lead d writers past x.worker ≡ 1 = lead_one d writers past x.worker p.1.0 (p.1.1 ∷ p.1.2 ∷ p.1.3) p.0 p.1.5 in
          let none : lead d writers past x.worker ≡ 0 = calm d writers t past x.worker acc.1 (writing d writers t past shape dec acc.1 f.1) (worker_declared t x past acc) le in
          absurd (omega arith))
    ] refl

pub off_put : (d : Database) (op : Act) (j : ℕ) → is_put_on d op ≡ false → j < d.cells → put_in (d.first_cell + j) op ≡ None
off_put d (Put y v) j h lt = off_cell d y v j h lt
off_put d (Advance e) j h lt = refl
off_put d (Read e) j h lt = refl
off_put d (Await e v) j h lt = refl
off_put d Go j h lt = refl
off_put d (Ticket q) j h lt = refl
off_put d (Get y) j h lt = refl
off_put d (Hand e b) j h lt = refl
