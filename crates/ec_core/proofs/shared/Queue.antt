-- Workers that draw tickets, enter one at a time in the order of their tickets, make one item each,
-- and leave.
use Rattle.std.proofs.Common.{◌≡◌, ℕ, ◌+◌, ◌<◌, ◌≤◌, true, false, refl, sym, ◌∙◌, arith, subst, ◌==◌}
use Rattle.std.proofs.lemmas.Bool.{eqb-true, eqb-false}

-- the state of a worker: its stage and its ticket. Stage 0: outside; 1: with a ticket; 2 and 3:
-- inside; 4: has made its item
pub record QueuePosition : Type 0 where
  pub stage : ℕ
  pub turn : ℕ

-- so many tickets are drawn, so many workers have left, so many items are made
pub record IsQueue (seat : ℕ → QueuePosition) (drawn gone made : ℕ) : Type 0 where
  pub some : gone ≤ made
  pub few : made ≤ drawn
  pub low : (w : ℕ) → 1 ≤ (seat w).stage → gone ≤ (seat w).turn
  pub high : (w : ℕ) → 1 ≤ (seat w).stage → (seat w).turn < drawn
  pub apart : (v w : ℕ) → 1 ≤ (seat v).stage → 1 ≤ (seat w).stage → (seat v).turn ≡ (seat w).turn → v ≡ w
  pub inside : (w : ℕ) → 2 ≤ (seat w).stage → (seat w).turn ≤ gone
  pub before : (w : ℕ) → 1 ≤ (seat w).stage → (seat w).stage ≤ 3 → made ≤ (seat w).turn
  pub after : (w : ℕ) → 4 ≤ (seat w).stage → (seat w).turn < made

-- only one worker has changed its state
abbrev pub IsElsewhereSame : ℕ → (ℕ → QueuePosition) → (ℕ → QueuePosition) → Type 0
IsElsewhereSame w seat next = (v : ℕ) → (w == v) ≡ false → next v ≡ seat v

-- what holds of the worker that changed, and of each other one, holds of each
pub each : (P : ℕ → QueuePosition → Type 0) (seat next : ℕ → QueuePosition) (w : ℕ) → IsElsewhereSame w seat next → P w (next w)
    → ((v : ℕ) → (w == v) ≡ false → P v (seat v)) → (v : ℕ) → P v (next v)
each P seat next w other own rest v =
    elim (w == v) as (λ b. (w == v) ≡ b → P v (next v)) [
      | true ↦ λ h. (let Q : ℕ → Type 0 = λ u. P u (next u) in subst Q (eqb-true w v h) own)
      | false ↦ λ h. (let Q : QueuePosition → Type 0 =
          λ s. P v s in subst Q (sym (other v h)) (rest v h))
    ] refl

-- a queue stays one if no state changes
pub still : (seat next : ℕ → QueuePosition) (drawn gone made w : ℕ) → IsQueue seat drawn gone made → IsElsewhereSame w seat next → next w ≡ seat w → IsQueue next drawn gone made
still seat next drawn gone made w q other own =
    let same : (v : ℕ) → next v ≡ seat v = each (λ v s. s ≡ seat v) seat next w other own (λ v h. refl) in
    record {
      some = q.some;
      few = q.few;
      low = λ v. (let P : QueuePosition → Type 0 = λ s. 1 ≤ s.stage → gone ≤ s.turn in subst P (sym (same v)) (q.low v));
      high = λ v. (let P : QueuePosition → Type 0 = λ s. 1 ≤ s.stage → s.turn < drawn in subst P (sym (same v)) (q.high v));
      apart = λ v u. (let P : QueuePosition → QueuePosition → Type 0 = λ s r. 1 ≤ s.stage → 1 ≤ r.stage → s.turn ≡ r.turn → v ≡ u in
          let Q : QueuePosition → Type 0 = λ s. P s (next u) in
          let R : QueuePosition → Type 0 = λ r. P (seat v) r in
          subst Q (sym (same v)) (subst R (sym (same u)) (q.apart v u)));
      inside = λ v. (let P : QueuePosition → Type 0 = λ s. 2 ≤ s.stage → s.turn ≤ gone in subst P (sym (same v)) (q.inside v));
      before = λ v. (let P : QueuePosition → Type 0 = λ s. 1 ≤ s.stage → s.stage ≤ 3 → made ≤ s.turn in subst P (sym (same v)) (q.before v));
      after = λ v. (let P : QueuePosition → Type 0 = λ s. 4 ≤ s.stage → s.turn < made in subst P (sym (same v)) (q.after v));
    }

-- no two workers have the same ticket if no other has that of the worker that changed
apart_by : (seat next : ℕ → QueuePosition) (w : ℕ) → IsElsewhereSame w seat next
    → ((v u : ℕ) → 1 ≤ (seat v).stage → 1 ≤ (seat u).stage → (seat v).turn ≡ (seat u).turn → v ≡ u)
    → ((v : ℕ) → (w == v) ≡ false → 1 ≤ (next w).stage → 1 ≤ (seat v).stage → (seat v).turn ≡ (next w).turn → w ≡ v)
    → (v u : ℕ) → 1 ≤ (next v).stage → 1 ≤ (next u).stage → (next v).turn ≡ (next u).turn → v ≡ u
apart_by seat next w other apart new =
    each (λ v s. (u : ℕ) → 1 ≤ s.stage → 1 ≤ (next u).stage → s.turn ≡ (next u).turn → v ≡ u) seat next w other
    (each (λ u r. 1 ≤ (next w).stage → 1 ≤ r.stage → (next w).turn ≡ r.turn → w ≡ u) seat next w other
    (λ a b e. refl) (λ u h a b e. new u h a b (sym e)))
    (λ v h. each (λ u r. 1 ≤ (seat v).stage → 1 ≤ r.stage → (seat v).turn ≡ r.turn → v ≡ u) seat next w other
    (λ a b e. sym (new v h b a e)) (λ u k a b e. apart v u a b e))

-- a queue stays one if a worker draws the next ticket
pub draw : (seat next : ℕ → QueuePosition) (drawn gone made w : ℕ) → IsQueue seat drawn gone made → IsElsewhereSame w seat next
    → (next w).stage ≡ 1 → (next w).turn ≡ drawn → IsQueue next (1 + drawn) gone made
draw seat next drawn gone made w q other st tu =
    let some : gone ≤ made = q.some in
    let few : made ≤ drawn = q.few in
    record {
      some = q.some;
      few = omega arith;
      low = each (λ v s. 1 ≤ s.stage → gone ≤ s.turn) seat next w other (λ a. omega arith) (λ v h. q.low v);
      high = each (λ v s. 1 ≤ s.stage → s.turn < 1 + drawn) seat next w other (λ a. omega arith) (λ v h a. (let k : (seat v).turn < drawn = q.high v a in omega arith));
      apart = apart_by seat next w other q.apart (λ v h a b e. (let k : (seat v).turn < drawn = q.high v b in absurd (omega arith)));
      inside = each (λ v s. 2 ≤ s.stage → s.turn ≤ gone) seat next w other (λ a. absurd (omega arith)) (λ v h. q.inside v);
      before = each (λ v s. 1 ≤ s.stage → s.stage ≤ 3 → made ≤ s.turn) seat next w other (λ a b. omega arith) (λ v h. q.before v);
      after = each (λ v s. 4 ≤ s.stage → s.turn < made) seat next w other (λ a. absurd (omega arith)) (λ v h. q.after v);
    }

-- the same if a worker keeps its ticket
keeps_apart : (seat next : ℕ → QueuePosition) (drawn gone made w : ℕ) → IsQueue seat drawn gone made → IsElsewhereSame w seat next
    → 1 ≤ (seat w).stage → (next w).turn ≡ (seat w).turn
    → (v u : ℕ) → 1 ≤ (next v).stage → 1 ≤ (next u).stage → (next v).turn ≡ (next u).turn → v ≡ u
keeps_apart seat next drawn gone made w q other on tu = apart_by seat next w other q.apart (λ v h a b e. q.apart w v on b (sym tu ∙ sym e))

-- a queue stays one if the worker whose ticket is next enters, or continues inside
pub enter : (seat next : ℕ → QueuePosition) (drawn gone made w : ℕ) → IsQueue seat drawn gone made → IsElsewhereSame w seat next
    → 1 ≤ (seat w).stage → (seat w).stage ≤ 3 → 2 ≤ (next w).stage → (next w).stage ≤ 3 → (next w).turn ≡ (seat w).turn → (seat w).turn ≤ gone → IsQueue next drawn gone made
enter seat next drawn gone made w q other was was_not st st_not tu reached =
    let on : 1 ≤ (seat w).stage = omega arith in
    let low : gone ≤ (seat w).turn = q.low w on in
    let high : (seat w).turn < drawn = q.high w on in
    let before : made ≤ (seat w).turn = q.before w on (omega arith) in
    record {
      some = q.some;
      few = q.few;
      low = each (λ v s. 1 ≤ s.stage → gone ≤ s.turn) seat next w other (λ a. omega arith) (λ v h. q.low v);
      high = each (λ v s. 1 ≤ s.stage → s.turn < drawn) seat next w other (λ a. omega arith) (λ v h. q.high v);
      apart = keeps_apart seat next drawn gone made w q other on tu;
      inside = each (λ v s. 2 ≤ s.stage → s.turn ≤ gone) seat next w other (λ a. omega arith) (λ v h. q.inside v);
      before = each (λ v s. 1 ≤ s.stage → s.stage ≤ 3 → made ≤ s.turn) seat next w other (λ a b. omega arith) (λ v h. q.before v);
      after = each (λ v s. 4 ≤ s.stage → s.turn < made) seat next w other (λ a. absurd (omega arith)) (λ v h. q.after v);
    }

-- a worker inside that has not made its item has as its ticket the number of items, and that of
-- those who have left
pub turn_is : (seat : ℕ → QueuePosition) (drawn gone made w : ℕ) → IsQueue seat drawn gone made → 2 ≤ (seat w).stage → (seat w).stage ≤ 3 → ((seat w).turn ≡ made) × ((seat w).turn ≡ gone) × (made < drawn)
turn_is seat drawn gone made w q was was_not =
    let on : 1 ≤ (seat w).stage = omega arith in
    let some : gone ≤ made = q.some in
    let low : gone ≤ (seat w).turn = q.low w on in
    let high : (seat w).turn < drawn = q.high w on in
    let inside : (seat w).turn ≤ gone = q.inside w (omega arith) in
    let before : made ≤ (seat w).turn = q.before w on (omega arith) in
    (omega arith, omega arith, omega arith)

-- a queue stays one if a worker inside makes its item
pub make : (seat next : ℕ → QueuePosition) (drawn gone made w : ℕ) → IsQueue seat drawn gone made → IsElsewhereSame w seat next
    → 2 ≤ (seat w).stage → (seat w).stage ≤ 3 → (next w).stage ≡ 4 → (next w).turn ≡ (seat w).turn → IsQueue next drawn gone (1 + made)
make seat next drawn gone made w q other was was_not st tu =
    let on : 1 ≤ (seat w).stage = omega arith in
    let some : gone ≤ made = q.some in
    let k = turn_is seat drawn gone made w q was was_not in
    let at : (seat w).turn ≡ made = k.0 in
    let at_gone : (seat w).turn ≡ gone = k.1 in
    let room : made < drawn = k.2 in
    record {
      some = omega arith;
      few = omega arith;
      low = each (λ v s. 1 ≤ s.stage → gone ≤ s.turn) seat next w other (λ a. omega arith) (λ v h. q.low v);
      high = each (λ v s. 1 ≤ s.stage → s.turn < drawn) seat next w other (λ a. omega arith) (λ v h. q.high v);
      apart = keeps_apart seat next drawn gone made w q other on tu;
      inside = each (λ v s. 2 ≤ s.stage → s.turn ≤ gone) seat next w other (λ a. omega arith) (λ v h. q.inside v);
      before = each (λ v s. 1 ≤ s.stage → s.stage ≤ 3 → 1 + made ≤ s.turn) seat next w other (λ a b. absurd (omega arith))
          (λ v h a b. (let k : made ≤ (seat v).turn = q.before v a b in
          let differ : (seat v).turn ≡ (seat w).turn → v ≡ w = q.apart v w a on in
          let not : w ≡ v → ⊥ = eqb-false w v h in
          let other_turn : (seat v).turn ≡ (seat w).turn → ⊥ = λ e. not (sym (differ e)) in
          omega arith));
      after = each (λ v s. 4 ≤ s.stage → s.turn < 1 + made) seat next w other (λ a. omega arith) (λ v h a. (let k : (seat v).turn < made = q.after v a in omega arith));
    }

-- a worker inside has as its ticket the number of those who have left
pub leave_turn : (seat : ℕ → QueuePosition) (drawn gone made w : ℕ) → IsQueue seat drawn gone made → 2 ≤ (seat w).stage → (seat w).turn ≡ gone
leave_turn seat drawn gone made w q was =
    let low : gone ≤ (seat w).turn = q.low w (omega arith) in
    let inside : (seat w).turn ≤ gone = q.inside w (omega arith) in
    omega arith

-- a queue stays one if a worker that has made its item leaves
pub leave : (seat next : ℕ → QueuePosition) (drawn gone made w : ℕ) → IsQueue seat drawn gone made → IsElsewhereSame w seat next
    → (seat w).stage ≡ 4 → (next w).stage ≡ 0 → IsQueue next drawn (1 + gone) made
leave seat next drawn gone made w q other was st =
    let on : 1 ≤ (seat w).stage = omega arith in
    let at : (seat w).turn ≡ gone = leave_turn seat drawn gone made w q (omega arith) in
    let after : (seat w).turn < made = q.after w (omega arith) in
    record {
      some = omega arith;
      few = q.few;
      low = each (λ v s. 1 ≤ s.stage → 1 + gone ≤ s.turn) seat next w other (λ a. absurd (omega arith))
          (λ v h a. (let k : gone ≤ (seat v).turn = q.low v a in
          let differ : (seat v).turn ≡ (seat w).turn → v ≡ w = q.apart v w a on in
          let not : w ≡ v → ⊥ = eqb-false w v h in
          let other_turn : (seat v).turn ≡ (seat w).turn → ⊥ = λ e. not (sym (differ e)) in
          omega arith));
      high = each (λ v s. 1 ≤ s.stage → s.turn < drawn) seat next w other (λ a. absurd (omega arith)) (λ v h. q.high v);
      apart = apart_by seat next w other q.apart (λ v h a b e. absurd (omega arith));
      inside = each (λ v s. 2 ≤ s.stage → s.turn ≤ 1 + gone) seat next w other (λ a. absurd (omega arith)) (λ v h a. (let k : (seat v).turn ≤ gone = q.inside v a in omega arith));
      before = each (λ v s. 1 ≤ s.stage → s.stage ≤ 3 → made ≤ s.turn) seat next w other (λ a b. absurd (omega arith)) (λ v h. q.before v);
      after = each (λ v s. 4 ≤ s.stage → s.turn < made) seat next w other (λ a. absurd (omega arith)) (λ v h. q.after v);
    }
