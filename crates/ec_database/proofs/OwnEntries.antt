-- An accepted try has one first read and one get of each value: no two entries end calls of one
-- number.
use Rattle.std.proofs.Common.{◌≡◌, ℕ, zero, suc, ◌+◌, ◌-◌, ◌<◌, ◌≤◌, Bool, true, false, ◌||◌, List, ◌∷◌, Option, Some, None, refl, ap, ◌∙◌, arith, subst, ◌==◌, nat_lt, slice_get}
use Rattle.std.proofs.lemmas.Bool.{eq-eqb, ltb-true, ltb-false}
use Rattle.ec_core.specs.declared.act.Act.{Act}
use Rattle.ec_core.specs.declared.act.Act.TheVariants.{Read, Get}
use Rattle.ec_core.specs.declared.act.Reply.TheVariants.{Number}
use Rattle.ec_core.specs.declared.act.Entry.{Entry}
use Rattle.ec_core.specs.Counts.{past_at}
use Rattle.ec_core.specs.Calls.{is_pending, under_way}
use Rattle.ec_core.specs.Following.{opening_act}
use Rattle.ec_core.proofs.shared.Following.{op_at}
use Rattle.ec_core.proofs.shared.Moments.{past_next, past_end}
use Rattle.ec_database.specs.Shapes.{Database}
use Rattle.ec_database.specs.Following.{is_on}
use Rattle.ec_database.specs.Tries.{EndsCall}
use Rattle.ec_database.specs.Laws.{TriesHaveOwnEntries}
use Rattle.ec_database.proofs.CallNumbers.{number, number_on, number_rises}
use Rattle.ec_database.proofs.Writing.{is_cell_at}

-- an entry of w ends a call on a group
record EndsOne (on : Act → Bool) (w : ℕ) (h : List Entry) (k : ℕ) : Type 0 where
  entry : Entry
  is : slice_get h k ≡ Some entry
  by : entry.worker ≡ w
  done : is_pending entry.reply ≡ false
  on_group : on (op_at entry (past_at k h)) ≡ true

number_at : (on : Act → Bool) (w : ℕ) (h : List Entry) (k : ℕ) (o : Option Entry) → slice_get h k ≡ o → number on w (past_at k h) ≤ number on w (past_at (suc k) h)
number_at on w h k None at = (let same = ap (number on w) (past_end h k at) in omega arith)
number_at on w h k (Some x) at =
    let next : number on w (past_at (suc k) h) ≡ number on w (x ∷ past_at k h) = ap (number on w) (past_next h k x at) in
    let more = number_rises on w x (past_at k h) in
    omega arith

number_after : (on : Act → Bool) (w : ℕ) (h : List Entry) (k n : ℕ) → number on w (past_at k h) ≤ number on w (past_at (k + n) h)
number_after on w h k zero = (let same : number on w (past_at (k + 0) h) ≡ number on w (past_at k h) = ap (λ i. number on w (past_at i h)) (let z : k + 0 ≡ k = omega arith in z) in omega arith)
number_after on w h k (suc n) =
    let before = number_after on w h k n in
    let rise = number_at on w h (k + n) (slice_get h (k + n)) refl in
    let next : number on w (past_at (k + suc n) h) ≡ number on w (past_at (suc (k + n)) h) = ap (λ i. number on w (past_at i h)) (let z : k + suc n ≡ suc (k + n) = omega arith in z) in
    omega arith

-- a later entry has a higher number
higher : (on : Act → Bool) (w : ℕ) (h : List Entry) (i j : ℕ) → EndsOne on w h i → i < j → number on w (past_at i h) < number on w (past_at j h)
higher on w h i j e lt =
    let x = e.entry in
    let next : number on w (past_at (suc i) h) ≡ number on w (x ∷ past_at i h) = ap (number on w) (past_next h i x e.is) in
    let P : ℕ → Type 0 = λ v. number on v (x ∷ past_at i h) ≡ number on v (past_at i h) + 1 in
    let one : number on w (x ∷ past_at i h) ≡ number on w (past_at i h) + 1 = subst P e.by (number_on on x (past_at i h) e.done e.on_group) in
    let rest = number_after on w h (suc i) (j - suc i) in
    let there : number on w (past_at (suc i + (j - suc i)) h) ≡ number on w (past_at j h) = ap (λ n. number on w (past_at n h)) (let z : suc i + (j - suc i) ≡ j = omega arith in z) in
    omega arith

one_place : (on : Act → Bool) (w : ℕ) (h : List Entry) (i j : ℕ) → EndsOne on w h i → EndsOne on w h j → number on w (past_at i h) ≡ number on w (past_at j h) → i ≡ j
one_place on w h i j a b same =
    elim (nat_lt i j) as (λ v. nat_lt i j ≡ v → i ≡ j) [
      | true ↦ λ e. (let up = higher on w h i j a (ltb-true i j e) in absurd (omega arith))
      | false ↦ λ e.
          (elim (nat_lt j i) as (λ v. nat_lt j i ≡ v → i ≡ j) [
            | true ↦ λ f. (let up = higher on w h j i b (ltb-true j i f) in absurd (omega arith))
            | false ↦ λ f. (let low = ltb-false i j e in let high = ltb-false j i f in omega arith)
          ] refl)
    ] refl

read_ends : (d : Database) (h : List Entry) (k w v : ℕ) → EndsCall h k w (Read d.start) (Number v) → EndsOne (is_on d) w h k
read_ends d h k w v e =
    let x = e.entry in
    record {
      entry = x;
      is = e.is;
      by = e.by;
      done = ap is_pending e.returned;
      on_group = ap (λ u. is_on d (opening_act x.act (under_way u (past_at k h)))) e.by ∙ ap (is_on d) e.began ∙ ap (λ b. b || d.start == d.done) (eq-eqb d.start d.start refl);
    }

get_ends : (d : Database) (h : List Entry) (k w j v : ℕ) → j < d.cells → slice_get h k ≡ Some (record { worker = w; act = Get (d.first_cell + j); reply = Number v }) → EndsOne (is_on d) w h k
get_ends d h k w j v lt at = record { entry = record { worker = w; act = Get (d.first_cell + j); reply = Number v }; is = at; by = refl; done = refl; on_group = is_cell_at d j lt }

pub own_entries : TriesHaveOwnEntries
own_entries t d h last a x y =
    let w = a.worker in
    let on = is_on d in
    let again = x.again_number in
    let again' = y.again_number in (
      one_place on w h x.first y.first (read_ends d h x.first w a.version x.read) (read_ends d h y.first w a.version y.read) (omega arith),
      λ j lt.
          (let g = x.gets j lt in
          let g' = y.gets j lt in
          let n = x.gets_number j lt in
          let n' = y.gets_number j lt in
          one_place on w h (x.got j) (y.got j) (get_ends d h (x.got j) w j g.0 lt g.2) (get_ends d h (y.got j) w j g'.0 lt g'.2) (omega arith)),
    )
