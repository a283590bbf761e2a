-- Each put into a cell has the next turn.
use Rattle.std.proofs.Common.{◌≡◌, ℕ, suc, ◌+◌, ◌<◌, ◌≤◌, Bool, true, false, List, [], ◌∷◌, ◌++◌, length, Some, None, is_some, refl, ap, sym, ◌∙◌, arith, cond, ◌==◌}
use Rattle.std.proofs.lemmas.Bool.{eqb-true, le-leb}
use Rattle.ec_count.specs.Tables.{Tables, IsDeclared}
use Rattle.ec_core.specs.declared.act.Act.{Act}
use Rattle.ec_core.specs.declared.act.Act.TheVariants.{Advance, Read, Await, Go, Ticket, Put, Get, Hand}
use Rattle.ec_core.specs.declared.act.Entry.{Entry}
use Rattle.ec_core.specs.Counts.{put_in}
use Rattle.ec_core.specs.Acceptance.{IsAccepted}
use Rattle.ec_core.specs.Following.{Rule, block, Follow}
use Rattle.ec_core.proofs.shared.Following.{op_at}
use Rattle.ec_core.proofs.shared.Queue.{QueuePosition, turn_is}
use Rattle.ec_database.specs.Shapes.{Database, IsShape}
use Rattle.ec_database.specs.Following.{is_on, rules}
use Rattle.ec_database.specs.Calls.{drawn_turn}
use Rattle.ec_database.proofs.Written.{chosen_if, written}
use Rattle.ec_database.proofs.Counting.{puts_at}
use Rattle.ec_database.proofs.Writing.{seat_at, seat, rules_write, put_in_op, seat_is, is_cell_at}
use Rattle.ec_database.proofs.Steady.{writing, is_some_put, put_is}

pub put_in_some : (y : ℕ) (op : Act) (v : ℕ) → put_in y op ≡ Some v → op ≡ Put y v
put_in_some y (Put z u) v h =
    elim (z == y) as (λ b. (z == y) ≡ b → cond b (Some u) None ≡ Some v → Put z u ≡ Put y v) [
      | true ↦ λ e g. (let p : z ≡ y = eqb-true z y e in let q : u ≡ v = cc in cc)
      | false ↦ λ e g. cc
    ] refl h
put_in_some y (Advance e) v h = cc
put_in_some y (Read e) v h = cc
put_in_some y (Await e u) v h = cc
put_in_some y Go v h = cc
put_in_some y (Ticket q) v h = cc
put_in_some y (Get z) v h = cc
put_in_some y (Hand e b) v h = cc

abbrev place_in : Act → ℕ
place_in (Put y v) = y
place_in _ = 0

-- the put into a cell that is made is the next one
pub put_turn : (d : Database) (writers : ℕ → Bool) (t : Tables) (x : Entry) (past : List Entry) (j v : ℕ) → IsShape d → IsDeclared t → IsAccepted t (x ∷ past) → Follow (rules d writers) (x ∷ past)
    → j < d.cells → put_in (d.first_cell + j) (op_at x past) ≡ Some v → drawn_turn (block (rules d writers x.worker) x.worker past) ≡ puts_at d j past
put_turn d writers t x past j v shape dec acc f lt put =
    let op : op_at x past ≡ Put (d.first_cell + j) v = put_in_some (d.first_cell + j) (op_at x past) v put in
    let k = put_is d writers t x past dec acc f (ap is_some_put op) (ap (is_on d) op ∙ is_cell_at d j lt) in
    let a = k.1.0 in let c = k.1.1 in let i = k.1.2 in let rest = k.1.3 in
    let same : d.first_cell + length rest ≡ d.first_cell + j = ap place_in (sym k.1.6 ∙ op) in
    let was : seat d writers j past x.worker ≡ seat_at j (a ∷ c ∷ i ∷ rest) = seat_is d writers j past x.worker (a ∷ c ∷ i ∷ rest) k.0 k.1.5 in
    let stage : (seat d writers j past x.worker).stage ≡ 2 = ap (λ (z : QueuePosition). z.stage) was ∙ ap (λ b. cond b 2 4) (le-leb (length rest) j (omega arith)) in
    let mine = turn_is _ _ _ _ x.worker ((writing d writers t past shape dec acc.1 f.1).queue j lt) (omega arith) (omega arith) in
    ap drawn_turn (rules_write d writers past x.worker (a ∷ c ∷ i ∷ rest) k.0 k.1.5) ∙ sym (ap (λ (z : QueuePosition). z.turn) was) ∙ mine.0

puts_grow : (d : Database) (j : ℕ) (x : Entry) (past : List Entry) → puts_at d j past ≤ puts_at d j (x ∷ past)
unfolding puts_at
puts_grow d j x past = omega arith

pub puts_later : (d : Database) (j : ℕ) (since past : List Entry) → puts_at d j past ≤ puts_at d j (since ++ past)
puts_later d j [] past = omega arith
puts_later d j (x ∷ since) past = (let a = puts_grow d j x (since ++ past) in let b = puts_later d j since past in omega arith)

-- WHERE A VALUE WAS PUT

-- an entry puts v into cell j in the write of this turn; early is the history before it
pub record PutStands (d : Database) (writers : ℕ → Bool) (past : List Entry) (j turn v : ℕ) : Type 0 where
  pub since : List Entry
  pub entry : Entry
  pub early : List Entry
  pub is : past ≡ since ++ entry ∷ early
  pub puts : put_in (d.first_cell + j) entry.act ≡ Some v
  pub drawn : drawn_turn (block (rules d writers entry.worker) entry.worker early) ≡ turn

put_later : (d : Database) (writers : ℕ → Bool) (x : Entry) (past : List Entry) (j turn v : ℕ) → PutStands d writers past j turn v → PutStands d writers (x ∷ past) j turn v
put_later d writers x past j turn v h = record { since = x ∷ h.since; entry = h.entry; early = h.early; is = ap (λ p. x ∷ p) h.is; puts = h.puts; drawn = h.drawn }

pub put_stands : (d : Database) (writers : ℕ → Bool) (past : List Entry) (j turn v : ℕ) → written d writers j turn past ≡ Some v → PutStands d writers past j turn v
unfolding written
put_stands d writers [] j turn v h = cc
put_stands d writers (x ∷ past) j turn v h =
    let mine : Bool = drawn_turn (block (rules d writers x.worker) x.worker past) == turn in
    elim (put_in (d.first_cell + j) x.act) as (λ o. put_in (d.first_cell + j) x.act ≡ o → chosen_if mine o (written d writers j turn past) ≡ Some v → PutStands d writers (x ∷ past) j turn v) [
      | None ↦ λ e g. put_later d writers x past j turn v (put_stands d writers past j turn v g)
      | Some u ↦ λ e g.
          (elim mine as (λ b. mine ≡ b → cond b (Some u) (written d writers j turn past) ≡ Some v → PutStands d writers (x ∷ past) j turn v) [
            | true ↦ λ k same.
                (let value : u ≡ v = cc in
                record { since = []; entry = x; early = past; is = refl; puts = e ∙ ap Some value; drawn = eqb-true (drawn_turn (block (rules d writers x.worker) x.worker past)) turn k })
            | false ↦ λ k other. put_later d writers x past j turn v (put_stands d writers past j turn v other)
          ] refl g)
    ] refl h

-- it is made by a writer
pub put_by_writer : (d : Database) (writers : ℕ → Bool) (t : Tables) (x : Entry) (past : List Entry) (j v : ℕ) → IsDeclared t → IsAccepted t (x ∷ past) → Follow (rules d writers) (x ∷ past) → j < d.cells
    → put_in (d.first_cell + j) x.act ≡ Some v → writers x.worker ≡ true
put_by_writer d writers t x past j v dec acc f lt put =
    let op : op_at x past ≡ Put (d.first_cell + j) v = put_in_some (d.first_cell + j) (op_at x past) v (sym (put_in_op (d.first_cell + j) t x past acc) ∙ put) in
    (put_is d writers t x past dec acc f (ap is_some_put op) (ap (is_on d) op ∙ is_cell_at d j lt)).0

-- a put is one more
pub puts_more : (d : Database) (j v : ℕ) (x : Entry) (past : List Entry) → put_in (d.first_cell + j) x.act ≡ Some v → puts_at d j (x ∷ past) ≡ suc (puts_at d j past)
unfolding puts_at
puts_more d j v x past put = ap (λ o. cond (is_some o) 1 0 + puts_at d j past) put ∙ (let one : 1 + puts_at d j past ≡ suc (puts_at d j past) = omega arith in one)
