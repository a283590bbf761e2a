-- The pass over a run gathers the deliveries.
use Rattle.std.proofs.Common.{◌≡◌, ℕ, zero, suc, ◌+◌, ◌-◌, ◌%◌, ◌<◌, ◌≤◌, Bool, true, false, List, [], ◌∷◌, ◌++◌, length, Option, Some, None, refl, ap, sym, ◌∙◌, arith, subst, cond, ◌==◌, nat_le, nat_lt, inl, inr, slice_get, reverse, get_or, slice_set}
use Rattle.std.specs.Option.{option_map_or}
use Rattle.std.proofs.lemmas.Bool.{eqb-true, eqb-false, ne_eqb, and_parts, leb-true, ltb-true}
use Rattle.std.proofs.lemmas.List.{get_or-replicate, get_or-set_same, get_or-set_other, length-set, length-replicate}
use Rattle.std.proofs.Math.Seq.{take-length}
use Rattle.ec_count.specs.Tables.{Tables}
use Rattle.ec_core.specs.declared.act.Act.{Act}
use Rattle.ec_core.specs.declared.act.Act.TheVariants.{Advance, Read, Await, Go, Ticket, Put, Get, Hand}
use Rattle.ec_core.specs.declared.act.Entry.{Entry}
use Rattle.ec_core.specs.Calls.{CallSoFar, under_way}
use Rattle.ec_core.specs.CallLists.{reply_number}
use Rattle.ec_core.specs.Counts.{past_at, put_in}
use Rattle.ec_core.specs.Following.{opening_act}
use Rattle.ec_core.proofs.shared.Joining.{last_get}
use Rattle.ec_core.proofs.shared.Moments.{past_next, past_end}
use Rattle.ec_buffer.specs.declared.delivery.Delivery.{Delivery}
use Rattle.ec_buffer.specs.Shapes.{Buffer, IsShape}
use Rattle.ec_buffer.specs.Follows.{is_cell}
use Rattle.ec_buffer.specs.Items.{is_get_on, PutsItem, IsDelivery, AreDeliveries}
use Rattle.ec_buffer.specs.Laws.{IsFollowed}
use Rattle.ec_buffer.specs.Collecting.{put_place, get_place, writers_after, list_after, writers_of, collected}
use Rattle.ec_buffer.proofs.Moves.{gets, Moved, standing}
use Rattle.ec_buffer.proofs.Handing.{is_cell_at}
use Rattle.ec_buffer.proofs.InTime.{gets_count, entry_at, get_told, get_next, finds}

-- THE LAST WRITER OF A CELL

set_length : (o : Option ℕ) (w : ℕ) (writers : List ℕ) → length (writers_after o w writers) ≡ length writers
set_length None w writers = refl
set_length (Some place) w writers = length-set writers place w

writers_length : (b : Buffer) (past : List Entry) → length (writers_of b past) ≡ 256
unfolding writers_of
writers_length b [] = length-replicate {A = ℕ} 256 0
writers_length b (x ∷ past) = set_length (put_place b x.act) x.worker (writers_of b past) ∙ writers_length b past

abbrev moved_by : ℕ → ℕ → Moved
moved_by w v = record { worker = w; item = v }

-- a put in cell y of the buffer
written : (first n j y w v : ℕ) (writers : List ℕ) (m : Moved) → first ≤ y → y < first + n → first + n ≤ length writers → get_or writers j 0 ≡ m.worker
    → get_or (slice_set writers (y - first) w) j 0 ≡ (option_map_or (moved_by w) (cond (y == first + j) (Some v) None) m).worker
written first n j y w v writers m low high room h =
    elim (y == first + j) as (λ e. (y == first + j) ≡ e → get_or (slice_set writers (y - first) w) j 0 ≡ (option_map_or (moved_by w) (cond e (Some v) None) m).worker) [
      | true ↦ λ e. (let same = eqb-true y (first + j) e in
          let place : y - first ≡ j = omega arith in
          ap (λ k. get_or (slice_set writers k w) j 0) place ∙ get_or-set_same writers j w 0 (omega arith))
      | false ↦ λ e. (let other = eqb-false y (first + j) e in get_or-set_other writers (y - first) j w 0 (λ q. other (omega arith)) ∙ h)
    ] refl

writer_put : (b : Buffer) (y v w j : ℕ) (writers : List ℕ) (m : Moved) → b.first_cell + b.cells ≤ length writers → j < b.cells → get_or writers j 0 ≡ m.worker
    → get_or (writers_after (put_place b (Put y v)) w writers) j 0 ≡ (option_map_or (moved_by w) (put_in (b.first_cell + j) (Put y v)) m).worker
writer_put b y v w j writers m room lt h =
    elim (is_cell b y) as (λ on. is_cell b y ≡ on → get_or (writers_after (cond on (Some (y - b.first_cell)) None) w writers) j 0 ≡ (option_map_or (moved_by w) (cond (y == b.first_cell + j) (Some v) None) m).worker) [
      | true ↦ λ on.
          (let k = and_parts (nat_le b.first_cell y) (nat_lt y (b.first_cell + b.cells)) on in
          written b.first_cell b.cells j y w v writers m (leb-true b.first_cell y k.0) (ltb-true y (b.first_cell + b.cells) k.1) room h)
      | false ↦ λ off.
          (let other : (y == b.first_cell + j) ≡ false = ne_eqb y (b.first_cell + j) (λ e. (let on : is_cell b y ≡ true = ap (is_cell b) e ∙ is_cell_at b j lt in cc)) in
          h ∙ sym (ap (λ e. (option_map_or (moved_by w) (cond e (Some v) None) m).worker) other))
    ] refl

writer_step : (b : Buffer) (act : Act) (w j : ℕ) (writers : List ℕ) (m : Moved) → b.first_cell + b.cells ≤ length writers → j < b.cells → get_or writers j 0 ≡ m.worker
    → get_or (writers_after (put_place b act) w writers) j 0 ≡ (option_map_or (moved_by w) (put_in (b.first_cell + j) act) m).worker
writer_step b (Put y v) w j writers m room lt h = writer_put b y v w j writers m room lt h
writer_step b (Get y) w j writers m room lt h = h
writer_step b (Advance e) w j writers m room lt h = h
writer_step b (Read e) w j writers m room lt h = h
writer_step b (Await e v) w j writers m room lt h = h
writer_step b Go w j writers m room lt h = h
writer_step b (Ticket q) w j writers m room lt h = h
writer_step b (Hand e c) w j writers m room lt h = h

writer_stands : (b : Buffer) (past : List Entry) (j : ℕ) → IsShape b → j < b.cells → get_or (writers_of b past) j 0 ≡ (standing (b.first_cell + j) past).worker
unfolding writers_of standing
writer_stands b [] j s lt = (let room = s.room in get_or-replicate 256 j 0 0 (omega arith))
writer_stands b (x ∷ past) j s lt =
    (let room : b.first_cell + b.cells ≤ length (writers_of b past) = subst (λ n. b.first_cell + b.cells ≤ n) (sym (writers_length b past)) s.room in
    writer_step b x.act x.worker j (writers_of b past) (standing (b.first_cell + j) past) room lt (writer_stands b past j s lt))

-- GETS

-- an act that gets names a cell of the buffer, at this index
record IsGet (b : Buffer) (act : Act) (o : Option CallSoFar) (place : ℕ) : Type 0 where
  on : is_get_on b act ≡ true
  within : place < b.cells
  op : opening_act act o ≡ Get (b.first_cell + place)

got_cell : (b : Buffer) (y place : ℕ) (o : Option CallSoFar) → cond (is_cell b y) (Some (y - b.first_cell)) None ≡ Some place → IsGet b (Get y) o place
got_cell b y place o e =
    elim (is_cell b y) as (λ on. is_cell b y ≡ on → cond on (Some (y - b.first_cell)) None ≡ Some place → IsGet b (Get y) o place) [
      | true ↦ λ on g.
          (let k = and_parts (nat_le b.first_cell y) (nat_lt y (b.first_cell + b.cells)) on in
          let low = leb-true b.first_cell y k.0 in
          let high = ltb-true y (b.first_cell + b.cells) k.1 in
          let is : y - b.first_cell ≡ place = cc in
          let cell : y ≡ b.first_cell + place = omega arith in
          record { on = on; within = omega arith; op = ap Get cell })
      | false ↦ λ off g. (cc)
    ] refl e

get_of : (b : Buffer) (act : Act) (o : Option CallSoFar) (place : ℕ) → get_place b act ≡ Some place → IsGet b act o place
get_of b (Get y) o place e = got_cell b y place o e
get_of b (Put y v) o place e = cc
get_of b (Advance f) o place e = cc
get_of b (Read f) o place e = cc
get_of b (Await f v) o place e = cc
get_of b Go o place e = cc
get_of b (Ticket q) o place e = cc
get_of b (Hand f c) o place e = cc

-- as many deliveries as gets
one_longer : {A : Type 0} (xs : List A) (y : A) → length (xs ++ y ∷ []) ≡ 1 + length xs
one_longer [] y = refl
one_longer (x ∷ xs) y = (let k : length (xs ++ y ∷ []) ≡ 1 + length xs = one_longer xs y in omega arith)

cell_length : (on : Bool) (place n : ℕ) (x : Entry) (writers : List ℕ) (list : List Delivery) → length list ≡ n → length (list_after (cond on (Some place) None) x writers list) ≡ cond on 1 0 + n
cell_length true place n x writers list h = one_longer list _ ∙ ap (λ k. 1 + k) h
cell_length false place n x writers list h = omega arith

list_length : (b : Buffer) (act : Act) (n : ℕ) (x : Entry) (writers : List ℕ) (list : List Delivery) → length list ≡ n → length (list_after (get_place b act) x writers list) ≡ cond (is_get_on b act) 1 0 + n
list_length b (Get y) n x writers list h = cell_length (is_cell b y) (y - b.first_cell) n x writers list h
list_length b (Put y v) n x writers list h = omega arith
list_length b (Advance e) n x writers list h = omega arith
list_length b (Read e) n x writers list h = omega arith
list_length b (Await e v) n x writers list h = omega arith
list_length b Go n x writers list h = omega arith
list_length b (Ticket q) n x writers list h = omega arith
list_length b (Hand e c) n x writers list h = omega arith

collected_length : (b : Buffer) (past : List Entry) → length (collected b past) ≡ gets b past
unfolding collected gets
collected_length b [] = refl
collected_length b (x ∷ past) = list_length b x.act (gets b past) x (writers_of b past) (collected b past) (collected_length b past)

-- BY NUMBER

abbrev cell_in : Act → ℕ
cell_in (Get y) = y
cell_in _ = 0

-- the delivery of a get
newest : (t : Tables) (b : Buffer) (h : List Entry) (k i place : ℕ) (x : Entry) → IsFollowed t b h → slice_get h k ≡ Some x → get_place b x.act ≡ Some place → gets b (past_at k h) ≡ i
    → IsDelivery t b h i (record { number = i; producer = get_or (writers_of b (past_at k h)) place 0; consumer = x.worker; item = reply_number x.reply })
newest t b h k i place x f at get turn =
    let past = past_at k h in
    let g = get_of b x.act (under_way x.worker past) place get in
    let next = get_next t b h k x f at g.on in
    let it = finds t b h k i x f at g.on turn in
    let cell : b.first_cell + place ≡ b.first_cell + gets b past % b.cells = ap cell_in (sym g.op ∙ next.op) in
    let number : gets b past % b.cells ≡ i % b.cells = ap (λ n. n % b.cells) turn in
    let where_it_is : place ≡ i % b.cells = omega arith in
    let writer : it.found.worker ≡ get_or (writers_of b past) place 0 =
    ap (λ (m : Moved). m.worker) (sym it.represents) ∙ ap (λ n. (standing (b.first_cell + n) past).worker) (sym where_it_is) ∙ sym (writer_stands b past place f.shape g.within) in
    record {
      number = refl;
      produced = (it.before.place, subst (λ v. PutsItem t b h it.before.place i v (reply_number x.reply)) writer (subst (λ v. PutsItem t b h it.before.place i it.found.worker v) it.item it.before.puts));
      delivered = (k, record { entry = x; is = at; by = refl; gets = g.on; returned = get_told b t x past f.declared (entry_at t b h k x f at).accepted g.on; ticket = next.turn ∙ turn });
    }

gathered_step : (t : Tables) (b : Buffer) (h : List Entry) (k i : ℕ) (x : Entry) (d : Delivery) (o : Option ℕ) → IsFollowed t b h → slice_get h k ≡ Some x → get_place b x.act ≡ o
    → slice_get (list_after o x (writers_of b (past_at k h)) (collected b (past_at k h))) i ≡ Some d
    → (slice_get (collected b (past_at k h)) i ≡ Some d → IsDelivery t b h i d) → IsDelivery t b h i d
gathered_step t b h k i x d None f at get e before = before e
gathered_step t b h k i x d (Some place) f at get e before =
    elim (last_get (collected b (past_at k h)) _ d i e) [
      | inl early ↦ before early.0
      | inr last ↦
          (let n = length (collected b (past_at k h)) in
          let turn : gets b (past_at k h) ≡ n = sym (collected_length b (past_at k h)) in
          let P : Delivery → Type 0 = λ z. IsDelivery t b h i z in
          let Q : ℕ → Type 0 = λ j. IsDelivery t b h j (record { number = n; producer = get_or (writers_of b (past_at k h)) place 0; consumer = x.worker; item = reply_number x.reply }) in
          subst P last.1 (subst Q (sym last.0) (newest t b h k n place x f at get turn)))
    ]

gathered_at : (t : Tables) (b : Buffer) (h : List Entry) (k i : ℕ) (d : Delivery) → IsFollowed t b h → slice_get (collected b (past_at k h)) i ≡ Some d → IsDelivery t b h i d
unfolding collected
gathered_at t b h zero i d f e = cc
gathered_at t b h (suc k) i d f e =
    elim (slice_get h k) as (λ o. slice_get h k ≡ o → IsDelivery t b h i d) [
      | None ↦ λ at. gathered_at t b h k i d f (ap (λ p. slice_get (collected b p) i) (sym (past_end h k at)) ∙ e)
      | Some x ↦ λ at. gathered_step t b h k i x d (get_place b x.act) f at refl (ap (λ p. slice_get (collected b p) i) (sym (past_next h k x at)) ∙ e) (gathered_at t b h k i d f)
    ] refl

-- what the pass collects are the deliveries
pub gathered : (t : Tables) (b : Buffer) (h : List Entry) → IsFollowed t b h → AreDeliveries t b h (collected b (reverse h))
gathered t b h f = record {
  each_get = collected_length b (reverse h) ∙ gets_count b h;
  numbered = λ n d e. gathered_at t b h (length h) n d f (ap (λ z. slice_get (collected b (reverse z)) n) (take-length h) ∙ e);
}
