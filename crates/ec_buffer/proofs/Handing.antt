-- A buffer that is followed delivers its items in the order of their numbers.
use Rattle.std.proofs.Common.{◌≡◌, ℕ, ◌+◌, ◌<◌, ◌≤◌, Bool, true, false, List, [], ◌∷◌, length, Option, Some, None, is_some, nat_le, nat_lt, unwrap_or, refl, ap, sym, ◌∙◌, arith, subst, cond, ◌==◌}
use Rattle.std.proofs.lemmas.Bool.{ne_eqb, or_parts, and_from, le-leb, lt-ltb}
use Rattle.std.specs.Option.{option_map_or}
use Rattle.std.proofs.Math.Nat.{zero-add}
use Rattle.ec_count.specs.Tables.{Tables}
use Rattle.ec_core.specs.declared.act.Act.{Act}
use Rattle.ec_core.specs.declared.act.Act.TheVariants.{Advance, Read, Await, Go, Ticket, Put, Get, Hand}
use Rattle.ec_core.specs.declared.act.Entry.{Entry}
use Rattle.ec_core.specs.Counts.{total, issued, cell_value, is_advance, is_ticket, put_in}
use Rattle.ec_core.specs.Acceptance.{IsAccepted}
use Rattle.ec_core.specs.Following.{CompletedCall, block}
use Rattle.ec_core.specs.CallLists.{reply_number}
use Rattle.ec_core.proofs.shared.Following.{other_block, same_test, op_at, step_opened, total_step, issued_step}
use Rattle.ec_core.proofs.shared.Queue.{QueuePosition, IsQueue, IsElsewhereSame, each, still}
use Rattle.ec_buffer.specs.Shapes.{Buffer}
use Rattle.ec_buffer.specs.CallLists.{drawn_ticket}
use Rattle.ec_buffer.specs.Follows.{is_cell, is_on, produce_rule, consume_rule, role_rules}
use Rattle.ec_buffer.specs.Items.{put_on, is_get_on}
use Rattle.ec_buffer.proofs.Moves.{puts, gets, Moved, moved_if, produced, delivered, standing}
use Rattle.ec_buffer.specs.Shapes.{IsShape}
use Rattle.ec_buffer.proofs.Stock.{IsStocked, stock_same}

-- POSITIONS IN THE QUEUES

abbrev pub seat_of : List CompletedCall → QueuePosition
seat_of calls = record { stage = length calls; turn = drawn_ticket calls }

abbrev pub nobody : QueuePosition
nobody = record { stage = 0; turn = 0 }

abbrev pub put_seat : Buffer → (ℕ → Bool) → List Entry → ℕ → QueuePosition
put_seat b produces past w = cond (produces w) (seat_of (block (produce_rule b) w past)) nobody

abbrev pub get_seat : Buffer → (ℕ → Bool) → List Entry → ℕ → QueuePosition
get_seat b produces past w = cond (produces w) nobody (seat_of (block (consume_rule b) w past))

pub put_elsewhere : (b : Buffer) (produces : ℕ → Bool) (x : Entry) (past : List Entry) → IsElsewhereSame x.worker (put_seat b produces past) (put_seat b produces (x ∷ past))
put_elsewhere b produces x past v h = ap (λ calls. cond (produces v) (seat_of calls) nobody) (other_block (produce_rule b) v x past h)

pub get_elsewhere : (b : Buffer) (produces : ℕ → Bool) (x : Entry) (past : List Entry) → IsElsewhereSame x.worker (get_seat b produces past) (get_seat b produces (x ∷ past))
get_elsewhere b produces x past v h = ap (λ calls. cond (produces v) nobody (seat_of calls)) (other_block (consume_rule b) v x past h)

-- a worker that has waited for the other count: its turn and one more is at most a limit
abbrev pub IsReady : (ℕ → QueuePosition) → ℕ → Type 0
IsReady seat limit = (w : ℕ) → (seat w).stage ≡ 3 → (seat w).turn + 1 ≤ limit

pub ready_next : (seat next : ℕ → QueuePosition) (limit more w : ℕ) → IsElsewhereSame w seat next → IsReady seat limit → limit ≤ more
    → ((next w).stage ≡ 3 → (next w).turn + 1 ≤ more) → IsReady next more
ready_next seat next limit more w other h le own =
    each (λ v s. s.stage ≡ 3 → s.turn + 1 ≤ more) seat next w other own (λ v k a. (let below : (seat v).turn + 1 ≤ limit = h v a in omega arith))

ready_still : (seat next : ℕ → QueuePosition) (limit more w : ℕ) → IsElsewhereSame w seat next → next w ≡ seat w → IsReady seat limit → limit ≤ more → IsReady next more
ready_still seat next limit more w other own h le =
    ready_next seat next limit more w other h le
    (let P : QueuePosition → Type 0 = λ s. s.stage ≡ 3 → s.turn + 1 ≤ more in subst P (sym own) (λ a. (let below : (seat w).turn + 1 ≤ limit = h w a in omega arith)))

-- WHAT IS TRUE OF A BUFFER

pub record IsHanding (b : Buffer) (produces : ℕ → Bool) (past : List Entry) : Type 0 where
  pub putting : IsQueue (put_seat b produces past) (issued b.put_seq past) (total b.in_count past) (puts b past)
  pub getting : IsQueue (get_seat b produces past) (issued b.take_seq past) (total b.out_count past) (gets b past)
  pub put_ready : IsReady (put_seat b produces past) (total b.out_count past + b.cells)
  pub get_ready : IsReady (get_seat b produces past) (total b.in_count past)
  pub stock : IsStocked b.cells (puts b past) (gets b past) (λ i. produced b produces i past) (λ i. delivered b produces i past) (λ j. standing (b.first_cell + j) past)

-- COUNTS OF ONE STEP

abbrev pub plus_if : Bool → ℕ → ℕ
plus_if true n = 1 + n
plus_if false n = n

plus_is : (a : Bool) (n : ℕ) → cond a 1 0 + n ≡ plus_if a n
plus_is true n = refl
plus_is false n = zero-add n

pub record IsCounted (b : Buffer) (x : Entry) (past : List Entry) (a c d e f g : Bool) : Type 0 where
  pub ticket_put : issued b.put_seq (x ∷ past) ≡ plus_if a (issued b.put_seq past)
  pub advance_in : total b.in_count (x ∷ past) ≡ plus_if c (total b.in_count past)
  pub puts_one : puts b (x ∷ past) ≡ plus_if d (puts b past)
  pub ticket_take : issued b.take_seq (x ∷ past) ≡ plus_if e (issued b.take_seq past)
  pub advance_out : total b.out_count (x ∷ past) ≡ plus_if f (total b.out_count past)
  pub gets_one : gets b (x ∷ past) ≡ plus_if g (gets b past)

pub put_on_op : (b : Buffer) (t : Tables) (x : Entry) (past : List Entry) → IsAccepted t (x ∷ past) → put_on b x.act ≡ put_on b (op_at x past)
put_on_op b t x past acc = same_test (put_on b) None t x.act (op_at x past) refl (λ f. refl) (λ f v. refl) (step_opened t x past acc)

pub get_on_op : (b : Buffer) (t : Tables) (x : Entry) (past : List Entry) → IsAccepted t (x ∷ past) → is_get_on b x.act ≡ is_get_on b (op_at x past)
get_on_op b t x past acc = same_test (is_get_on b) false t x.act (op_at x past) refl (λ f. refl) (λ f v. refl) (step_opened t x past acc)

pub counted : (b : Buffer) (t : Tables) (x : Entry) (past : List Entry) (op : Act) (a c d e f g : Bool) → IsAccepted t (x ∷ past) → op_at x past ≡ op
    → is_ticket b.put_seq op ≡ a → is_advance b.in_count op ≡ c → is_some (put_on b op) ≡ d → is_ticket b.take_seq op ≡ e → is_advance b.out_count op ≡ f → is_get_on b op ≡ g
    → IsCounted b x past a c d e f g
unfolding puts gets
counted b t x past op a c d e f g acc is ea ec ed ee ef eg = record {
  ticket_put = issued_step t b.put_seq x past acc ∙ ap (λ v. cond v 1 0 + issued b.put_seq past) (ap (is_ticket b.put_seq) is ∙ ea) ∙ plus_is a (issued b.put_seq past);
  advance_in = total_step t b.in_count x past acc ∙ ap (λ v. cond v 1 0 + total b.in_count past) (ap (is_advance b.in_count) is ∙ ec) ∙ plus_is c (total b.in_count past);
  puts_one = ap (λ v. cond v 1 0 + puts b past) (ap is_some (put_on_op b t x past acc) ∙ ap (λ o. is_some (put_on b o)) is ∙ ed) ∙ plus_is d (puts b past);
  ticket_take = issued_step t b.take_seq x past acc ∙ ap (λ v. cond v 1 0 + issued b.take_seq past) (ap (is_ticket b.take_seq) is ∙ ee) ∙ plus_is e (issued b.take_seq past);
  advance_out = total_step t b.out_count x past acc ∙ ap (λ v. cond v 1 0 + total b.out_count past) (ap (is_advance b.out_count) is ∙ ef) ∙ plus_is f (total b.out_count past);
  gets_one = ap (λ v. cond v 1 0 + gets b past) (get_on_op b t x past acc ∙ ap (is_get_on b) is ∙ eg) ∙ plus_is g (gets b past);
}

moved_queue : (seat : ℕ → QueuePosition) (drawn gone made drawn' gone' made' : ℕ) → drawn' ≡ drawn → gone' ≡ gone → made' ≡ made → IsQueue seat drawn gone made → IsQueue seat drawn' gone' made'
moved_queue seat drawn gone made drawn' gone' made' ed eg em q =
    let P : ℕ → Type 0 = λ n. IsQueue seat n gone' made' in
    let Q : ℕ → Type 0 = λ n. IsQueue seat drawn n made' in
    let R : ℕ → Type 0 = λ n. IsQueue seat drawn gone n in
    subst P (sym ed) (subst Q (sym eg) (subst R (sym em) q))

-- nothing is put or got
pub produced_same : (b : Buffer) (produces : ℕ → Bool) (t : Tables) (x : Entry) (past : List Entry) (op : Act) → IsAccepted t (x ∷ past) → op_at x past ≡ op
    → put_on b op ≡ None → (i : ℕ) → produced b produces i (x ∷ past) ≡ produced b produces i past
unfolding produced
produced_same b produces t x past op acc is none i =
    ap (λ o. moved_if (drawn_ticket (block (role_rules b produces x.worker) x.worker past) == i) x.worker o (produced b produces i past)) (put_on_op b t x past acc ∙ ap (put_on b) is ∙ none)

pub delivered_same : (b : Buffer) (produces : ℕ → Bool) (t : Tables) (x : Entry) (past : List Entry) (op : Act) → IsAccepted t (x ∷ past) → op_at x past ≡ op
    → is_get_on b op ≡ false → (i : ℕ) → delivered b produces i (x ∷ past) ≡ delivered b produces i past
unfolding delivered
delivered_same b produces t x past op acc is none i =
    ap (λ g. moved_if (drawn_ticket (block (role_rules b produces x.worker) x.worker past) == i) x.worker (cond g (Some (reply_number x.reply)) None) (delivered b produces i past)) (get_on_op b t x past acc ∙ ap (is_get_on b) is ∙ none)

-- what is in a cell after one more entry, by the act that began its call
pub standing_step : (t : Tables) (y : ℕ) (x : Entry) (past : List Entry) → IsAccepted t (x ∷ past)
    → standing y (x ∷ past) ≡ option_map_or (λ (v : ℕ). record { worker = x.worker; item = v }) (put_in y (op_at x past)) (standing y past)
unfolding standing
standing_step t y x past acc =
    ap (λ (o : Option ℕ). option_map_or (λ (v : ℕ). (let m : Moved = record { worker = x.worker; item = v } in m)) o (standing y past)) (same_test (put_in y) None t x.act (op_at x past) refl (λ f. refl) (λ f v. refl) (step_opened t x past acc))

pub standing_same : (t : Tables) (y : ℕ) (x : Entry) (past : List Entry) (op : Act) → IsAccepted t (x ∷ past) → op_at x past ≡ op → put_in y op ≡ None → standing y (x ∷ past) ≡ standing y past
standing_same t y x past op acc is none =
    standing_step t y x past acc ∙ ap (λ (o : Option ℕ). option_map_or (λ (v : ℕ). (let m : Moved = record { worker = x.worker; item = v } in m)) o (standing y past)) (ap (put_in y) is ∙ none)

standing_last : (x : Entry) (o : Option ℕ) (m : Moved) (c : ℕ) → m.item ≡ c → (option_map_or (λ (v : ℕ). (let n : Moved = record { worker = x.worker; item = v } in n)) o m).item ≡ unwrap_or o c
standing_last x None m c h = h
standing_last x (Some v) m c h = refl

-- its item is the value of the cell
pub standing_item : (y : ℕ) (past : List Entry) → (standing y past).item ≡ cell_value y past
unfolding standing cell_value
standing_item y [] = refl
standing_item y (x ∷ past) = standing_last x (put_in y x.act) (standing y past) (cell_value y past) (standing_item y past)

pub stock_quiet : (b : Buffer) (produces : ℕ → Bool) (t : Tables) (x : Entry) (past : List Entry) (op : Act) → IsAccepted t (x ∷ past) → op_at x past ≡ op
    → put_on b op ≡ None → is_get_on b op ≡ false → ((j : ℕ) → j < b.cells → put_in (b.first_cell + j) op ≡ None) → 0 < b.cells
    → puts b (x ∷ past) ≡ puts b past → gets b (x ∷ past) ≡ gets b past
    → IsHanding b produces past
    → IsStocked b.cells (puts b (x ∷ past)) (gets b (x ∷ past)) (λ i. produced b produces i (x ∷ past)) (λ i. delivered b produces i (x ∷ past)) (λ j. standing (b.first_cell + j) (x ∷ past))
stock_quiet b produces t x past op acc is np ng nc some ep eg inv =
    stock_same b.cells (puts b past) (gets b past) (puts b (x ∷ past)) (gets b (x ∷ past))
    (λ i. produced b produces i past) (λ i. delivered b produces i past) (λ i. produced b produces i (x ∷ past)) (λ i. delivered b produces i (x ∷ past))
    (λ j. standing (b.first_cell + j) past) (λ j. standing (b.first_cell + j) (x ∷ past))
    ep eg (produced_same b produces t x past op acc is np) (delivered_same b produces t x past op acc is ng)
    (λ j lt. standing_same t (b.first_cell + j) x past op acc is (nc j lt)) some inv.stock

-- ONE STEP

pub record IsStep (b : Buffer) (produces : ℕ → Bool) (t : Tables) (x : Entry) (past : List Entry) : Type 0 where
  pub shape : IsShape b
  pub accepted : IsAccepted t (x ∷ past)
  pub before : IsHanding b produces past

-- what is true after a step, from its parts
pub built : (b : Buffer) (produces : ℕ → Bool) (x : Entry) (past : List Entry) (a c d e f g : Bool) → IsCounted b x past a c d e f g
    → IsQueue (put_seat b produces (x ∷ past)) (plus_if a (issued b.put_seq past)) (plus_if c (total b.in_count past)) (plus_if d (puts b past))
    → IsQueue (get_seat b produces (x ∷ past)) (plus_if e (issued b.take_seq past)) (plus_if f (total b.out_count past)) (plus_if g (gets b past))
    → IsReady (put_seat b produces (x ∷ past)) (plus_if f (total b.out_count past) + b.cells)
    → IsReady (get_seat b produces (x ∷ past)) (plus_if c (total b.in_count past))
    → IsStocked b.cells (puts b (x ∷ past)) (gets b (x ∷ past)) (λ i. produced b produces i (x ∷ past)) (λ i. delivered b produces i (x ∷ past)) (λ j. standing (b.first_cell + j) (x ∷ past))
    → IsHanding b produces (x ∷ past)
built b produces x past a c d e f g n putting getting put_ready get_ready stock = record {
  putting = moved_queue (put_seat b produces (x ∷ past)) _ _ _ _ _ _ n.ticket_put n.advance_in n.puts_one putting;
  getting = moved_queue (get_seat b produces (x ∷ past)) _ _ _ _ _ _ n.ticket_take n.advance_out n.gets_one getting;
  put_ready = (let P : ℕ → Type 0 = λ k. IsReady (put_seat b produces (x ∷ past)) (k + b.cells) in subst P (sym n.advance_out) put_ready);
  get_ready = (let P : ℕ → Type 0 = λ k. IsReady (get_seat b produces (x ∷ past)) k in subst P (sym n.advance_in) get_ready);
  stock = stock;
}

-- the call concerns neither tickets, counts nor cells of the buffer, or only reads or awaits
pub record IsQuiet (b : Buffer) (op : Act) : Type 0 where
  pub ticket_put : is_ticket b.put_seq op ≡ false
  pub advance_in : is_advance b.in_count op ≡ false
  pub put_one : put_on b op ≡ None
  pub ticket_take : is_ticket b.take_seq op ≡ false
  pub advance_out : is_advance b.out_count op ≡ false
  pub get_one : is_get_on b op ≡ false
  pub cells : (j : ℕ) → j < b.cells → put_in (b.first_cell + j) op ≡ None

quiet_read : (b : Buffer) (e : ℕ) → IsQuiet b (Read e)
quiet_read b e = record { ticket_put = refl; advance_in = refl; put_one = refl; ticket_take = refl; advance_out = refl; get_one = refl; cells = λ j lt. refl }

pub quiet_await : (b : Buffer) (e v : ℕ) → IsQuiet b (Await e v)
quiet_await b e v = record { ticket_put = refl; advance_in = refl; put_one = refl; ticket_take = refl; advance_out = refl; get_one = refl; cells = λ j lt. refl }

pub is_cell_at : (b : Buffer) (j : ℕ) → j < b.cells → is_cell b (b.first_cell + j) ≡ true
is_cell_at b j lt = and_from (nat_le b.first_cell (b.first_cell + j)) (nat_lt (b.first_cell + j) (b.first_cell + b.cells)) (le-leb _ _ (omega arith)) (lt-ltb _ _ (omega arith))

off_cell : (b : Buffer) (y v j : ℕ) → is_cell b y ≡ false → j < b.cells → put_in (b.first_cell + j) (Put y v) ≡ None
off_cell b y v j h lt =
    let other : (y == b.first_cell + j) ≡ false = ne_eqb y (b.first_cell + j) (λ e. (let on : is_cell b y ≡ true = ap (is_cell b) e ∙ is_cell_at b j lt in cc)) in
    rw other refl

pub quiet_off : (b : Buffer) (op : Act) → is_on b op ≡ false → IsQuiet b op
quiet_off b (Advance e) h =
    (let k = or_parts (e == b.in_count) (e == b.out_count) h in
    record { ticket_put = refl; advance_in = k.0; put_one = refl; ticket_take = refl; advance_out = k.1; get_one = refl; cells = λ j lt. refl })
quiet_off b (Read e) h = quiet_read b e
quiet_off b (Await e v) h = quiet_await b e v
quiet_off b Go h = record { ticket_put = refl; advance_in = refl; put_one = refl; ticket_take = refl; advance_out = refl; get_one = refl; cells = λ j lt. refl }
quiet_off b (Ticket q) h =
    (let k = or_parts (q == b.put_seq) (q == b.take_seq) h in
    record { ticket_put = k.0; advance_in = refl; put_one = refl; ticket_take = k.1; advance_out = refl; get_one = refl; cells = λ j lt. refl })
quiet_off b (Put y v) h = record { ticket_put = refl; advance_in = refl; put_one = rw h refl; ticket_take = refl; advance_out = refl; get_one = refl; cells = λ j lt. off_cell b y v j h lt }
quiet_off b (Get y) h = record { ticket_put = refl; advance_in = refl; put_one = refl; ticket_take = refl; advance_out = refl; get_one = h; cells = λ j lt. refl }
quiet_off b (Hand e c) h = record { ticket_put = refl; advance_in = refl; put_one = refl; ticket_take = refl; advance_out = refl; get_one = refl; cells = λ j lt. refl }

quiet_counted : (b : Buffer) (produces : ℕ → Bool) (t : Tables) (x : Entry) (past : List Entry) (op : Act) → IsStep b produces t x past → op_at x past ≡ op → IsQuiet b op
    → IsCounted b x past false false false false false false
quiet_counted b produces t x past op s is q =
    counted b t x past op false false false false false false s.accepted is q.ticket_put q.advance_in (ap is_some q.put_one) q.ticket_take q.advance_out q.get_one

-- a quiet call, if the positions are unchanged except the worker's
pub quiet_next : (b : Buffer) (produces : ℕ → Bool) (t : Tables) (x : Entry) (past : List Entry) (op : Act) → IsStep b produces t x past → op_at x past ≡ op → IsQuiet b op
    → IsQueue (put_seat b produces (x ∷ past)) (issued b.put_seq past) (total b.in_count past) (puts b past)
    → IsQueue (get_seat b produces (x ∷ past)) (issued b.take_seq past) (total b.out_count past) (gets b past)
    → IsReady (put_seat b produces (x ∷ past)) (total b.out_count past + b.cells)
    → IsReady (get_seat b produces (x ∷ past)) (total b.in_count past)
    → IsHanding b produces (x ∷ past)
quiet_next b produces t x past op s is q putting getting put_ready get_ready =
    let n = quiet_counted b produces t x past op s is q in
    built b produces x past false false false false false false n putting getting put_ready get_ready
    (stock_quiet b produces t x past op s.accepted is q.put_one q.get_one q.cells s.shape.some n.puts_one n.gets_one s.before)

-- a position that is unchanged
pub put_still : (b : Buffer) (produces : ℕ → Bool) (t : Tables) (x : Entry) (past : List Entry) → IsStep b produces t x past → put_seat b produces (x ∷ past) x.worker ≡ put_seat b produces past x.worker
    → IsQueue (put_seat b produces (x ∷ past)) (issued b.put_seq past) (total b.in_count past) (puts b past)
put_still b produces t x past s same = still _ _ _ _ _ x.worker s.before.putting (put_elsewhere b produces x past) same

pub get_still : (b : Buffer) (produces : ℕ → Bool) (t : Tables) (x : Entry) (past : List Entry) → IsStep b produces t x past → get_seat b produces (x ∷ past) x.worker ≡ get_seat b produces past x.worker
    → IsQueue (get_seat b produces (x ∷ past)) (issued b.take_seq past) (total b.out_count past) (gets b past)
get_still b produces t x past s same = still _ _ _ _ _ x.worker s.before.getting (get_elsewhere b produces x past) same

pub put_ready_still : (b : Buffer) (produces : ℕ → Bool) (t : Tables) (x : Entry) (past : List Entry) (more : ℕ) → IsStep b produces t x past → put_seat b produces (x ∷ past) x.worker ≡ put_seat b produces past x.worker
    → total b.out_count past + b.cells ≤ more → IsReady (put_seat b produces (x ∷ past)) more
put_ready_still b produces t x past more s same le = ready_still _ _ (total b.out_count past + b.cells) more x.worker (put_elsewhere b produces x past) same s.before.put_ready le

pub get_ready_still : (b : Buffer) (produces : ℕ → Bool) (t : Tables) (x : Entry) (past : List Entry) (more : ℕ) → IsStep b produces t x past → get_seat b produces (x ∷ past) x.worker ≡ get_seat b produces past x.worker
    → total b.in_count past ≤ more → IsReady (get_seat b produces (x ∷ past)) more
get_ready_still b produces t x past more s same le = ready_still _ _ (total b.in_count past) more x.worker (get_elsewhere b produces x past) same s.before.get_ready le

-- no position changes
pub quiet_same : (b : Buffer) (produces : ℕ → Bool) (t : Tables) (x : Entry) (past : List Entry) (op : Act) → IsStep b produces t x past → op_at x past ≡ op → IsQuiet b op
    → put_seat b produces (x ∷ past) x.worker ≡ put_seat b produces past x.worker → get_seat b produces (x ∷ past) x.worker ≡ get_seat b produces past x.worker
    → IsHanding b produces (x ∷ past)
quiet_same b produces t x past op s is q same same' =
    quiet_next b produces t x past op s is q (put_still b produces t x past s same) (get_still b produces t x past s same')
    (put_ready_still b produces t x past _ s same (omega arith)) (get_ready_still b produces t x past _ s same' (omega arith))

-- the position of a producer, and of a consumer
pub put_seat_is : (b : Buffer) (produces : ℕ → Bool) (past : List Entry) (w : ℕ) (calls : List CompletedCall) → produces w ≡ true → block (produce_rule b) w past ≡ calls → put_seat b produces past w ≡ seat_of calls
put_seat_is b produces past w calls role is = rw role (ap seat_of is)

pub get_seat_is : (b : Buffer) (produces : ℕ → Bool) (past : List Entry) (w : ℕ) (calls : List CompletedCall) → produces w ≡ false → block (consume_rule b) w past ≡ calls → get_seat b produces past w ≡ seat_of calls
get_seat_is b produces past w calls role is = rw role (ap seat_of is)

pub no_put_seat : (b : Buffer) (produces : ℕ → Bool) (past : List Entry) (w : ℕ) → produces w ≡ false → put_seat b produces past w ≡ nobody
no_put_seat b produces past w role = rw role refl

pub no_get_seat : (b : Buffer) (produces : ℕ → Bool) (past : List Entry) (w : ℕ) → produces w ≡ true → get_seat b produces past w ≡ nobody
no_get_seat b produces past w role = rw role refl
