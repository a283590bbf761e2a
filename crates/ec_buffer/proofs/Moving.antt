-- Each call of a producer and of a consumer keeps what is true of a buffer.
use Rattle.std.proofs.Common.{◌≡◌, ◌≢◌, ℕ, ◌+◌, ◌-◌, ◌%◌, ◌<◌, ◌≤◌, Bool, true, false, List, [], ◌∷◌, Some, None, is_some, refl, ap, sym, ◌∙◌, arith, subst, cond, ◌==◌, ◌⊎◌, inl, inr}
use Rattle.std.proofs.lemmas.Bool.{eqb-false, eq-eqb, ne_eqb}
use Rattle.std.specs.Option.{option_map_or}
use Rattle.std.proofs.lemmas.Nat.{mod_below}
use Rattle.ec_count.specs.Tables.{Tables, IsDeclared}
use Rattle.ec_core.specs.declared.act.Act.{Act}
use Rattle.ec_core.specs.declared.act.Act.TheVariants.{Advance, Await, Ticket, Put, Get}
use Rattle.ec_core.specs.declared.act.Reply.TheVariants.{Done, Number, Pending}
use Rattle.ec_core.specs.declared.act.Entry.{Entry}
use Rattle.ec_core.specs.Counts.{total, issued, cell_value, put_in}
use Rattle.ec_core.specs.Calls.{is_pending}
use Rattle.ec_core.specs.Following.{CompletedCall, block}
use Rattle.ec_core.specs.CallLists.{is_due, without_value, reply_number}
use Rattle.ec_core.proofs.shared.Following.{IsReplyTo, op_at, due_is, after_told, after_pending}
use Rattle.ec_core.proofs.shared.Queue.{QueuePosition, draw, enter, make, leave, turn_is}
use Rattle.ec_buffer.specs.Shapes.{Buffer}
use Rattle.ec_buffer.specs.CallLists.{produce_call, consume_call, drawn_ticket}
use Rattle.ec_buffer.specs.Follows.{is_on, produce_rule, consume_rule, role_rules}
use Rattle.ec_buffer.specs.Items.{put_on, is_get_on}
use Rattle.ec_buffer.proofs.Moves.{puts, gets, Moved, moved_if, produced, delivered, standing}
use Rattle.ec_buffer.proofs.Handing.{seat_of, nobody, put_seat, get_seat, IsHanding, IsCounted, IsStep, built, counted, is_cell_at, quiet_await, quiet_next, quiet_same, put_still, get_still, put_ready_still, get_ready_still, put_seat_is, get_seat_is, no_put_seat, no_get_seat, put_elsewhere, get_elsewhere, ready_next, stock_quiet, put_on_op, get_on_op, produced_same, delivered_same, standing_step, standing_same, standing_item}
use Rattle.ec_buffer.proofs.Stock.{stock_put, stock_get}

-- PRODUCERS

turned : (a b : ℕ) → (a == b) ≡ false → (b == a) ≡ false
turned a b h = (let other : a ≢ b = eqb-false a b h in ne_eqb b a (λ e. other (sym e)))

pub position_kept : (b : Buffer) (produces : ℕ → Bool) (x : Entry) (past : List Entry) → block (produce_rule b) x.worker (x ∷ past) ≡ block (produce_rule b) x.worker past → put_seat b produces (x ∷ past) x.worker ≡ put_seat b produces past x.worker
position_kept b produces x past e = ap (λ calls. cond (produces x.worker) (seat_of calls) nobody) e

pub get_seat_kept : (b : Buffer) (produces : ℕ → Bool) (x : Entry) (past : List Entry) → block (consume_rule b) x.worker (x ∷ past) ≡ block (consume_rule b) x.worker past → get_seat b produces (x ∷ past) x.worker ≡ get_seat b produces past x.worker
get_seat_kept b produces x past e = ap (λ calls. cond (produces x.worker) nobody (seat_of calls)) e

-- an await that is not completed changes nothing
await_cases : (b : Buffer) (produces : ℕ → Bool) (t : Tables) (x : Entry) (past : List Entry) (e v : ℕ) → IsStep b produces t x past → op_at x past ≡ Await e v
    → (x.reply ≡ Pending) ⊎ ((s : ℕ) × (v ≤ s) × (s ≤ total e past) × (x.reply ≡ Number s))
    → ((is_pending x.reply ≡ false) × (v ≤ total e past) → IsHanding b produces (x ∷ past)) → IsHanding b produces (x ∷ past)
await_cases b produces t x past e v s is (inl pending) go =
    quiet_same b produces t x past (Await e v) s is (quiet_await b e v)
    (position_kept b produces x past (after_pending (produce_rule b) x past pending)) (get_seat_kept b produces x past (after_pending (consume_rule b) x past pending))
await_cases b produces t x past e v s is (inr k) go = (let low : v ≤ k.0 = k.1 in let high : k.0 ≤ total e past = k.2 in go (ap is_pending k.3, omega arith))

put_draw : (b : Buffer) (produces : ℕ → Bool) (t : Tables) (x : Entry) (past : List Entry) (c : CompletedCall) → IsStep b produces t x past → produces x.worker ≡ true
    → op_at x past ≡ Ticket b.put_seq → block (produce_rule b) x.worker (x ∷ past) ≡ c ∷ [] → reply_number c.reply ≡ issued b.put_seq past → IsHanding b produces (x ∷ past)
put_draw b produces t x past c s role is after turn =
    let seat : put_seat b produces (x ∷ past) x.worker ≡ seat_of (c ∷ []) = put_seat_is b produces (x ∷ past) x.worker (c ∷ []) role after in
    let stage : (put_seat b produces (x ∷ past) x.worker).stage ≡ 1 = ap (λ (z : QueuePosition). z.stage) seat in
    let at : (put_seat b produces (x ∷ past) x.worker).turn ≡ issued b.put_seq past = ap (λ (z : QueuePosition). z.turn) seat ∙ turn in
    let idle : get_seat b produces (x ∷ past) x.worker ≡ get_seat b produces past x.worker = no_get_seat b produces (x ∷ past) x.worker role ∙ sym (no_get_seat b produces past x.worker role) in
    let n : IsCounted b x past true false false false false false = counted b t x past (Ticket b.put_seq) true false false false false false s.accepted is (eq-eqb b.put_seq b.put_seq refl) refl refl s.shape.sequencers refl refl in
    built b produces x past true false false false false false n
    (draw (put_seat b produces past) (put_seat b produces (x ∷ past)) (issued b.put_seq past) (total b.in_count past) (puts b past) x.worker s.before.putting (put_elsewhere b produces x past) stage at)
    (get_still b produces t x past s idle)
    (ready_next _ _ (total b.out_count past + b.cells) (total b.out_count past + b.cells) x.worker (put_elsewhere b produces x past) s.before.put_ready (omega arith) (λ a. absurd (omega arith)))
    (get_ready_still b produces t x past _ s idle (omega arith))
    (stock_quiet b produces t x past (Ticket b.put_seq) s.accepted is refl refl (λ j lt. refl) s.shape.some n.puts_one n.gets_one s.before)

put_enter : (b : Buffer) (produces : ℕ → Bool) (t : Tables) (x : Entry) (past : List Entry) (c d : CompletedCall) (v : ℕ) → IsStep b produces t x past → produces x.worker ≡ true
    → op_at x past ≡ Await b.in_count v → block (produce_rule b) x.worker past ≡ c ∷ [] → block (produce_rule b) x.worker (x ∷ past) ≡ c ∷ d ∷ [] → reply_number c.reply ≤ total b.in_count past → IsHanding b produces (x ∷ past)
put_enter b produces t x past c d v s role is at after reached =
    let seat : put_seat b produces past x.worker ≡ seat_of (c ∷ []) = put_seat_is b produces past x.worker (c ∷ []) role at in
    let next : put_seat b produces (x ∷ past) x.worker ≡ seat_of (c ∷ d ∷ []) = put_seat_is b produces (x ∷ past) x.worker (c ∷ d ∷ []) role after in
    let stage : (put_seat b produces past x.worker).stage ≡ 1 =
    ap (λ (z : QueuePosition). z.stage) seat in
    let turn : (put_seat b produces past x.worker).turn ≡ reply_number c.reply = ap (λ (z : QueuePosition). z.turn) seat in
    let stage' : (put_seat b produces (x ∷ past) x.worker).stage ≡ 2 = ap (λ (z : QueuePosition). z.stage) next in
    let turn' : (put_seat b produces (x ∷ past) x.worker).turn ≡ reply_number c.reply = ap (λ (z : QueuePosition). z.turn) next in
    let idle : get_seat b produces (x ∷ past) x.worker ≡ get_seat b produces past x.worker = no_get_seat b produces (x ∷ past) x.worker role ∙ sym (no_get_seat b produces past x.worker role) in
    quiet_next b produces t x past (Await b.in_count v) s is (quiet_await b b.in_count v)
    (enter _ _ _ _ _ x.worker s.before.putting (put_elsewhere b produces x past) (omega arith) (omega arith) (omega arith) (omega arith) (turn' ∙ sym turn) (omega arith))
    (get_still b produces t x past s idle)
    (ready_next _ _ (total b.out_count past + b.cells) (total b.out_count past + b.cells) x.worker (put_elsewhere b produces x past) s.before.put_ready (omega arith) (λ a. absurd (omega arith)))
    (get_ready_still b produces t x past _ s idle (omega arith))

put_wait : (b : Buffer) (produces : ℕ → Bool) (t : Tables) (x : Entry) (past : List Entry) (c d e : CompletedCall) (v : ℕ) → IsStep b produces t x past → produces x.worker ≡ true
    → op_at x past ≡ Await b.out_count v → block (produce_rule b) x.worker past ≡ c ∷ d ∷ [] → block (produce_rule b) x.worker (x ∷ past) ≡ c ∷ d ∷ e ∷ []
    → reply_number c.reply + 1 - b.cells ≤ total b.out_count past → IsHanding b produces (x ∷ past)
put_wait b produces t x past c d e v s role is at after reached =
    let seat : put_seat b produces past x.worker ≡ seat_of (c ∷ d ∷ []) = put_seat_is b produces past x.worker (c ∷ d ∷ []) role at in
    let next : put_seat b produces (x ∷ past) x.worker ≡ seat_of (c ∷ d ∷ e ∷ []) = put_seat_is b produces (x ∷ past) x.worker (c ∷ d ∷ e ∷ []) role after in
    let stage : (put_seat b produces past x.worker).stage ≡ 2 =
    ap (λ (z : QueuePosition). z.stage) seat in
    let turn : (put_seat b produces past x.worker).turn ≡ reply_number c.reply = ap (λ (z : QueuePosition). z.turn) seat in
    let stage' : (put_seat b produces (x ∷ past) x.worker).stage ≡ 3 = ap (λ (z : QueuePosition). z.stage) next in
    let turn' : (put_seat b produces (x ∷ past) x.worker).turn ≡ reply_number c.reply = ap (λ (z : QueuePosition). z.turn) next in
    let inside : (put_seat b produces past x.worker).turn ≤ total b.in_count past = s.before.putting.inside x.worker (omega arith) in
    let idle : get_seat b produces (x ∷ past) x.worker ≡ get_seat b produces past x.worker = no_get_seat b produces (x ∷ past) x.worker role ∙ sym (no_get_seat b produces past x.worker role) in
    quiet_next b produces t x past (Await b.out_count v) s is (quiet_await b b.out_count v)
    (enter _ _ _ _ _ x.worker s.before.putting (put_elsewhere b produces x past) (omega arith) (omega arith) (omega arith) (omega arith) (turn' ∙ sym turn) inside)
    (get_still b produces t x past s idle)
    (ready_next _ _ (total b.out_count past + b.cells) (total b.out_count past + b.cells) x.worker (put_elsewhere b produces x past) s.before.put_ready (omega arith) (λ a. omega arith))
    (get_ready_still b produces t x past _ s idle (omega arith))

pub rules_put : (b : Buffer) (produces : ℕ → Bool) (past : List Entry) (w : ℕ) (calls : List CompletedCall) → produces w ≡ true → block (produce_rule b) w past ≡ calls → block (role_rules b produces w) w past ≡ calls
rules_put b produces past w calls role at = ap (λ p. block (cond p (produce_rule b) (consume_rule b)) w past) role ∙ at

pub rules_get : (b : Buffer) (produces : ℕ → Bool) (past : List Entry) (w : ℕ) (calls : List CompletedCall) → produces w ≡ false → block (consume_rule b) w past ≡ calls → block (role_rules b produces w) w past ≡ calls
rules_get b produces past w calls role at = ap (λ p. block (cond p (produce_rule b) (consume_rule b)) w past) role ∙ at

put_here : (b : Buffer) (j v : ℕ) → j < b.cells → put_on b (Put (b.first_cell + j) v) ≡ Some v
put_here b j v lt = rw (is_cell_at b j lt) refl

-- the put of a worker whose ticket is turn
pub produced_now : (b : Buffer) (produces : ℕ → Bool) (x : Entry) (past : List Entry) (turn v i : ℕ) → put_on b x.act ≡ Some v → drawn_ticket (block (role_rules b produces x.worker) x.worker past) ≡ turn
    → produced b produces i (x ∷ past) ≡ cond (turn == i) (Some (record { worker = x.worker; item = v })) (produced b produces i past)
unfolding produced
produced_now b produces x past turn v i is at =
    ap (λ o. moved_if (drawn_ticket (block (role_rules b produces x.worker) x.worker past) == i) x.worker o (produced b produces i past)) is
    ∙ ap (λ k. cond (k == i) (Some (record { worker = x.worker; item = v })) (produced b produces i past)) at

pub delivered_now : (b : Buffer) (produces : ℕ → Bool) (x : Entry) (past : List Entry) (turn i : ℕ) → is_get_on b x.act ≡ true → drawn_ticket (block (role_rules b produces x.worker) x.worker past) ≡ turn
    → delivered b produces i (x ∷ past) ≡ cond (turn == i) (Some (record { worker = x.worker; item = reply_number x.reply })) (delivered b produces i past)
unfolding delivered
delivered_now b produces x past turn i is at =
    ap (λ g. moved_if (drawn_ticket (block (role_rules b produces x.worker) x.worker past) == i) x.worker (cond g (Some (reply_number x.reply)) None) (delivered b produces i past)) is
    ∙ ap (λ k. cond (k == i) (Some (record { worker = x.worker; item = reply_number x.reply })) (delivered b produces i past)) at

cell_apart : (first i j : ℕ) → (i == j) ≡ false → (first + i == first + j) ≡ false
cell_apart first i j h = (let other : i ≢ j = eqb-false i j h in ne_eqb (first + i) (first + j) (λ e. other (omega arith)))

put_put : (b : Buffer) (produces : ℕ → Bool) (t : Tables) (x : Entry) (past : List Entry) (c d e f : CompletedCall) (v : ℕ) → IsStep b produces t x past → produces x.worker ≡ true
    → op_at x past ≡ Put (b.first_cell + reply_number c.reply % b.cells) v → block (produce_rule b) x.worker past ≡ c ∷ d ∷ e ∷ [] → block (produce_rule b) x.worker (x ∷ past) ≡ c ∷ d ∷ e ∷ f ∷ []
    → IsHanding b produces (x ∷ past)
put_put b produces t x past c d e f v s role is at after =
    let seat : put_seat b produces past x.worker ≡ seat_of (c ∷ d ∷ e ∷ []) = put_seat_is b produces past x.worker (c ∷ d ∷ e ∷ []) role at in
    let next : put_seat b produces (x ∷ past) x.worker ≡ seat_of (c ∷ d ∷ e ∷ f ∷ []) = put_seat_is b produces (x ∷ past) x.worker (c ∷ d ∷ e ∷ f ∷ []) role after in
    let stage : (put_seat b produces past x.worker).stage ≡ 3 =
    ap (λ (z : QueuePosition). z.stage) seat in
    let turn : (put_seat b produces past x.worker).turn ≡ reply_number c.reply = ap (λ (z : QueuePosition). z.turn) seat in
    let stage' : (put_seat b produces (x ∷ past) x.worker).stage ≡ 4 = ap (λ (z : QueuePosition). z.stage) next in
    let turn' : (put_seat b produces (x ∷ past) x.worker).turn ≡ reply_number c.reply = ap (λ (z : QueuePosition). z.turn) next in
    let mine = turn_is _ _ _ _ x.worker s.before.putting (omega arith) (omega arith) in
    let made : reply_number c.reply ≡ puts b past = sym turn ∙ mine.0 in
    let ready : (put_seat b produces past x.worker).turn + 1 ≤ total b.out_count past + b.cells = s.before.put_ready x.worker stage in
    let out : total b.out_count past ≤ gets b past = s.before.getting.some in
    let in_some : total b.in_count past ≤ puts b past = s.before.putting.some in
    let some : 0 < b.cells = s.shape.some in
    let idle : get_seat b produces (x ∷ past) x.worker ≡ get_seat b produces past x.worker = no_get_seat b produces (x ∷ past) x.worker role ∙ sym (no_get_seat b produces past x.worker role) in
    let within : reply_number c.reply % b.cells < b.cells = mod_below (reply_number c.reply) b.cells some in
    let op : op_at x past ≡ Put (b.first_cell + puts b past % b.cells) v = is ∙ ap (λ k. Put (b.first_cell + k % b.cells) v) made in
    let here : put_on b (Put (b.first_cell + reply_number c.reply % b.cells) v) ≡ Some v = put_here b (reply_number c.reply % b.cells) v within in
    let n : IsCounted b x past false false true false false false = counted b t x past (Put (b.first_cell + reply_number c.reply % b.cells) v) false false true false false false s.accepted is refl refl (ap is_some here) refl refl refl in
    let value : put_on b x.act ≡ Some v = put_on_op b t x past s.accepted ∙ ap (put_on b) is ∙ here in
    let ticket : drawn_ticket (block (role_rules b produces x.worker) x.worker past) ≡ puts b past = ap drawn_ticket (rules_put b produces past x.worker (c ∷ d ∷ e ∷ []) role at) ∙ made in
    built b produces x past false false true false false false n
    (make _ _ _ _ _ x.worker s.before.putting (put_elsewhere b produces x past) (omega arith) (omega arith) stage' (turn' ∙ sym turn))
    (get_still b produces t x past s idle)
    (ready_next _ _ (total b.out_count past + b.cells) (total b.out_count past + b.cells) x.worker (put_elsewhere b produces x past) s.before.put_ready (omega arith) (λ a. absurd (omega arith)))
    (get_ready_still b produces t x past _ s idle (omega arith))
    (stock_put b.cells (puts b past) (gets b past) (puts b (x ∷ past)) (gets b (x ∷ past)) x.worker v
    (λ i. produced b produces i past) (λ i. delivered b produces i past) (λ i. produced b produces i (x ∷ past)) (λ i. delivered b produces i (x ∷ past))
    (λ j. standing (b.first_cell + j) past) (λ j. standing (b.first_cell + j) (x ∷ past))
    n.puts_one n.gets_one
    (produced_now b produces x past (puts b past) v (puts b past) value ticket ∙ (rw (eq-eqb (puts b past) (puts b past) refl) refl))
    (λ i h. produced_now b produces x past (puts b past) v i value ticket ∙ (rw h refl))
    (delivered_same b produces t x past (Put (b.first_cell + reply_number c.reply % b.cells) v) s.accepted is refl)
    (standing_step t (b.first_cell + puts b past % b.cells) x past s.accepted ∙ ap (λ (o : Act). option_map_or (λ (u : ℕ). (let m : Moved = record { worker = x.worker; item = u } in m)) (put_in (b.first_cell + puts b past % b.cells) o) (standing (b.first_cell + puts b past % b.cells) past)) op
    ∙ (rw (eq-eqb (b.first_cell + puts b past % b.cells) (b.first_cell + puts b past % b.cells) refl) refl))
    (λ j lt h. standing_step t (b.first_cell + j) x past s.accepted ∙ ap (λ (o : Act). option_map_or (λ (u : ℕ). (let m : Moved = record { worker = x.worker; item = u } in m)) (put_in (b.first_cell + j) o) (standing (b.first_cell + j) past)) op
    ∙ (rw (cell_apart b.first_cell (puts b past % b.cells) j h) refl))
    some (omega arith) s.before.stock)

put_leave : (b : Buffer) (produces : ℕ → Bool) (t : Tables) (x : Entry) (past : List Entry) (c d e f : CompletedCall) → IsStep b produces t x past → produces x.worker ≡ true
    → op_at x past ≡ Advance b.in_count → block (produce_rule b) x.worker past ≡ c ∷ d ∷ e ∷ f ∷ [] → block (produce_rule b) x.worker (x ∷ past) ≡ []
    → IsHanding b produces (x ∷ past)
put_leave b produces t x past c d e f s role is at after =
    let seat : put_seat b produces past x.worker ≡ seat_of (c ∷ d ∷ e ∷ f ∷ []) = put_seat_is b produces past x.worker (c ∷ d ∷ e ∷ f ∷ []) role at in
    let next : put_seat b produces (x ∷ past) x.worker ≡ seat_of [] = put_seat_is b produces (x ∷ past) x.worker [] role after in
    let stage : (put_seat b produces past x.worker).stage ≡ 4 =
    ap (λ (z : QueuePosition). z.stage) seat in
    let stage' : (put_seat b produces (x ∷ past) x.worker).stage ≡ 0 = ap (λ (z : QueuePosition). z.stage) next in
    let idle : get_seat b produces (x ∷ past) x.worker ≡ get_seat b produces past x.worker = no_get_seat b produces (x ∷ past) x.worker role ∙ sym (no_get_seat b produces past x.worker role) in
    let n : IsCounted b x past false true false false false false = counted b t x past (Advance b.in_count) false true false false false false s.accepted is refl (eq-eqb b.in_count b.in_count refl) refl refl s.shape.counts refl in
    built b produces x past false true false false false false n
    (leave _ _ _ _ _ x.worker s.before.putting (put_elsewhere b produces x past) stage stage')
    (get_still b produces t x past s idle)
    (ready_next _ _ (total b.out_count past + b.cells) (total b.out_count past + b.cells) x.worker (put_elsewhere b produces x past) s.before.put_ready (omega arith) (λ a. absurd (omega arith)))
    (get_ready_still b produces t x past _ s idle (omega arith))
    (stock_quiet b produces t x past (Advance b.in_count) s.accepted is refl refl (λ j lt. refl) s.shape.some n.puts_one n.gets_one s.before)

-- CONSUMERS

get_draw : (b : Buffer) (produces : ℕ → Bool) (t : Tables) (x : Entry) (past : List Entry) (c : CompletedCall) → IsStep b produces t x past → produces x.worker ≡ false
    → op_at x past ≡ Ticket b.take_seq → block (consume_rule b) x.worker (x ∷ past) ≡ c ∷ [] → reply_number c.reply ≡ issued b.take_seq past → IsHanding b produces (x ∷ past)
get_draw b produces t x past c s role is after turn =
    let seat : get_seat b produces (x ∷ past) x.worker ≡ seat_of (c ∷ []) = get_seat_is b produces (x ∷ past) x.worker (c ∷ []) role after in
    let stage : (get_seat b produces (x ∷ past) x.worker).stage ≡ 1 = ap (λ (z : QueuePosition). z.stage) seat in
    let at : (get_seat b produces (x ∷ past) x.worker).turn ≡ issued b.take_seq past = ap (λ (z : QueuePosition). z.turn) seat ∙ turn in
    let idle : put_seat b produces (x ∷ past) x.worker ≡ put_seat b produces past x.worker = no_put_seat b produces (x ∷ past) x.worker role ∙ sym (no_put_seat b produces past x.worker role) in
    let n : IsCounted b x past false false false true false false = counted b t x past (Ticket b.take_seq) false false false true false false s.accepted is (turned b.put_seq b.take_seq s.shape.sequencers) refl refl (eq-eqb b.take_seq b.take_seq refl) refl refl in
    built b produces x past false false false true false false n
    (put_still b produces t x past s idle)
    (draw (get_seat b produces past) (get_seat b produces (x ∷ past)) (issued b.take_seq past) (total b.out_count past) (gets b past) x.worker s.before.getting (get_elsewhere b produces x past) stage at)
    (put_ready_still b produces t x past _ s idle (omega arith))
    (ready_next _ _ (total b.in_count past) (total b.in_count past) x.worker (get_elsewhere b produces x past) s.before.get_ready (omega arith) (λ a. absurd (omega arith)))
    (stock_quiet b produces t x past (Ticket b.take_seq) s.accepted is refl refl (λ j lt. refl) s.shape.some n.puts_one n.gets_one s.before)

get_enter : (b : Buffer) (produces : ℕ → Bool) (t : Tables) (x : Entry) (past : List Entry) (c d : CompletedCall) (v : ℕ) → IsStep b produces t x past → produces x.worker ≡ false
    → op_at x past ≡ Await b.out_count v → block (consume_rule b) x.worker past ≡ c ∷ [] → block (consume_rule b) x.worker (x ∷ past) ≡ c ∷ d ∷ [] → reply_number c.reply ≤ total b.out_count past → IsHanding b produces (x ∷ past)
get_enter b produces t x past c d v s role is at after reached =
    let seat : get_seat b produces past x.worker ≡ seat_of (c ∷ []) = get_seat_is b produces past x.worker (c ∷ []) role at in
    let next : get_seat b produces (x ∷ past) x.worker ≡ seat_of (c ∷ d ∷ []) = get_seat_is b produces (x ∷ past) x.worker (c ∷ d ∷ []) role after in
    let stage : (get_seat b produces past x.worker).stage ≡ 1 =
    ap (λ (z : QueuePosition). z.stage) seat in
    let turn : (get_seat b produces past x.worker).turn ≡ reply_number c.reply = ap (λ (z : QueuePosition). z.turn) seat in
    let stage' : (get_seat b produces (x ∷ past) x.worker).stage ≡ 2 = ap (λ (z : QueuePosition). z.stage) next in
    let turn' : (get_seat b produces (x ∷ past) x.worker).turn ≡ reply_number c.reply = ap (λ (z : QueuePosition). z.turn) next in
    let idle : put_seat b produces (x ∷ past) x.worker ≡ put_seat b produces past x.worker = no_put_seat b produces (x ∷ past) x.worker role ∙ sym (no_put_seat b produces past x.worker role) in
    quiet_next b produces t x past (Await b.out_count v) s is (quiet_await b b.out_count v)
    (put_still b produces t x past s idle)
    (enter _ _ _ _ _ x.worker s.before.getting (get_elsewhere b produces x past) (omega arith) (omega arith) (omega arith) (omega arith) (turn' ∙ sym turn) (omega arith))
    (put_ready_still b produces t x past _ s idle (omega arith))
    (ready_next _ _ (total b.in_count past) (total b.in_count past) x.worker (get_elsewhere b produces x past) s.before.get_ready (omega arith) (λ a. absurd (omega arith)))

get_wait : (b : Buffer) (produces : ℕ → Bool) (t : Tables) (x : Entry) (past : List Entry) (c d e : CompletedCall) (v : ℕ) → IsStep b produces t x past → produces x.worker ≡ false
    → op_at x past ≡ Await b.in_count v → block (consume_rule b) x.worker past ≡ c ∷ d ∷ [] → block (consume_rule b) x.worker (x ∷ past) ≡ c ∷ d ∷ e ∷ []
    → reply_number c.reply + 1 ≤ total b.in_count past → IsHanding b produces (x ∷ past)
get_wait b produces t x past c d e v s role is at after reached =
    let seat : get_seat b produces past x.worker ≡ seat_of (c ∷ d ∷ []) = get_seat_is b produces past x.worker (c ∷ d ∷ []) role at in
    let next : get_seat b produces (x ∷ past) x.worker ≡ seat_of (c ∷ d ∷ e ∷ []) = get_seat_is b produces (x ∷ past) x.worker (c ∷ d ∷ e ∷ []) role after in
    let stage : (get_seat b produces past x.worker).stage ≡ 2 =
    ap (λ (z : QueuePosition). z.stage) seat in
    let turn : (get_seat b produces past x.worker).turn ≡ reply_number c.reply = ap (λ (z : QueuePosition). z.turn) seat in
    let stage' : (get_seat b produces (x ∷ past) x.worker).stage ≡ 3 = ap (λ (z : QueuePosition). z.stage) next in
    let turn' : (get_seat b produces (x ∷ past) x.worker).turn ≡ reply_number c.reply = ap (λ (z : QueuePosition). z.turn) next in
    let inside : (get_seat b produces past x.worker).turn ≤ total b.out_count past = s.before.getting.inside x.worker (omega arith) in
    let idle : put_seat b produces (x ∷ past) x.worker ≡ put_seat b produces past x.worker = no_put_seat b produces (x ∷ past) x.worker role ∙ sym (no_put_seat b produces past x.worker role) in
    quiet_next b produces t x past (Await b.in_count v) s is (quiet_await b b.in_count v)
    (put_still b produces t x past s idle)
    (enter _ _ _ _ _ x.worker s.before.getting (get_elsewhere b produces x past) (omega arith) (omega arith) (omega arith) (omega arith) (turn' ∙ sym turn) inside)
    (put_ready_still b produces t x past _ s idle (omega arith))
    (ready_next _ _ (total b.in_count past) (total b.in_count past) x.worker (get_elsewhere b produces x past) s.before.get_ready (omega arith) (λ a. omega arith))

get_get : (b : Buffer) (produces : ℕ → Bool) (t : Tables) (x : Entry) (past : List Entry) (c d e f : CompletedCall) → IsStep b produces t x past → produces x.worker ≡ false
    → op_at x past ≡ Get (b.first_cell + reply_number c.reply % b.cells) → x.reply ≡ Number (cell_value (b.first_cell + reply_number c.reply % b.cells) past)
    → block (consume_rule b) x.worker past ≡ c ∷ d ∷ e ∷ [] → block (consume_rule b) x.worker (x ∷ past) ≡ c ∷ d ∷ e ∷ f ∷ []
    → IsHanding b produces (x ∷ past)
get_get b produces t x past c d e f s role is returned at after =
    let seat : get_seat b produces past x.worker ≡ seat_of (c ∷ d ∷ e ∷ []) = get_seat_is b produces past x.worker (c ∷ d ∷ e ∷ []) role at in
    let next : get_seat b produces (x ∷ past) x.worker ≡ seat_of (c ∷ d ∷ e ∷ f ∷ []) = get_seat_is b produces (x ∷ past) x.worker (c ∷ d ∷ e ∷ f ∷ []) role after in
    let stage : (get_seat b produces past x.worker).stage ≡ 3 =
    ap (λ (z : QueuePosition). z.stage) seat in
    let turn : (get_seat b produces past x.worker).turn ≡ reply_number c.reply = ap (λ (z : QueuePosition). z.turn) seat in
    let stage' : (get_seat b produces (x ∷ past) x.worker).stage ≡ 4 = ap (λ (z : QueuePosition). z.stage) next in
    let turn' : (get_seat b produces (x ∷ past) x.worker).turn ≡ reply_number c.reply = ap (λ (z : QueuePosition). z.turn) next in
    let mine = turn_is _ _ _ _ x.worker s.before.getting (omega arith) (omega arith) in
    let given : reply_number c.reply ≡ gets b past = sym turn ∙ mine.0 in
    let ready : (get_seat b produces past x.worker).turn + 1 ≤ total b.in_count past = s.before.get_ready x.worker stage in
    let in_some : total b.in_count past ≤ puts b past = s.before.putting.some in
    let some : 0 < b.cells = s.shape.some in
    let idle : put_seat b produces (x ∷ past) x.worker ≡ put_seat b produces past x.worker = no_put_seat b produces (x ∷ past) x.worker role ∙ sym (no_put_seat b produces past x.worker role) in
    let within : reply_number c.reply % b.cells < b.cells = mod_below (reply_number c.reply) b.cells some in
    let here : is_get_on b (Get (b.first_cell + reply_number c.reply % b.cells)) ≡ true = is_cell_at b (reply_number c.reply % b.cells) within in
    let n : IsCounted b x past false false false false false true = counted b t x past (Get (b.first_cell + reply_number c.reply % b.cells)) false false false false false true s.accepted is refl refl refl refl refl here in
    let value : is_get_on b x.act ≡ true = get_on_op b t x past s.accepted ∙ ap (is_get_on b) is ∙ here in
    let ticket : drawn_ticket (block (role_rules b produces x.worker) x.worker past) ≡ gets b past = ap drawn_ticket (rules_get b produces past x.worker (c ∷ d ∷ e ∷ []) role at) ∙ given in
    built b produces x past false false false false false true n
    (put_still b produces t x past s idle)
    (make _ _ _ _ _ x.worker s.before.getting (get_elsewhere b produces x past) (omega arith) (omega arith) stage' (turn' ∙ sym turn))
    (put_ready_still b produces t x past _ s idle (omega arith))
    (ready_next _ _ (total b.in_count past) (total b.in_count past) x.worker (get_elsewhere b produces x past) s.before.get_ready (omega arith) (λ a. absurd (omega arith)))
    (stock_get b.cells (puts b past) (gets b past) (puts b (x ∷ past)) (gets b (x ∷ past)) x.worker (reply_number x.reply)
    (λ i. produced b produces i past) (λ i. delivered b produces i past) (λ i. produced b produces i (x ∷ past)) (λ i. delivered b produces i (x ∷ past))
    (λ j. standing (b.first_cell + j) past) (λ j. standing (b.first_cell + j) (x ∷ past))
    n.puts_one n.gets_one
    (produced_same b produces t x past (Get (b.first_cell + reply_number c.reply % b.cells)) s.accepted is refl)
    (delivered_now b produces x past (gets b past) (gets b past) value ticket ∙ (rw (eq-eqb (gets b past) (gets b past) refl) refl))
    (λ i h. delivered_now b produces x past (gets b past) i value ticket ∙ (rw h refl))
    (λ j. standing_same t (b.first_cell + j) x past (Get (b.first_cell + reply_number c.reply % b.cells)) s.accepted is refl)
    (ap reply_number returned ∙ ap (λ k. cell_value (b.first_cell + k % b.cells) past) given ∙ sym (standing_item (b.first_cell + gets b past % b.cells) past))
    (omega arith) s.before.stock)

get_leave : (b : Buffer) (produces : ℕ → Bool) (t : Tables) (x : Entry) (past : List Entry) (c d e f : CompletedCall) → IsStep b produces t x past → produces x.worker ≡ false
    → op_at x past ≡ Advance b.out_count → block (consume_rule b) x.worker past ≡ c ∷ d ∷ e ∷ f ∷ [] → block (consume_rule b) x.worker (x ∷ past) ≡ []
    → IsHanding b produces (x ∷ past)
get_leave b produces t x past c d e f s role is at after =
    let seat : get_seat b produces past x.worker ≡ seat_of (c ∷ d ∷ e ∷ f ∷ []) = get_seat_is b produces past x.worker (c ∷ d ∷ e ∷ f ∷ []) role at in
    let next : get_seat b produces (x ∷ past) x.worker ≡ seat_of [] = get_seat_is b produces (x ∷ past) x.worker [] role after in
    let stage : (get_seat b produces past x.worker).stage ≡ 4 =
    ap (λ (z : QueuePosition). z.stage) seat in
    let stage' : (get_seat b produces (x ∷ past) x.worker).stage ≡ 0 = ap (λ (z : QueuePosition). z.stage) next in
    let idle : put_seat b produces (x ∷ past) x.worker ≡ put_seat b produces past x.worker = no_put_seat b produces (x ∷ past) x.worker role ∙ sym (no_put_seat b produces past x.worker role) in
    let n : IsCounted b x past false false false false true false = counted b t x past (Advance b.out_count) false false false false true false s.accepted is refl (turned b.in_count b.out_count s.shape.counts) refl refl (eq-eqb b.out_count b.out_count refl) refl in
    built b produces x past false false false false true false n
    (put_still b produces t x past s idle)
    (leave _ _ _ _ _ x.worker s.before.getting (get_elsewhere b produces x past) stage stage')
    (put_ready_still b produces t x past _ s idle (omega arith))
    (ready_next _ _ (total b.in_count past) (total b.in_count past) x.worker (get_elsewhere b produces x past) s.before.get_ready (omega arith) (λ a. absurd (omega arith)))
    (stock_quiet b produces t x past (Advance b.out_count) s.accepted is refl refl (λ j lt. refl) s.shape.some n.puts_one n.gets_one s.before)

-- EACH CALL

pub produce_step : (b : Buffer) (produces : ℕ → Bool) (t : Tables) (x : Entry) (past : List Entry) (calls : List CompletedCall) → IsStep b produces t x past → IsDeclared t → produces x.worker ≡ true
    → block (produce_rule b) x.worker past ≡ calls → is_on b (op_at x past) ≡ true → is_due (produce_call b 0 calls) (without_value (op_at x past)) ≡ true → IsReplyTo t past (op_at x past) x.reply
    → IsHanding b produces (x ∷ past)
produce_step b produces t x past [] s d role at on due returned =
    let op : op_at x past ≡ Ticket b.put_seq = (due_is (Ticket b.put_seq) (op_at x past) due).1 in
    let P : Act → Type 0 = λ a. IsReplyTo t past a x.reply in
    let reply : x.reply ≡ Number (issued b.put_seq past) = subst P op returned in
    put_draw b produces t x past (record { op = Ticket b.put_seq; reply = x.reply }) s role op
    (after_told (produce_rule b) x past [] (Ticket b.put_seq) at op (ap (is_on b) (sym op) ∙ on) (ap is_pending reply)) (ap reply_number reply)
produce_step b produces t x past (c ∷ []) s d role at on due returned =
    let op : op_at x past ≡ Await b.in_count (reply_number c.reply) = (due_is (Await b.in_count (reply_number c.reply)) (op_at x past) due).1 in
    let P : Act → Type 0 = λ a. IsReplyTo t past a x.reply in
    await_cases b produces t x past b.in_count (reply_number c.reply) s op (subst P op returned)
    (λ k. put_enter b produces t x past c (record { op = Await b.in_count (reply_number c.reply); reply = x.reply }) (reply_number c.reply) s role op at
    (after_told (produce_rule b) x past (c ∷ []) (Await b.in_count (reply_number c.reply)) at op (ap (is_on b) (sym op) ∙ on) k.0) k.1)
produce_step b produces t x past (c ∷ e ∷ []) s d role at on due returned =
    let op : op_at x past ≡ Await b.out_count (reply_number c.reply + 1 - b.cells) = (due_is (Await b.out_count (reply_number c.reply + 1 - b.cells)) (op_at x past) due).1 in
    let P : Act → Type 0 = λ a. IsReplyTo t past a x.reply in
    await_cases b produces t x past b.out_count (reply_number c.reply + 1 - b.cells) s op (subst P op returned)
    (λ k. put_wait b produces t x past c e (record { op = Await b.out_count (reply_number c.reply + 1 - b.cells); reply = x.reply }) (reply_number c.reply + 1 - b.cells) s role op at
    (after_told (produce_rule b) x past (c ∷ e ∷ []) (Await b.out_count (reply_number c.reply + 1 - b.cells)) at op (ap (is_on b) (sym op) ∙ on) k.0) k.1)
produce_step b produces t x past (c ∷ e ∷ f ∷ []) s d role at on due returned =
    let due' = due_is (Put (b.first_cell + reply_number c.reply % b.cells) 0) (op_at x past) due in
    let op : op_at x past ≡ Put (b.first_cell + reply_number c.reply % b.cells) due'.0 = due'.1 in
    let P : Act → Type 0 = λ a. IsReplyTo t past a x.reply in
    let reply : x.reply ≡ Done = subst P op returned in
    put_put b produces t x past c e f (record { op = Put (b.first_cell + reply_number c.reply % b.cells) due'.0; reply = x.reply }) due'.0 s role op at
    (after_told (produce_rule b) x past (c ∷ e ∷ f ∷ []) (Put (b.first_cell + reply_number c.reply % b.cells) due'.0) at op (ap (is_on b) (sym op) ∙ on) (ap is_pending reply))
produce_step b produces t x past (c ∷ e ∷ f ∷ g ∷ []) s d role at on due returned =
    let op : op_at x past ≡ Advance b.in_count = (due_is (Advance b.in_count) (op_at x past) due).1 in
    let P : Act → Type 0 = λ a. IsReplyTo t past a x.reply in
    let reply : x.reply ≡ Done = subst P op returned in
    put_leave b produces t x past c e f g s role op at
    (after_told (produce_rule b) x past (c ∷ e ∷ f ∷ g ∷ []) (Advance b.in_count) at op (ap (is_on b) (sym op) ∙ on) (ap is_pending reply))
produce_step b produces t x past (c ∷ e ∷ f ∷ g ∷ h ∷ rest) s d role at on due returned = cc

pub consume_step : (b : Buffer) (produces : ℕ → Bool) (t : Tables) (x : Entry) (past : List Entry) (calls : List CompletedCall) → IsStep b produces t x past → IsDeclared t → produces x.worker ≡ false
    → block (consume_rule b) x.worker past ≡ calls → is_on b (op_at x past) ≡ true → is_due (consume_call b calls) (without_value (op_at x past)) ≡ true → IsReplyTo t past (op_at x past) x.reply
    → IsHanding b produces (x ∷ past)
consume_step b produces t x past [] s d role at on due returned =
    let op : op_at x past ≡ Ticket b.take_seq = (due_is (Ticket b.take_seq) (op_at x past) due).1 in
    let P : Act → Type 0 = λ a. IsReplyTo t past a x.reply in
    let reply : x.reply ≡ Number (issued b.take_seq past) = subst P op returned in
    get_draw b produces t x past (record { op = Ticket b.take_seq; reply = x.reply }) s role op
    (after_told (consume_rule b) x past [] (Ticket b.take_seq) at op (ap (is_on b) (sym op) ∙ on) (ap is_pending reply)) (ap reply_number reply)
consume_step b produces t x past (c ∷ []) s d role at on due returned =
    let op : op_at x past ≡ Await b.out_count (reply_number c.reply) = (due_is (Await b.out_count (reply_number c.reply)) (op_at x past) due).1 in
    let P : Act → Type 0 = λ a. IsReplyTo t past a x.reply in
    await_cases b produces t x past b.out_count (reply_number c.reply) s op (subst P op returned)
    (λ k. get_enter b produces t x past c (record { op = Await b.out_count (reply_number c.reply); reply = x.reply }) (reply_number c.reply) s role op at
    (after_told (consume_rule b) x past (c ∷ []) (Await b.out_count (reply_number c.reply)) at op (ap (is_on b) (sym op) ∙ on) k.0) k.1)
consume_step b produces t x past (c ∷ e ∷ []) s d role at on due returned =
    let op : op_at x past ≡ Await b.in_count (reply_number c.reply + 1) = (due_is (Await b.in_count (reply_number c.reply + 1)) (op_at x past) due).1 in
    let P : Act → Type 0 = λ a. IsReplyTo t past a x.reply in
    await_cases b produces t x past b.in_count (reply_number c.reply + 1) s op (subst P op returned)
    (λ k. get_wait b produces t x past c e (record { op = Await b.in_count (reply_number c.reply + 1); reply = x.reply }) (reply_number c.reply + 1) s role op at
    (after_told (consume_rule b) x past (c ∷ e ∷ []) (Await b.in_count (reply_number c.reply + 1)) at op (ap (is_on b) (sym op) ∙ on) k.0) k.1)
consume_step b produces t x past (c ∷ e ∷ f ∷ []) s d role at on due returned =
    let op : op_at x past ≡ Get (b.first_cell + reply_number c.reply % b.cells) = (due_is (Get (b.first_cell + reply_number c.reply % b.cells)) (op_at x past) due).1 in
    let P : Act → Type 0 = λ a. IsReplyTo t past a x.reply in
    let reply : x.reply ≡ Number (cell_value (b.first_cell + reply_number c.reply % b.cells) past) = subst P op returned in
    get_get b produces t x past c e f (record { op = Get (b.first_cell + reply_number c.reply % b.cells); reply = x.reply }) s role op reply at
    (after_told (consume_rule b) x past (c ∷ e ∷ f ∷ []) (Get (b.first_cell + reply_number c.reply % b.cells)) at op (ap (is_on b) (sym op) ∙ on) (ap is_pending reply))
consume_step b produces t x past (c ∷ e ∷ f ∷ g ∷ []) s d role at on due returned =
    let op : op_at x past ≡ Advance b.out_count = (due_is (Advance b.out_count) (op_at x past) due).1 in
    let P : Act → Type 0 = λ a. IsReplyTo t past a x.reply in
    let reply : x.reply ≡ Done = subst P op returned in
    get_leave b produces t x past c e f g s role op at
    (after_told (consume_rule b) x past (c ∷ e ∷ f ∷ g ∷ []) (Advance b.out_count) at op (ap (is_on b) (sym op) ∙ on) (ap is_pending reply))
consume_step b produces t x past (c ∷ e ∷ f ∷ g ∷ h ∷ rest) s d role at on due returned = cc
