-- The deliveries of a buffer that is followed are in the order of their numbers.
use Rattle.std.proofs.Common.{◌≡◌, ℕ, ◌+◌, ◌-◌, ◌%◌, ◌<◌, ◌≤◌, Bool, true, false, List, [], ◌∷◌, length, Some, None, is_some, refl, ap, sym, ◌∙◌, arith, cond, ◌==◌, inl, inr}
use Rattle.std.proofs.lemmas.Bool.{ne_eqb}
use Rattle.ec_count.specs.Tables.{Tables, IsDeclared}
use Rattle.ec_core.specs.declared.act.Act.{Act}
use Rattle.ec_core.specs.declared.act.Act.TheVariants.{Advance, Read, Await, Go, Ticket, Put, Get, Hand}
use Rattle.ec_core.specs.declared.act.Entry.{Entry}
use Rattle.ec_core.specs.Counts.{total}
use Rattle.ec_core.specs.Acceptance.{IsAccepted}
use Rattle.ec_core.specs.Following.{CompletedCall, block, Follow}
use Rattle.ec_core.specs.CallLists.{is_due, without_value, reply_number}
use Rattle.ec_core.proofs.shared.Following.{op_at, step_due, due_is}
use Rattle.ec_core.proofs.shared.Queue.{QueuePosition, turn_is}
use Rattle.ec_buffer.specs.Shapes.{Buffer}
use Rattle.ec_buffer.specs.CallLists.{produce_call, consume_call, drawn_ticket}
use Rattle.ec_buffer.specs.Follows.{produce_rule, consume_rule, role_rules}
use Rattle.ec_buffer.specs.Items.{put_on, is_get_on}
use Rattle.ec_buffer.proofs.Moves.{puts, gets, Moved, produced, delivered}
use Rattle.ec_buffer.specs.Shapes.{IsShape}
use Rattle.ec_buffer.proofs.Handing.{seat_of, put_seat, get_seat, put_seat_is, get_seat_is, quiet_off, put_on_op, get_on_op, produced_same, delivered_same}
use Rattle.ec_buffer.proofs.Moving.{rules_put, rules_get, produced_now, delivered_now}
use Rattle.ec_buffer.proofs.Followed.{on_of, handing}

-- a get is the fourth call of its list, and names the cell of its ticket
get_place : (b : Buffer) (calls : List CompletedCall) (op : Act) → is_due (consume_call b calls) (without_value op) ≡ true → is_get_on b op ≡ true → (length calls ≡ 3) × (op ≡ Get (b.first_cell + drawn_ticket calls % b.cells))
get_place b [] op due get = (let k = due_is (Ticket b.take_seq) op due in let no : is_get_on b op ≡ false = ap (is_get_on b) k.1 in cc)
get_place b (c ∷ []) op due get = (let k = due_is (Await b.out_count (reply_number c.reply)) op due in let no : is_get_on b op ≡ false = ap (is_get_on b) k.1 in cc)
get_place b (c ∷ d ∷ []) op due get = (let k = due_is (Await b.in_count (reply_number c.reply + 1)) op due in let no : is_get_on b op ≡ false = ap (is_get_on b) k.1 in cc)
get_place b (c ∷ d ∷ e ∷ []) op due get = (refl, (due_is (Get (b.first_cell + reply_number c.reply % b.cells)) op due).1)
get_place b (c ∷ d ∷ e ∷ f ∷ []) op due get = (let k = due_is (Advance b.out_count) op due in let no : is_get_on b op ≡ false = ap (is_get_on b) k.1 in cc)
get_place b (c ∷ d ∷ e ∷ f ∷ g ∷ rest) op due get = cc

no_get_there : (b : Buffer) (calls : List CompletedCall) (op : Act) → is_due (produce_call b 0 calls) (without_value op) ≡ true → is_get_on b op ≡ true → ⊥
no_get_there b [] op due get = (let k = due_is (Ticket b.put_seq) op due in let no : is_get_on b op ≡ false = ap (is_get_on b) k.1 in cc)
no_get_there b (c ∷ []) op due get = (let k = due_is (Await b.in_count (reply_number c.reply)) op due in let no : is_get_on b op ≡ false = ap (is_get_on b) k.1 in cc)
no_get_there b (c ∷ d ∷ []) op due get = (let k = due_is (Await b.out_count (reply_number c.reply + 1 - b.cells)) op due in let no : is_get_on b op ≡ false = ap (is_get_on b) k.1 in cc)
no_get_there b (c ∷ d ∷ e ∷ []) op due get = (let k = due_is (Put (b.first_cell + reply_number c.reply % b.cells) 0) op due in let no : is_get_on b op ≡ false = ap (is_get_on b) k.1 in cc)
no_get_there b (c ∷ d ∷ e ∷ f ∷ []) op due get = (let k = due_is (Advance b.in_count) op due in let no : is_get_on b op ≡ false = ap (is_get_on b) k.1 in cc)
no_get_there b (c ∷ d ∷ e ∷ f ∷ g ∷ rest) op due get = cc

-- a put is the fourth call of its list
put_place : (b : Buffer) (calls : List CompletedCall) (op : Act) → is_due (produce_call b 0 calls) (without_value op) ≡ true → is_some (put_on b op) ≡ true → length calls ≡ 3
put_place b [] op due put = (let k = due_is (Ticket b.put_seq) op due in let no : is_some (put_on b op) ≡ false = ap (λ a. is_some (put_on b a)) k.1 in cc)
put_place b (c ∷ []) op due put = (let k = due_is (Await b.in_count (reply_number c.reply)) op due in let no : is_some (put_on b op) ≡ false = ap (λ a. is_some (put_on b a)) k.1 in cc)
put_place b (c ∷ d ∷ []) op due put = (let k = due_is (Await b.out_count (reply_number c.reply + 1 - b.cells)) op due in let no : is_some (put_on b op) ≡ false = ap (λ a. is_some (put_on b a)) k.1 in cc)
put_place b (c ∷ d ∷ e ∷ []) op due put = refl
put_place b (c ∷ d ∷ e ∷ f ∷ []) op due put = (let k = due_is (Advance b.in_count) op due in let no : is_some (put_on b op) ≡ false = ap (λ a. is_some (put_on b a)) k.1 in cc)
put_place b (c ∷ d ∷ e ∷ f ∷ g ∷ rest) op due put = cc

no_put_there : (b : Buffer) (calls : List CompletedCall) (op : Act) → is_due (consume_call b calls) (without_value op) ≡ true → is_some (put_on b op) ≡ true → ⊥
no_put_there b [] op due put = (let k = due_is (Ticket b.take_seq) op due in let no : is_some (put_on b op) ≡ false = ap (λ a. is_some (put_on b a)) k.1 in cc)
no_put_there b (c ∷ []) op due put = (let k = due_is (Await b.out_count (reply_number c.reply)) op due in let no : is_some (put_on b op) ≡ false = ap (λ a. is_some (put_on b a)) k.1 in cc)
no_put_there b (c ∷ d ∷ []) op due put = (let k = due_is (Await b.in_count (reply_number c.reply + 1)) op due in let no : is_some (put_on b op) ≡ false = ap (λ a. is_some (put_on b a)) k.1 in cc)
no_put_there b (c ∷ d ∷ e ∷ []) op due put = (let k = due_is (Get (b.first_cell + reply_number c.reply % b.cells)) op due in let no : is_some (put_on b op) ≡ false = ap (λ a. is_some (put_on b a)) k.1 in cc)
no_put_there b (c ∷ d ∷ e ∷ f ∷ []) op due put = (let k = due_is (Advance b.out_count) op due in let no : is_some (put_on b op) ≡ false = ap (λ a. is_some (put_on b a)) k.1 in cc)
no_put_there b (c ∷ d ∷ e ∷ f ∷ g ∷ rest) op due put = cc

-- the get that is made is the next one: its ticket is the number of gets so far, an item is in its
-- cell, and that is the cell it names
pub record IsNextGet (b : Buffer) (produces : ℕ → Bool) (x : Entry) (past : List Entry) : Type 0 where
  pub turn : drawn_ticket (block (role_rules b produces x.worker) x.worker past) ≡ gets b past
  pub put : gets b past < puts b past
  pub op : op_at x past ≡ Get (b.first_cell + gets b past % b.cells)

pub next_get : (b : Buffer) (produces : ℕ → Bool) (t : Tables) (x : Entry) (past : List Entry) → IsShape b → IsDeclared t → IsAccepted t (x ∷ past) → Follow (role_rules b produces) (x ∷ past)
    → is_get_on b x.act ≡ true → IsNextGet b produces x past
next_get b produces t x past shape d acc f get =
    let w = x.worker in
    let op = op_at x past in
    let on_op : is_get_on b op ≡ true = sym (get_on_op b t x past acc) ∙ get in
    let now = handing b produces t past shape d acc.1 f.1 in
    elim (step_due t (role_rules b produces) x past d acc f) [
      | inl off ↦
          (let no : is_get_on b op ≡ false = (quiet_off b op (on_of b (produces w) (block (role_rules b produces w) w past) op false off)).get_one in cc)
      | inr k ↦
          (elim (produces w) as (λ p. produces w ≡ p → (cond p (produce_rule b) (consume_rule b)).fits (block (cond p (produce_rule b) (consume_rule b)) w past) op ≡ true → IsNextGet b produces x past) [
            | true ↦ λ role due. absurd (no_get_there b (block (produce_rule b) w past) op due on_op)
            | false ↦ λ role due.
                (let place = get_place b (block (consume_rule b) w past) op due on_op in
                let seat : get_seat b produces past w ≡ seat_of (block (consume_rule b) w past) = get_seat_is b produces past w (block (consume_rule b) w past) role refl in
                let stage : (get_seat b produces past w).stage ≡ 3 = ap (λ (z : QueuePosition). z.stage) seat ∙ place.0 in
                let mine = turn_is _ _ _ _ w now.getting (omega arith) (omega arith) in
                let ready : (get_seat b produces past w).turn + 1 ≤ total b.in_count past = now.get_ready w stage in
                let in_some : total b.in_count past ≤ puts b past = now.putting.some in
                let seated : drawn_ticket (block (consume_rule b) w past) ≡ gets b past = sym (ap (λ (z : QueuePosition). z.turn) seat) ∙ mine.0 in
                record {
                  turn = ap drawn_ticket (rules_get b produces past w (block (consume_rule b) w past) role refl) ∙ seated;
                  put = omega arith;
                  op = place.1 ∙ ap (λ n. Get (b.first_cell + n % b.cells)) seated;
                })
          ] refl k.1)
    ]

pub put_turn : (b : Buffer) (produces : ℕ → Bool) (t : Tables) (x : Entry) (past : List Entry) → IsShape b → IsDeclared t → IsAccepted t (x ∷ past) → Follow (role_rules b produces) (x ∷ past)
    → is_some (put_on b x.act) ≡ true → drawn_ticket (block (role_rules b produces x.worker) x.worker past) ≡ puts b past
put_turn b produces t x past shape d acc f put =
    let w = x.worker in
    let op = op_at x past in
    let on_op : is_some (put_on b op) ≡ true = sym (ap is_some (put_on_op b t x past acc)) ∙ put in
    elim (step_due t (role_rules b produces) x past d acc f) [
      | inl off ↦
          (let none : put_on b op ≡ None = (quiet_off b op (on_of b (produces w) (block (role_rules b produces w) w past) op false off)).put_one in
          let no : is_some (put_on b op) ≡ false = ap is_some none in cc)
      | inr k ↦
          (elim (produces w) as (λ p. produces w ≡ p → (cond p (produce_rule b) (consume_rule b)).fits (block (cond p (produce_rule b) (consume_rule b)) w past) op ≡ true → drawn_ticket (block (role_rules b produces w) w past) ≡ puts b past) [
            | true ↦ λ role due.
                (let place : length (block (produce_rule b) w past) ≡ 3 = put_place b (block (produce_rule b) w past) op due on_op in
                let seat : put_seat b produces past w ≡ seat_of (block (produce_rule b) w past) = put_seat_is b produces past w (block (produce_rule b) w past) role refl in
                let stage : (put_seat b produces past w).stage ≡ 3 = ap (λ (z : QueuePosition). z.stage) seat ∙ place in
                let mine = turn_is _ _ _ _ w (handing b produces t past shape d acc.1 f.1).putting (omega arith) (omega arith) in
                ap drawn_ticket (rules_put b produces past w (block (produce_rule b) w past) role refl) ∙ sym (ap (λ (z : QueuePosition). z.turn) seat) ∙ mine.0)
            | false ↦ λ role due. absurd (no_put_there b (block (consume_rule b) w past) op due on_op)
          ] refl k.1)
    ]

pub no_get_of_put : (b : Buffer) (act : Act) → is_some (put_on b act) ≡ true → is_get_on b act ≡ false
no_get_of_put b (Put y v) h = refl
no_get_of_put b (Get y) h = cc
no_get_of_put b (Advance e) h = cc
no_get_of_put b (Read e) h = cc
no_get_of_put b (Await e v) h = cc
no_get_of_put b Go h = cc
no_get_of_put b (Ticket q) h = cc
no_get_of_put b (Hand e c) h = cc

-- the put with ticket i + n comes after the get with ticket i
pub put_after_get : (b : Buffer) (produces : ℕ → Bool) (t : Tables) (x : Entry) (past : List Entry) (i : ℕ) → IsShape b → IsDeclared t → IsAccepted t (x ∷ past) → Follow (role_rules b produces) (x ∷ past)
    → is_some (put_on b x.act) ≡ true → drawn_ticket (block (role_rules b produces x.worker) x.worker past) ≡ i + b.cells → (c : Moved) × (delivered b produces i past ≡ Some c)
unfolding puts gets
put_after_get b produces t x past i shape dec acc f put turn =
    let at : i + b.cells ≡ puts b past = sym turn ∙ put_turn b produces t x past shape dec acc f put in
    let more : puts b (x ∷ past) ≡ 1 + puts b past = ap (λ p. cond p 1 0 + puts b past) put in
    let same : gets b (x ∷ past) ≡ 0 + gets b past = ap (λ g. cond g 1 0 + gets b past) (no_get_of_put b x.act put) in
    let room : puts b (x ∷ past) ≤ gets b (x ∷ past) + b.cells = (handing b produces t (x ∷ past) shape dec acc f).stock.room in
    let k = (handing b produces t past shape dec acc.1 f.1).stock.taken i (omega arith) in
    (k.0, k.2)
