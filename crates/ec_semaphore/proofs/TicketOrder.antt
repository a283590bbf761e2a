-- The pairs of tickets that are drawn under a guard are in one order.
use Rattle.std.proofs.Common.{◌≡◌, ℕ, ◌+◌, ◌<◌, ◌≤◌, Bool, true, false, not, ◌&&◌, ◌||◌, List, [], ◌∷◌, ◌++◌, length, None, refl, ap, sym, ◌∙◌, arith, subst, cond, ◌==◌, inl, inr, get_or, length-append}
use Rattle.std.specs.Prelude.{option_to_list}
use Rattle.std.specs.List.{All, AllPairs}
use Rattle.std.proofs.lemmas.Bool.{eqb-true, eqb-false, eq-eqb, ne_eqb, and_parts, or_parts}
use Rattle.std.proofs.lemmas.List.{append-nil}
use Rattle.std.proofs.lemmas.List.Elements.{All-push}
use Rattle.std.proofs.lemmas.List.Quantifiers.{all_pairs_push}
use Rattle.std.proofs.Math.Nat.{zero-add}
use Rattle.ec_count.specs.Tables.{Tables, IsDeclared}
use Rattle.ec_core.specs.declared.act.Act.{Act}
use Rattle.ec_core.specs.declared.act.Act.TheVariants.{Advance, Read, Await, Go, Ticket, Put, Get, Hand}
use Rattle.ec_core.specs.declared.act.Reply.TheVariants.{Done, Number}
use Rattle.ec_core.specs.declared.act.Entry.{Entry}
use Rattle.ec_core.specs.Counts.{total, issued, is_advance, is_ticket}
use Rattle.ec_core.specs.Calls.{is_pending}
use Rattle.ec_core.specs.Acceptance.{IsAccepted}
use Rattle.ec_core.specs.Following.{CompletedCall, block, Follow}
use Rattle.ec_core.specs.CallLists.{is_act, reply_number}
use Rattle.ec_core.proofs.shared.Queue.{QueuePosition, IsQueue, IsElsewhereSame, still, draw, enter, make, leave, turn_is}
use Rattle.ec_core.proofs.shared.Following.{other_block, same_test, IsReplyTo, op_at, step_told, step_opened, total_step, issued_step, step_due, is_act-true, after_told, after_pending, off_block}
use Rattle.ec_semaphore.specs.declared.pair.Pair.{Pair}
use Rattle.ec_semaphore.specs.Shapes.{Semaphore}
use Rattle.ec_semaphore.specs.Uses.{is_on}
use Rattle.ec_semaphore.specs.Both.{sequencer_number, is_begun, both_rule, both_rules}
use Rattle.ec_semaphore.specs.Pairs.{pair_after, pair_with, pairs_in, IsBelow, IsEarlier}
use Rattle.ec_semaphore.proofs.shared.Implying.{outside}

abbrev pub lists : Semaphore → (ℕ → Bool) → List Entry → ℕ → List CompletedCall
lists c lines past w = block (both_rule c lines) w past

abbrev pub seat_of : List CompletedCall → QueuePosition
seat_of [] = record { stage = 0; turn = 0 }
seat_of (t ∷ rest) = record { stage = 1 + length rest; turn = reply_number t.reply }

abbrev pub seat : Semaphore → (ℕ → Bool) → List Entry → ℕ → QueuePosition
seat c lines past w = seat_of (lists c lines past w)

pub record IsPaired (c : Semaphore) (lines : ℕ → Bool) (past : List Entry) : Type 0 where
  pub queue : IsQueue (seat c lines past) (issued c.line past) (total c.count past) (length (pairs_in c lines past))
  pub below : (q : ℕ) → All (IsBelow q (issued q past)) (pairs_in c lines past)
  pub waiting : (w : ℕ) (t a r : CompletedCall) → lists c lines past w ≡ t ∷ a ∷ r ∷ [] → All (IsBelow (sequencer_number r.op) (reply_number r.reply)) (pairs_in c lines past) × (reply_number r.reply < issued (sequencer_number r.op) past)
  pub ordered : AllPairs IsEarlier (pairs_in c lines past)

-- PAIRS

below_more : (q n m : ℕ) (ps : List Pair) → n ≤ m → All (IsBelow q n) ps → All (IsBelow q m) ps
below_more q n m ps le h = λ i d lt.
    (let b : IsBelow q n (get_or ps i d) = h i d lt in
    record { first = λ e. (let k : (get_or ps i d).first_ticket < n = b.first e in omega arith); second = λ e. (let k : (get_or ps i d).second_ticket < n = b.second e in omega arith) })

elsewhere : (c : Semaphore) (lines : ℕ → Bool) (x : Entry) (past : List Entry) → IsElsewhereSame x.worker (seat c lines past) (seat c lines (x ∷ past))
elsewhere c lines x past v h = ap seat_of (other_block (both_rule c lines) v x past h)

issued_up : (t : Tables) (q : ℕ) (x : Entry) (past : List Entry) → IsAccepted t (x ∷ past) → issued q past ≤ issued q (x ∷ past)
issued_up t q x past acc = (let k = issued_step t q x past acc in omega arith)

-- what stays true if no pair is drawn, given the queue after the entry, and the first ticket of the
-- worker, if it has one
kept : (c : Semaphore) (lines : ℕ → Bool) (t : Tables) (x : Entry) (past : List Entry) → IsAccepted t (x ∷ past) → IsPaired c lines past → pairs_in c lines (x ∷ past) ≡ pairs_in c lines past
    → IsQueue (seat c lines (x ∷ past)) (issued c.line (x ∷ past)) (total c.count (x ∷ past)) (length (pairs_in c lines past))
    → ((u a r : CompletedCall) → lists c lines (x ∷ past) x.worker ≡ u ∷ a ∷ r ∷ [] → All (IsBelow (sequencer_number r.op) (reply_number r.reply)) (pairs_in c lines past) × (reply_number r.reply < issued (sequencer_number r.op) (x ∷ past)))
    → IsPaired c lines (x ∷ past)
kept c lines t x past acc b same queue own =
    let P : List Pair → Type 0 = λ ps. IsQueue (seat c lines (x ∷ past)) (issued c.line (x ∷ past)) (total c.count (x ∷ past)) (length ps) in
    record {
      queue = subst P (sym same) queue;
      below = λ q. (let Q : List Pair → Type 0 = λ ps. All (IsBelow q (issued q (x ∷ past))) ps in
          subst Q (sym same) (below_more q (issued q past) (issued q (x ∷ past)) (pairs_in c lines past) (issued_up t q x past acc) (b.below q)));
      waiting = λ w u a r at.
          (let R : List Pair → Type 0 = λ ps. All (IsBelow (sequencer_number r.op) (reply_number r.reply)) ps × (reply_number r.reply < issued (sequencer_number r.op) (x ∷ past)) in
          subst R (sym same)
          (elim (x.worker == w) as (λ z. (x.worker == w) ≡ z → All (IsBelow (sequencer_number r.op) (reply_number r.reply)) (pairs_in c lines past) × (reply_number r.reply < issued (sequencer_number r.op) (x ∷ past))) [
            | true ↦ λ e. (let S : ℕ → Type 0 = λ v. lists c lines (x ∷ past) v ≡ u ∷ a ∷ r ∷ [] in own u a r (subst S (sym (eqb-true x.worker w e)) at))
            | false ↦ λ e.
                (let k = b.waiting w u a r (sym (other_block (both_rule c lines) w x past e) ∙ at) in
                let up = issued_up t (sequencer_number r.op) x past acc in
                let lt : reply_number r.reply < issued (sequencer_number r.op) past = k.1 in
                (k.0, omega arith))
          ] refl));
      ordered = (let T : List Pair → Type 0 = λ ps. AllPairs IsEarlier ps in subst T (sym same) b.ordered);
    }

pub pairs_at : (c : Semaphore) (lines : ℕ → Bool) (x : Entry) (past : List Entry) (calls : List CompletedCall) → lists c lines past x.worker ≡ calls
    → pairs_in c lines (x ∷ past) ≡ pairs_in c lines past ++ option_to_list (pair_with calls x)
unfolding pairs_in
pairs_at c lines x past calls at = ap (λ z. pairs_in c lines past ++ option_to_list (pair_with z x)) at

-- an entry that completes no pair
pub no_pair : (c : Semaphore) (lines : ℕ → Bool) (x : Entry) (past : List Entry) (calls : List CompletedCall) → lists c lines past x.worker ≡ calls → pair_with calls x ≡ None
    → pairs_in c lines (x ∷ past) ≡ pairs_in c lines past
no_pair c lines x past calls at none =
    pairs_at c lines x past calls at ∙ ap (λ o. pairs_in c lines past ++ option_to_list o) none ∙ append-nil (pairs_in c lines past)

moved_queue : (s : ℕ → QueuePosition) (drawn gone made drawn' gone' : ℕ) → drawn' ≡ drawn → gone' ≡ gone → IsQueue s drawn gone made → IsQueue s drawn' gone' made
moved_queue s drawn gone made drawn' gone' ed eg q =
    let P : ℕ → Type 0 = λ n. IsQueue s n gone' made in
    let Q : ℕ → Type 0 = λ n. IsQueue s drawn n made in
    subst P (sym ed) (subst Q (sym eg) q)

issued_is : (t : Tables) (q : ℕ) (x : Entry) (past : List Entry) (op : Act) (b : Bool) → IsAccepted t (x ∷ past) → op_at x past ≡ op → is_ticket q op ≡ b → issued q (x ∷ past) ≡ cond b 1 0 + issued q past
issued_is t q x past op b acc is h = issued_step t q x past acc ∙ ap (λ v. cond v 1 0 + issued q past) (ap (is_ticket q) is ∙ h)

total_is : (t : Tables) (e : ℕ) (x : Entry) (past : List Entry) (op : Act) (b : Bool) → IsAccepted t (x ∷ past) → op_at x past ≡ op → is_advance e op ≡ b → total e (x ∷ past) ≡ cond b 1 0 + total e past
total_is t e x past op b acc is h = total_step t e x past acc ∙ ap (λ v. cond v 1 0 + total e past) (ap (is_advance e) is ∙ h)

-- an act that is due as a ticket is one
ticket_is : (op : Act) → is_act (Ticket (sequencer_number op)) op ≡ true
    → op ≡ Ticket (sequencer_number op)
ticket_is op h = sym (is_act-true (Ticket (sequencer_number op)) op h)

-- an entry of a call that draws a ticket completes the pair
pair_at : (t : Tables) (r : CompletedCall) (x : Entry) (past : List Entry) (q : ℕ) → IsAccepted t (x ∷ past) → op_at x past ≡ Ticket q → pair_after r x x.act ≡ pair_after r x (Ticket q)
pair_at t r x past q acc is = same_test (pair_after r x) None t x.act (op_at x past) refl (λ e. refl) (λ e v. refl) (step_opened t x past acc) ∙ ap (pair_after r x) is

-- nothing moves
unmoved : (c : Semaphore) (lines : ℕ → Bool) (t : Tables) (x : Entry) (past : List Entry) → IsAccepted t (x ∷ past) → IsPaired c lines past → pairs_in c lines (x ∷ past) ≡ pairs_in c lines past
    → is_ticket c.line (op_at x past) ≡ false → is_advance c.count (op_at x past) ≡ false → lists c lines (x ∷ past) x.worker ≡ lists c lines past x.worker → IsPaired c lines (x ∷ past)
unmoved c lines t x past acc b same no_ticket no_advance is =
    kept c lines t x past acc b same
    (moved_queue (seat c lines (x ∷ past)) (issued c.line past) (total c.count past) (length (pairs_in c lines past)) (issued c.line (x ∷ past)) (total c.count (x ∷ past))
    (issued_is t c.line x past (op_at x past) false acc refl no_ticket ∙ zero-add (issued c.line past)) (total_is t c.count x past (op_at x past) false acc refl no_advance ∙ zero-add (total c.count past))
    (still _ _ _ _ _ x.worker b.queue (elsewhere c lines x past) (ap seat_of is)))
    (λ u a r at. (let k = b.waiting x.worker u a r (sym is ∙ at) in
    let up = issued_up t (sequencer_number r.op) x past acc in
    let lt : reply_number r.reply < issued (sequencer_number r.op) past =
    k.1 in (k.0, omega arith)))

third : (u a r u' a' r' : CompletedCall) → u ∷ a ∷ r ∷ [] ≡ u' ∷ a' ∷ r' ∷ [] → r ≡ r'
third u a r u' a' r' e = cc

on_step : (c : Semaphore) (lines : ℕ → Bool) (t : Tables) (x : Entry) (past : List Entry) (calls : List CompletedCall) → lines c.line ≡ false → IsAccepted t (x ∷ past) → lists c lines past x.worker ≡ calls
    → (is_begun calls || is_on c (op_at x past)) ≡ true → (both_rule c lines).fits calls (op_at x past) ≡ true → IsReplyTo t past (op_at x past) x.reply → IsPaired c lines past → IsPaired c lines (x ∷ past)
on_step c lines t x past [] apart acc at on due returned b =
    let P : Act → Type 0 = λ a. IsReplyTo t past a x.reply in
    let op : op_at x past ≡ Ticket c.line = sym (is_act-true (Ticket c.line) (op_at x past) (and_parts (is_act (Ticket c.line) (op_at x past)) true due).0) in
    let reply : x.reply ≡ Number (issued c.line past) = subst P op returned in
    let next : lists c lines (x ∷ past) x.worker ≡ record { op = op_at x past; reply = x.reply } ∷ [] = after_told (both_rule c lines) x past [] (op_at x past) at refl on (ap is_pending reply) in
    let z = ap seat_of next in
    kept c lines t x past acc b (no_pair c lines x past [] at refl)
    (moved_queue (seat c lines (x ∷ past)) (1 + issued c.line past) (total c.count past) (length (pairs_in c lines past)) (issued c.line (x ∷ past)) (total c.count (x ∷ past))
    (issued_is t c.line x past (Ticket c.line) true acc op (eq-eqb c.line c.line refl)) (total_is t c.count x past (Ticket c.line) false acc op refl ∙ zero-add (total c.count past))
    (draw _ _ _ _ _ x.worker b.queue (elsewhere c lines x past) (ap (λ (s : QueuePosition). s.stage) z ∙ refl) (ap (λ (s : QueuePosition). s.turn) z ∙ ap reply_number reply)))
    (λ u a r q. cc)
on_step c lines t x past (u ∷ []) apart acc at on due returned b =
    let P : Act → Type 0 = λ a. IsReplyTo t past a x.reply in
    let op : op_at x past ≡ Await c.count (reply_number u.reply) = sym (is_act-true (Await c.count (reply_number u.reply)) (op_at x past) (and_parts (is_act (Await c.count (reply_number u.reply)) (op_at x past)) true due).0) in
    elim (subst P op returned) [
      | inl pending ↦ unmoved c lines t x past acc b (no_pair c lines x past (u ∷ []) at refl) (ap (is_ticket c.line) op) (ap (is_advance c.count) op) (after_pending (both_rule c lines) x past pending)
      | inr k ↦
          (let low : reply_number u.reply ≤ k.0 = k.1 in
          let high : k.0 ≤ total c.count past = k.2 in
          let next : lists c lines (x ∷ past) x.worker ≡ u ∷ record { op = op_at x past; reply = x.reply } ∷ [] = after_told (both_rule c lines) x past (u ∷ []) (op_at x past) at refl on (ap is_pending k.3) in
          let was = ap seat_of at in
          let z = ap seat_of next in
          let st : (seat c lines past x.worker).stage ≡ 1 =
          ap (λ (s : QueuePosition). s.stage) was in
          let tu : (seat c lines past x.worker).turn ≡ reply_number u.reply = ap (λ (s : QueuePosition). s.turn) was in
          let st' : (seat c lines (x ∷ past) x.worker).stage ≡ 2 =
          ap (λ (s : QueuePosition). s.stage) z in
          let tu' : (seat c lines (x ∷ past) x.worker).turn ≡ reply_number u.reply = ap (λ (s : QueuePosition). s.turn) z in
          kept c lines t x past acc b (no_pair c lines x past (u ∷ []) at refl)
          (moved_queue (seat c lines (x ∷ past)) (issued c.line past) (total c.count past) (length (pairs_in c lines past)) (issued c.line (x ∷ past)) (total c.count (x ∷ past))
          (issued_is t c.line x past (Await c.count (reply_number u.reply)) false acc op refl ∙ zero-add (issued c.line past)) (total_is t c.count x past (Await c.count (reply_number u.reply)) false acc op refl ∙ zero-add (total c.count past))
          (enter _ _ _ _ _ x.worker b.queue (elsewhere c lines x past) (omega arith) (omega arith) (omega arith) (omega arith) (tu' ∙ sym tu) (omega arith)))
          (λ u' a' r' q. cc))
    ]
on_step c lines t x past (u ∷ a ∷ []) apart acc at on due returned b =
    let P : Act → Type 0 = λ z. IsReplyTo t past z x.reply in
    let ok = and_parts (is_act (Ticket (sequencer_number (op_at x past))) (op_at x past)) (lines (sequencer_number (op_at x past))) due in
    let op = ticket_is (op_at x past) ok.0 in
    let q = sequencer_number (op_at x past) in
    let reply : x.reply ≡ Number (issued (sequencer_number (op_at x past)) past) =
    subst P op returned in
    let other : (sequencer_number (op_at x past) == c.line) ≡ false = ne_eqb (sequencer_number (op_at x past)) c.line (λ e. (let no_line : lines (sequencer_number (op_at x past)) ≡ false = ap lines e ∙ apart in let yes : lines (sequencer_number (op_at x past)) ≡ true = ok.1 in cc)) in
    let n : CompletedCall = record { op = op_at x past; reply = x.reply } in
    let next : lists c lines (x ∷ past) x.worker ≡ u ∷ a ∷ n ∷ [] = after_told (both_rule c lines) x past (u ∷ a ∷ []) (op_at x past) at refl on (ap is_pending reply) in
    let was = ap seat_of at in
    let z = ap seat_of next in
    let st : (seat c lines past x.worker).stage ≡ 2 = ap (λ (s : QueuePosition). s.stage) was in
    let tu : (seat c lines past x.worker).turn ≡ reply_number u.reply = ap (λ (s : QueuePosition). s.turn) was in
    let st' : (seat c lines (x ∷ past) x.worker).stage ≡ 3 =
    ap (λ (s : QueuePosition). s.stage) z in
    let tu' : (seat c lines (x ∷ past) x.worker).turn ≡ reply_number u.reply = ap (λ (s : QueuePosition). s.turn) z in
    let inside : (seat c lines past x.worker).turn ≤ total c.count past = b.queue.inside x.worker (omega arith) in
    let more : issued (sequencer_number (op_at x past)) (x ∷ past) ≡ 1 + issued (sequencer_number (op_at x past)) past = issued_is t (sequencer_number (op_at x past)) x past (Ticket (sequencer_number (op_at x past))) true acc op (eq-eqb (sequencer_number (op_at x past)) (sequencer_number (op_at x past)) refl) in
    let num : reply_number x.reply ≡ issued (sequencer_number (op_at x past)) past =
    ap reply_number reply in
    kept c lines t x past acc b (no_pair c lines x past (u ∷ a ∷ []) at refl)
    (moved_queue (seat c lines (x ∷ past)) (issued c.line past) (total c.count past) (length (pairs_in c lines past)) (issued c.line (x ∷ past)) (total c.count (x ∷ past))
    (issued_is t c.line x past (Ticket (sequencer_number (op_at x past))) false acc op other ∙ zero-add (issued c.line past)) (total_is t c.count x past (Ticket (sequencer_number (op_at x past))) false acc op refl ∙ zero-add (total c.count past))
    (enter _ _ _ _ _ x.worker b.queue (elsewhere c lines x past) (omega arith) (omega arith) (omega arith) (omega arith) (tu' ∙ sym tu) inside))
    (λ u' a' r' e.
    (let same : n ≡ r' = third u a n u' a' r' (sym next ∙ e) in
    let Q : CompletedCall → Type 0 = λ r. All (IsBelow (sequencer_number r.op) (reply_number r.reply)) (pairs_in c lines past) × (reply_number r.reply < issued (sequencer_number r.op) (x ∷ past)) in
    let R : ℕ → Type 0 =
    λ m. All (IsBelow (sequencer_number (op_at x past)) m) (pairs_in c lines past) in
    subst Q same (subst R (sym num) (b.below (sequencer_number (op_at x past))), (let lt : reply_number x.reply < issued (sequencer_number (op_at x past)) (x ∷ past) = omega arith in lt))))
on_step c lines t x past (u ∷ a ∷ r ∷ []) apart acc at on due returned b =
    let P : Act → Type 0 = λ z. IsReplyTo t past z x.reply in
    let due_parts = and_parts (is_act (Ticket (sequencer_number (op_at x past))) (op_at x past)) (lines (sequencer_number (op_at x past)) && not (sequencer_number r.op == sequencer_number (op_at x past))) due in
    let ok = and_parts (lines (sequencer_number (op_at x past))) (not (sequencer_number r.op == sequencer_number (op_at x past))) due_parts.1 in
    let op = ticket_is (op_at x past) due_parts.0 in
    let reply : x.reply ≡ Number (issued (sequencer_number (op_at x past)) past) =
    subst P op returned in
    let other : (sequencer_number (op_at x past) == c.line) ≡ false = ne_eqb (sequencer_number (op_at x past)) c.line (λ e. (let no_line : lines (sequencer_number (op_at x past)) ≡ false = ap lines e ∙ apart in let yes : lines (sequencer_number (op_at x past)) ≡ true = ok.0 in cc)) in
    let n : CompletedCall = record { op = op_at x past; reply = x.reply } in
    let next : lists c lines (x ∷ past) x.worker ≡ u ∷ a ∷ r ∷ n ∷ [] = after_told (both_rule c lines) x past (u ∷ a ∷ r ∷ []) (op_at x past) at refl on (ap is_pending reply) in
    let was = ap seat_of at in
    let z = ap seat_of next in
    let st : (seat c lines past x.worker).stage ≡ 3 = ap (λ (s : QueuePosition). s.stage) was in
    let tu : (seat c lines past x.worker).turn ≡ reply_number u.reply = ap (λ (s : QueuePosition). s.turn) was in
    let st' : (seat c lines (x ∷ past) x.worker).stage ≡ 4 =
    ap (λ (s : QueuePosition). s.stage) z in
    let tu' : (seat c lines (x ∷ past) x.worker).turn ≡ reply_number u.reply = ap (λ (s : QueuePosition). s.turn) z in
    let drawn : Pair = record { worker = x.worker; first = sequencer_number r.op; first_ticket = reply_number r.reply; second = sequencer_number (op_at x past); second_ticket = reply_number x.reply } in
    let same : pairs_in c lines (x ∷ past) ≡ pairs_in c lines past ++ drawn ∷ [] =
    pairs_at c lines x past (u ∷ a ∷ r ∷ []) at ∙ ap (λ o. pairs_in c lines past ++ option_to_list o) (pair_at t r x past (sequencer_number (op_at x past)) acc op) in
    let more : issued (sequencer_number (op_at x past)) (x ∷ past) ≡ 1 + issued (sequencer_number (op_at x past)) past = issued_is t (sequencer_number (op_at x past)) x past (Ticket (sequencer_number (op_at x past))) true acc op (eq-eqb (sequencer_number (op_at x past)) (sequencer_number (op_at x past)) refl) in
    let num : reply_number x.reply ≡ issued (sequencer_number (op_at x past)) past =
    ap reply_number reply in
    let w = b.waiting x.worker u a r at in
    let first_lt : reply_number r.reply < issued (sequencer_number r.op) past = w.1 in
    let first_up = issued_up t (sequencer_number r.op) x past acc in
    let queue : IsQueue (seat c lines (x ∷ past)) (issued c.line (x ∷ past)) (total c.count (x ∷ past)) (1 + length (pairs_in c lines past)) =
    moved_queue (seat c lines (x ∷ past)) (issued c.line past) (total c.count past) (1 + length (pairs_in c lines past)) (issued c.line (x ∷ past)) (total c.count (x ∷ past))
    (issued_is t c.line x past (Ticket (sequencer_number (op_at x past))) false acc op other ∙ zero-add (issued c.line past)) (total_is t c.count x past (Ticket (sequencer_number (op_at x past))) false acc op refl ∙ zero-add (total c.count past))
    (make _ _ _ _ _ x.worker b.queue (elsewhere c lines x past) (omega arith) (omega arith) st' (tu' ∙ sym tu)) in
    let Q : ℕ → Type 0 = λ m. IsQueue (seat c lines (x ∷ past)) (issued c.line (x ∷ past)) (total c.count (x ∷ past)) m in
    let L : List Pair → Type 0 = λ ps. IsQueue (seat c lines (x ∷ past)) (issued c.line (x ∷ past)) (total c.count (x ∷ past)) (length ps) in
    let len : length (pairs_in c lines past ++ drawn ∷ []) ≡ 1 + length (pairs_in c lines past) = omega (arith, length-append (pairs_in c lines past) (drawn ∷ [])) in
    record {
      queue = subst L (sym same) (subst Q (sym len) queue);
      below = λ q.
          (let B : List Pair → Type 0 = λ ps. All (IsBelow q (issued q (x ∷ past))) ps in
          subst B (sym same)
          (All-push (IsBelow q (issued q (x ∷ past))) (pairs_in c lines past) drawn
          (below_more q (issued q past) (issued q (x ∷ past)) (pairs_in c lines past) (issued_up t q x past acc) (b.below q))
          (record {
            first = λ e. (let F : ℕ → Type 0 = λ m. reply_number r.reply < issued m (x ∷ past) in subst F e (let lt : reply_number r.reply < issued (sequencer_number r.op) (x ∷ past) = omega arith in lt));
            second = λ e. (let F : ℕ → Type 0 = λ m. reply_number x.reply < issued m (x ∷ past) in subst F e (let lt : reply_number x.reply < issued (sequencer_number (op_at x past)) (x ∷ past) = omega arith in lt));
          })));
      waiting = λ v u' a' r' e.
          (elim (x.worker == v) as (λ y. (x.worker == v) ≡ y → All (IsBelow (sequencer_number r'.op) (reply_number r'.reply)) (pairs_in c lines (x ∷ past)) × (reply_number r'.reply < issued (sequencer_number r'.op) (x ∷ past))) [
            | true ↦ λ g. (let S : ℕ → Type 0 = λ i. lists c lines (x ∷ past) i ≡ u' ∷ a' ∷ r' ∷ [] in
                let mine : lists c lines (x ∷ past) x.worker ≡ u' ∷ a' ∷ r' ∷ [] = subst S (sym (eqb-true x.worker v g)) e in
                let three : length (lists c lines (x ∷ past) x.worker) ≡ 3 = ap length mine in
                let four : length (lists c lines (x ∷ past) x.worker) ≡ 4 = ap length next in
                absurd (omega arith))
            | false ↦ λ g.
                (let theirs : lists c lines past v ≡ u' ∷ a' ∷ r' ∷ [] = sym (other_block (both_rule c lines) v x past g) ∙ e in
                let st2 : (seat c lines past v).stage ≡ 3 = ap (λ (s : QueuePosition). s.stage) (ap seat_of theirs) in
                let one = turn_is _ _ _ _ x.worker b.queue (omega arith) (omega arith) in
                let two = turn_is _ _ _ _ v b.queue (omega arith) (omega arith) in
                let same_worker : x.worker ≡ v = b.queue.apart x.worker v (omega arith) (omega arith) (one.1 ∙ sym two.1) in
                absurd (eqb-false x.worker v g same_worker))
          ] refl);
      ordered =
          (let O : List Pair → Type 0 = λ ps. AllPairs IsEarlier ps in
          let R : ℕ → Type 0 = λ m. All (IsBelow (sequencer_number (op_at x past)) m) (pairs_in c lines past) in
          let second : All (IsBelow (sequencer_number (op_at x past)) (reply_number x.reply)) (pairs_in c lines past) = subst R (sym num) (b.below (sequencer_number (op_at x past))) in
          subst O (sym same) (all_pairs_push IsEarlier (pairs_in c lines past) drawn b.ordered (λ i d lt. (w.0 i d lt, second i d lt))));
    }
on_step c lines t x past (u ∷ a ∷ r ∷ s ∷ []) apart acc at on due returned b =
    let P : Act → Type 0 = λ z. IsReplyTo t past z x.reply in
    let op : op_at x past ≡ Advance c.count = sym (is_act-true (Advance c.count) (op_at x past) (and_parts (is_act (Advance c.count) (op_at x past)) true due).0) in
    let reply : x.reply ≡ Done = subst P op returned in
    let next : lists c lines (x ∷ past) x.worker ≡ [] = after_told (both_rule c lines) x past (u ∷ a ∷ r ∷ s ∷ []) (op_at x past) at refl on (ap is_pending reply) in
    kept c lines t x past acc b (no_pair c lines x past (u ∷ a ∷ r ∷ s ∷ []) at refl)
    (moved_queue (seat c lines (x ∷ past)) (issued c.line past) (1 + total c.count past) (length (pairs_in c lines past)) (issued c.line (x ∷ past)) (total c.count (x ∷ past))
    (issued_is t c.line x past (Advance c.count) false acc op refl ∙ zero-add (issued c.line past)) (total_is t c.count x past (Advance c.count) true acc op (eq-eqb c.count c.count refl))
    (leave _ _ _ _ _ x.worker b.queue (elsewhere c lines x past) (ap (λ (y : QueuePosition). y.stage) (ap seat_of at)) (ap (λ (y : QueuePosition). y.stage) (ap seat_of next))))
    (λ u' a' r' q. cc)
on_step c lines t x past (u ∷ a ∷ r ∷ s ∷ v ∷ rest) apart acc at on due returned b = cc

-- an act that is not on the guard, outside the list, changes nothing
off_quiet : (c : Semaphore) (op : Act) → is_on c op ≡ false → (is_ticket c.line op ≡ false) × (is_advance c.count op ≡ false)
off_quiet c (Advance e) h = (refl, h)
off_quiet c (Read e) h = (refl, refl)
off_quiet c (Await e v) h = (refl, refl)
off_quiet c Go h = (refl, refl)
off_quiet c (Ticket q) h = (h, refl)
off_quiet c (Put y v) h = (refl, refl)
off_quiet c (Get y) h = (refl, refl)
off_quiet c (Hand e b) h = (refl, refl)

paired_next : (c : Semaphore) (lines : ℕ → Bool) (t : Tables) (x : Entry) (past : List Entry) → lines c.line ≡ false → IsDeclared t → IsAccepted t (x ∷ past) → Follow (both_rules c lines) (x ∷ past)
    → IsPaired c lines past → IsPaired c lines (x ∷ past)
paired_next c lines t x past apart dec acc f b =
    elim (step_due t (both_rules c lines) x past dec acc f) [
      | inl off ↦
          (let o = or_parts (is_begun (lists c lines past x.worker)) (is_on c (op_at x past)) off in
          let q = off_quiet c (op_at x past) o.1 in
          unmoved c lines t x past acc b (no_pair c lines x past [] (outside (lists c lines past x.worker) o.0) refl) q.0 q.1 (off_block (both_rule c lines) x past off))
      | inr k ↦ on_step c lines t x past (lists c lines past x.worker) apart acc refl k.0 k.1 (step_told t x past dec acc) b
    ]

pub paired : (c : Semaphore) (lines : ℕ → Bool) (t : Tables) (past : List Entry) → lines c.line ≡ false → IsDeclared t → IsAccepted t past → Follow (both_rules c lines) past → IsPaired c lines past
unfolding block issued total pairs_in
paired c lines t [] apart dec acc f = record {
  queue = record {
    some = omega arith;
    few = omega arith;
    low = λ w a. absurd (omega arith);
    high = λ w a. absurd (omega arith);
    apart = λ v w a b e. absurd (omega arith);
    inside = λ w a. absurd (omega arith);
    before = λ w a b. absurd (omega arith);
    after = λ w a. absurd (omega arith);
  };
  below = λ q i d lt. absurd (omega arith);
  waiting = λ w u a r e. cc;
  ordered = λ i j d e lt. absurd (omega arith);
}
paired c lines t (x ∷ past) apart dec acc f = paired_next c lines t x past apart dec acc f (paired c lines t past apart dec acc.1 f.1)

-- of two pairs that share a sequencer, the earlier has the smaller ticket on it
pub pairs_ordered : (c : Semaphore) (lines : ℕ → Bool) (t : Tables) (past : List Entry) → lines c.line ≡ false → IsDeclared t → IsAccepted t past → Follow (both_rules c lines) past → AllPairs IsEarlier (pairs_in c lines past)
pairs_ordered c lines t past apart dec acc f = (paired c lines t past apart dec acc f).ordered
