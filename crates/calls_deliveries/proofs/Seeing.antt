-- Each entry of a history that follows a buffer keeps its calls a linearizable history.
use Rattle.std.proofs.Common.{◌≡◌, ◌≢◌, ℕ, ◌+◌, ◌-◌, ◌*◌, ◌%◌, ◌<◌, ◌≤◌, Bool, true, false}
use Rattle.std.proofs.Common.{◌==◌, cond, List, [], ◌∷◌, ◌++◌, length, reverse, Option, Some, None}
use Rattle.std.proofs.Common.{is_some, IfSome}
use Rattle.std.proofs.Common.{refl, ap, sym, ◌∙◌, arith, subst, inl, inr}
use Rattle.std.proofs.lemmas.Bool.{eq-eqb, eqb-false, eqb-true, ne_eqb, or_parts}
use Rattle.std.proofs.lemmas.List.{reverse-append}
use Rattle.std.proofs.lemmas.Nat.{mod_below}
use Rattle.ec_count.specs.Tables.{Tables}
use Rattle.ec_core.specs.declared.act.Act.{Act}
use Rattle.ec_core.specs.declared.act.Act.TheVariants.{Advance, Read, Await, Go, Ticket, Put, Get}
use Rattle.ec_core.specs.declared.act.Act.TheVariants.{Hand}
use Rattle.ec_core.specs.declared.act.Reply.TheVariants as replies
use Rattle.ec_core.specs.declared.act.Entry.{Entry}
use Rattle.ec_core.specs.Counts.{total, issued, is_advance, cell_value}
use Rattle.ec_core.specs.Calls.{is_pending}
use Rattle.ec_core.specs.CallLists.{is_due, without_value, reply_number}
use Rattle.ec_core.specs.Following.{CompletedCall, block}
use Rattle.ec_core.proofs.shared.Following.{IsReplyTo, op_at, due_is, after_told, after_pending}
use Rattle.ec_core.proofs.shared.Following.{off_block, other_block, same_test, step_opened}
use Rattle.ec_core.proofs.shared.Following.{total_step, step_told, step_due}
use Rattle.ec_core.proofs.shared.Queue.{QueuePosition, turn_is, leave_turn}
use Rattle.ec_buffer.specs.Shapes.{Buffer as Shape}
use Rattle.ec_buffer.specs.CallLists.{produce_call, consume_call, drawn_ticket}
use Rattle.ec_buffer.specs.Follows.{is_on, produce_rule, consume_rule, role_rules}
use Rattle.ec_buffer.specs.Items.{put_on, is_get_on}
use Rattle.ec_buffer.proofs.Moves.{puts, gets, Moved, produced}
use Rattle.ec_buffer.proofs.Handing.{IsHanding, seat_of, put_seat, get_seat, put_seat_is}
use Rattle.ec_buffer.proofs.Handing.{get_seat_is}
use Rattle.ec_buffer.proofs.Handing.{is_cell_at, put_on_op, get_on_op, quiet_off}
use Rattle.ec_buffer.proofs.Moving.{rules_put, rules_get, produced_now, delivered_now}
use Rattle.ec_buffer.proofs.Followed.{handing, on_of}
use Rattle.calls_core.specs.declared.history.Kind.{Kind}
use Rattle.calls_core.specs.declared.history.Kind.TheVariants.{Buffer}
use Rattle.calls_core.specs.declared.history.Op.TheVariants.{Produce, Consume}
use Rattle.calls_core.specs.declared.history.Reply.TheVariants.{Done, Number}
use Rattle.calls_core.specs.declared.history.Event.{Event}
use Rattle.calls_core.specs.declared.history.PendingCall.{PendingCall}
use Rattle.calls_core.specs.declared.history.Call.{Call}
use Rattle.calls_core.specs.Histories.{clock, completion}
use Rattle.calls_core.specs.Linearizations.{set_at}
use Rattle.calls_deliveries.specs.Seen.{last_got, invocation_of, response_of}
use Rattle.calls_deliveries.specs.Seen.{events_seen}
use Rattle.calls_kernel.proofs.Pending.{Keeps, keeps_none, keeps_invoked}
use Rattle.calls_kernel.proofs.Pending.{keeps_responded, invocation, response, begun}
use Rattle.calls_deliveries.proofs.Standing.{IsOne, HasPut, HasGot, IsAt, list_of}
use Rattle.calls_deliveries.proofs.Standing.{got_own, got_other}
use Rattle.calls_deliveries.proofs.Standing.{at_stays, at_role, at_own}
use Rattle.calls_deliveries.proofs.Runs.{IsRunning, running_none, running_stays, running_put}
use Rattle.calls_deliveries.proofs.Runs.{running_got}

turned : (a b : ℕ) → (a == b) ≡ false → (b == a) ≡ false
turned a b h = (let other : a ≢ b = eqb-false a b h in ne_eqb b a (λ e. other (sym e)))

set_here : {X : Type 0} (w : ℕ) (o : X) (f : ℕ → X) → set_at w o f w ≡ o
set_here w o f = ap (λ b. cond b o (f w)) (eq-eqb w w refl)

module _ (b : Shape) (produces : ℕ → Bool) (item : ℕ → ℕ) where
  abbrev pub kinds : List Kind
  kinds = Buffer b.cells ∷ []

  pub record IsSeen (past : List Entry) (es : List Event) : Type 0 where
    pub pending : ℕ → Option PendingCall
    pub done : List Call
    pub keeps : Keeps kinds es pending done
    pub clock_is : clock es ≤ 2 * length past
    pub each : (w : ℕ) → IsAt b produces item past w (produces w) (list_of b produces item past w)
        (pending w)
    pub run : IsRunning b produces past (reverse done)

  -- the events of one entry
  abbrev fresh : ℕ → ℕ → ℕ → ℕ → Act → List Event
  fresh i w n m act = response_of b i w n act ++ invocation_of b item i w m act

  off_fresh : (i w n m : ℕ) (op : Act) → is_on b op ≡ false → fresh i w n m op ≡ []
  off_fresh i w n m (Advance e) h =
      (let k = or_parts (e == b.in_count) (e == b.out_count) h in
      rw (k.0, k.1) refl)
  off_fresh i w n m (Ticket q) h =
      (let k = or_parts (q == b.put_seq) (q == b.take_seq) h in
      rw (k.0, k.1) refl)
  off_fresh i w n m (Read e) h = refl
  off_fresh i w n m (Await e v) h = refl
  off_fresh i w n m Go h = refl
  off_fresh i w n m (Put y v) h = refl
  off_fresh i w n m (Get y) h = refl
  off_fresh i w n m (Hand e c) h = refl

  module _ (t : Tables) (x : Entry) (past : List Entry) (one : IsOne b produces t x past)
      (seen : IsSeen past (events_seen b item past)) where
    abbrev es : List Event
    es = events_seen b item past

    abbrev w : ℕ
    w = x.worker

    now : IsHanding b produces past
    now = handing b produces t past one.shape one.declared one.accepted.1 one.follows.1

    -- its events, if it is a call of this act
    abbrev own_fresh : Act → List Event
    own_fresh op = fresh (length past) w (last_got b w past) (reply_number x.reply) op

    events_are : (op : Act) → op_at x past ≡ op
        → events_seen b item (x ∷ past)
        ≡ own_fresh op ++ es
    events_are op is =
        ap (λ (l : List Event). l ++ es)
        (same_test own_fresh [] t x.act (op_at x past) refl
        (λ e. refl) (λ e v. refl) (step_opened t x past one.accepted)
        ∙ ap own_fresh is)

    total_is : (e : ℕ) (op : Act) (z : Bool) → op_at x past ≡ op → is_advance e op ≡ z
        → total e (x ∷ past) ≡ cond z 1 0 + total e past
    total_is e op z is adds =
        total_step t e x past one.accepted
        ∙ ap (λ c. cond c 1 0 + total e past) (ap (is_advance e) is ∙ adds)

    got_is : (op : Act) (z : Bool) → op_at x past ≡ op → is_get_on b op ≡ z
        → last_got b w (x ∷ past) ≡ cond z (reply_number x.reply) (last_got b w past)
    got_is op z is gets_one =
        got_own b x past z
        (get_on_op b t x past one.accepted ∙ ap (is_get_on b) is ∙ gets_one)

    -- what holds of the worker after its entry, and of each other one before, holds of each
    each_next : (pending : ℕ → Option PendingCall)
        → ((v : ℕ) → (w == v) ≡ false → pending v ≡ seen.pending v)
        → IsAt b produces item (x ∷ past) w (produces w) (list_of b produces item (x ∷ past) w)
        (pending w)
        → (v : ℕ) → IsAt b produces item (x ∷ past) v (produces v)
        (list_of b produces item (x ∷ past) v) (pending v)
    each_next pending others own v =
        elim (w == v) as (λ c. (w == v) ≡ c → IsAt b produces item (x ∷ past) v (produces v)
        (list_of b produces item (x ∷ past) v) (pending v)) [
          | true ↦ λ e.
              subst (λ u. IsAt b produces item (x ∷ past) u (produces u)
              (list_of b produces item (x ∷ past) u) (pending u)) (eqb-true w v e) own
          | false ↦ λ e.
              (let list : list_of b produces item (x ∷ past) v ≡ list_of b produces item past v =
              other_block (role_rules b produces v) v x past e in
              subst (λ o. IsAt b produces item (x ∷ past) v (produces v)
              (list_of b produces item (x ∷ past) v) o) (sym (others v e))
              (subst (λ cs. IsAt b produces item (x ∷ past) v (produces v) cs (seen.pending v))
              (sym list)
              (at_stays b produces item t x past one v (produces v)
              (list_of b produces item past v) (seen.pending v)
              (got_other b x past v e) (seen.each v))))
        ] refl

    abbrev Result : Type 0
    Result = IsSeen (x ∷ past) (events_seen b item (x ∷ past))

    -- an entry that neither begins nor ends a call
    quiet : (op : Act) → op_at x past ≡ op → own_fresh op ≡ []
        → is_advance b.in_count op ≡ false → is_advance b.out_count op ≡ false
        → IsAt b produces item (x ∷ past) w (produces w) (list_of b produces item (x ∷ past) w)
        (seen.pending w)
        → Result
    quiet op is none ins outs own =
        let low : clock es ≤ 2 * length past = seen.clock_is in
        let same : es ≡ events_seen b item (x ∷ past) =
        sym (events_are op is ∙ ap (λ (l : List Event). l ++ es) none) in
        subst (IsSeen (x ∷ past)) same (record {
          pending = seen.pending;
          done = seen.done;
          keeps = seen.keeps;
          clock_is = omega arith;
          each = each_next seen.pending (λ v e. refl) own;
          run = running_stays b produces t x past one now.putting.some (reverse seen.done)
              (total_is b.in_count op false is ins ∙ omega arith)
              (total_is b.out_count op false is outs ∙ omega arith) seen.run;
        })

    -- the list of the worker is as it was
    still : (op : Act) → op_at x past ≡ op → own_fresh op ≡ []
        → is_advance b.in_count op ≡ false → is_advance b.out_count op ≡ false
        → is_get_on b op ≡ false
        → list_of b produces item (x ∷ past) w ≡ list_of b produces item past w → Result
    still op is none ins outs got list =
        quiet op is none ins outs
        (subst (λ cs. IsAt b produces item (x ∷ past) w (produces w) cs (seen.pending w)) (sym list)
        (at_stays b produces item t x past one w (produces w) (list_of b produces item past w)
        (seen.pending w) (got_is op false is got) (seen.each w)))

    off : is_on b (op_at x past) ≡ false
        → (role_rules b produces w).concerns (list_of b produces item past w) (op_at x past) ≡ false
        → Result
    off away concerns =
        let q = quiet_off b (op_at x past) away in
        still (op_at x past) refl
        (off_fresh (length past) w (last_got b w past) (reply_number x.reply) (op_at x past) away)
        q.advance_in q.advance_out q.get_one
        (off_block (role_rules b produces w) x past concerns)

    -- an invocation
    invoked : (op : Act) (o : PendingCall) → op_at x past ≡ op
        → own_fresh op
        ≡ invocation (2 * length past) w 0 o.op ∷ []
        → o ≡ begun (2 * length past) w 0 o.op
        → Keeps kinds (invocation (2 * length past) w 0 o.op ∷ es) (set_at w (Some o) seen.pending)
        seen.done
        → is_advance b.in_count op ≡ false → is_advance b.out_count op ≡ false
        → IsAt b produces item (x ∷ past) w (produces w) (list_of b produces item (x ∷ past) w)
        (Some o)
        → Result
    invoked op o is events o_is keeps ins outs own =
        let inv = invocation (2 * length past) w 0 o.op in
        let same : inv ∷ es ≡ events_seen b item (x ∷ past) =
        sym (events_are op is ∙ ap (λ (l : List Event). l ++ es) events) in
        subst (IsSeen (x ∷ past)) same (record {
          pending = set_at w (Some o) seen.pending;
          done = seen.done;
          keeps = keeps;
          clock_is = omega arith;
          each = each_next (set_at w (Some o) seen.pending)
              (λ v e. ap (λ c. cond c (Some o) (seen.pending v)) e)
              (subst (λ z. IsAt b produces item (x ∷ past) w (produces w)
              (list_of b produces item (x ∷ past) w) z)
              (sym (set_here w (Some o) seen.pending)) own);
          run = running_stays b produces t x past one now.putting.some (reverse seen.done)
              (total_is b.in_count op false is ins ∙ omega arith)
              (total_is b.out_count op false is outs ∙ omega arith) seen.run;
        })

    -- a response
    responded : (op : Act) (c : Call) (e : Event) → op_at x past ≡ op
        → own_fresh op ≡ e ∷ []
        → e.at ≡ 2 * length past + 1
        → Keeps kinds (e ∷ es) (set_at w None seen.pending) (c ∷ seen.done)
        → list_of b produces item (x ∷ past) w ≡ []
        → IsRunning b produces (x ∷ past) (reverse seen.done ++ c ∷ [])
        → Result
    responded op c e is events at keeps list run =
        let same : e ∷ es ≡ events_seen b item (x ∷ past) =
        sym (events_are op is ∙ ap (λ (l : List Event). l ++ es) events) in
        subst (IsSeen (x ∷ past)) same (record {
          pending = set_at w None seen.pending;
          done = c ∷ seen.done;
          keeps = keeps;
          clock_is = omega arith;
          each = each_next (set_at w None seen.pending)
              (λ v k. ap (λ z. cond z None (seen.pending v)) k)
              (subst (λ cs. IsAt b produces item (x ∷ past) w (produces w) cs
              (set_at w None seen.pending w)) (sym list) (set_here w None seen.pending));
          run = subst (IsRunning b produces (x ∷ past))
              (sym (reverse-append (c ∷ []) seen.done)) run;
        })

    -- an await of the worker's list
    awaited : (e v : ℕ) → op_at x past ≡ Await e v
        → IsReplyTo t past (Await e v) x.reply
        → (is_pending x.reply ≡ false → Result) → Result
    awaited e v is (inl pending) go =
        still (Await e v) is refl refl refl refl
        (after_pending (role_rules b produces w) x past pending)
    awaited e v is (inr k) go = go (ap is_pending k.3)

    -- PRODUCERS

    -- if the entry puts an item, it is the one with its number
    abbrev IsItem : Type 0
    IsItem =
        IfSome (put_on b x.act)
        (λ (u : ℕ). item (drawn_ticket (list_of b produces item past w)) ≡ u)

    module _ (role : produces w ≡ true) where
      put_at : (calls : List CompletedCall) → block (produce_rule b) w past ≡ calls
          → IsAt b produces item past w true calls (seen.pending w)
      put_at calls at =
          at_role b produces item past w true calls (seen.pending w) role
          (rules_put b produces past w calls role at) (seen.each w)

      put_own : (calls : List CompletedCall) (o : Option PendingCall)
          → block (produce_rule b) w (x ∷ past) ≡ calls
          → IsAt b produces item (x ∷ past) w true calls o
          → IsAt b produces item (x ∷ past) w (produces w)
          (list_of b produces item (x ∷ past) w) o
      put_own calls o list h =
          at_own b produces item (x ∷ past) w true calls o role
          (rules_put b produces (x ∷ past) w calls role list) h

      put_begins : op_at x past ≡ Ticket b.put_seq → block (produce_rule b) w past ≡ []
          → block (produce_rule b) w (x ∷ past)
          ≡ record { op = Ticket b.put_seq; reply = x.reply } ∷ []
          → Result
      put_begins is at list =
          let v = item (reply_number x.reply) in
          let o = begun (2 * length past) w 0 (Produce v) in
          let mine : (b.put_seq == b.put_seq) ≡ true = eq-eqb b.put_seq b.put_seq refl in
          invoked (Ticket b.put_seq) o is (rw mine refl) refl
          (keeps_invoked kinds es seen.pending seen.done (2 * length past) w 0 (Produce v)
          seen.keeps seen.clock_is (put_at [] at) tt) refl refl
          (put_own (record { op = Ticket b.put_seq; reply = x.reply } ∷ []) (Some o) list (
            2 * length past,
            refl,
            omega arith,
            λ e. absurd (omega arith),
          ))

      put_grows : (e v : ℕ) (c : CompletedCall) (cs ds : List CompletedCall)
          → op_at x past ≡ Await e v → block (produce_rule b) w past ≡ c ∷ cs
          → block (produce_rule b) w (x ∷ past) ≡ c ∷ ds → length ds < 3 → Result
      put_grows e v c cs ds is at list short =
          let h = put_at (c ∷ cs) at in
          let low : h.0 ≤ 2 * length past = h.2 in
          quiet (Await e v) is refl refl refl
          (put_own (c ∷ ds) (seen.pending w) list (
            h.0,
            h.1,
            omega arith,
            λ k. absurd (omega arith),
          ))

      puts_next : (v : ℕ) → put_on b x.act ≡ Some v → puts b (x ∷ past) ≡ 1 + puts b past
      unfolding puts
      puts_next v is = ap (λ o. cond (is_some o) 1 0 + puts b past) is

      put_puts : (c d e f : CompletedCall) (v : ℕ)
          → op_at x past ≡ Put (b.first_cell + reply_number c.reply % b.cells) v
          → block (produce_rule b) w past ≡ c ∷ d ∷ e ∷ []
          → block (produce_rule b) w (x ∷ past) ≡ c ∷ d ∷ e ∷ f ∷ []
          → IsItem → Result
      put_puts c d e f v is at list items =
          let h = put_at (c ∷ d ∷ e ∷ []) at in
          let low : h.0 ≤ 2 * length past = h.2 in
          let turn = reply_number c.reply in
          let op = Put (b.first_cell + turn % b.cells) v in
          let seat : put_seat b produces past w ≡ seat_of (c ∷ d ∷ e ∷ []) =
          put_seat_is b produces past w (c ∷ d ∷ e ∷ []) role at in
          let stage : (put_seat b produces past w).stage ≡ 3 =
          ap (λ (z : QueuePosition). z.stage) seat in
          let turn_at : (put_seat b produces past w).turn ≡ turn =
          ap (λ (z : QueuePosition). z.turn) seat in
          let mine = turn_is _ _ _ _ w now.putting (omega arith) (omega arith) in
          let made : turn ≡ puts b past = sym turn_at ∙ mine.0 in
          let ready : (put_seat b produces past w).turn + 1 ≤ total b.out_count past + b.cells =
          now.put_ready w stage in
          let here : put_on b op ≡ Some v =
          rw (is_cell_at b (turn % b.cells) (mod_below turn b.cells one.shape.some)) refl in
          let value : put_on b x.act ≡ Some v =
          put_on_op b t x past one.accepted ∙ ap (put_on b) is ∙ here in
          let drawn : drawn_ticket (list_of b produces item past w) ≡ turn =
          ap drawn_ticket (rules_put b produces past w (c ∷ d ∷ e ∷ []) role at) in
          let ticket : drawn_ticket (list_of b produces item past w) ≡ puts b past =
          drawn ∙ made in
          let item_is : item (drawn_ticket (list_of b produces item past w)) ≡ v =
          subst (λ o. IfSome o
          (λ (u : ℕ). item (drawn_ticket (list_of b produces item past w)) ≡ u)) value items in
          let outs : total b.out_count (x ∷ past) ≡ 0 + total b.out_count past =
          total_is b.out_count op false is refl in
          let more : puts b (x ∷ past) ≡ 1 + puts b past = puts_next v value in
          let put : HasPut b produces item (x ∷ past) turn = record {
            room = omega arith;
            low = omega arith;
            moved = record { worker = w; item = v };
            is = produced_now b produces x past (puts b past) v turn value ticket
                ∙ (rw (eq-eqb (puts b past) turn (sym made)) refl);
            value = sym item_is ∙ ap item drawn;
          } in
          quiet op is refl refl refl
          (put_own (c ∷ d ∷ e ∷ f ∷ []) (seen.pending w) list (
            h.0,
            h.1,
            omega arith,
            λ k. put,
          ))

      put_ends : (c d e f : CompletedCall) → op_at x past ≡ Advance b.in_count
          → block (produce_rule b) w past ≡ c ∷ d ∷ e ∷ f ∷ []
          → block (produce_rule b) w (x ∷ past) ≡ [] → Result
      put_ends c d e f is at list =
          let h = put_at (c ∷ d ∷ e ∷ f ∷ []) at in
          let turn = reply_number c.reply in
          let put : HasPut b produces item past turn = h.3 refl in
          let n = h.0 in
          let low : n ≤ 2 * length past = h.2 in
          let seat : put_seat b produces past w ≡ seat_of (c ∷ d ∷ e ∷ f ∷ []) =
          put_seat_is b produces past w (c ∷ d ∷ e ∷ f ∷ []) role at in
          let stage : (put_seat b produces past w).stage ≡ 4 =
          ap (λ (z : QueuePosition). z.stage) seat in
          let turn_in : turn ≡ total b.in_count past =
          sym (ap (λ (z : QueuePosition). z.turn) seat)
          ∙ leave_turn _ _ _ _ w now.putting (omega arith) in
          let mine : (b.in_count == b.in_count) ≡ true = eq-eqb b.in_count b.in_count refl in
          let room : turn + 1 ≤ total b.out_count past + b.cells = put.room in
          let made : turn < puts b past = put.low in
          let clock_low : clock es ≤ 2 * length past = seen.clock_is in
          let o = begun n w 0 (Produce (item turn)) in
          responded (Advance b.in_count) (completion (2 * length past + 1) Done o)
          (response (2 * length past + 1) w Done) is (rw mine refl) refl
          (keeps_responded kinds es seen.pending seen.done (2 * length past + 1) w Done o
          seen.keeps (omega arith) h.1 tt)
          (rules_put b produces (x ∷ past) w [] role list)
          (subst (λ v. IsRunning b produces (x ∷ past) (reverse seen.done
          ++ completion (2 * length past + 1) Done (begun n w 0 (Produce v)) ∷ [])) put.value
          (running_put b produces t x past one now.putting.some (reverse seen.done) n w
          put.moved low
          (total_is b.in_count (Advance b.in_count) true is mine)
          (total_is b.out_count (Advance b.in_count) false is one.shape.counts ∙ omega arith)
          (omega arith) (omega arith)
          (ap (λ i. produced b produces i past) (sym turn_in) ∙ put.is) seen.run))

    -- CONSUMERS

    module _ (role : produces w ≡ false) where
      get_at : (calls : List CompletedCall) → block (consume_rule b) w past ≡ calls
          → IsAt b produces item past w false calls (seen.pending w)
      get_at calls at =
          at_role b produces item past w false calls (seen.pending w) role
          (rules_get b produces past w calls role at) (seen.each w)

      get_own : (calls : List CompletedCall) (o : Option PendingCall)
          → block (consume_rule b) w (x ∷ past) ≡ calls
          → IsAt b produces item (x ∷ past) w false calls o
          → IsAt b produces item (x ∷ past) w (produces w)
          (list_of b produces item (x ∷ past) w) o
      get_own calls o list h =
          at_own b produces item (x ∷ past) w false calls o role
          (rules_get b produces (x ∷ past) w calls role list) h

      get_begins : (c : CompletedCall) → op_at x past ≡ Ticket b.take_seq
          → block (consume_rule b) w past ≡ [] → block (consume_rule b) w (x ∷ past) ≡ c ∷ []
          → Result
      get_begins c is at list =
          let o = begun (2 * length past) w 0 Consume in
          let mine : (b.take_seq == b.take_seq) ≡ true = eq-eqb b.take_seq b.take_seq refl in
          let other : (b.take_seq == b.put_seq) ≡ false =
          turned b.put_seq b.take_seq one.shape.sequencers in
          invoked (Ticket b.take_seq) o is (rw (other, mine) refl) refl
          (keeps_invoked kinds es seen.pending seen.done (2 * length past) w 0 Consume
          seen.keeps seen.clock_is (get_at [] at) tt) refl refl
          (get_own (c ∷ []) (Some o) list (
            2 * length past,
            refl,
            omega arith,
            λ e. absurd (omega arith),
          ))

      get_grows : (e v : ℕ) (c : CompletedCall) (cs ds : List CompletedCall)
          → op_at x past ≡ Await e v → block (consume_rule b) w past ≡ c ∷ cs
          → block (consume_rule b) w (x ∷ past) ≡ c ∷ ds → length ds < 3 → Result
      get_grows e v c cs ds is at list short =
          let h = get_at (c ∷ cs) at in
          let low : h.0 ≤ 2 * length past = h.2 in
          quiet (Await e v) is refl refl refl
          (get_own (c ∷ ds) (seen.pending w) list (
            h.0,
            h.1,
            omega arith,
            λ k. absurd (omega arith),
          ))

      gets_next : is_get_on b x.act ≡ true → gets b (x ∷ past) ≡ 1 + gets b past
      unfolding gets
      gets_next is = ap (λ o. cond o 1 0 + gets b past) is

      get_gets : (c d e f : CompletedCall)
          → op_at x past ≡ Get (b.first_cell + reply_number c.reply % b.cells)
          → block (consume_rule b) w past ≡ c ∷ d ∷ e ∷ []
          → block (consume_rule b) w (x ∷ past) ≡ c ∷ d ∷ e ∷ f ∷ [] → Result
      get_gets c d e f is at list =
          let h = get_at (c ∷ d ∷ e ∷ []) at in
          let low : h.0 ≤ 2 * length past = h.2 in
          let turn = reply_number c.reply in
          let op = Get (b.first_cell + turn % b.cells) in
          let seat : get_seat b produces past w ≡ seat_of (c ∷ d ∷ e ∷ []) =
          get_seat_is b produces past w (c ∷ d ∷ e ∷ []) role at in
          let stage : (get_seat b produces past w).stage ≡ 3 =
          ap (λ (z : QueuePosition). z.stage) seat in
          let turn_at : (get_seat b produces past w).turn ≡ turn =
          ap (λ (z : QueuePosition). z.turn) seat in
          let mine = turn_is _ _ _ _ w now.getting (omega arith) (omega arith) in
          let made : turn ≡ gets b past = sym turn_at ∙ mine.0 in
          let ready : (get_seat b produces past w).turn + 1 ≤ total b.in_count past =
          now.get_ready w stage in
          let here : is_get_on b op ≡ true =
          is_cell_at b (turn % b.cells) (mod_below turn b.cells one.shape.some) in
          let value : is_get_on b x.act ≡ true =
          get_on_op b t x past one.accepted ∙ ap (is_get_on b) is ∙ here in
          let ticket : drawn_ticket (block (role_rules b produces w) w past) ≡ gets b past =
          ap drawn_ticket (rules_get b produces past w (c ∷ d ∷ e ∷ []) role at) ∙ made in
          let ins : total b.in_count (x ∷ past) ≡ 0 + total b.in_count past =
          total_is b.in_count op false is refl in
          let more : gets b (x ∷ past) ≡ 1 + gets b past = gets_next value in
          let got : HasGot b produces item (x ∷ past) w turn = record {
            some = omega arith;
            low = omega arith;
            moved = record { worker = w; item = reply_number x.reply };
            is = delivered_now b produces x past (gets b past) turn value ticket
                ∙ (rw (eq-eqb (gets b past) turn (sym made)) refl);
            value = sym (got_is op true is here);
          } in
          quiet op is refl refl refl
          (get_own (c ∷ d ∷ e ∷ f ∷ []) (seen.pending w) list (
            h.0,
            h.1,
            omega arith,
            λ k. got,
          ))

      get_ends : (c d e f : CompletedCall) → op_at x past ≡ Advance b.out_count
          → block (consume_rule b) w past ≡ c ∷ d ∷ e ∷ f ∷ []
          → block (consume_rule b) w (x ∷ past) ≡ [] → Result
      get_ends c d e f is at list =
          let h = get_at (c ∷ d ∷ e ∷ f ∷ []) at in
          let turn = reply_number c.reply in
          let got : HasGot b produces item past w turn = h.3 refl in
          let n = h.0 in
          let low : n ≤ 2 * length past = h.2 in
          let seat : get_seat b produces past w ≡ seat_of (c ∷ d ∷ e ∷ f ∷ []) =
          get_seat_is b produces past w (c ∷ d ∷ e ∷ f ∷ []) role at in
          let stage : (get_seat b produces past w).stage ≡ 4 =
          ap (λ (z : QueuePosition). z.stage) seat in
          let turn_out : turn ≡ total b.out_count past =
          sym (ap (λ (z : QueuePosition). z.turn) seat)
          ∙ leave_turn _ _ _ _ w now.getting (omega arith) in
          let mine : (b.out_count == b.out_count) ≡ true = eq-eqb b.out_count b.out_count refl in
          let other : (b.out_count == b.in_count) ≡ false =
          turned b.in_count b.out_count one.shape.counts in
          let some : turn + 1 ≤ total b.in_count past = got.some in
          let clock_low : clock es ≤ 2 * length past = seen.clock_is in
          let k = now.stock.taken turn got.low in
          let both : Some got.moved ≡ Some k.0 = sym got.is ∙ k.2 in
          let same : got.moved ≡ k.0 = cc in
          let v = last_got b w past in
          let value : v ≡ (k.1).item =
          sym got.value ∙ ap (λ (z : Moved). z.item) same ∙ k.4 in
          let o = begun n w 0 Consume in
          responded (Advance b.out_count) (completion (2 * length past + 1) (Number v) o)
          (response (2 * length past + 1) w (Number v)) is (rw (other, mine) refl) refl
          (keeps_responded kinds es seen.pending seen.done (2 * length past + 1) w (Number v) o
          seen.keeps (omega arith) h.1 tt)
          (rules_get b produces (x ∷ past) w [] role list)
          (running_got b produces t x past one now.putting.some (reverse seen.done) n w v k.1 low
          (total_is b.in_count (Advance b.out_count) false is other ∙ omega arith)
          (total_is b.out_count (Advance b.out_count) true is mine)
          (omega arith)
          (ap (λ i. produced b produces i past) (sym turn_out) ∙ k.3) value seen.run)

    -- EACH ENTRY

    on_rule : (op : Act) → op_at x past ≡ op → is_on b (op_at x past) ≡ true → is_on b op ≡ true
    on_rule op is on = ap (is_on b) (sym is) ∙ on

    produce_seen : (calls : List CompletedCall) → produces w ≡ true
        → block (produce_rule b) w past ≡ calls → is_on b (op_at x past) ≡ true
        → is_due (produce_call b 0 calls) (without_value (op_at x past)) ≡ true
        → IsReplyTo t past (op_at x past) x.reply
        → IsItem → Result
    produce_seen [] role at on due told items =
        let op = (due_is (Ticket b.put_seq) (op_at x past) due).1 in
        let reply : x.reply ≡ replies.Number (issued b.put_seq past) =
        subst (λ a. IsReplyTo t past a x.reply) op told in
        put_begins role op at
        (after_told (produce_rule b) x past [] (Ticket b.put_seq) at op
        (on_rule (Ticket b.put_seq) op on) (ap is_pending reply))
    produce_seen (c ∷ []) role at on due told items =
        let a = Await b.in_count (reply_number c.reply) in
        let op : op_at x past ≡ a = (due_is a (op_at x past) due).1 in
        awaited b.in_count (reply_number c.reply) op
        (subst (λ z. IsReplyTo t past z x.reply) op told)
        (λ ended. put_grows role b.in_count (reply_number c.reply) c []
        (record { op = a; reply = x.reply } ∷ []) op at
        (after_told (produce_rule b) x past (c ∷ []) a at op (on_rule a op on) ended) (omega arith))
    produce_seen (c ∷ d ∷ []) role at on due told items =
        let v = reply_number c.reply + 1 - b.cells in
        let a = Await b.out_count v in
        let op : op_at x past ≡ a = (due_is a (op_at x past) due).1 in
        awaited b.out_count v op (subst (λ z. IsReplyTo t past z x.reply) op told)
        (λ ended. put_grows role b.out_count v c (d ∷ [])
        (d ∷ record { op = a; reply = x.reply } ∷ []) op at
        (after_told (produce_rule b) x past (c ∷ d ∷ []) a at op (on_rule a op on) ended)
        (omega arith))
    produce_seen (c ∷ d ∷ e ∷ []) role at on due told items =
        let k = due_is (Put (b.first_cell + reply_number c.reply % b.cells) 0) (op_at x past) due in
        let a = Put (b.first_cell + reply_number c.reply % b.cells) k.0 in
        let op : op_at x past ≡ a = k.1 in
        let reply : x.reply ≡ replies.Done = subst (λ z. IsReplyTo t past z x.reply) op told in
        put_puts role c d e (record { op = a; reply = x.reply }) k.0 op at
        (after_told (produce_rule b) x past (c ∷ d ∷ e ∷ []) a at op (on_rule a op on)
        (ap is_pending reply)) items
    produce_seen (c ∷ d ∷ e ∷ f ∷ []) role at on due told items =
        let a = Advance b.in_count in
        let op : op_at x past ≡ a = (due_is a (op_at x past) due).1 in
        let reply : x.reply ≡ replies.Done = subst (λ z. IsReplyTo t past z x.reply) op told in
        put_ends role c d e f op at
        (after_told (produce_rule b) x past (c ∷ d ∷ e ∷ f ∷ []) a at op (on_rule a op on)
        (ap is_pending reply))
    produce_seen (c ∷ d ∷ e ∷ f ∷ g ∷ rest) role at on due told items = cc

    consume_seen : (calls : List CompletedCall) → produces w ≡ false
        → block (consume_rule b) w past ≡ calls → is_on b (op_at x past) ≡ true
        → is_due (consume_call b calls) (without_value (op_at x past)) ≡ true
        → IsReplyTo t past (op_at x past) x.reply → Result
    consume_seen [] role at on due told =
        let op = (due_is (Ticket b.take_seq) (op_at x past) due).1 in
        let reply : x.reply ≡ replies.Number (issued b.take_seq past) =
        subst (λ a. IsReplyTo t past a x.reply) op told in
        get_begins role (record { op = Ticket b.take_seq; reply = x.reply }) op at
        (after_told (consume_rule b) x past [] (Ticket b.take_seq) at op
        (on_rule (Ticket b.take_seq) op on) (ap is_pending reply))
    consume_seen (c ∷ []) role at on due told =
        let a = Await b.out_count (reply_number c.reply) in
        let op : op_at x past ≡ a = (due_is a (op_at x past) due).1 in
        awaited b.out_count (reply_number c.reply) op
        (subst (λ z. IsReplyTo t past z x.reply) op told)
        (λ ended. get_grows role b.out_count (reply_number c.reply) c []
        (record { op = a; reply = x.reply } ∷ []) op at
        (after_told (consume_rule b) x past (c ∷ []) a at op (on_rule a op on) ended) (omega arith))
    consume_seen (c ∷ d ∷ []) role at on due told =
        let v = reply_number c.reply + 1 in
        let a = Await b.in_count v in
        let op : op_at x past ≡ a = (due_is a (op_at x past) due).1 in
        awaited b.in_count v op (subst (λ z. IsReplyTo t past z x.reply) op told)
        (λ ended. get_grows role b.in_count v c (d ∷ [])
        (d ∷ record { op = a; reply = x.reply } ∷ []) op at
        (after_told (consume_rule b) x past (c ∷ d ∷ []) a at op (on_rule a op on) ended)
        (omega arith))
    consume_seen (c ∷ d ∷ e ∷ []) role at on due told =
        let a = Get (b.first_cell + reply_number c.reply % b.cells) in
        let op : op_at x past ≡ a = (due_is a (op_at x past) due).1 in
        let reply : x.reply
        ≡ replies.Number (cell_value (b.first_cell + reply_number c.reply % b.cells) past) =
        subst (λ z. IsReplyTo t past z x.reply) op told in
        get_gets role c d e (record { op = a; reply = x.reply }) op at
        (after_told (consume_rule b) x past (c ∷ d ∷ e ∷ []) a at op (on_rule a op on)
        (ap is_pending reply))
    consume_seen (c ∷ d ∷ e ∷ f ∷ []) role at on due told =
        let a = Advance b.out_count in
        let op : op_at x past ≡ a = (due_is a (op_at x past) due).1 in
        let reply : x.reply ≡ replies.Done = subst (λ z. IsReplyTo t past z x.reply) op told in
        get_ends role c d e f op at
        (after_told (consume_rule b) x past (c ∷ d ∷ e ∷ f ∷ []) a at op (on_rule a op on)
        (ap is_pending reply))
    consume_seen (c ∷ d ∷ e ∷ f ∷ g ∷ rest) role at on due told = cc

    pub seen_next : IsItem → Result
    seen_next items =
        let op = op_at x past in
        let told = step_told t x past one.declared one.accepted in
        elim (step_due t (role_rules b produces) x past one.declared one.accepted one.follows) [
          | inl away ↦
              off (on_of b (produces w) (block (role_rules b produces w) w past) op false away) away
          | inr k ↦
              (let on : is_on b op ≡ true =
              on_of b (produces w) (block (role_rules b produces w) w past) op true k.0 in
              elim (produces w) as (λ p. produces w ≡ p
              → (cond p (produce_rule b) (consume_rule b)).fits
              (block (cond p (produce_rule b) (consume_rule b)) w past) op ≡ true → Result) [
                | true ↦ λ role due.
                    produce_seen (block (produce_rule b) w past) role refl on due told items
                | false ↦ λ role due.
                    consume_seen (block (consume_rule b) w past) role refl on due told
              ] refl k.1)
        ]

  pub seen_none : IsSeen [] []
  unfolding block
  seen_none = record {
    pending = λ v. None;
    done = [];
    keeps = keeps_none kinds;
    clock_is = omega arith;
    each = λ v. (elim (produces v) as (λ p. IsAt b produces item [] v p [] None) [
      | true ↦ refl
      | false ↦ refl
    ]);
    run = running_none b produces;
  }
