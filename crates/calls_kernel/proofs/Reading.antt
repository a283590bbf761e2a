-- Reads and awaits, made while no other call is pending: one round, with its entries in a row.
use Rattle.std.proofs.Common.{◌≡◌, ℕ, zero, suc, ◌+◌, ◌-◌, ◌<◌, ◌≤◌, Bool, true, false, not, ◌&&◌}
use Rattle.std.proofs.Common.{◌==◌, cond, List, [], ◌∷◌, ◌++◌, length, Some, None, is_some}
use Rattle.std.proofs.Common.{refl, ap, sym, ◌∙◌, arith, subst, nat_le, append-nil, length-append}
use Rattle.std.proofs.lemmas.Bool.{eqb-true, eq-eqb, le-leb, lt-leb, leb-false, and_right}
use Rattle.std.proofs.Math.Nat.{mod-eq_of_lt}
use Rattle.ec_count.specs.Tables.{Tables, IsDeclared}
use Rattle.ec_core.specs.declared.act.Act.{Act}
use Rattle.ec_core.specs.declared.act.Act.TheVariants as acts
use Rattle.ec_core.specs.declared.act.Reply.{Reply as StepReply}
use Rattle.ec_core.specs.declared.act.Reply.TheVariants as replies
use Rattle.ec_core.specs.declared.act.Entry.{Entry}
use Rattle.ec_core.specs.Counts.{total, component_total, issued, cell_value, signallers_at}
use Rattle.ec_core.specs.Calls.{CallSoFar, under_way, call_with_act, is_pending}
use Rattle.ec_core.specs.Rounds.{event_or, component_count, sum_read, round_reply, read_reply, position_of}
use Rattle.ec_core.specs.Rounds.{go_reply, IsPastOfEach, EachIsPastOf}
use Rattle.ec_core.specs.Acceptance.{IsAccepted, reply_of}
use Rattle.ec_core.proofs.shared.Answering.{IsAllowed, width_some}
use Rattle.ec_core.proofs.shared.Pasts.{past_itself, past_later, gone_before, call_before}
use Rattle.ec_core.proofs.shared.Pasts.{IsCallBefore}
use Rattle.ec_core.proofs.shared.Totals.{round_between}
use Rattle.ec_order.specs.Calls.{finished_calls, ended_by, call_of_entries}
use Rattle.calls_core.specs.declared.history.Op.{Op}
use Rattle.calls_core.specs.declared.history.Op.TheVariants.{Read, Await}
use Rattle.calls_core.specs.declared.history.Reply.{Reply}
use Rattle.calls_core.specs.declared.history.Reply.TheVariants.{Done, Number, Timeout}
use Rattle.calls_core.specs.declared.history.Call.{Call}
use Rattle.calls_core.specs.Linearizations.{set_at, Gives}
use Rattle.calls_core.proofs.Counting.{count_cons}
use Rattle.calls_kernel.specs.Made.{act_of_call, IsGranted, IsReplyOf}
use Rattle.calls_kernel.proofs.Steps.{entry, way_next}
use Rattle.calls_kernel.proofs.Runs.{quiet_set}
use Rattle.calls_kernel.proofs.Fitting.{IsFitting}
use Rattle.calls_kernel.proofs.Playing.{numbers_of, advances_by, draws, HasRoom, IsClear, IsPlayed}
use Rattle.calls_kernel.proofs.Playing.{allowed_first, answered, agrees_same}

module _ (t : Tables) where
  -- the signallers and counts after two histories are the same
  pub record SameCounts (early late : List Entry) : Type 0 where
    pub signallers_are : (e : ℕ) → signallers_at t e late ≡ signallers_at t e early
    pub totals : (e : ℕ) → total e late ≡ total e early
    pub components : (e c : ℕ) → component_total t e c late ≡ component_total t e c early
    pub tickets : (q : ℕ) → issued q late ≡ issued q early
    pub cells : (x : ℕ) → cell_value x late ≡ cell_value x early

  same_itself : (past : List Entry) → SameCounts past past
  same_itself past = record {
    signallers_are = λ e. refl;
    totals = λ e. refl;
    components = λ e c. refl;
    tickets = λ q. refl;
    cells = λ x. refl;
  }

  -- an act that only reads
  abbrev IsLook : Act → Type 0
  IsLook (acts.Read e) = Unit {0}
  IsLook (acts.Await e v) = Unit {0}
  IsLook acts.Go = Unit {0}
  IsLook _ = ⊥

  none_more : (n m : ℕ) → n ≡ m → 0 + n ≡ m
  none_more n m h = omega arith

  same_next : (early past : List Entry) (w : ℕ) (act : Act) (given : StepReply) → IsLook act
      → SameCounts early past → SameCounts early (entry w act given ∷ past)
  unfolding signallers_at total component_total issued cell_value
  same_next early past w (acts.Read e) given look h = record {
    signallers_are = h.signallers_are;
    totals = λ f. none_more _ _ (h.totals f);
    components = λ f c. none_more _ _ (h.components f c);
    tickets = λ q. none_more _ _ (h.tickets q);
    cells = h.cells;
  }
  same_next early past w (acts.Await e v) given look h = record {
    signallers_are = h.signallers_are;
    totals = λ f. none_more _ _ (h.totals f);
    components = λ f c. none_more _ _ (h.components f c);
    tickets = λ q. none_more _ _ (h.tickets q);
    cells = h.cells;
  }
  same_next early past w acts.Go given look h = record {
    signallers_are = h.signallers_are;
    totals = λ f. none_more _ _ (h.totals f);
    components = λ f c. none_more _ _ (h.components f c);
    tickets = λ q. none_more _ _ (h.tickets q);
    cells = h.cells;
  }
  same_next early past w act given look h = absurd look

  -- a call that reads leaves room for the other calls under the limit
  look_room : (early late : List Entry) (n : ℕ → ℕ → ℕ) (k : ℕ) (c : Call) (left : List Call)
      → SameCounts early late → HasRoom t early n (c ∷ left)
      → HasRoom t late (set_at k (n k) n) left
  look_room early late n k c left same h = record {
    still = λ e. same.signallers_are e ∙ h.still e;
    agrees = agrees_same t (numbers_of early) (numbers_of late) (set_at k (n k) n)
        (λ e. sym (same.totals e)) (λ q. sym (same.tickets q)) (λ x. sym (same.cells x))
        (quiet_set t (numbers_of early) n k h.agrees);
    advances = λ e w p at. omega (
      arith,
      same.components e p,
      h.advances e w p at,
      count_cons (advances_by t e w) c left,
    );
    tickets = λ q. omega (arith, same.tickets q, h.tickets q, count_cons (draws t q) c left);
  }

  -- THE ENTRIES OF A ROUND

  module _ (d : IsDeclared t) (past : List Entry) (w : ℕ) (op : Act) (lt : w < t.workers)
      (free : (v : ℕ) → under_way v past ≡ None) where
    abbrev wide : ℕ
    wide = component_count t (event_or op)

    -- amid a round: act is next, and ms are the histories before the entries of the round so far
    record IsAmid (now : List Entry) (ms : List (List Entry)) (act : Act) : Type 0 where
      pub accepted : IsAccepted t now
      pub allowed : IsAllowed t now w act
      pub look : IsLook act
      pub gone : call_with_act act now (under_way w now)
          ≡ Some (record { op = op; moments = now ∷ ms })
      pub right : reply_of t now w act ≡ read_reply t op now ms
      pub others : (v : ℕ) → (w == v) ≡ false → under_way v now ≡ None
      pub same : SameCounts past now
      pub low : IsPastOfEach past (now ∷ ms)
      pub finished : finished_calls t now ≡ finished_calls t past
      pub first : position_of (now ∷ ms) (length ms) ≡ length past

    way_after : (now : List Entry) (ms : List (List Entry)) (act : Act) (given : StepReply)
        → IsAmid now ms act → (v : ℕ) → (w == v) ≡ false
        → under_way v (entry w act given ∷ now) ≡ None
    way_after now ms act given h v other =
        way_next v w act given now
        ∙ ap (λ b. cond b (cond (is_pending given) (call_with_act act now (under_way w now)) None)
        (under_way v now)) other ∙ h.others v other

    own_after : (now : List Entry) (ms : List (List Entry)) (act : Act) (given : StepReply)
        → IsAmid now ms act → under_way w (entry w act given ∷ now)
        ≡ cond (is_pending given) (Some (record { op = op; moments = now ∷ ms })) None
    own_after now ms act given h =
        way_next w w act given now
        ∙ ap (λ b. cond b (cond (is_pending given) (call_with_act act now (under_way w now)) None)
        (under_way w now)) (eq-eqb w w refl)
        ∙ ap (λ o. cond (is_pending given) o None) h.gone

    go_allowed : (now : List Entry) (call : CallSoFar) → under_way w now ≡ Some call
        → IsAllowed t now w acts.Go
    go_allowed now call way = record {
      declared = lt-leb t.workers w lt;
      free = and_right (is_some (under_way w now)) false refl;
      going = ap (λ o. not (is_some o) && true) way;
      known = refl;
      right = refl;
      small = refl;
      room = refl;
      handable = refl;
      fresh = refl;
    }

    -- after an entry whose reply is pending
    amid_next : (now : List Entry) (ms : List (List Entry)) (act : Act) → IsAmid now ms act
        → read_reply t op now ms ≡ replies.Pending
        → IsAmid (entry w act replies.Pending ∷ now) (now ∷ ms) acts.Go
    unfolding finished_calls
    amid_next now ms act h is =
        let x = entry w act replies.Pending in
        let way : under_way w (x ∷ now) ≡ Some (record { op = op; moments = now ∷ ms }) =
        own_after now ms act replies.Pending h in
        record {
          accepted = (answered t now w act replies.Pending h.allowed (h.right ∙ is), h.accepted);
          allowed = go_allowed (x ∷ now) (record { op = op; moments = now ∷ ms }) way;
          look = tt;
          gone = ap (call_with_act acts.Go (x ∷ now)) way;
          right = ap (go_reply t (x ∷ now)) way;
          others = way_after now ms act replies.Pending h;
          same = same_next past now w act replies.Pending h.look h.same;
          low = (past_later past now x h.low.0, h.low);
          finished = ap (λ o. finished_calls t now ++ ended_by t x o) h.gone
              ∙ append-nil (finished_calls t now) ∙ h.finished;
          first = h.first;
        }

    each_before : (now : List Entry) (ms : List (List Entry)) (act : Act) → IsAmid now ms act
        → EachIsPastOf (now ∷ ms) now
    each_before now ms act h =
        subst (λ o. IsCallBefore o now) h.gone
        (gone_before act now (under_way w now) (call_before w now))

    reply_early : (now : List Entry) (ms : List (List Entry)) → suc (length ms) < wide
        → read_reply t op now ms ≡ replies.Pending
    unfolding read_reply
    reply_early now ms short =
        let F : ℕ → Bool → StepReply = λ c b.
        cond b (round_reply op (sum_read t (event_or op) (suc c) (now ∷ ms))) replies.Pending in
        let below : length ms < wide = omega arith in
        ap (λ c. F c (nat_le wide (c + 1))) (mod-eq_of_lt below)
        ∙ ap (F (length ms)) (lt-leb wide (length ms + 1) (omega arith))

    reply_last : (now : List Entry) (ms : List (List Entry)) → suc (length ms) ≡ wide
        → read_reply t op now ms ≡ round_reply op (sum_read t (event_or op) wide (now ∷ ms))
    unfolding read_reply
    reply_last now ms whole =
        let F : ℕ → Bool → StepReply = λ c b.
        cond b (round_reply op (sum_read t (event_or op) (suc c) (now ∷ ms))) replies.Pending in
        let below : length ms < wide = omega arith in
        ap (λ c. F c (nat_le wide (c + 1))) (mod-eq_of_lt below)
        ∙ ap (F (length ms)) (le-leb wide (length ms + 1) (omega arith))
        ∙ ap (λ i. round_reply op (sum_read t (event_or op) i (now ∷ ms))) whole

    -- the last entry of the round is next
    record IsLast : Type 0 where
      pub now : List Entry
      pub moments : List (List Entry)
      pub act : Act
      pub amid : IsAmid now moments act
      pub whole : suc (length moments) ≡ wide

    amid_last : (k : ℕ) (now : List Entry) (ms : List (List Entry)) (act : Act)
        → IsAmid now ms act → suc (length ms) + k ≡ wide → IsLast
    amid_last zero now ms act h is = record {
      now = now;
      moments = ms;
      act = act;
      amid = h;
      whole = omega arith;
    }
    amid_last (suc k) now ms act h is =
        amid_last k (entry w act replies.Pending ∷ now) (now ∷ ms) acts.Go
        (amid_next now ms act h (reply_early now ms (omega arith))) (omega arith)

    -- the sum of the round is the total
    sum_is : (now : List Entry) (ms : List (List Entry)) (act : Act) → IsAccepted t past
        → IsAmid now ms act → suc (length ms) ≡ wide
        → sum_read t (event_or op) wide (now ∷ ms) ≡ total (event_or op) past
    sum_is now ms act acc h whole =
        let b = round_between t (event_or op) past now (now ∷ ms) acc h.accepted whole h.low
        (each_before now ms act h) in
        let low : total (event_or op) past ≤ sum_read t (event_or op) wide (now ∷ ms) = b.0 in
        let high : sum_read t (event_or op) wide (now ∷ ms) ≤ total (event_or op) now = b.1 in
        let same : total (event_or op) now ≡ total (event_or op) past = h.same.totals (event_or op)
        in
        omega arith

    free_after : (now : List Entry) (ms : List (List Entry)) (act : Act) (n : ℕ)
        → IsAmid now ms act → (v : ℕ) → under_way v (entry w act (replies.Number n) ∷ now) ≡ None
    free_after now ms act n h v =
        elim (w == v) as (λ b. (w == v) ≡ b
        → under_way v (entry w act (replies.Number n) ∷ now) ≡ None) [
          | true ↦ λ e.
              ap (λ u. under_way u (entry w act (replies.Number n) ∷ now))
              (sym (eqb-true w v e)) ∙ own_after now ms act (replies.Number n) h
          | false ↦ way_after now ms act (replies.Number n) h v
        ] refl

    -- the call, if its round ends with the total
    look_played : (c : Call) (n : ℕ → ℕ → ℕ) (k : ℕ) (left : List Call)
        → IsClear t past n (c ∷ left) → 0 < wide → IsAmid past [] op → w ≡ c.worker
        → op ≡ act_of_call t c
        → ((s : ℕ) → s ≡ total (event_or op) past
        → round_reply op s ≡ replies.Number (total (event_or op) past))
        → IsReplyOf c.op c.reply (replies.Number (total (event_or op) past))
        → IsPlayed t past c (set_at k (n k) n) left
    unfolding finished_calls
    look_played c n k left clear some start worker is ends as_reply =
        let l : IsLast = amid_last (wide - 1) past [] op start (omega arith) in
        let number = total (event_or op) past in
        let given = replies.Number number in
        let x = entry w l.act given in
        let made = call_of_entries t x op (l.now ∷ l.moments) in
        let right : reply_of t l.now w l.act ≡ given =
        l.amid.right ∙ reply_last l.now l.moments l.whole
        ∙ ends (sum_read t (event_or op) wide (l.now ∷ l.moments))
        (sum_is l.now l.moments l.act clear.accepted l.amid l.whole) in
        let long : length (l.now ∷ l.moments) - 1 ≡ length l.moments = omega arith in
        let first_is : made.first ≡ length past =
        ap (position_of (l.now ∷ l.moments)) long ∙ l.amid.first in
        let later : length past ≤ length l.now =
        omega (arith, ap length l.amid.low.0.is, length-append l.amid.low.0.since past) in
        record {
          late = x ∷ l.now;
          clear = record {
            accepted = (answered t l.now w l.act given l.amid.allowed right, l.amid.accepted);
            free = free_after l.now l.moments l.act number l.amid;
            room = look_room past (x ∷ l.now) n k c left
                (same_next past l.now w l.act given l.amid.look l.amid.same) clear.room;
          };
          made = made;
          finished = ap (λ o. finished_calls t l.now ++ ended_by t x o) l.amid.gone
              ∙ ap (λ cs. cs ++ made ∷ []) l.amid.finished;
          is = record { worker = worker; act = is; reply = as_reply };
          first = first_is;
          rises = omega arith;
          last = omega arith;
        }

  -- READS AND AWAITS

  module _ (d : IsDeclared t) (past : List Entry) (w k first last : ℕ) (n : ℕ → ℕ → ℕ)
      (left : List Call) where
    abbrev call : Op → Reply → Call
    call op reply = record {
      worker = w;
      object = k;
      op = op;
      reply = reply;
      first = first;
      last = last;
    }

    abbrev Clear : Op → Reply → Type 0
    Clear op reply = IsClear t past n (call op reply ∷ left)

    pub read_played : (reply : Reply) → Clear Read reply → IsGranted t (call Read reply)
        → IsFitting t k Read → Gives (n k) Read reply
        → IsPlayed t past (call Read reply) (set_at k (n k) n) left
    read_played reply clear granted fits gives =
        let act = acts.Read k in
        let lt : k < length t.events = leb-false (length t.events) k fits.known in
        let start : IsAmid d past w act granted.worker clear.free past [] act = record {
          accepted = clear.accepted;
          allowed = allowed_first t past w act granted.worker (clear.free w) clear.room.still refl
              fits.known granted.right granted.small refl refl refl;
          look = tt;
          gone = refl;
          right = refl;
          others = λ v other. clear.free v;
          same = same_itself past;
          low = (past_itself past, tt);
          finished = refl;
          first = refl;
        } in
        look_played d past w act granted.worker clear.free (call Read reply) n k left clear
        (width_some t k d lt) start refl refl (λ s is. ap replies.Number is)
        (subst (λ r. IsReplyOf Read r (replies.Number (total k past))) (sym gives)
        (clear.room.agrees.events k lt))

    -- an await, whose threshold is reached
    await_ends : (v number s : ℕ) → v ≤ number → s ≡ number
        → round_reply (acts.Await k v) s ≡ replies.Number number
    await_ends v number s reached is =
        ap (round_reply (acts.Await k v)) is
        ∙ ap (λ b. cond b (replies.Number number) replies.Pending) (le-leb v number reached)

    await_with : (v : ℕ) (reply : Reply) → Clear (Await v) reply
        → IsGranted t (call (Await v) reply) → IsFitting t k (Await v) → v ≤ total k past
        → IsReplyOf (Await v) reply (replies.Number (total k past))
        → IsPlayed t past (call (Await v) reply) (set_at k (n k) n) left
    await_with v reply clear granted fits reached as_reply =
        let act = acts.Await k v in
        let lt : k < length t.events = leb-false (length t.events) k fits.known in
        let start : IsAmid d past w act granted.worker clear.free past [] act = record {
          accepted = clear.accepted;
          allowed = allowed_first t past w act granted.worker (clear.free w) clear.room.still refl
              fits.known granted.right granted.small refl refl refl;
          look = tt;
          gone = refl;
          right = refl;
          others = λ u other. clear.free u;
          same = same_itself past;
          low = (past_itself past, tt);
          finished = refl;
          first = refl;
        } in
        look_played d past w act granted.worker clear.free (call (Await v) reply) n k left clear
        (width_some t k d lt) start refl refl
        (λ s is. await_ends v (total k past) s reached is) as_reply

    pub await_played : (v : ℕ) (reply : Reply) → Clear (Await v) reply
        → IsGranted t (call (Await v) reply) → IsFitting t k (Await v)
        → Gives (n k) (Await v) reply
        → IsPlayed t past (call (Await v) reply) (set_at k (n k) n) left
    await_played v Done clear granted fits gives =
        let is : n k 0 ≡ total k past =
        clear.room.agrees.events k (leb-false (length t.events) k fits.known) in
        let reached : v ≤ total k past = subst (λ i. v ≤ i) is gives in
        await_with v Done clear granted fits reached reached
    await_played v (Number m) clear granted fits gives =
        let is : n k 0 ≡ total k past =
        clear.room.agrees.events k (leb-false (length t.events) k fits.known) in
        await_with v (Number m) clear granted fits (subst (λ i. v ≤ i) is gives.0) (gives.1 ∙ is)
    await_played v Timeout clear granted fits gives = absurd (granted.stays refl)
