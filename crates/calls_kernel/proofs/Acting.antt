-- Advances, tickets, puts and gets, made while no other call is pending.
use Rattle.std.proofs.Common.{◌≡◌, ℕ, ◌+◌, ◌-◌, ◌<◌, ◌≤◌, true, false, ◌&&◌, ◌==◌, cond, List, []}
use Rattle.std.proofs.Common.{◌∷◌, length, Some, None, is_some, refl, ap, sym, ◌∙◌, arith, subst}
use Rattle.std.proofs.Common.{count_by, unwrap_or}
use Rattle.std.specs.Option.{option_map_or}
use Rattle.std.proofs.lemmas.Bool.{eq-eqb, ne_eqb, leb-false, and_parts, and_from}
use Rattle.ec_count.specs.Tables.{Tables, signallers, component_of}
use Rattle.ec_count.specs.Members.{index_of}
use Rattle.ec_core.specs.declared.act.Act.{Act}
use Rattle.ec_core.specs.declared.act.Act.TheVariants as acts
use Rattle.ec_core.specs.declared.act.Reply.{Reply as StepReply}
use Rattle.ec_core.specs.declared.act.Reply.TheVariants as replies
use Rattle.ec_core.specs.declared.act.Entry.{Entry}
use Rattle.ec_core.specs.Counts.{total, component_total, issued, cell_value, signallers_at}
use Rattle.ec_core.specs.Counts.{component_at, is_advance, is_ticket, is_place, signallers_after}
use Rattle.ec_core.specs.Acceptance.{has_right, is_at_limit}
use Rattle.ec_order.specs.Sequential.{update_at}
use Rattle.calls_core.specs.declared.history.Op.{Op}
use Rattle.calls_core.specs.declared.history.Op.TheVariants.{Advance, Ticket, Put, Get}
use Rattle.calls_core.specs.declared.history.Reply.{Reply}
use Rattle.calls_core.specs.declared.history.Call.{Call}
use Rattle.calls_core.specs.Linearizations.{set_at, Gives}
use Rattle.calls_core.proofs.Counting.{count_cons, one, one_less, one_yes}
use Rattle.calls_kernel.specs.Made.{act_of_call, IsGranted, IsReplyOf}
use Rattle.calls_kernel.proofs.Steps.{entry}
use Rattle.calls_kernel.proofs.Runs.{Agrees, event_set, sequencer_set, cell_set, quiet_set}
use Rattle.calls_kernel.proofs.Fitting.{IsFitting}
use Rattle.calls_kernel.proofs.Playing.{numbers_of, advances_by, draws, HasRoom, IsClear, IsPlayed}
use Rattle.calls_kernel.proofs.Playing.{allowed_first, played_once, agrees_same, one_next}
use Rattle.calls_kernel.proofs.Playing.{same_place}
use Rattle.ec_core.proofs.shared.Bounds.{place_is}

put_next : (x y v : ℕ) (g : ℕ → ℕ)
    → update_at g x v y ≡ unwrap_or (cond (x == y) (Some v) None) (g y)
put_next x y v g = elim (x == y) as (λ b. cond b v (g y) ≡ unwrap_or (cond b (Some v) None) (g y)) [
  | true ↦ refl
  | false ↦ refl
]

module _ (t : Tables) where
  -- an entry that makes the call leaves room for the other calls under the limit
  room_after : (past : List Entry) (n m : ℕ → ℕ → ℕ) (c : Call) (left : List Call) (act : Act)
      (given : StepReply) → HasRoom t past n (c ∷ left) → act ≡ act_of_call t c
      → ((e : ℕ) (ws : List ℕ) → signallers_after e c.worker act ws ≡ ws)
      → Agrees t (numbers_of (entry c.worker act given ∷ past)) m
      → HasRoom t (entry c.worker act given ∷ past) m left
  unfolding signallers_at component_total issued
  room_after past n m c left act given h is unhanded agrees = record {
    still = λ e. unhanded e (signallers_at t e past) ∙ h.still e;
    agrees = agrees;
    advances = λ e v p at.
        (let w = c.worker in
        let here : component_at t e past w ≡ index_of w (signallers t e) =
        ap (index_of w) (h.still e) in
        let less : one (is_advance e act && is_place p (component_at t e past w))
        ≤ one (advances_by t e v c) =
        one_less (is_advance e act && is_place p (component_at t e past w)) (advances_by t e v c)
        (λ both.
        (let b = and_parts (is_advance e act) (is_place p (component_at t e past w)) both in
        let own : index_of w (signallers t e) ≡ Some p =
        sym here ∙ place_is p (component_at t e past w) b.1 in
        and_from (is_advance e (act_of_call t c)) (w == v) (ap (is_advance e) (sym is) ∙ b.0)
        (eq-eqb w v (same_place t (signallers t e) w v p own at)))) in
        omega (arith, less, h.advances e v p at, count_cons (advances_by t e v) c left));
    tickets = λ q.
        (let same : one (is_ticket q act) ≡ one (draws t q c) =
        ap (λ a. one (is_ticket q a)) is in
        omega (arith, same, h.tickets q, count_cons (draws t q) c left));
  }

  no_more : (n : ℕ) → n ≡ 0 + n
  no_more n = omega arith

  module _ (past : List Entry) (w k first last : ℕ) (n : ℕ → ℕ → ℕ) (left : List Call) where
    abbrev call : Op → Reply → Call
    call op reply = record {
      worker = w;
      object = k;
      op = op;
      reply = reply;
      first = first;
      last = last;
    }

    abbrev Clear : Op → Reply → Type 0
    Clear op reply = IsClear t past n (call op reply ∷ left)

    -- the worker has a component below the limit
    advance_room : (reply : Reply) → Clear Advance reply
        → has_right t [] w (acts.Advance k) ≡ true
        → is_at_limit t past w (acts.Advance k) ≡ false
    unfolding signallers_at
    advance_room reply clear right =
        let h = clear.room in
        elim (component_of t k w) as (λ o. component_of t k w ≡ o → is_some o ≡ true
        → is_at_limit t past w (acts.Advance k) ≡ false) [
          | None ↦ λ at r. cc
          | Some p ↦ λ at r.
              (let here : component_at t k past w ≡ Some p =
              ap (index_of w) (h.still k) ∙ at in
              let room : component_total t k p past
              + count_by (advances_by t k w) (call Advance reply ∷ left) ≤ t.limit =
              h.advances k w p at in
              let counted : one (advances_by t k w (call Advance reply)) ≡ 1 =
              one_yes (advances_by t k w (call Advance reply)) (and_from (k == k) (w == w)
              (eq-eqb k k refl) (eq-eqb w w refl)) in
              let below : component_total t k p past < t.limit =
              omega (arith, counted, count_cons (advances_by t k w) (call Advance reply) left) in
              ap (λ o. option_map_or (λ c. component_total t k c past == t.limit) o false) here
              ∙ ne_eqb (component_total t k p past) t.limit (λ e. omega arith))
        ] refl right

    pub advance_played : (reply : Reply) → Clear Advance reply → IsGranted t (call Advance reply)
        → IsFitting t k Advance → Gives (n k) Advance reply
        → IsPlayed t past (call Advance reply) (set_at k (set_at 0 (n k 0 + 1) (n k)) n) left
    unfolding total issued cell_value
    advance_played reply clear granted fits gives =
        let act = acts.Advance k in
        let given = replies.Done in
        let lt : k < length t.events = leb-false (length t.events) k fits.known in
        let s = numbers_of past in
        let f = set_at 0 (n k 0 + 1) (n k) in
        let agrees : Agrees t (numbers_of (entry w act given ∷ past)) (set_at k f n) =
        agrees_same t (record s { events = update_at s.events k (s.events k + 1) })
        (numbers_of (entry w act given ∷ past)) (set_at k f n)
        (λ e. one_next t k e s.events) (λ q. no_more (issued q past)) (λ x. refl)
        (event_set t s n k (s.events k + 1) f clear.room.agrees lt
        (ap (λ i. i + 1) (clear.room.agrees.events k lt))) in
        played_once t past (call Advance reply) n (set_at k f n) left act given clear refl
        (allowed_first t past w act granted.worker (clear.free w) clear.room.still refl fits.known
        granted.right granted.small (advance_room reply clear granted.right) refl refl)
        refl refl refl (subst (λ r. IsReplyOf Advance r given) (sym gives) tt)
        (room_after past n (set_at k f n) (call Advance reply) left act given clear.room refl
        (λ e ws. refl) agrees)

    ticket_room : (reply : Reply) → Clear Ticket reply
        → is_at_limit t past w (acts.Ticket (k - length t.events)) ≡ false
    ticket_room reply clear =
        let q = k - length t.events in
        let room : issued q past + count_by (draws t q) (call Ticket reply ∷ left) ≤ t.limit =
        clear.room.tickets q in
        let counted : one (draws t q (call Ticket reply)) ≡ 1 =
        one_yes (draws t q (call Ticket reply)) (eq-eqb q q refl) in
        let below : issued q past < t.limit =
        omega (arith, counted, count_cons (draws t q) (call Ticket reply) left) in
        ne_eqb (issued q past) t.limit (λ e. omega arith)

    pub ticket_played : (reply : Reply) → Clear Ticket reply → IsGranted t (call Ticket reply)
        → IsFitting t k Ticket → Gives (n k) Ticket reply
        → IsPlayed t past (call Ticket reply) (set_at k (set_at 0 (n k 0 + 1) (n k)) n) left
    unfolding total issued cell_value
    ticket_played reply clear granted fits gives =
        let q = k - length t.events in
        let act = acts.Ticket q in
        let given = replies.Number (issued q past) in
        let lt : q < length t.takers = leb-false (length t.takers) q fits.known in
        let s = numbers_of past in
        let f = set_at 0 (n k 0 + 1) (n k) in
        let number : n k 0 ≡ issued q past =
        ap (λ j. n j 0) (sym fits.object) ∙ clear.room.agrees.sequencers q lt in
        let agrees : Agrees t (numbers_of (entry w act given ∷ past)) (set_at k f n) =
        agrees_same t (record s { sequencers = update_at s.sequencers q (s.sequencers q + 1) })
        (numbers_of (entry w act given ∷ past)) (set_at k f n)
        (λ e. no_more (total e past)) (λ p. one_next t q p s.sequencers) (λ x. refl)
        (subst (λ j. Agrees t (record s {
          sequencers =
              update_at s.sequencers q (s.sequencers q + 1);
        })
        (set_at j f n)) fits.object
        (sequencer_set t s n q (s.sequencers q + 1) f clear.room.agrees lt
        (ap (λ i. i + 1) number))) in
        played_once t past (call Ticket reply) n (set_at k f n) left act given clear refl
        (allowed_first t past w act granted.worker (clear.free w) clear.room.still refl fits.known
        granted.right granted.small (ticket_room reply clear) refl refl)
        refl refl refl (subst (λ r. IsReplyOf Ticket r given) (sym gives) number)
        (room_after past n (set_at k f n) (call Ticket reply) left act given clear.room refl
        (λ e ws. refl) agrees)

    pub put_played : (v : ℕ) (reply : Reply) → Clear (Put v) reply
        → IsGranted t (call (Put v) reply) → IsFitting t k (Put v) → Gives (n k) (Put v) reply
        → IsPlayed t past (call (Put v) reply) (set_at k (set_at 0 v (n k)) n) left
    unfolding total issued cell_value
    put_played v reply clear granted fits gives =
        let x = k - length t.events - length t.takers in
        let act = acts.Put x v in
        let given = replies.Done in
        let lt : x < length t.cells = leb-false (length t.cells) x fits.known in
        let s = numbers_of past in
        let f = set_at 0 v (n k) in
        let agrees : Agrees t (numbers_of (entry w act given ∷ past)) (set_at k f n) =
        agrees_same t (record s { cells = update_at s.cells x v })
        (numbers_of (entry w act given ∷ past)) (set_at k f n)
        (λ e. no_more (total e past)) (λ q. no_more (issued q past)) (λ y. put_next x y v s.cells)
        (subst (λ j. Agrees t (record s {
          cells =
              update_at s.cells x v;
        }) (set_at j f n)) fits.object
        (cell_set t s n x v f clear.room.agrees lt refl)) in
        played_once t past (call (Put v) reply) n (set_at k f n) left act given clear refl
        (allowed_first t past w act granted.worker (clear.free w) clear.room.still refl fits.known
        granted.right granted.small refl refl refl)
        refl refl refl (subst (λ r. IsReplyOf (Put v) r given) (sym gives) tt)
        (room_after past n (set_at k f n) (call (Put v) reply) left act given clear.room refl
        (λ e ws. refl) agrees)

    pub get_played : (reply : Reply) → Clear Get reply
        → IsGranted t (call Get reply) → IsFitting t k Get → Gives (n k) Get reply
        → IsPlayed t past (call Get reply) (set_at k (n k) n) left
    unfolding total issued cell_value
    get_played reply clear granted fits gives =
        let x = k - length t.events - length t.takers in
        let act = acts.Get x in
        let given = replies.Number (cell_value x past) in
        let lt : x < length t.cells = leb-false (length t.cells) x fits.known in
        let number : n k 0 ≡ cell_value x past =
        ap (λ j. n j 0) (sym fits.object) ∙ clear.room.agrees.cells x lt in
        let agrees : Agrees t (numbers_of (entry w act given ∷ past)) (set_at k (n k) n) =
        agrees_same t (numbers_of past) (numbers_of (entry w act given ∷ past)) (set_at k (n k) n)
        (λ e. no_more (total e past)) (λ q. no_more (issued q past)) (λ y. refl)
        (quiet_set t (numbers_of past) n k clear.room.agrees) in
        played_once t past (call Get reply) n (set_at k (n k) n) left act given clear refl
        (allowed_first t past w act granted.worker (clear.free w) clear.room.still refl fits.known
        granted.right granted.small refl refl refl)
        refl refl refl (subst (λ r. IsReplyOf Get r given) (sym gives) number)
        (room_after past n (set_at k (n k) n) (call Get reply) left act given clear.room refl
        (λ e ws. refl) agrees)
